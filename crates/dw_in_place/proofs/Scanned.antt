-- Going through the records of a section, one after another.
use Rattle.std.proofs.Common.{◌≡◌, ℕ, inl, inr, arith, List, [], ◌∷◌, ◌++◌, map, Result, Ok, refl, sym, ap, subst, ◌∙◌, append_assoc}
use Rattle.std.specs.Prelude.{Contains}
use Rattle.std.proofs.lemmas.List.{map-append}
use Rattle.std.proofs.lemmas.List.Elements.{Contains-push_cases}
use Rattle.dw_bytes.specs.declared.fault.Fault.{Fault}
use Rattle.dw_eh_frame.specs.Records.{EhRecord, eh_records_from}
use Rattle.dw_in_place.specs.InPlace.{SectionInPlace}
use Rattle.dw_in_place.specs.Scans.{ComesTo, PassesBy}

nothing-in : (a : ℕ) (x : EhRecord) → Contains {X = EhRecord} [] x → PassesBy a x
nothing-in a x among = absurd (omega (arith, among.1))

pub comes-first : (s : SectionInPlace) (a : ℕ) → ComesTo s a 0
comes-first s a = record { before = []; read = refl; none = nothing-in a }

-- one more record is read, and isn't an FDE that covers the address
pub comes-on : (s : SectionInPlace) (a at next : ℕ) (x : EhRecord) → ComesTo s a at
    → eh_records_from s.is_aarch64 s.bases s.target s.bytes at ≡ Ok x ∷ eh_records_from s.is_aarch64 s.bases s.target s.bytes next
    → PassesBy a x → ComesTo s a next
comes-on s a at next x so_far is passes = record {
  before = so_far.before ++ x ∷ [];
  read = so_far.read
      ∙ (ap (λ (items : List (Result EhRecord Fault)). map Ok so_far.before ++ items) is
      ∙ (sym (append_assoc (map Ok so_far.before) (Ok x ∷ []) (eh_records_from s.is_aarch64 s.bases s.target s.bytes next))
      ∙ ap (λ (items : List (Result EhRecord Fault)). items ++ eh_records_from s.is_aarch64 s.bases s.target s.bytes next)
      (sym (map-append Ok so_far.before (x ∷ [])))));
  none = λ y among. elim (Contains-push_cases so_far.before x y among) [
    | inl w ↦ so_far.none y w
    | inr same ↦ subst (PassesBy a) same passes
  ];
}
