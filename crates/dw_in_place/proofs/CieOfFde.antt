-- The CIE of an FDE that is read anywhere in a section is sound, and begins at the FDE's CIE_pointer.
use Rattle.std.proofs.Common.{◌≡◌, ℕ, ◌+◌, ◌-◌, Bool, true, false, cond, eqb, List, [], ◌++◌, length, Result, Ok, Err, refl, sym, ap, subst, ◌∙◌, arith, inl, inr}
use Rattle.std.specs.Prelude.{◌⊎◌}
use Rattle.std.proofs.lemmas.Bool.{eqb-true, ne_eqb}
use Rattle.std.proofs.lemmas.List.{length-append}
use Rattle.dw_bytes.specs.declared.target.Target.{Target}
use Rattle.dw_bytes.specs.declared.target.Format.{Format}
use Rattle.dw_bytes.specs.declared.fault.Fault.{Fault}
use Rattle.dw_bytes.specs.declared.fault.FaultKind.TheVariants.{NoSuchCie}
use Rattle.dw_bytes.specs.Reading.{ReadPosition, ◌>>=◌, section_from, fixed_at}
use Rattle.dw_bytes.specs.Bodies.{framed_at}
use Rattle.dw_bytes.proofs.Bodies.{framed-found}
use Rattle.dw_bytes.proofs.Readers.{bind-ok, fixed-exact, same-reading}
use Rattle.dw_frame.specs.Bounds.{IsSoundCie}
use Rattle.dw_eh_frame.specs.declared.pointer.Bases.{Bases}
use Rattle.dw_eh_frame.specs.Records.{EhCie, EhFde, EhRecord, eh_cie, eh_fde, eh_nothing, eh_cie_from, eh_cie_at, eh_body_at, eh_record_at}
use Rattle.dw_eh_frame.specs.Encoding.{program_at}
use Rattle.dw_eh_frame.proofs.EncodedPlaces.{record-lies}
use Rattle.dw_eh_frame.proofs.ExactBodies.{body-found}
use Rattle.dw_eh_frame.proofs.ExactCases.{body-parts, cie-is, cie-before-parts, fde-from-parts, record-parts}
use Rattle.dw_eh_frame.proofs.ExactRecords.{none-read}

abbrev fine : {A : Type 0} → A → Result A Fault
fine a = Ok a

chosen : {A : Type 0} (b : Bool) (x y z : A) → cond b x y ≡ z → ((b ≡ true) × (x ≡ z)) ⊎ ((b ≡ false) × (y ≡ z))
chosen true x y z e = inl (refl, e)
chosen false x y z e = inr (refl, e)

-- ---- a CIE that is read at an offset

some-bytes : (r : ReadPosition) (n : ℕ) (mid : ReadPosition) → fixed_at 4 r ≡ Ok (n, mid) → eqb (length r.rest) 0 ≡ false
some-bytes r n mid is =
    let next = (fixed-exact r.target 4 r refl).found n mid is in
    ne_eqb (length r.rest) 0 (λ none. omega (arith, next.encoded.count, ap length next.parts, length-append next.bytes mid.rest))

-- the CIE ends by some offset
abbrev pub IsSoundSomewhere : Target → EhCie → Type 0
IsSoundSomewhere target c = (size : ℕ) × IsSoundCie target size c.cie

framed-sound : (is_aarch64 : Bool) (bases : Bases) (target : Target) (section : List ℕ) (at : ℕ) (format : Format) (body after : ReadPosition)
    (n : ℕ) (mid : ReadPosition) (c : EhCie)
    → framed_at (section_from target section at) ≡ Ok ((format, body), after) → fixed_at 4 body ≡ Ok (n, mid) → n ≡ 0
    → eh_cie_from is_aarch64 at format mid ≡ Ok c → IsSoundSomewhere target c
framed-sound is_aarch64 bases target section at format body after n mid c framed id id_is from =
    let frame = framed-found (section_from target section at) format body after framed in
    let place = at + length frame.front in
    let body_is : body ≡ program_at target place body.rest =
    same-reading body (program_at target place body.rest) frame.body_target frame.body_position refl in
    let no_id : fixed_at 4 body ≡ fine (0, mid) = id ∙ ap (λ k. fine {A = ℕ × ReadPosition} (k, mid)) id_is in
    let read = cie-is is_aarch64 bases section at format body mid c (some-bytes body n mid id) no_id from in
    let there : eh_body_at is_aarch64 bases section at format (program_at target place body.rest) ≡ fine (eh_cie c) =
    ap (λ (b : ReadPosition). eh_body_at is_aarch64 bases section at format b) (sym body_is) ∙ read in
    let lies = record-lies is_aarch64 bases target [] at (frame.front ++ body.rest) (eh_cie c) (record {
      format = format;
      front = frame.front;
      body = body.rest;
      parts = refl;
      length_is = frame.length_is;
      body_is = body-found is_aarch64 bases target section [] at format place body.rest (eh_cie c) (none-read is_aarch64 target section) there refl;
    }) in
    (at + length (frame.front ++ body.rest), lies.1)

pub cie-sound : (is_aarch64 : Bool) (bases : Bases) (target : Target) (section : List ℕ) (at : ℕ) (c : EhCie)
    → eh_cie_at is_aarch64 target section at ≡ Ok c → IsSoundSomewhere target c
unfolding eh_cie_at
cie-sound is_aarch64 bases target section at c is =
    let nowhere : Fault = record { kind = NoSuchCie; at = at } in
    let f = bind-ok (framed_at (section_from target section at)) (λ framed. fixed_at 4 framed.0.1 >>= λ id.
    cond (eqb id.0 0) (eh_cie_from is_aarch64 at framed.0.0 id.1) (Err nowhere)) c is in
    let id = bind-ok (fixed_at 4 f.0.0.1) (λ id. cond (eqb id.0 0) (eh_cie_from is_aarch64 at f.0.0.0 id.1) (Err nowhere)) c f.2 in
    elim (chosen (eqb id.0.0 0) (eh_cie_from is_aarch64 at f.0.0.0 id.0.1) (Err nowhere) (fine c) id.2) [
      | inl w ↦ framed-sound is_aarch64 bases target section at f.0.0.0 f.0.0.1 f.0.1 id.0.0 id.0.1 c f.1 id.1
          (eqb-true id.0.0 0 w.0) w.1
      | inr w ↦ let no : Err nowhere ≡ fine c = w.1 in absurd cc
    ]

-- ---- the CIE of an FDE

-- the CIE is sound, and begins at the FDE's CIE_pointer
pub record HasCie (target : Target) (e : EhFde) : Type 0 where
  pub sound : IsSoundSomewhere target e.cie
  pub pointer : e.fde.cie_pointer ≡ e.cie.cie.offset

abbrev fde-or : EhFde → EhRecord → EhFde
fde-or d (eh_fde e) = e
fde-or d (eh_cie c) = d
fde-or d (eh_nothing n) = d

pub has-cie : (is_aarch64 : Bool) (bases : Bases) (target : Target) (section : List ℕ) (at : ℕ) (e : EhFde) (after : ReadPosition)
    → eh_record_at is_aarch64 bases section (section_from target section at) ≡ Ok (eh_fde e, after) → HasCie target e
has-cie is_aarch64 bases target section at e after is =
    let (format, body, framed, read) = record-parts is_aarch64 bases section (section_from target section at) (eh_fde e) after is in
    let frame = framed-found (section_from target section at) format body after framed in
    elim (body-parts is_aarch64 bases section at format body (eh_fde e) read) [
      | inl w ↦ let no = w.record_is in absurd cc
      | inr (inl w) ↦ let no = w.record_is in absurd cc
      | inr (inr w) ↦
          let before = cie-before-parts is_aarch64 body.target section body.position w.back w.cie w.cie_is in
          let (addresses, rest, head, whole) = fde-from-parts bases at format body.position w.cie w.mid w.fde w.fde_is in
          let own : IsSoundSomewhere target w.cie =
          subst (λ (t : Target). IsSoundSomewhere t w.cie) frame.body_target
          (cie-sound is_aarch64 bases body.target section (body.position - w.back) w.cie before.1) in
          let same = ap (fde-or e) (ap eh_fde (sym whole) ∙ sym w.record_is) in
          subst (HasCie target) same (record { sound = own; pointer = refl })
    ]
