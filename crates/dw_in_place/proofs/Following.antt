-- A record that is read in a section is read in the same way if bytes follow the section.
use Rattle.std.proofs.Common.{◌≡◌, ℕ, ◌-◌, ◌≤◌, Bool, true, false, cond, eqb, List, ◌++◌, length, Option, Result, Ok, Err, refl, sym, ap, ◌∙◌, arith, inl, inr, append_assoc}
use Rattle.std.specs.Prelude.{◌⊎◌}
use Rattle.std.proofs.lemmas.Bool.{cases_lt}
use Rattle.std.proofs.lemmas.List.{length-append, length-drop, drop-append-le}
use Rattle.dw_bytes.specs.declared.target.Target.{Target}
use Rattle.dw_bytes.specs.declared.target.Format.{Format}
use Rattle.dw_bytes.specs.declared.fault.Fault.{Fault}
use Rattle.dw_bytes.specs.declared.fault.FaultKind.TheVariants.{NoSuchCie}
use Rattle.dw_bytes.specs.Reading.{ReadPosition, ◌>>=◌, section_from, fixed_at}
use Rattle.dw_bytes.specs.Bodies.{framed_at}
use Rattle.dw_bytes.proofs.Bodies.{framed-found, framed-only}
use Rattle.dw_bytes.proofs.Readers.{bind-ok}
use Rattle.dw_frame.proofs.EachRecord.{some-length}
use Rattle.dw_eh_frame.specs.declared.pointer.Bases.{Bases}
use Rattle.dw_eh_frame.specs.Records.{EhCie, EhFde, EhRecord, eh_cie_from, eh_cie_at, eh_body_at, eh_record_at}
use Rattle.dw_eh_frame.proofs.ExactCases.{body-parts, nothing-is, cie-is, fde-is, cie-before-parts, cie-before-is, record-parts, record-is}
use Rattle.dw_eh_rows.specs.Signals.{fde_in}
use Rattle.dw_in_place.specs.InPlace.{covering, fde_at}

abbrev fine : {A : Type 0} → A → Result A Fault
fine a = Ok a

chosen : {A : Type 0} (b : Bool) (x y z : A) → cond b x y ≡ z → ((b ≡ true) × (x ≡ z)) ⊎ ((b ≡ false) × (y ≡ z))
chosen true x y z e = inl (refl, e)
chosen false x y z e = inr (refl, e)

-- ---- a body

-- a body lies in the section, and is read there too if bytes follow
record IsFramedStill (target : Target) (section : List ℕ) (at : ℕ) (format : Format) (body : ReadPosition) : Type 0 where
  after : ReadPosition
  framed : framed_at (section_from target section at) ≡ Ok ((format, body), after)

framed-still : (target : Target) (section more : List ℕ) (at : ℕ) (format : Format) (body after : ReadPosition)
    → framed_at (section_from target section at) ≡ Ok ((format, body), after) → IsFramedStill target (section ++ more) at format body
framed-still target section more at format body after is =
    let r = section_from target section at in
    let frame = framed-found r format body after is in
    let some = some-length target.order frame.front format (length body.rest) frame.length_is in
    let inside : at ≤ length section = elim (cases_lt (length section) at) [
      | inl past ↦ absurd (omega (arith, some, length-drop at section, ap length frame.parts, length-append frame.front (body.rest ++ after.rest)))
      | inr le ↦ le
    ] in
    let longer : ReadPosition = record { target = target; position = after.position; rest = after.rest ++ more } in
    record {
      after = longer;
      framed = framed-only (section_from target (section ++ more) at) format body longer (record {
        front = frame.front;
        length_is = frame.length_is;
        parts = drop-append-le at section more inside
            ∙ (ap (λ (l : List ℕ). l ++ more) frame.parts
            ∙ (append_assoc frame.front (body.rest ++ after.rest) more
            ∙ ap (λ (l : List ℕ). frame.front ++ l) (append_assoc body.rest after.rest more)));
        body_position = frame.body_position;
        body_target = frame.body_target;
        position = frame.position;
        target = refl;
      });
    }

-- ---- a CIE

cie-still : (is_aarch64 : Bool) (target : Target) (section more : List ℕ) (at : ℕ) (c : EhCie)
    → eh_cie_at is_aarch64 target section at ≡ Ok c → eh_cie_at is_aarch64 target (section ++ more) at ≡ Ok c
unfolding eh_cie_at
cie-still is_aarch64 target section more at c is =
    let nowhere : Fault = record { kind = NoSuchCie; at = at } in
    let f = bind-ok (framed_at (section_from target section at)) (λ framed. fixed_at 4 framed.0.1 >>= λ id.
    cond (eqb id.0 0) (eh_cie_from is_aarch64 at framed.0.0 id.1) (Err nowhere)) c is in
    let still = framed-still target section more at f.0.0.0 f.0.0.1 f.0.1 f.1 in
    ap (λ (y : Result ((Format × ReadPosition) × ReadPosition) Fault). y >>= λ framed. fixed_at 4 framed.0.1 >>= λ id.
    cond (eqb id.0 0) (eh_cie_from is_aarch64 at framed.0.0 id.1) (Err nowhere)) still.framed ∙ f.2

-- ---- a record

body-still : (is_aarch64 : Bool) (bases : Bases) (section more : List ℕ) (at : ℕ) (format : Format) (body : ReadPosition) (x : EhRecord)
    → eh_body_at is_aarch64 bases section at format body ≡ Ok x → eh_body_at is_aarch64 bases (section ++ more) at format body ≡ Ok x
body-still is_aarch64 bases section more at format body x is = elim (body-parts is_aarch64 bases section at format body x is) [
  | inl w ↦ nothing-is is_aarch64 bases (section ++ more) at format body w.nothing ∙ ap (λ (y : EhRecord). fine y) (sym w.record_is)
  | inr (inl w) ↦ cie-is is_aarch64 bases (section ++ more) at format body w.mid w.cie w.some w.id_is w.cie_is
      ∙ ap (λ (y : EhRecord). fine y) (sym w.record_is)
  | inr (inr w) ↦
      let before = cie-before-parts is_aarch64 body.target section body.position w.back w.cie w.cie_is in
      let still = cie-still is_aarch64 body.target section more (body.position - w.back) w.cie before.1 in
      fde-is is_aarch64 bases (section ++ more) at format body w.back w.mid w.cie w.fde w.some w.pointer_is w.no_id
      (cie-before-is is_aarch64 body.target (section ++ more) body.position w.back w.cie before.0 still) w.fde_is
      ∙ ap (λ (y : EhRecord). fine y) (sym w.record_is)
]

record IsReadStill (is_aarch64 : Bool) (bases : Bases) (target : Target) (section : List ℕ) (at : ℕ) (x : EhRecord) : Type 0 where
  after : ReadPosition
  read : eh_record_at is_aarch64 bases section (section_from target section at) ≡ fine {A = EhRecord × ReadPosition} (x, after)

record-still : (is_aarch64 : Bool) (bases : Bases) (target : Target) (section more : List ℕ) (at : ℕ) (x : EhRecord) (after : ReadPosition)
    → eh_record_at is_aarch64 bases section (section_from target section at) ≡ Ok (x, after)
    → IsReadStill is_aarch64 bases target (section ++ more) at x
record-still is_aarch64 bases target section more at x after is =
    let (format, body, framed, read) = record-parts is_aarch64 bases section (section_from target section at) x after is in
    let still = framed-still target section more at format body after framed in
    record {
      after = still.after;
      read = record-is is_aarch64 bases (section ++ more) (section_from target (section ++ more) at) x format body still.after still.framed
          (body-still is_aarch64 bases section more at format body x read);
    }

pub fde-still : (is_aarch64 : Bool) (bases : Bases) (target : Target) (section more : List ℕ) (at a : ℕ) (found : Option EhFde)
    → fde_at is_aarch64 bases target section at a ≡ Ok found → fde_at is_aarch64 bases target (section ++ more) at a ≡ Ok found
unfolding fde_at
fde-still is_aarch64 bases target section more at a found is =
    let r = bind-ok (eh_record_at is_aarch64 bases section (section_from target section at)) (λ x. covering a (fde_in x.0)) found is in
    let still = record-still is_aarch64 bases target section more at r.0.0 r.0.1 r.1 in
    ap (λ (y : Result (EhRecord × ReadPosition) Fault). y >>= λ x. covering a (fde_in x.0)) still.read ∙ r.2
