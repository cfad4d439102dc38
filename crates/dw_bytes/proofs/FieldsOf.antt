-- The fields of a header are read exactly if the next bytes encode them. Their faults are reported
-- inside the bytes that are left, or at their end.
use Rattle.std.proofs.Common.{◌≡◌, ℕ, ◌+◌, ◌≤◌, Bool, true, false, List, [], ◌++◌, length, Option, Some, None, Result, Ok, Err, refl, sym}
use Rattle.std.proofs.Common.{ap, subst, ◌∙◌, append_assoc, arith}
use Rattle.std.proofs.lemmas.List.{length-append}
use Rattle.dw_bytes.specs.declared.target.Target.{Target}
use Rattle.dw_bytes.specs.declared.fault.Fault.{Fault}
use Rattle.dw_bytes.specs.declared.fault.FaultKind.{FaultKind}
use Rattle.dw_bytes.specs.Reading.{ReadPosition, ◌>>=◌}
use Rattle.dw_bytes.specs.Operands.{Operand, operand_at}
use Rattle.dw_bytes.specs.Fields.{Fields, made, field, unless, Encodes, ok_unless, field_at, fields_at}
use Rattle.dw_bytes.proofs.Readers.{ExactAt, bind-ok, same-reading}
use Rattle.dw_bytes.proofs.Codes.{finish, given, operand-exact}
use Rattle.dw_bytes.proofs.Bounds.{Stays, AlwaysStays, bind-stays, made-stays}
use Rattle.dw_bytes.proofs.CodeBounds.{operand-stays}

-- if `unless` gives no fault, its test is true
pub passed : (b : Bool) (fault : FaultKind) → unless b fault ≡ None → b ≡ true
passed true fault is = refl
passed false fault is = absurd cc

abbrev fine : {A : Type 0} → A → Result A Fault
fine a = Ok a

unchecked : {X : Type 0} (fault : Option FaultKind) (at : ℕ) (x y : X) → ok_unless fault at x ≡ fine y → (fault ≡ None) × (x ≡ y)
unchecked None at x y is = (refl, cc)
unchecked (Some kind) at x y is = absurd cc

pub fields-exact : {B : Type 0} (target : Target) (fields : Fields B) → ExactAt target (fields_at fields) (Encodes target fields)
fields-exact {B} target (made b) r same = record {
  found = λ v after is. given (Encodes target (made b) r.position) r b v r after is
      (record { bytes = []; encoded = (refl, refl); parts = refl; position = omega arith; target = refl });
  only = λ v after h.
      let rest : after.rest ≡ r.rest = ap (λ (t : List ℕ). t ++ after.rest) (sym h.encoded.0) ∙ sym h.parts in
      let position : after.position ≡ r.position = omega (arith, h.position, ap length h.encoded.0) in
      ap (λ (x : ReadPosition). finish b x) (sym (same-reading after r h.target position rest))
      ∙ ap (λ (y : B). finish y after) (sym h.encoded.1);
}
fields-exact {B} target (field kind fault next) r same = record {
  found = λ v after is.
      let a = bind-ok (field_at kind fault r) (λ x. fields_at (next x.0) x.1) (v, after) is in
      let x = bind-ok (operand_at kind r) (λ x. ok_unless (fault x.0) r.position x) a.0 a.1 in
      let ok = unchecked (fault x.0.0) r.position x.0 a.0 x.2 in
      let past : fields_at (next x.0.0) x.0.1 ≡ finish v after =
      subst (λ (p : Operand kind × ReadPosition). fields_at (next p.0) p.1 ≡ finish v after) (sym ok.1) a.2 in
      let h = (operand-exact target kind r same).found x.0.0 x.0.1 x.1 in
      let k = (fields-exact target (next x.0.0) x.0.1 (h.target ∙ same)).found v after past in
      record {
        bytes = h.bytes ++ k.bytes;
        encoded = (
          x.0.0,
          h.bytes,
          k.bytes,
          refl,
          h.encoded,
          ok.0,
          subst (λ at. Encodes target (next x.0.0) at k.bytes v) h.position k.encoded,
        );
        parts = h.parts ∙ ap (λ (t : List ℕ). h.bytes ++ t) k.parts ∙ sym (append_assoc h.bytes k.bytes after.rest);
        position = omega (arith, h.position, k.position, length-append h.bytes k.bytes);
        target = k.target ∙ h.target;
      };
  only = λ v after h.
      let s = h.encoded in
      let mid : ReadPosition = record { target = r.target; position = r.position + length s.1; rest = s.2 ++ after.rest } in
      let one = (operand-exact target kind r same).only s.0 mid
      (record {
        bytes = s.1;
        encoded = s.4;
        parts = h.parts ∙ ap (λ (t : List ℕ). t ++ after.rest) s.3
            ∙ append_assoc s.1 s.2 after.rest;
        position = refl;
        target = refl;
      }) in
      let others = (fields-exact target (next s.0) mid same).only v after
      (record {
        bytes = s.2;
        encoded = s.6;
        parts = refl;
        position = omega (arith, h.position, ap length s.3, length-append s.1 s.2);
        target = h.target;
      }) in
      let none : ok_unless (fault s.0) r.position (s.0, mid) ≡ fine (s.0, mid) =
      ap (λ (f : Option FaultKind). ok_unless f r.position (s.0, mid)) s.5 in
      let first : field_at kind fault r ≡ fine (s.0, mid) =
      ap (λ (x : Result (Operand kind × ReadPosition) Fault). x >>= λ y. ok_unless (fault y.0) r.position y) one ∙ none in
      ap (λ (x : Result (Operand kind × ReadPosition) Fault). x >>= λ y. fields_at (next y.0) y.1) first ∙ others;
}

checked-stays : {A : Type 0} (from : ℕ) (r : ReadPosition) (fault : Option FaultKind) (x : A × ReadPosition) → from ≤ r.position
    → Stays {X = A} from r (Ok x) → Stays {X = A} from r (ok_unless fault r.position x)
checked-stays from r None x h k = k
checked-stays from r (Some kind) x h k = (h, omega arith)

field-stays : {A : Type 0} (from : ℕ) (r : ReadPosition) (fault : A → Option FaultKind) (x : Result (A × ReadPosition) Fault)
    → from ≤ r.position → Stays from r x → Stays from r (x >>= λ v. ok_unless (fault v.0) r.position v)
field-stays from r fault (Ok x) h k = checked-stays from r (fault x.0) x h k
field-stays from r fault (Err e) h k = k

pub fields-stay : {B : Type 0} (from : ℕ) (fields : Fields B) → AlwaysStays from (fields_at fields)
fields-stay {B} from (made b) r h = made-stays {A = B} from b r h
fields-stay from (field kind fault next) r h =
    bind-stays from r (field_at kind fault r) (λ x. fields_at (next x)) h
    (field-stays from r fault (operand_at kind r) h (operand-stays from kind r h)) (λ x. fields-stay from (next x))
