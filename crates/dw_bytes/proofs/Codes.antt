-- A code and its operands are read exactly if the next bytes encode them.
use Rattle.std.proofs.Common.{◌≡◌, ℕ, ◌+◌, ◌<◌, Bool, true, false, cond, List, [], ◌∷◌, ◌++◌, length, Option, Some, None, Result, Ok, Err}
use Rattle.std.proofs.Common.{refl, sym, ap, subst, ◌∙◌, append_assoc, arith}
use Rattle.std.specs.Prelude.{ℤ}
use Rattle.std.specs.Int.{Width, byte_len, cast_signed}
use Rattle.std.proofs.lemmas.List.{length-append}
use Rattle.dw_bytes.specs.declared.target.Target.{Target}
use Rattle.dw_bytes.specs.declared.fault.Fault.{Fault}
use Rattle.dw_bytes.specs.declared.fault.FaultKind.{FaultKind}
use Rattle.dw_bytes.specs.Encoding.{Uleb}
use Rattle.dw_bytes.specs.Reading.{ReadPosition, Next, IsExact, ◌>>=◌, take_at, fixed_at, uleb_at}
use Rattle.dw_bytes.specs.Operands.{OperandKind, address, fixed, signed_fixed, unsigned, signed, register_number, read_size, piece_size}
use Rattle.dw_bytes.specs.Operands.{Block, Operand, IsOperand, IsBlock, SignedFixed, signed_fixed_at, block_at, operand_at, fits}
use Rattle.dw_bytes.specs.Operands.{range_fault, Operands, AreEncoded, Fit, values_at, in_range, in_ranges, operands_in_range_at, Line}
use Rattle.dw_bytes.specs.Operands.{line, block, AreOperands, Coded, operands_at, coded_at}
use Rattle.dw_bytes.proofs.Fields.{take_exact, fixed_exact, uleb_exact}
use Rattle.dw_bytes.proofs.Readers.{ExactAt, bind-ok, ok-is, same-reading, fixed-exact, uleb-exact, sleb-exact, address-exact}

abbrev pub finish : {A : Type 0} → A → ReadPosition → Result (A × ReadPosition) Fault
finish a r = Ok (a, r)

-- `Next` still holds if the value and the position after it are replaced by equal ones
pub given : {A : Type 0} (IsEncoding : List ℕ → A → Type 0) (r : ReadPosition) (a b : A) (x y : ReadPosition) → finish a x ≡ finish b y
    → Next IsEncoding r a x → Next IsEncoding r b y
given {A} IsEncoding r a b x y is h = subst (λ (p : A × ReadPosition). Next IsEncoding r p.0 p.1) (ok-is (a, x) (b, y) is) h

-- ---- an operand

signed-own : (w : Width) (r : ReadPosition) → IsExact (signed_fixed_at w) (SignedFixed r.target w) r
signed-own w r = record {
  found = λ v after is.
      let n = bind-ok (fixed_at (byte_len w) r) (λ n. finish (cast_signed w n.0) n.1) (v, after) is in
      let h = (fixed_exact (byte_len w) r).found n.0.0 n.0.1 n.1 in
      given (SignedFixed r.target w) r (cast_signed w n.0.0) v n.0.1 after n.2
      (record { bytes = h.bytes; encoded = (n.0.0, h.encoded, refl); parts = h.parts; position = h.position; target = h.target });
  only = λ v after h.
      let is = (fixed_exact (byte_len w) r).only h.encoded.0 after
      (record { bytes = h.bytes; encoded = h.encoded.1; parts = h.parts; position = h.position; target = h.target }) in
      rw is (ap (λ (z : ℤ). finish z after) (sym h.encoded.2));
}

abbrev block-of : ℕ → Target → List ℕ → Block
block-of offset target bytes = record { offset = offset; target = target; bytes = bytes }

same-block : (b : Block) (offset : ℕ) (target : Target) → b.offset ≡ offset → b.target ≡ target → block-of offset target b.bytes ≡ b
same-block b offset target o t = ap (λ n. block-of n target b.bytes) (sym o) ∙ ap (λ (u : Target). block-of b.offset u b.bytes) (sym t)

block-own : (r : ReadPosition) → IsExact block_at (IsBlock r.target r.position) r
block-own r = record {
  found = λ v after is.
      let n = bind-ok (uleb_at r) (λ n. take_at n.0 n.1 >>= λ b. finish (block-of n.1.position r.target b.0) b.1) (v, after) is in
      let b = bind-ok (take_at n.0.0 n.0.1) (λ b. finish (block-of n.0.1.position r.target b.0) b.1) (v, after) n.2 in
      let h = (uleb_exact r).found n.0.0 n.0.1 n.1 in
      let k = (take_exact n.0.0 n.0.1).found b.0.0 b.0.1 b.1 in
      let long : n.0.0 ≡ length b.0.0 = sym (ap length k.encoded.value ∙ k.encoded.count) in
      given (IsBlock r.target r.position) r (block-of n.0.1.position r.target b.0.0) v b.0.1 after b.2 (record {
        bytes = h.bytes ++ k.bytes;
        encoded = record {
          count = h.bytes;
          count_is = subst (Uleb h.bytes) long h.encoded;
          parts = ap (λ (t : List ℕ). h.bytes ++ t)
              (sym k.encoded.value);
          offset_is = h.position;
          target_is = refl;
        };
        parts = h.parts ∙ ap (λ (t : List ℕ). h.bytes ++ t) k.parts ∙ sym (append_assoc h.bytes k.bytes b.0.1.rest);
        position = omega (arith, h.position, k.position, length-append h.bytes k.bytes);
        target = k.target ∙ h.target;
      });
  only = λ v after h.
      let s = h.encoded in
      let mid : ReadPosition = record { target = r.target; position = r.position + length s.count; rest = v.bytes ++ after.rest } in
      let one = (uleb_exact r).only (length v.bytes) mid
      (record {
        bytes = s.count;
        encoded = s.count_is;
        parts = h.parts ∙ ap (λ (t : List ℕ). t ++ after.rest) s.parts
            ∙ append_assoc s.count v.bytes after.rest;
        position = refl;
        target = refl;
      }) in
      let two = (take_exact (length v.bytes) mid).only v.bytes after
      (record {
        bytes = v.bytes;
        encoded = record { count = refl; value = refl };
        parts = refl;
        position = omega (arith, h.position, ap length s.parts, length-append s.count v.bytes);
        target = h.target;
      }) in
      rw (one, two) (ap (λ (b : Block). finish b after) (same-block v (r.position + length s.count) r.target s.offset_is s.target_is));
}

pub operand-exact : (target : Target) (kind : OperandKind) → ExactAt target (operand_at kind) (IsOperand target kind)
operand-exact target address = address-exact target
operand-exact target (fixed n) = fixed-exact target n
operand-exact target (signed_fixed w) = λ r same. subst (λ (t : Target). IsExact (signed_fixed_at w) (SignedFixed t w) r) same
    (signed-own w r)
operand-exact target unsigned = uleb-exact target
operand-exact target signed = sleb-exact target
operand-exact target register_number = uleb-exact target
operand-exact target read_size = fixed-exact target 1
operand-exact target piece_size = uleb-exact target
operand-exact target block = λ r same. subst (λ (t : Target). IsExact block_at (IsBlock t r.position) r) same (block-own r)

-- ---- operands one after another

values-exact : (target : Target) (kinds : List OperandKind) → ExactAt target (values_at kinds) (AreEncoded target kinds)
values-exact target [] r same = record {
  found = λ vs after is. given (AreEncoded target [] r.position) r tt vs r after is
      (record { bytes = []; encoded = refl; parts = refl; position = omega arith; target = refl });
  only = λ vs after h.
      let rest : after.rest ≡ r.rest = ap (λ (t : List ℕ). t ++ after.rest) (sym h.encoded) ∙ sym h.parts in
      let position : after.position ≡ r.position = omega (arith, h.position, ap length h.encoded) in
      ap (λ (x : ReadPosition). finish tt x) (sym (same-reading after r h.target position rest));
}
values-exact target (kind ∷ kinds) r same = record {
  found = λ vs after is.
      let v = bind-ok (operand_at kind r) (λ v. values_at kinds v.1 >>= λ ws. finish (v.0, ws.0) ws.1) (vs, after) is in
      let ws = bind-ok (values_at kinds v.0.1) (λ ws. finish (v.0.0, ws.0) ws.1) (vs, after) v.2 in
      let h = (operand-exact target kind r same).found v.0.0 v.0.1 v.1 in
      let k = (values-exact target kinds v.0.1 (h.target ∙ same)).found ws.0.0 ws.0.1 ws.1 in
      given (AreEncoded target (kind ∷ kinds) r.position) r (v.0.0, ws.0.0) vs ws.0.1 after ws.2 (record {
        bytes = h.bytes ++ k.bytes;
        encoded = (h.bytes, k.bytes, refl, h.encoded, subst (λ at. AreEncoded target kinds at k.bytes ws.0.0) h.position k.encoded);
        parts = h.parts ∙ ap (λ (t : List ℕ). h.bytes ++ t) k.parts ∙ sym (append_assoc h.bytes k.bytes ws.0.1.rest);
        position = omega (arith, h.position, k.position, length-append h.bytes k.bytes);
        target = k.target ∙ h.target;
      });
  only = λ vs after h.
      let s = h.encoded in
      let mid : ReadPosition = record { target = r.target; position = r.position + length s.0; rest = s.1 ++ after.rest } in
      let one = (operand-exact target kind r same).only vs.0 mid
      (record {
        bytes = s.0;
        encoded = s.3;
        parts = h.parts ∙ ap (λ (t : List ℕ). t ++ after.rest) s.2
            ∙ append_assoc s.0 s.1 after.rest;
        position = refl;
        target = refl;
      }) in
      let others = (values-exact target kinds mid same).only vs.1 after
      (record {
        bytes = s.1;
        encoded = s.4;
        parts = refl;
        position = omega (arith, h.position, ap length s.2, length-append s.0 s.1);
        target = h.target;
      }) in
      rw (one, others) refl;
}

-- ---- the ranges of operands

abbrev fine : {A : Type 0} → A → Result A Fault
fine a = Ok a

ranged : {A : Type 0} (b : Bool) (fault : Fault) (v w : A) → cond b (fine v) (Err fault) ≡ fine w → (b ≡ true) × (v ≡ w)
ranged true fault v w is = (refl, cc)
ranged false fault v w is = absurd cc

abbrev checked : (kinds : List OperandKind) → Result (Operands kinds) Fault → Operands kinds → Type 0
checked kinds result vs = result ≡ Ok vs

in-ranges : (target : Target) (at : ℕ) (kinds : List OperandKind) (vs ws : Operands kinds) → checked kinds (in_ranges target at kinds vs) ws
    → Fit target kinds vs × (vs ≡ ws)
in-ranges target at [] vs ws is = (tt, refl)
in-ranges target at (kind ∷ kinds) vs ws is =
    let v = bind-ok (in_range target at kind vs.0) (λ v. in_ranges target at kinds vs.1 >>= λ others. Ok (v, others)) ws is in
    let others = bind-ok (in_ranges target at kinds vs.1) (λ others. Ok (v.0, others)) ws v.2 in
    let first = ranged (fits target kind vs.0) (record { kind = range_fault kind; at = at }) vs.0 v.0 v.1 in
    let rest = in-ranges target at kinds vs.1 others.0 others.1 in
    let all : (v.0, others.0) ≡ ws = let both : fine (v.0, others.0) ≡ fine ws = others.2 in cc in
    ((first.0, rest.0), ap (λ (x : Operand kind). (x, vs.1)) first.1 ∙ (ap (λ (x : Operands kinds). (v.0, x)) rest.1 ∙ all))

ranges-fit : (target : Target) (at : ℕ) (kinds : List OperandKind) (vs : Operands kinds) → Fit target kinds vs
    → checked kinds (in_ranges target at kinds vs) vs
ranges-fit target at [] vs fit = refl
ranges-fit target at (kind ∷ kinds) vs fit =
    let first : in_range target at kind vs.0 ≡ Ok vs.0 = rw fit.0 refl in
    let rest = ranges-fit target at kinds vs.1 fit.1 in
    rw (first, rest) refl

-- ---- lines of a table, and codes

line-own : {I : Type 0} (unknown : FaultKind) (at : ℕ) (kinds : List OperandKind) (make : Operands kinds → I) (r : ReadPosition)
    → IsExact (operands_at unknown at (Some (line kinds make))) (AreOperands r.target (Some (line kinds make)) r.position) r
line-own {I} unknown at kinds make r = record {
  found = λ i after is.
      let g = bind-ok (operands_in_range_at at kinds r) (λ vs. finish (make vs.0) vs.1) (i, after) is in
      let v = bind-ok (values_at kinds r) (λ vs. in_ranges r.target at kinds vs.0 >>= λ ws. finish ws vs.1) g.0 g.1 in
      let w = bind-ok (in_ranges r.target at kinds v.0.0) (λ ws. finish ws v.0.1) g.0 v.2 in
      let h = (values-exact r.target kinds r refl).found v.0.0 v.0.1 v.1 in
      let fit = in-ranges r.target at kinds v.0.0 w.0 w.1 in
      let same : (w.0, v.0.1) ≡ g.0 = ok-is (w.0, v.0.1) g.0 w.2 in
      let made : v.0.0 ≡ g.0.0 = fit.1 ∙ ap (λ (p : Operands kinds × ReadPosition). p.0) same in
      let left : v.0.1 ≡ g.0.1 = ap (λ (p : Operands kinds × ReadPosition). p.1) same in
      given (AreOperands r.target (Some (line kinds make)) r.position) r (make g.0.0) i g.0.1 after g.2
      (subst (λ (x : ReadPosition). Next (AreOperands r.target (Some (line kinds make)) r.position) r (make g.0.0) x) left
      (record {
        bytes = h.bytes;
        encoded = (v.0.0, h.encoded, fit.0, ap make (sym made));
        parts = h.parts;
        position = h.position;
        target = h.target;
      }));
  only = λ i after h.
      let read = (values-exact r.target kinds r refl).only h.encoded.0 after
      (record { bytes = h.bytes; encoded = h.encoded.1; parts = h.parts; position = h.position; target = h.target }) in
      let fit = ranges-fit r.target at kinds h.encoded.0 h.encoded.2 in
      rw (read, fit) (ap (λ (x : I). finish x after) (sym h.encoded.3));
}

operands-exact : {I : Type 0} (target : Target) (unknown : FaultKind) (at : ℕ) (of : Option (Line I))
    → ExactAt target (operands_at unknown at of) (AreOperands target of)
operands-exact target unknown at None = λ r same. record { found = λ v after e. absurd cc; only = λ v after h. absurd h.encoded }
operands-exact target unknown at (Some (line kinds make)) = λ r same.
    subst (λ (t : Target). IsExact (operands_at unknown at (Some (line kinds make)))
    (AreOperands t (Some (line kinds make)) r.position) r) same (line-own unknown at kinds make r)

pub coded-exact : {I : Type 0} (target : Target) (table : ℕ → Option (Line I)) (unknown : FaultKind)
    → ExactAt target (coded_at table unknown) (Coded table target)
coded-exact target table unknown r same = record {
  found = λ i after is.
      let code = bind-ok (fixed_at 1 r) (λ code. operands_at unknown r.position (table code.0) code.1) (i, after) is in
      let h = (fixed-exact target 1 r same).found code.0.0 code.0.1 code.1 in
      let k = (operands-exact target unknown r.position (table code.0.0) code.0.1 (h.target ∙ same)).found i after code.2 in
      record {
        bytes = h.bytes ++ k.bytes;
        encoded = (
          code.0.0,
          h.bytes,
          k.bytes,
          refl,
          h.encoded,
          subst (λ at. AreOperands target (table code.0.0) at k.bytes i) h.position k.encoded,
        );
        parts = h.parts ∙ ap (λ (t : List ℕ). h.bytes ++ t) k.parts ∙ sym (append_assoc h.bytes k.bytes after.rest);
        position = omega (arith, h.position, k.position, length-append h.bytes k.bytes);
        target = k.target ∙ h.target;
      };
  only = λ i after h.
      let s = h.encoded in
      let mid : ReadPosition = record { target = r.target; position = r.position + length s.1; rest = s.2 ++ after.rest } in
      let one = (fixed-exact target 1 r same).only s.0 mid
      (record {
        bytes = s.1;
        encoded = s.4;
        parts = h.parts ∙ ap (λ (t : List ℕ). t ++ after.rest) s.3
            ∙ append_assoc s.1 s.2 after.rest;
        position = refl;
        target = refl;
      }) in
      let others = (operands-exact target unknown r.position (table s.0) mid same).only i after
      (record {
        bytes = s.2;
        encoded = s.5;
        parts = refl;
        position = omega (arith, h.position, ap length s.3, length-append s.1 s.2);
        target = h.target;
      }) in
      ap (λ x. x >>= λ (code : ℕ × ReadPosition). operands_at unknown r.position (table code.0) code.1) one ∙ others;
}

-- a code and its operands have at least one byte
pub coded-some : {I : Type 0} (target : Target) (table : ℕ → Option (Line I)) (at : ℕ) (bytes : List ℕ) (i : I)
    → Coded table target at bytes i → 0 < length bytes
coded-some target table at bytes i (code, front, operands, parts, first, second) =
    omega (arith, first.count, ap length parts, length-append front operands)
