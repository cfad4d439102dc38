-- The block of an instruction ends where the instruction ends, and a record's program lies inside
-- the record.
use Rattle.std.proofs.Common.{◌≡◌, ℕ, ◌+◌, ◌<◌, Bool, true, false, cond, List, [], ◌∷◌, length, Option, Some, None, sym, ap, subst, arith}
use Rattle.std.specs.Prelude.{◌==◌, ◌||◌, ◌^◌, nat_le, nat_lt}
use Rattle.std.proofs.lemmas.List.{length-append}
use Rattle.dw_bytes.specs.declared.target.Target.{Target}
use Rattle.dw_bytes.specs.Operands.{OperandKind, address, fixed, unsigned, signed, register_number, block}
use Rattle.dw_bytes.specs.Operands.{Block, IsBlock, Operands, Line, line, one, AreOperands}
use Rattle.dw_frame.specs.declared.dialect.Dialect.{Dialect}
use Rattle.dw_frame.specs.Dialects.{has_gnu_codes, is_aarch64, has_plain_addresses}
use Rattle.dw_frame.specs.Instructions.{Instruction}
use Rattle.dw_frame.specs.Records.{Record}
use Rattle.dw_frame.specs.Sections.{IsRecord}
use Rattle.dw_frame.specs.Codes.{extended_line, extended_line_of, line_of, negative_offset, EncodesInstruction}
use Rattle.dw_frame.specs.Bounds.{EndsWith, EndsWithItsBlock, IsSoundRecord, offset_of}
use Rattle.dw_frame.proofs.RecordBounds.{sound-record, record-offset}

-- if bytes encode the operands of a table line, then the instruction that they make ends with its
-- block, if it has a block
Holds : ℕ → Target → Option (Line Instruction) → Type 0
Holds start target of = (at : ℕ) (bytes : List ℕ) (i : Instruction) → start < at → AreOperands target of at bytes i
    → EndsWithItsBlock target start (at + length bytes) i

which : (b : Bool) (P : Option (Line Instruction) → Type 0) (x y : Option (Line Instruction)) → P x → P y → P (cond b x y)
which true P x y h k = h
which false P x y h k = k

-- `Holds` for a table line whose instructions have no block
without : (start : ℕ) (target : Target) (kinds : List OperandKind) (make : Operands kinds → Instruction)
    → ((vs : Operands kinds) (end : ℕ) → EndsWithItsBlock target start end (make vs)) → Holds start target (Some (line kinds make))
unfolding Holds
without start target kinds make all at bytes i lt (vs, encoded, fit, is) =
    subst (EndsWithItsBlock target start (at + length bytes)) (sym is) (all vs (at + length bytes))

block-ends : (target : Target) (start at end : ℕ) (bytes : List ℕ) (b : Block) → start < at → at + length bytes ≡ end
    → IsBlock target at bytes b → EndsWith target start end b
block-ends target start at end bytes b lt is_end h = record {
  past = omega (arith, h.offset_is);
  ends = omega (arith, is_end, h.offset_is, ap length h.parts, length-append h.count b.bytes);
  target_is = h.target_is;
}

block-alone : (start : ℕ) (target : Target) → Holds start target (Some (one block Instruction.def_cfa_expression))
unfolding Holds
block-alone start target at bytes i lt (vs, (a, ra, pa, ia, ended), fit, is) =
    subst (EndsWithItsBlock target start (at + length bytes)) (sym is)
    (block-ends target start at (at + length bytes) a vs.0 lt (omega (arith, ap length pa, length-append a ra, ap length ended)) ia)

-- `Holds` for a table line whose second operand is a block
block-second : (start : ℕ) (target : Target) (first : OperandKind) (make : Operands (first ∷ block ∷ []) → Instruction)
    → ((vs : Operands (first ∷ block ∷ [])) (end : ℕ) → EndsWith target start end vs.1.0 → EndsWithItsBlock target start end (make vs))
    → Holds start target (Some (line (first ∷ block ∷ []) make))
unfolding Holds
block-second start target first make all at bytes i lt (vs, (a, ra, pa, ia, (b, rb, pb, ib, ended)), fit, is) =
    subst (EndsWithItsBlock target start (at + length bytes)) (sym is)
    (all vs (at + length bytes)
    (block-ends target start (at + length a) (at + length bytes) b vs.1.0 (omega arith)
    (omega (arith, ap length pa, length-append a ra, ap length pb, length-append b rb, ap length ended)) ib))

unknown : (start : ℕ) (target : Target) → Holds start target None
unfolding Holds
unknown start target at bytes i lt h = absurd h

extended-lines : (start : ℕ) (target : Target) (code : ℕ) → Holds start target (extended_line code)
extended-lines start target code =
    let H = Holds start target in
    which (code == 0x00) H _ _ (without start target [] (λ vs. Instruction.nop) (λ vs end. tt))
    (which (code == 0x01) H _ _ (without start target (address ∷ []) (λ vs. Instruction.set_loc vs.0) (λ vs end. tt))
    (which (code == 0x02) H _ _ (without start target (fixed 1 ∷ []) (λ vs. Instruction.advance_loc1 vs.0) (λ vs end. tt))
    (which (code == 0x03) H _ _ (without start target (fixed 2 ∷ []) (λ vs. Instruction.advance_loc2 vs.0) (λ vs end. tt))
    (which (code == 0x04) H _ _ (without start target (fixed 4 ∷ []) (λ vs. Instruction.advance_loc4 vs.0) (λ vs end. tt))
    (which (code == 0x05) H _ _
    (without start target (register_number ∷ unsigned ∷ []) (λ vs. Instruction.offset_extended vs.0 vs.1.0) (λ vs end. tt))
    (which (code == 0x06) H _ _ (without start target (register_number ∷ []) (λ vs. Instruction.restore_extended vs.0) (λ vs end. tt))
    (which (code == 0x07) H _ _ (without start target (register_number ∷ []) (λ vs. Instruction.undefined vs.0) (λ vs end. tt))
    (which (code == 0x08) H _ _ (without start target (register_number ∷ []) (λ vs. Instruction.same_value vs.0) (λ vs end. tt))
    (which (code == 0x09) H _ _
    (without start target (register_number ∷ register_number ∷ []) (λ vs. Instruction.register vs.0 vs.1.0) (λ vs end. tt))
    (which (code == 0x0a) H _ _ (without start target [] (λ vs. Instruction.remember_state) (λ vs end. tt))
    (which (code == 0x0b) H _ _ (without start target [] (λ vs. Instruction.restore_state) (λ vs end. tt))
    (which (code == 0x0c) H _ _
    (without start target (register_number ∷ unsigned ∷ []) (λ vs. Instruction.def_cfa vs.0 vs.1.0) (λ vs end. tt))
    (which (code == 0x0d) H _ _ (without start target (register_number ∷ []) (λ vs. Instruction.def_cfa_register vs.0) (λ vs end. tt))
    (which (code == 0x0e) H _ _ (without start target (unsigned ∷ []) (λ vs. Instruction.def_cfa_offset vs.0) (λ vs end. tt))
    (which (code == 0x0f) H _ _ (block-alone start target)
    (which (code == 0x10) H _ _
    (block-second start target register_number (λ vs. Instruction.expression vs.0 vs.1.0) (λ vs end h. h))
    (which (code == 0x11) H _ _
    (without start target (register_number ∷ signed ∷ []) (λ vs. Instruction.offset_extended_sf vs.0 vs.1.0) (λ vs end. tt))
    (which (code == 0x12) H _ _
    (without start target (register_number ∷ signed ∷ []) (λ vs. Instruction.def_cfa_sf vs.0 vs.1.0) (λ vs end. tt))
    (which (code == 0x13) H _ _ (without start target (signed ∷ []) (λ vs. Instruction.def_cfa_offset_sf vs.0) (λ vs end. tt))
    (which (code == 0x14) H _ _
    (without start target (register_number ∷ unsigned ∷ []) (λ vs. Instruction.val_offset vs.0 vs.1.0) (λ vs end. tt))
    (which (code == 0x15) H _ _
    (without start target (register_number ∷ signed ∷ []) (λ vs. Instruction.val_offset_sf vs.0 vs.1.0) (λ vs end. tt))
    (which (code == 0x16) H _ _
    (block-second start target register_number (λ vs. Instruction.val_expression vs.0 vs.1.0) (λ vs end h. h))
    (unknown start target)))))))))))))))))))))))

either : (b : Bool) (P : Instruction → Type 0) (x y : Instruction) → P x → P y → P (cond b x y)
either true P x y h k = h
either false P x y h k = k

no-block : (start : ℕ) (target : Target) (end r n : ℕ) → EndsWithItsBlock target start end (negative_offset r n)
no-block start target end r n = either (nat_le n (2 ^ 63)) (EndsWithItsBlock target start end) _ _ tt tt

dialect-lines : (start : ℕ) (target : Target) (d : Dialect) (code : ℕ) → Holds start target (extended_line_of d code)
dialect-lines start target d code =
    let H = Holds start target in
    which (code == 0x01) H _ _ (which (has_plain_addresses d) H _ _ (extended-lines start target code) (unknown start target))
    (which (code == 0x2e) H _ _
    (which (has_gnu_codes d) H _ _ (without start target (unsigned ∷ []) (λ vs. Instruction.nop) (λ vs end. tt)) (unknown start target))
    (which (code == 0x2f) H _ _
    (which (has_gnu_codes d) H _ _
    (without start target (register_number ∷ unsigned ∷ []) (λ vs. negative_offset vs.0 vs.1.0) (λ vs end. no-block start target end vs.0 vs.1.0))
    (unknown start target))
    (which (code == 0x2d || code == 0x2c) H _ _
    (which (is_aarch64 d) H _ _ (without start target [] (λ vs. Instruction.negate_ra_state) (λ vs end. tt)) (unknown start target))
    (extended-lines start target code))))

all-lines : (start : ℕ) (target : Target) (d : Dialect) (code : ℕ) → Holds start target (line_of d code)
all-lines start target d code =
    let H = Holds start target in
    which (nat_lt code 0x40) H _ _ (dialect-lines start target d code)
    (which (nat_lt code 0x80) H _ _ (without start target [] (λ vs. Instruction.advance_loc _) (λ vs end. tt))
    (which (nat_lt code 0xc0) H _ _ (without start target (unsigned ∷ []) (λ vs. Instruction.offset _ vs.0) (λ vs end. tt))
    (without start target [] (λ vs. Instruction.restore _) (λ vs end. tt))))

-- ---- laws

pub ends-with-block : (dialect : Dialect) (target : Target) (at : ℕ) (bytes : List ℕ) (i : Instruction)
    → EncodesInstruction dialect target at bytes i
    → EndsWithItsBlock target at (at + length bytes) i
unfolding Holds
ends-with-block dialect target at bytes i (code, front, operands, parts, first, second) =
    let inside = all-lines at target dialect code (at + length front) operands i (omega (arith, first.count)) second in
    subst (λ n. EndsWithItsBlock target at n i) (omega (arith, ap length parts, length-append front operands)) inside

pub sound-inside : (target : Target) (at : ℕ) (bytes : List ℕ) (x : Record) → IsRecord target at bytes x
    → (offset_of x ≡ at) × IsSoundRecord target (at + length bytes) x
sound-inside target at bytes x s = (record-offset target at bytes x s, sound-record target (at + length bytes) at bytes x s (omega arith))
