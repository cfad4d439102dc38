-- A CIE's program by the number of its negate_ra_states.
use Rattle.std.proofs.Common.{◌≡◌, ◌∙◌, ℕ, Bool, true, false, cond, List, [], ◌∷◌, None, Result, Ok, Err, refl, sym}
use Rattle.std.specs.Prelude.{not}
use Rattle.dw_bytes.specs.declared.fault.Fault.{Fault}
use Rattle.dw_frame.specs.Codes.{instructions_of}
use Rattle.dw_frame.specs.Instructions.{Instruction, negate_ra_state}
use Rattle.dw_frame.specs.Records.{Cie}
use Rattle.dw_rules.specs.ProgramFault.{cie_fault}
use Rattle.dw_signed_rows.specs.SignedPrograms.{is_negated}
use Rattle.dw_signed_rows.specs.SignedRows.{instructions_in, signed_by_cie}
use Rattle.dw_signed_rows.specs.Signatures.{turned_by}
use Rattle.dw_signed_rows.proofs.Programs.{IsLeaving, leaving-begins, leaving-ends, leaving-on}

-- turned around once more
turned-again : (n b : Bool) → cond n (not (not b)) (not b) ≡ cond (not n) (not b) b
turned-again true true = refl
turned-again true false = refl
turned-again false b = refl

one-more : (i : Instruction) (rest : List Instruction) (b : Bool)
    → cond (is_negated rest) (not (turned_by i b)) (turned_by i b) ≡ cond (is_negated (i ∷ rest)) (not b) b
one-more negate_ra_state rest b = turned-again (is_negated rest) b
one-more _ rest b = refl

negated-from : (c : Cie) (items : List (Result (ℕ × Instruction) Fault)) (b : Bool) → IsLeaving c items b
    → signed_by_cie c ≡ cond (is_negated (instructions_in items)) (not b) b
negated-from c [] b l = sym (leaving-ends c [] b l refl)
negated-from c (Err fault ∷ items) b l = sym (leaving-ends c (Err fault ∷ items) b l refl)
negated-from c (Ok (at, i) ∷ rest) b l =
    negated-from c rest (turned_by i b) (leaving-on c at i rest b l) ∙ one-more i (instructions_in rest) b

pub negated-cie : (c : Cie) → cie_fault c ≡ None → signed_by_cie c ≡ is_negated (instructions_in (instructions_of c.program))
negated-cie c none =
    negated-from c (instructions_of c.program) false (leaving-begins c none) ∙ same (is_negated (instructions_in (instructions_of c.program)))
  where
    same : (b : Bool) → cond b (not false) false ≡ b
    same true = refl
    same false = refl
