-- The expressions of programs are in order of offset, and looking up an expression's offset finds
-- that expression.
use Rattle.std.proofs.Common.{◌≡◌, ◌≢◌, ℕ, zero, suc, ◌+◌, ◌<◌, ◌≤◌, List, [], ◌∷◌, ◌++◌, length, Some}
use Rattle.std.proofs.Common.{Result, Ok, Err, Contains, refl, sym, ap, subst, arith, inl, inr}
use Rattle.std.specs.List.{AllByRecursion}
use Rattle.std.proofs.lemmas.Bool.{cases_lt}
use Rattle.std.proofs.lemmas.List.{length-append}
use Rattle.std.proofs.lemmas.List.Elements.{Contains-append_cases}
use Rattle.dw_bytes.specs.declared.target.Target.{Target}
use Rattle.dw_bytes.specs.declared.fault.Fault.{Fault}
use Rattle.dw_bytes.specs.Answers.{values_in}
use Rattle.dw_bytes.specs.Reading.{ReadPosition}
use Rattle.dw_bytes.proofs.Bounds.{end-of}
use Rattle.dw_frame.specs.declared.dialect.Dialect.{Dialect}
use Rattle.dw_frame.specs.Dialects.{ProgramPosition, bytes_at, in_dialect}
use Rattle.dw_frame.specs.Instructions.{Instruction}
use Rattle.dw_frame.specs.Records.{Record, cie_record, fde_record, cies_among, fdes_among}
use Rattle.dw_frame.specs.Codes.{instruction_at, instructions_of}
use Rattle.dw_frame.specs.Bounds.{ArePlaced, Ascends, EndsWithItsBlock, LiesIn}
use Rattle.dw_frame.proofs.Exact.{some-bytes}
use Rattle.dw_frame.proofs.EachInstruction.{exact-instruction, next-instruction, next-fault, no-instruction}
use Rattle.dw_frame.proofs.Blocks.{ends-with-block}
use Rattle.dw_stack.specs.Located.{LocatedExpression}
use Rattle.dw_rules.specs.Expressions.{expressions_in, expressions_of, cie_expressions, fde_expressions, frame_expressions, expression_at}
use Rattle.dw_rules.proofs.ExpressionsByOffset.{at-offset, no-expression, found-in-parts}

-- Expressions with the same target that follow each other: the first begins after `low`, each
-- begins after the end of the one before it, and none ends after `high`.
abbrev pub Rise : Target → ℕ → ℕ → List LocatedExpression → Type 0
Rise target low high [] = low ≤ high
Rise target low high (e ∷ es) = (low < e.offset) × (e.target ≡ target) × Rise target (e.offset + length e.bytes) high es

-- the expression has this target, begins after `low`, and doesn't end after `high`
pub record IsInside (target : Target) (low high : ℕ) (e : LocatedExpression) : Type 0 where
  pub past : low < e.offset
  pub ends : e.offset + length e.bytes ≤ high
  pub target_is : e.target ≡ target

rise-earlier : (target : Target) (low mid high : ℕ) (es : List LocatedExpression) → low ≤ mid → Rise target mid high es
    → Rise target low high es
rise-earlier target low mid high [] le up = omega arith
rise-earlier target low mid high (e ∷ es) le up = (omega (arith, up.0), up.1, up.2)

rise-later : (target : Target) (low mid high : ℕ) (es : List LocatedExpression) → mid ≤ high → Rise target low mid es
    → Rise target low high es
rise-later target low mid high [] le up = omega arith
rise-later target low mid high (e ∷ es) le up = (up.0, up.1, rise-later target (e.offset + length e.bytes) mid high es le up.2)

rise-bounds : (target : Target) (low high : ℕ) (es : List LocatedExpression) → Rise target low high es → low ≤ high
rise-bounds target low high [] up = up
rise-bounds target low high (e ∷ es) up = let rest = rise-bounds target (e.offset + length e.bytes) high es up.2 in
    omega (arith, up.0, rest)

rise-append : (target : Target) (low mid high : ℕ) (es gs : List LocatedExpression) → Rise target low mid es → Rise target mid high gs
    → Rise target low high (es ++ gs)
rise-append target low mid high [] gs up next = rise-earlier target low mid high gs up next
rise-append target low mid high (e ∷ es) gs up next =
    (up.0, up.1, rise-append target (e.offset + length e.bytes) mid high es gs up.2 next)

rise-same : (target other : Target) (low mid high end : ℕ) (es : List LocatedExpression) → other ≡ target → mid ≡ low → end ≡ high
    → Rise other mid end es → Rise target low high es
rise-same target other low mid high end es t l h up =
    subst (λ u. Rise u low high es) t (subst (λ n. Rise other n high es) l (subst (λ n. Rise other mid n es) h up))

all-above : (target : Target) (n low high : ℕ) (es : List LocatedExpression) → n ≤ low → Rise target low high es
    → AllByRecursion (λ e. n < e.offset) es
all-above target n low high [] le up = tt
all-above target n low high (e ∷ es) le up =
    (omega (arith, up.0), all-above target n (e.offset + length e.bytes) high es (omega (arith, up.0)) up.2)

pub rise-ascends : (target : Target) (low high : ℕ) (es : List LocatedExpression) → Rise target low high es → Ascends at-offset es
rise-ascends target low high [] up = tt
rise-ascends target low high (e ∷ es) up = (
  all-above target e.offset (e.offset + length e.bytes) high es (omega arith) up.2,
  rise-ascends target (e.offset + length e.bytes) high es up.2,
)

pub rise-inside : (target : Target) (low high : ℕ) (es : List LocatedExpression) → Rise target low high es → (e : LocatedExpression)
    → Contains es e → IsInside target low high e
rise-inside target low high [] up e (k, lt, is) = absurd (omega arith)
rise-inside target low high (g ∷ es) up e (zero, lt, is) =
    subst (IsInside target low high) is
    (record { past = up.0; ends = rise-bounds target (g.offset + length g.bytes) high es up.2; target_is = up.1 })
rise-inside target low high (g ∷ es) up e (suc k, lt, is) =
    let h = rise-inside target (g.offset + length g.bytes) high es up.2 e (k, omega arith, is) in
    record { past = omega (arith, up.0, h.past); ends = h.ends; target_is = h.target_is }

-- ---- programs

abbrev read-of : List (Result (ℕ × Instruction) Fault) → List LocatedExpression
read-of items = expressions_in (values_in items)

-- if the expressions of some instructions follow each other, they still do with one more
-- instruction in front
front-rises : (target : Target) (at end high : ℕ) (i : Instruction) (items : List (ℕ × Instruction)) → at < end
    → EndsWithItsBlock target at end i → Rise target end high (expressions_in items)
    → Rise target at high (expressions_in ((at, i) ∷ items))
front-rises target at end high (Instruction.def_cfa_expression b) items lt own up =
    (own.past, own.target_is, subst (λ n. Rise target n high (expressions_in items)) (sym own.ends) up)
front-rises target at end high (Instruction.expression r b) items lt own up =
    (own.past, own.target_is, subst (λ n. Rise target n high (expressions_in items)) (sym own.ends) up)
front-rises target at end high (Instruction.val_expression r b) items lt own up =
    (own.past, own.target_is, subst (λ n. Rise target n high (expressions_in items)) (sym own.ends) up)
front-rises target at end high _ items lt own up = rise-earlier target at end high (expressions_in items) (omega arith) up

abbrev ProgramRises : Dialect → ReadPosition → Type 0
ProgramRises d r = Rise r.target r.position (end-of r) (expressions_of (in_dialect d r))

next-rises : (d : Dialect) (r : ReadPosition) → ((after : ReadPosition) → length after.rest < length r.rest → ProgramRises d after)
    → 0 < length r.rest → (x : Result (Instruction × ReadPosition) Fault) → instruction_at d r ≡ x → ProgramRises d r
next-rises d r past some (Ok x) is =
    let after = x.1 in
    let next = (exact-instruction d r).found x.0 after is in
    let long = length-append next.bytes after.rest in
    let taken = some-bytes d r.target r.position next.bytes x.0 next.encoded in
    let up =
    rise-same r.target after.target (r.position + length next.bytes) after.position (end-of r) (end-of after) (expressions_of (in_dialect d after))
    next.target next.position (omega (arith, next.position, ap length next.parts, long))
    (past after (omega (arith, taken, ap length next.parts, long))) in
    subst (λ items. Rise r.target r.position (end-of r) (read-of items)) (sym (next-instruction d r x.0 after is))
    (front-rises r.target r.position (r.position + length next.bytes) (end-of r) x.0 (values_in (instructions_of (in_dialect d after)))
    (omega (arith, taken)) (ends-with-block d r.target r.position next.bytes x.0 next.encoded) up)
next-rises d r past some (Err fault) is =
    subst (λ items. Rise r.target r.position (end-of r) (read-of items)) (sym (next-fault d r fault some is)) (omega arith)

program-rises-by : (n : ℕ) (d : Dialect) (r : ReadPosition) → length r.rest ≤ n → ProgramRises d r
program-rises-by zero d r le =
    subst (λ items. Rise r.target r.position (end-of r) (read-of items)) (sym (no-instruction (in_dialect d r) (omega arith))) (omega arith)
program-rises-by (suc n) d r le = elim (cases_lt 0 (length r.rest)) [
  | inr none ↦ subst (λ items. Rise r.target r.position (end-of r) (read-of items)) (sym (no-instruction (in_dialect d r) (omega arith))) (omega arith)
  | inl some ↦ next-rises d r (λ after lt. program-rises-by n d after (omega arith)) some (instruction_at d r) refl
]

-- the expressions of a program follow each other, between its first byte and its end
pub program-rises : (p : ProgramPosition) → Rise p.target p.position (p.position + length p.rest) (expressions_of p)
program-rises p = program-rises-by (length p.rest) p.dialect (bytes_at p) (omega arith)

pub program-inside : (r : ProgramPosition) (e : LocatedExpression) → Contains (expressions_of r) e
    → IsInside r.target r.position (r.position + length r.rest) e
program-inside r e among = rise-inside r.target r.position (end-of (bytes_at r)) (expressions_of r) (program-rises r) e among

-- ---- records

-- the expressions of a record's program follow each other, between the record's offset and its end
own-rises : (target : Target) (at offset end : ℕ) (program : ProgramPosition) → at ≤ offset → LiesIn target end offset program
    → Rise target at end (expressions_of program)
own-rises target at offset end program low lies =
    rise-earlier target at program.position end (expressions_of program) (omega (arith, low, lies.begins))
    (rise-later target program.position (end-of (bytes_at program)) end (expressions_of program) lies.ends
    (rise-same target program.target program.position program.position (end-of (bytes_at program)) (end-of (bytes_at program))
    (expressions_of program) lies.target_is refl refl (program-rises program)))

cies-rise : (target : Target) (at end : ℕ) (records : List Record) → ArePlaced target at end records
    → Rise target at end (cie_expressions (cies_among records))
cies-rise target at end [] placed = placed
cies-rise target at end (cie_record c ∷ records) (next, low, own, others) =
    rise-append target at next end (expressions_of c.program) (cie_expressions (cies_among records))
    (own-rises target at c.offset next c.program low own.program) (cies-rise target next end records others)
cies-rise target at end (fde_record f ∷ records) (next, low, own, others) =
    rise-earlier target at next end (cie_expressions (cies_among records)) (omega (arith, low, own.program.begins, own.program.ends))
    (cies-rise target next end records others)

fdes-rise : (target : Target) (at end : ℕ) (records : List Record) → ArePlaced target at end records
    → Rise target at end (fde_expressions (fdes_among records))
fdes-rise target at end [] placed = placed
fdes-rise target at end (fde_record f ∷ records) (next, low, own, others) =
    rise-append target at next end (expressions_of f.program) (fde_expressions (fdes_among records))
    (own-rises target at f.offset next f.program low own.program) (fdes-rise target next end records others)
fdes-rise target at end (cie_record c ∷ records) (next, low, own, others) =
    rise-earlier target at next end (fde_expressions (fdes_among records)) (omega (arith, low, own.program.begins, own.program.ends))
    (fdes-rise target next end records others)

-- no expression of a CIE begins at the same offset as one of an FDE
apart : (target : Target) (at end : ℕ) (records : List Record) → ArePlaced target at end records
    → (e g : LocatedExpression) → Contains (cie_expressions (cies_among records)) e → Contains (fde_expressions (fdes_among records)) g
    → e.offset ≢ g.offset
apart target at end [] placed e g e_in g_in = no-expression e e_in
apart target at end (cie_record c ∷ records) (next, low, own_is, others) e g e_in g_in =
    elim (Contains-append_cases (expressions_of c.program) (cie_expressions (cies_among records)) e e_in) [
      | inl own ↦
          let before = program-inside c.program e own in
          let past = rise-inside target next end (fde_expressions (fdes_among records)) (fdes-rise target next end records others) g g_in in
          λ same. omega (arith, same, before.ends, own_is.program.ends, past.past)
      | inr later ↦ apart target next end records others e g later g_in
    ]
apart target at end (fde_record f ∷ records) (next, low, own_is, others) e g e_in g_in =
    elim (Contains-append_cases (expressions_of f.program) (fde_expressions (fdes_among records)) g g_in) [
      | inl own ↦
          let before = program-inside f.program g own in
          let past = rise-inside target next end (cie_expressions (cies_among records)) (cies-rise target next end records others) e e_in in
          λ same. omega (arith, same, before.ends, own_is.program.ends, past.past)
      | inr later ↦ apart target next end records others e g e_in later
    ]

-- ---- sections in which records lie

pub cie-expressions-ascend : (target : Target) (end : ℕ) (records : List Record) → ArePlaced target 0 end records
    → Ascends at-offset (cie_expressions (cies_among records))
cie-expressions-ascend target end records placed =
    rise-ascends target 0 end (cie_expressions (cies_among records)) (cies-rise target 0 end records placed)

pub fde-expressions-ascend : (target : Target) (end : ℕ) (records : List Record) → ArePlaced target 0 end records
    → Ascends at-offset (fde_expressions (fdes_among records))
fde-expressions-ascend target end records placed =
    rise-ascends target 0 end (fde_expressions (fdes_among records)) (fdes-rise target 0 end records placed)

-- the bytes of each expression of a section are inside the section
pub expression-inside : (target : Target) (end : ℕ) (records : List Record) → ArePlaced target 0 end records → (e : LocatedExpression)
    → Contains (frame_expressions (cies_among records) (fdes_among records)) e → IsInside target 0 end e
expression-inside target end records placed e among =
    let cies = cie_expressions (cies_among records) in
    let fdes = fde_expressions (fdes_among records) in
    elim (Contains-append_cases cies fdes e among) [
      | inl c ↦ rise-inside target 0 end cies (cies-rise target 0 end records placed) e c
      | inr f ↦ rise-inside target 0 end fdes (fdes-rise target 0 end records placed) e f
    ]

-- each expression of a section is found at its offset
pub expression-found : (target : Target) (end : ℕ) (records : List Record) → ArePlaced target 0 end records → (e : LocatedExpression)
    → Contains (frame_expressions (cies_among records) (fdes_among records)) e
    → expression_at (frame_expressions (cies_among records) (fdes_among records)) e.offset ≡ Some e
expression-found target end records placed e among =
    found-in-parts (cie_expressions (cies_among records)) (fde_expressions (fdes_among records))
    (cie-expressions-ascend target end records placed) (fde-expressions-ascend target end records placed)
    (apart target 0 end records placed) e among
