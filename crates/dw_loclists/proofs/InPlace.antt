-- The bytes of an expression are the section's bytes at the expression's offset.
use Rattle.std.proofs.Common.{◌≡◌, ℕ, ◌+◌, ◌≤◌, Bool, true, false, cond, List, [], ◌∷◌, ◌++◌, length, take, drop, Option, Some, None}
use Rattle.std.proofs.Common.{refl, sym, ap, subst, ◌∙◌, append_assoc, arith}
use Rattle.std.specs.Prelude.{◌==◌, map}
use Rattle.std.specs.List.{AllByRecursion, cons_option}
use Rattle.std.proofs.Math.Seq.{drop-append_seam, take-append_seam}
use Rattle.std.proofs.lemmas.List.{length-append}
use Rattle.std.proofs.lemmas.Grind.{flat_map-append}
use Rattle.dw_bytes.specs.declared.target.Target.{Target}
use Rattle.dw_bytes.specs.Operands.{OperandKind, address, unsigned, block, Block, IsBlock, Operands, Line, line, none, one, AreOperands}
use Rattle.dw_bytes.specs.Sequence.{Sequence}
use Rattle.dw_stack.specs.declared.state.Kind as stack_kind
use Rattle.dw_stack.specs.declared.state.Kind.TheVariants.{Location}
use Rattle.dw_stack.specs.Located.{LocatedExpression}
use Rattle.dw_loclists.specs.declared.stored_lists.StoredExpression.{StoredExpression}
use Rattle.dw_loclists.specs.Entries.{Entry, end_of_list, offset_pair, default_location, base_address, start_end, start_length, entry_line}
use Rattle.dw_loclists.specs.Entries.{IsEntry, expression_in}
use Rattle.dw_loclists.specs.Lists.{Loclist, IsList, Table, IsTable, AreTables, lists_of}
use Rattle.dw_loclists.specs.Locations.{location_of, expressions_of, expressions_in}
use Rattle.dw_loclists.specs.Reading.{ListSection, IsChecked, tables_in, located_in}
use Rattle.dw_loclists.specs.Stored.{IsStoredOf, AreStoredOf, lent_from, all_lent_from, IsLendable}
use Rattle.dw_loclists.proofs.Checked.{checked-tables}
use Rattle.dw_loclists.proofs.StoredLists.{nothing}
use Rattle.dw_loclists.proofs.Order.{entries-front, located-of}

-- x is a location with this target; `bytes`, which begin at offset `at` of the section, have x's
-- bytes at x's offset
pub record IsIn (target : Target) (at : ℕ) (bytes : List ℕ) (x : LocatedExpression) : Type 0 where
  pub front : List ℕ
  pub rest : List ℕ
  pub parts : bytes ≡ front ++ (x.bytes ++ rest)
  pub offset_is : x.offset ≡ at + length front
  pub kind_is : x.kind ≡ Location
  pub target_is : x.target ≡ target

abbrev AreIn : Target → ℕ → List ℕ → List LocatedExpression → Type 0
AreIn target at bytes xs = AllByRecursion (IsIn target at bytes) xs

-- an expression in some bytes is also in longer bytes that contain them
one-within : (target : Target) (at other : ℕ) (before bytes past whole : List ℕ) (x : LocatedExpression)
    → whole ≡ before ++ (bytes ++ past) → other ≡ at + length before → IsIn target other bytes x → IsIn target at whole x
one-within target at other before bytes past whole x parts at_is h = record {
  front = before ++ h.front;
  rest = h.rest ++ past;
  parts = parts ∙ (ap (λ (t : List ℕ). before ++ (t ++ past)) h.parts
      ∙ (ap (λ (t : List ℕ). before ++ t)
      (append_assoc h.front (x.bytes ++ h.rest) past ∙ ap (λ (t : List ℕ). h.front ++ t) (append_assoc x.bytes h.rest past))
      ∙ sym (append_assoc before h.front (x.bytes ++ (h.rest ++ past)))));
  offset_is = omega (arith, h.offset_is, at_is, length-append before h.front);
  kind_is = h.kind_is;
  target_is = h.target_is;
}

within : (target : Target) (at other : ℕ) (before bytes past whole : List ℕ) (xs : List LocatedExpression)
    → whole ≡ before ++ (bytes ++ past) → other ≡ at + length before → AreIn target other bytes xs → AreIn target at whole xs
within target at other before bytes past whole [] parts at_is h = tt
within target at other before bytes past whole (x ∷ xs) parts at_is h = (
  one-within target at other before bytes past whole x parts at_is h.0,
  within target at other before bytes past whole xs parts at_is h.1,
)

both : (target : Target) (at : ℕ) (bytes : List ℕ) (xs ys : List LocatedExpression) → AreIn target at bytes xs → AreIn target at bytes ys
    → AreIn target at bytes (xs ++ ys)
both target at bytes [] ys h k = k
both target at bytes (x ∷ xs) ys h k = (h.0, both target at bytes xs ys h.1 k)

-- bytes that consist of two parts also consist of these two and an empty third part
past-all : (first rest bytes : List ℕ) → bytes ≡ first ++ rest → bytes ≡ first ++ (rest ++ [])
past-all first rest bytes parts = parts ∙ ap (λ (t : List ℕ). first ++ t) (sym (nothing rest))

-- ---- the expression of an entry

block-in : (target : Target) (at : ℕ) (bytes : List ℕ) (b : Block) → IsBlock target at bytes b → IsIn target at bytes (location_of b)
block-in target at bytes b h = record {
  front = h.count;
  rest = [];
  parts = past-all h.count b.bytes bytes h.parts;
  offset_is = h.offset_is;
  kind_is = refl;
  target_is = h.target_is;
}

as-located : (e : Entry) → expressions_of (e ∷ []) ≡ located-of (expression_in e)
as-located e = from (expression_in e)
  where
    from : (b : Option Block) → map location_of (cons_option b []) ≡ located-of b
    from None = refl
    from (Some b) = refl

-- for a line of `entry_line`: if the operands include an expression, it is in their bytes, at its
-- offset
Holds : Target → Option (Line Entry) → Type 0
Holds target of = (at : ℕ) (bytes : List ℕ) (e : Entry) → AreOperands target of at bytes e
    → AreIn target at bytes (located-of (expression_in e))

which : (b : Bool) (P : Option (Line Entry) → Type 0) (x y : Option (Line Entry)) → P x → P y → P (cond b x y)
which true P x y h k = h
which false P x y h k = k

no-block : (target : Target) → Holds target (Some (none end_of_list))
unfolding Holds
no-block target at bytes e (vs, encoded, fit, is) = subst (λ x. AreIn target at bytes (located-of (expression_in x))) (sym is) tt

base-block : (target : Target) → Holds target (Some (one address base_address))
unfolding Holds
base-block target at bytes e (vs, encoded, fit, is) = subst (λ x. AreIn target at bytes (located-of (expression_in x))) (sym is) tt

default-block : (target : Target) → Holds target (Some (one block default_location))
unfolding Holds
default-block target at bytes e (vs, (first, rest, parts, is_block, ended), fit, is) =
    subst (λ x. AreIn target at bytes (located-of (expression_in x))) (sym is) (
      one-within target at at [] first rest bytes (location_of vs.0) parts (omega arith) (block-in target at first vs.0 is_block),
      tt,
    )

third-block : (target : Target) (first second : OperandKind) (make : Operands (first ∷ second ∷ block ∷ []) → Entry)
    → ((vs : Operands (first ∷ second ∷ block ∷ [])) → expression_in (make vs) ≡ Some vs.1.1.0)
    → Holds target (Some (line (first ∷ second ∷ block ∷ []) make))
unfolding Holds
third-block target first second make has at bytes e (vs, (a, ra, pa, ia, (b, rb, pb, ib, (c, rc, pc, ic, ended))), fit, is) =
    let parts : bytes ≡ (a ++ b) ++ (c ++ rc) =
    pa ∙ (ap (λ (t : List ℕ). a ++ t) (pb ∙ ap (λ (t : List ℕ). b ++ t) pc) ∙ sym (append_assoc a b (c ++ rc))) in
    subst (λ x. AreIn target at bytes (located-of (expression_in x))) (sym is)
    (subst (λ o. AreIn target at bytes (located-of o)) (sym (has vs)) (
      one-within target at (at + length a + length b) (a ++ b) c rc bytes (location_of vs.1.1.0) parts (omega (arith, length-append a b))
          (block-in target (at + length a + length b) c vs.1.1.0 ic),
      tt,
    ))

unknown-block : (target : Target) → Holds target None
unfolding Holds
unknown-block target at bytes e h = absurd h

all-lines : (target : Target) (code : ℕ) → Holds target (entry_line code)
all-lines target code =
    which (code == 0x00) (Holds target) _ _ (no-block target)
    (which (code == 0x04) (Holds target) _ _
    (third-block target unsigned unsigned (λ vs. offset_pair vs.0 vs.1.0 vs.1.1.0) (λ vs. refl))
    (which (code == 0x05) (Holds target) _ _ (default-block target)
    (which (code == 0x06) (Holds target) _ _ (base-block target)
    (which (code == 0x07) (Holds target) _ _
    (third-block target address address (λ vs. start_end vs.0 vs.1.0 vs.1.1.0) (λ vs. refl))
    (which (code == 0x08) (Holds target) _ _
    (third-block target address unsigned (λ vs. start_length vs.0 vs.1.0 vs.1.1.0) (λ vs. refl))
    (unknown-block target))))))

entry-in : (target : Target) (at : ℕ) (bytes : List ℕ) (e : Entry) → IsEntry target at bytes e
    → AreIn target at bytes (expressions_of (e ∷ []))
unfolding Holds
entry-in target at bytes e (code, front, operands, parts, first, second) =
    subst (AreIn target at bytes) (sym (as-located e))
    (within target at (at + length front) front operands [] bytes (located-of (expression_in e))
    (past-all front operands bytes parts) refl
    (all-lines target code (at + length front) operands e second))

-- ---- the expressions of lists and of tables

entries-in : (target : Target) (at : ℕ) (bytes : List ℕ) (es others : List Entry) → Sequence (IsEntry target) at bytes (es ++ others)
    → AreIn target at bytes (expressions_of es)
entries-in target at bytes [] others h = tt
entries-in target at bytes (e ∷ es) others (first, rest, parts, here, past) =
    subst (AreIn target at bytes) (sym (entries-front e es))
    (both target at bytes (expressions_of (e ∷ [])) (expressions_of es)
    (within target at at [] first rest bytes (expressions_of (e ∷ [])) parts (omega arith) (entry-in target at first e here))
    (within target at (at + length first) first rest [] bytes (expressions_of es) (past-all first rest bytes parts) refl
    (entries-in target (at + length first) rest es others past)))

lists-in : (target : Target) (at : ℕ) (bytes : List ℕ) (ls : List Loclist) → Sequence (IsList target) at bytes ls
    → AreIn target at bytes (expressions_in ls)
lists-in target at bytes [] h = tt
lists-in target at bytes (l ∷ ls) (first, rest, parts, here, past) =
    both target at bytes (expressions_of l.entries) (expressions_in ls)
    (within target at at [] first rest bytes (expressions_of l.entries) parts (omega arith)
    (entries-in target at first l.entries (end_of_list ∷ []) here.encoded))
    (within target at (at + length first) first rest [] bytes (expressions_in ls) (past-all first rest bytes parts) refl
    (lists-in target (at + length first) rest ls past))

table-in : (target : Target) (at : ℕ) (bytes : List ℕ) (t : Table) → IsTable target at bytes t
    → AreIn target at bytes (expressions_in t.lists)
table-in target at bytes t s =
    let before = s.front ++ (s.header ++ s.offsets) in
    let parts : bytes ≡ before ++ s.lists =
    s.parts ∙ (ap (λ (u : List ℕ). s.front ++ u) (sym (append_assoc s.header s.offsets s.lists))
    ∙ sym (append_assoc s.front (s.header ++ s.offsets) s.lists)) in
    within target at (t.array + length s.offsets) before s.lists [] bytes (expressions_in t.lists) (past-all before s.lists bytes parts)
    (omega (arith, s.array_is, length-append s.front (s.header ++ s.offsets), length-append s.header s.offsets))
    (lists-in target (t.array + length s.offsets) s.lists t.lists s.lists_are)

tables-in : (target : Target) (at : ℕ) (bytes : List ℕ) (ts : List Table) → AreTables target at bytes ts
    → AreIn target at bytes (expressions_in (lists_of ts))
tables-in target at bytes [] h = tt
tables-in target at bytes (t ∷ ts) (first, rest, parts, here, past) =
    subst (AreIn target at bytes) (sym (flat_map-append (λ (l : Loclist). expressions_of l.entries) t.lists (lists_of ts)))
    (both target at bytes (expressions_in t.lists) (expressions_in (lists_of ts))
    (within target at at [] first rest bytes (expressions_in t.lists) parts (omega arith) (table-in target at first t here))
    (within target at (at + length first) first rest [] bytes (expressions_in (lists_of ts)) (past-all first rest bytes parts) refl
    (tables-in target (at + length first) rest ts past)))

-- ---- expressions that are borrowed from a section

-- all bytes of the expression are inside the section
inside : (target : Target) (section : List ℕ) (x : LocatedExpression) → IsIn target 0 section x → x.offset + length x.bytes ≤ length section
inside target section x h =
    omega (arith, h.offset_is, ap length h.parts, length-append h.front (x.bytes ++ h.rest), length-append x.bytes h.rest)

bytes-there : (target : Target) (section : List ℕ) (x : LocatedExpression) → IsIn target 0 section x
    → take (length x.bytes) (drop x.offset section) ≡ x.bytes
bytes-there target section x h =
    let at : x.offset ≡ length h.front = omega (arith, h.offset_is) in
    ap (λ n. take (length x.bytes) (drop n section)) at
    ∙ (ap (λ (t : List ℕ). take (length x.bytes) (drop (length h.front) t)) h.parts
    ∙ (ap (take (length x.bytes)) (drop-append_seam h.front (x.bytes ++ h.rest)) ∙ take-append_seam x.bytes h.rest))

abbrev located-as : ℕ → stack_kind.Kind → Target → List ℕ → LocatedExpression
located-as offset kind target bytes = record { offset = offset; kind = kind; target = target; bytes = bytes }

-- borrowing a stored expression from the section gives the expression that was stored
lent-is : (target : Target) (section : List ℕ) (x : LocatedExpression) (k : StoredExpression) → IsIn target 0 section x → IsStoredOf x k
    → lent_from target section k ≡ x
lent-is target section x k h kept =
    let bytes : take k.length (drop k.offset section) ≡ x.bytes =
    ap (λ n. take n (drop k.offset section)) kept.length_is
    ∙ (ap (λ n. take (length x.bytes) (drop n section)) kept.offset_is ∙ bytes-there target section x h) in
    ap (λ (xs : List ℕ). located-as k.offset Location target xs) bytes
    ∙ (ap (λ n. located-as n Location target x.bytes) kept.offset_is
    ∙ (ap (λ (t : Target). located-as x.offset Location t x.bytes) (sym h.target_is)
    ∙ ap (λ (d : stack_kind.Kind). located-as x.offset d x.target x.bytes) (sym h.kind_is)))

one-lendable : (target : Target) (section : List ℕ) (x : LocatedExpression) (k : StoredExpression) → IsIn target 0 section x → IsStoredOf x k
    → IsLendable target section k
one-lendable target section x k h kept = record {
  inside = omega (arith, inside target section x h, kept.offset_is, kept.length_is);
  kept = subst (λ (y : LocatedExpression). IsStoredOf y k) (sym (lent-is target section x k h kept)) kept;
}

each-lendable : (target : Target) (section : List ℕ) (xs : List LocatedExpression) (ks : List StoredExpression) → AreIn target 0 section xs
    → AreStoredOf xs ks → AllByRecursion (IsLendable target section) ks
each-lendable target section [] [] h kept = tt
each-lendable target section [] (k ∷ ks) h kept = absurd kept
each-lendable target section (x ∷ xs) [] h kept = tt
each-lendable target section (x ∷ xs) (k ∷ ks) h kept =
    (one-lendable target section x k h.0 kept.0, each-lendable target section xs ks h.1 kept.1)

each-lent : (target : Target) (section : List ℕ) (xs : List LocatedExpression) (ks : List StoredExpression) → AreIn target 0 section xs
    → AreStoredOf xs ks → all_lent_from target section ks ≡ xs
each-lent target section [] [] h kept = refl
each-lent target section [] (k ∷ ks) h kept = absurd kept
each-lent target section (x ∷ xs) [] h kept = absurd kept
each-lent target section (x ∷ xs) (k ∷ ks) h kept =
    ap (λ (y : LocatedExpression). y ∷ all_lent_from target section ks) (lent-is target section x k h.0 kept.0)
    ∙ ap (λ (ys : List LocatedExpression). x ∷ ys) (each-lent target section xs ks h.1 kept.1)

all-in : (s : ListSection) → IsChecked s → AreIn s.target 0 s.section (located_in s)
all-in s checked = tables-in s.target 0 s.section (tables_in s) (checked-tables s checked)

-- all stored expressions of a checked section can be borrowed from the section
pub all-lendable : (s : ListSection) (ks : List StoredExpression) → IsChecked s → AreStoredOf (located_in s) ks
    → AllByRecursion (IsLendable s.target s.section) ks
all-lendable s ks checked kept = each-lendable s.target s.section (located_in s) ks (all-in s checked) kept

-- borrowing all stored expressions of a checked section gives the section's expressions
pub all-lent : (s : ListSection) (ks : List StoredExpression) → IsChecked s → AreStoredOf (located_in s) ks
    → all_lent_from s.target s.section ks ≡ located_in s
all-lent s ks checked kept = each-lent s.target s.section (located_in s) ks (all-in s checked) kept
