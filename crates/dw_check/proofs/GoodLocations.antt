-- Each expression of a list in an accepted section can be shown (`IsShowable`): it has fewer than
-- 2^32 bytes and passes the check, and its target has the section's address size.
use Rattle.std.proofs.Common.{◌≡◌, ℕ, ◌+◌, ◌^◌, ◌<◌, Bool, true, false, cond, List, [], ◌∷◌, ◌++◌, length, Contains, Option, Some, None}
use Rattle.std.proofs.Common.{refl, sym, ap, subst, ◌∙◌, arith}
use Rattle.std.specs.Prelude.{◌==◌, map, filter_map}
use Rattle.std.specs.List.{AllByRecursion, cons_option}
use Rattle.std.proofs.lemmas.List.{length-append, map-append}
use Rattle.std.proofs.lemmas.List.Elements.{filter_map-append}
use Rattle.dw_bytes.specs.declared.target.Target.{Target}
use Rattle.dw_bytes.specs.Operands.{OperandKind, unsigned, block, Block, Operands, Line, line, none, one, AreOperands}
use Rattle.dw_bytes.specs.Operands as operands
use Rattle.dw_bytes.specs.Sequence.{Sequence}
use Rattle.dw_loclists.specs.Entries.{Entry, end_of_list, offset_pair, default_location, base_address, start_end, start_length}
use Rattle.dw_loclists.specs.Entries.{entry_line, IsEntry, is_default, expression_in, IsGoodLocation}
use Rattle.dw_loclists.specs.Bounds.{AllWithin}
use Rattle.dw_loclists.specs.Lists.{Loclist}
use Rattle.dw_loclists.specs.Locations.{location_of, expressions_of, base_after, holds, held_by, bounded_at, default_of, defaults_in}
use Rattle.dw_loclists.specs.Locations.{or_else_all, locations_of}
use Rattle.dw_stack.specs.Located.{LocatedExpression}
use Rattle.dw_loclists.specs.Reading.{ListSection, IsChecked, tables_in, lists_in}
use Rattle.dw_loclists.proofs.Checked.{checked-tables}
use Rattle.dw_loclists.proofs.EachEntry.{entry-within}
use Rattle.dw_loclists.proofs.Located.{among-tables}
use Rattle.dw_check.specs.Lookups.{IsShowable}

-- ---- the target of an entry's expression

abbrev AllUnder : Target → Option Block → Type 0
AllUnder target None = Unit {0}
AllUnder target (Some b) = b.target ≡ target

-- `of` is a line of the table of entries, or None if no line has the entry's code. An entry with
-- the operands in that line has no expression, or has an expression with the target `target`.
Under : Target → Option (Line Entry) → Type 0
Under target of = (at : ℕ) (bytes : List ℕ) (e : Entry) → AreOperands target of at bytes e → AllUnder target (expression_in e)

which : (b : Bool) (P : Option (Line Entry) → Type 0) (x y : Option (Line Entry)) → P x → P y → P (cond b x y)
which true P x y h k = h
which false P x y h k = k

no-block : (target : Target) → Under target (Some (none end_of_list))
unfolding Under
no-block target at bytes e (vs, encoded, fit, is) = subst (λ x. AllUnder target (expression_in x)) (sym is) tt

base-block : (target : Target) → Under target (Some (one operands.address base_address))
unfolding Under
base-block target at bytes e (vs, encoded, fit, is) = subst (λ x. AllUnder target (expression_in x)) (sym is) tt

default-block : (target : Target) → Under target (Some (one block default_location))
unfolding Under
default-block target at bytes e (vs, (first, rest, parts, is_block, ended), fit, is) =
    subst (λ x. AllUnder target (expression_in x)) (sym is) is_block.target_is

third-block : (target : Target) (first second : OperandKind) (make : Operands (first ∷ second ∷ block ∷ []) → Entry)
    → ((vs : Operands (first ∷ second ∷ block ∷ [])) → expression_in (make vs) ≡ Some vs.1.1.0)
    → Under target (Some (line (first ∷ second ∷ block ∷ []) make))
unfolding Under
third-block target first second make has at bytes e (vs, (a, ra, pa, ia, (b, rb, pb, ib, (c, rc, pc, ic, ended))), fit, is) =
    subst (λ x. AllUnder target (expression_in x)) (sym is) (subst (AllUnder target) (sym (has vs)) ic.target_is)

unknown-block : (target : Target) → Under target None
unfolding Under
unknown-block target at bytes e h = absurd h

all-lines : (target : Target) (code : ℕ) → Under target (entry_line code)
all-lines target code =
    which (code == 0x00) (Under target) _ _ (no-block target)
    (which (code == 0x04) (Under target) _ _
    (third-block target unsigned unsigned (λ vs. offset_pair vs.0 vs.1.0 vs.1.1.0) (λ vs. refl))
    (which (code == 0x05) (Under target) _ _ (default-block target)
    (which (code == 0x06) (Under target) _ _ (base-block target)
    (which (code == 0x07) (Under target) _ _
    (third-block target operands.address operands.address (λ vs. start_end vs.0 vs.1.0 vs.1.1.0) (λ vs. refl))
    (which (code == 0x08) (Under target) _ _
    (third-block target operands.address unsigned (λ vs. start_length vs.0 vs.1.0 vs.1.1.0) (λ vs. refl))
    (unknown-block target))))))

entry-under : (target : Target) (at : ℕ) (bytes : List ℕ) (e : Entry) → IsEntry target at bytes e → AllUnder target (expression_in e)
unfolding Under
entry-under target at bytes e (code, front, operands, parts, first, second) = all-lines target code (at + length front) operands e second

-- ---- the expressions of entries

abbrev AllShowable : Target → List LocatedExpression → Type 0
AllShowable target xs = AllByRecursion (IsShowable target.address_size) xs

both : (target : Target) (xs ys : List LocatedExpression) → AllShowable target xs → AllShowable target ys → AllShowable target (xs ++ ys)
both target [] ys h k = k
both target (x ∷ xs) ys h k = (h.0, both target xs ys h.1 k)

-- the expression of an entry with its place in the section; an empty list if the entry has none
abbrev located-of : Option Block → List LocatedExpression
located-of None = []
located-of (Some b) = location_of b ∷ []

entries-front : (e : Entry) (es : List Entry) → expressions_of (e ∷ es) ≡ expressions_of (e ∷ []) ++ expressions_of es
entries-front e es = ap (map location_of) (filter_map-append expression_in (e ∷ []) es)
    ∙ map-append location_of (filter_map expression_in (e ∷ [])) (filter_map expression_in es)

expressions-as : (e : Entry) → expressions_of (e ∷ []) ≡ located-of (expression_in e)
expressions-as e = from (expression_in e)
  where
    from : (b : Option Block) → map location_of (cons_option b []) ≡ located-of b
    from None = refl
    from (Some b) = refl

block-shows : (target : Target) (at end : ℕ) (b : Option Block) → AllWithin target at end b → end < 2 ^ 32 → AllUnder target b
    → IsGoodLocation b → AllShowable target (located-of b)
block-shows target at end None within short under good = tt
block-shows target at end (Some b) within short under good = (
  record { short = omega (arith, within.ends); good = good; size_is = ap (λ (t : Target). t.address_size) (sym under) },
  tt,
)

entries-show : (target : Target) (at : ℕ) (bytes : List ℕ) (es others : List Entry) → Sequence (IsEntry target) at bytes (es ++ others)
    → AllByRecursion (λ e. IsGoodLocation (expression_in e)) es → at + length bytes < 2 ^ 32 → AllShowable target (expressions_of es)
entries-show target at bytes [] others encoded good short = tt
entries-show target at bytes (e ∷ es) others (first, rest, parts, here, past) good short =
    let long : length bytes ≡ length first + length rest = ap length parts ∙ length-append first rest in
    let own : AllShowable target (expressions_of (e ∷ [])) =
    subst (AllShowable target) (sym (expressions-as e))
    (block-shows target at (at + length first) (expression_in e) (entry-within target at first e here) (omega (arith, long, short))
    (entry-under target at first e here) good.0) in
    subst (AllShowable target) (sym (entries-front e es))
    (both target (expressions_of (e ∷ [])) (expressions_of es) own
    (entries-show target (at + length first) rest es others past good.1 (omega (arith, long, short))))

-- ---- the expressions that apply at an address

kept : (target : Target) (b : Bool) (xs : List LocatedExpression) → AllShowable target xs → AllShowable target (cond b xs [])
kept target true xs h = h
kept target false xs h = tt

front : (target : Target) (xs ys : List LocatedExpression) → AllShowable target (xs ++ ys) → AllShowable target xs
front target [] ys h = tt
front target (x ∷ xs) ys h = (h.0, front target xs ys h.1)

past : (target : Target) (xs ys : List LocatedExpression) → AllShowable target (xs ++ ys) → AllShowable target ys
past target [] ys h = h
past target (x ∷ xs) ys h = past target xs ys h.1

-- if all expressions of e ∷ es can be shown, then the expression of e (if any) can be shown, and
-- all expressions of es can be shown
split : (target : Target) (e : Entry) (es : List Entry) → AllShowable target (expressions_of (e ∷ es))
    → AllShowable target (expressions_of (e ∷ [])) × AllShowable target (expressions_of es)
split target e es h = let all = subst (AllShowable target) (entries-front e es) h in (
  front target (expressions_of (e ∷ [])) (expressions_of es) all,
  past target (expressions_of (e ∷ [])) (expressions_of es) all,
)

bounded-show : (target : Target) (base address : ℕ) (es : List Entry) → AllShowable target (expressions_of es)
    → AllShowable target (bounded_at base address es)
bounded-show target base address [] h = tt
bounded-show target base address (e ∷ es) h =
    let parts = split target e es h in
    let next = base_after base (e ∷ []) in
    both target (held_by base address e) (bounded_at next address es)
    (kept target (holds base address e) (expressions_of (e ∷ [])) parts.0) (bounded-show target next address es parts.1)

defaults-show : (target : Target) (es : List Entry) → AllShowable target (expressions_of es) → AllShowable target (defaults_in es)
defaults-show target [] h = tt
defaults-show target (e ∷ es) h =
    let parts = split target e es h in
    both target (default_of e) (defaults_in es) (kept target (is_default e) (expressions_of (e ∷ [])) parts.0)
    (defaults-show target es parts.1)

either : (target : Target) (xs ys : List LocatedExpression) → AllShowable target xs → AllShowable target ys
    → AllShowable target (or_else_all xs ys)
either target [] ys h k = k
either target (x ∷ xs) ys h k = h

-- all expressions that a list of an accepted section gives at an address can be shown
-- (`IsShowable`)
pub locations_show : (s : ListSection) (l : Loclist) (base address : ℕ) → IsChecked s → length s.section < 2 ^ 32 → Contains (lists_in s) l
    → AllByRecursion (IsShowable s.target.address_size) (locations_of l base address)
locations_show s l base address checked short among =
    let stands = among-tables s.target 0 s.section (tables_in s) l (checked-tables s checked) among in
    let inside : l.offset + length stands.own < 2 ^ 32 = omega (
      arith,
      stands.offset_is,
      short,
      ap length stands.parts,
      length-append stands.front (stands.own ++ stands.rest),
      length-append stands.own stands.rest,
    ) in
    let is = stands.list_is in
    let all = entries-show s.target l.offset stands.own l.entries (end_of_list ∷ []) is.encoded is.expressions inside in
    either s.target (bounded_at base address l.entries) (defaults_in l.entries) (bounded-show s.target base address l.entries all)
    (defaults-show s.target l.entries all)
