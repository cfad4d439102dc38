-- Proofs of laws: entries are unambiguous, sections without a fault are well formed, each
-- expression passes the check and has the section's target, entries hold by the base address before
-- them, and a list has at most one default_location.
use Rattle.std.proofs.Common.{◌≡◌, ℕ, zero, suc, ◌+◌, ◌≤◌, ◌↔◌, cond, List, [], ◌∷◌, ◌++◌, length, Contains, Some, None, refl, sym, ap}
use Rattle.std.proofs.Common.{subst}
use Rattle.std.proofs.Common.{Option, ◌∙◌, append_assoc, arith}
use Rattle.std.specs.Prelude.{count_by}
use Rattle.std.specs.List.{AllByRecursion}
use Rattle.std.proofs.lemmas.List.{length-append}
use Rattle.dw_bytes.specs.declared.target.Target.{Target}
use Rattle.dw_bytes.specs.Operands.{Block}
use Rattle.dw_bytes.specs.Reading.{ReadPosition, IsExact}
use Rattle.dw_bytes.specs.Sequence.{Sequence}
use Rattle.dw_bytes.proofs.Readers.{one-encoding}
use Rattle.dw_stack.specs.declared.state.Kind.TheVariants.{Location}
use Rattle.dw_stack.specs.Expressions.{IsGoodExpression}
use Rattle.dw_loclists.specs.Entries.{Entry, end_of_list, offset_pair, default_location, base_address, start_end, start_length, IsEntry}
use Rattle.dw_loclists.specs.Entries.{is_default, expression_in, IsGoodLocation}
use Rattle.dw_loclists.specs.Lists.{Loclist, IsList, IsWellFormed}
use Rattle.dw_loclists.specs.Locations.{base_after, held_by, bounded_at, default_of, defaults_in}
use Rattle.dw_stack.specs.Located.{LocatedExpression}
use Rattle.dw_loclists.specs.Reading.{entry_at, list_at, lists_fault, ListSection, IsChecked, tables_in, lists_in, located_in}
use Rattle.dw_loclists.specs.Bounds.{AllWithin, Ascends}
use Rattle.dw_loclists.proofs.EachEntry.{entry-exact, entry-within}
use Rattle.dw_loclists.proofs.EachList.{list-found, list-only, count-cons}
use Rattle.dw_loclists.proofs.EachTable.{sections-are-tables}
use Rattle.dw_loclists.proofs.Checked.{checked-tables, tables-checked, expressions-ascend}
use Rattle.dw_loclists.proofs.Located.{among-tables}
use Rattle.dw_loclists.proofs.Search.{ascends-back}

pub one-entry : (target : Target) (at : ℕ) (a b x y : List ℕ) (d e : Entry) → IsEntry target at a d → IsEntry target at b e
    → a ++ x ≡ b ++ y → (a ≡ b) × (d ≡ e)
one-entry target = one-encoding target entry_at (IsEntry target) (entry-exact target)

pub list-exact : (r : ReadPosition) → IsExact list_at (IsList r.target r.position) r
list-exact r = record {
  found = λ l after is. list-found r.target r l after refl is;
  only =
      λ l after h. list-only r.target r l after refl h;
}

pub well-formed : (target : Target) (section : List ℕ) → (lists_fault target section ≡ None) ↔ IsWellFormed target section
well-formed target section =
    let s : ListSection = record { target = target; section = section } in (
      (λ checked. (tables_in s, checked-tables s checked)),
      (λ (tables, are). tables-checked target section tables ((sections-are-tables target section tables).1 are)),
    )

pub located-ascend : (s : ListSection) → IsChecked s → Ascends (λ (x : LocatedExpression). x.offset) (located_in s)
located-ascend s checked = ascends-back (λ (x : LocatedExpression). x.offset) (located_in s) (expressions-ascend s checked)

good-among : (es : List Entry) (e : Entry) (b : Block) → AllByRecursion (λ x. IsGoodLocation (expression_in x)) es → Contains es e
    → expression_in e ≡ Some b → IsGoodExpression Location b.target b.bytes
good-among [] e b all (k, lt, is) has = absurd (omega arith)
good-among (x ∷ es) e b all (zero, lt, is) has = subst IsGoodLocation (ap expression_in is ∙ has) all.0
good-among (x ∷ es) e b all (suc k, lt, is) has = good-among es e b all.1 (k, omega arith, is) has

pub good-expressions : (s : ListSection) (l : Loclist) (e : Entry) (b : Block) → IsChecked s → Contains (lists_in s) l
    → Contains l.entries e → expression_in e ≡ Some b → IsGoodExpression Location b.target b.bytes
good-expressions s l e b checked among e_in has =
    good-among l.entries e b (among-tables s.target 0 s.section (tables_in s) l (checked-tables s checked) among).list_is.expressions e_in
    has

-- ---- targets

target-of-block : (target : Target) (at end : ℕ) (found : Option Block) (b : Block) → AllWithin target at end found → found ≡ Some b
    → b.target ≡ target
target-of-block target at end found b within is =
    let here = subst (AllWithin target at end) is within in
    here.of_target

target-among : (target : Target) (at : ℕ) (bytes : List ℕ) (es : List Entry) (last e : Entry) (b : Block)
    → Sequence (IsEntry target) at bytes (es ++ last ∷ []) → Contains es e → expression_in e ≡ Some b → b.target ≡ target
target-among target at bytes [] last e b encoded (k, lt, is) has = absurd (omega arith)
target-among target at bytes (x ∷ es) last e b (first, rest, parts, here, others) (zero, lt, is) has =
    target-of-block target at (at + length first) (expression_in x) b (entry-within target at first x here) (ap expression_in is ∙ has)
target-among target at bytes (x ∷ es) last e b (first, rest, parts, here, others) (suc k, lt, is) has =
    target-among target (at + length first) rest es last e b others (k, omega arith, is) has

pub one-target : (s : ListSection) (l : Loclist) (e : Entry) (b : Block) → IsChecked s → Contains (lists_in s) l → Contains l.entries e
    → expression_in e ≡ Some b → b.target ≡ s.target
one-target s l e b checked among e_in has =
    let list = among-tables s.target 0 s.section (tables_in s) l (checked-tables s checked) among in
    target-among s.target _ list.own l.entries end_of_list e b list.list_is.encoded e_in has

-- ---- base addresses

base-more : (base : ℕ) (x : Entry) (es : List Entry) → base_after base (x ∷ es) ≡ base_after (base_after base (x ∷ [])) es
base-more base end_of_list es = refl
base-more base (offset_pair begin end e) es = refl
base-more base (default_location e) es = refl
base-more base (base_address other) es = refl
base-more base (start_end begin end e) es = refl
base-more base (start_length begin count e) es = refl

pub held-by-base : (base address : ℕ) (before : List Entry) (e : Entry) (past : List Entry)
    → bounded_at base address (before ++ e ∷ past) ≡ bounded_at base address before ++
    (held_by (base_after base before) address e ++ bounded_at (base_after base (before ++ e ∷ [])) address past)
held-by-base base address [] e past = refl
held-by-base base address (x ∷ before) e past =
    let next = base_after base (x ∷ []) in
    ap (λ (l : List LocatedExpression). held_by base address x ++ l) (held-by-base next address before e past)
    ∙ (ap (λ (n : ℕ). held_by base address x ++
    (bounded_at next address before ++ (held_by n address e ++ bounded_at (base_after next (before ++ e ∷ [])) address past)))
    (sym (base-more base x before))
    ∙ (ap (λ (n : ℕ). held_by base address x ++
    (bounded_at next address before ++ (held_by (base_after base (x ∷ before)) address e ++ bounded_at n address past)))
    (sym (base-more base x (before ++ e ∷ [])))
    ∙ sym (append_assoc (held_by base address x) (bounded_at next address before)
    (held_by (base_after base (x ∷ before)) address e ++ bounded_at (base_after base (x ∷ (before ++ e ∷ []))) address past))))

-- ---- the default_locations of a list

default-count : (e : Entry) → length (default_of e) ≡ cond (is_default e) 1 0
default-count end_of_list = refl
default-count (offset_pair begin end x) = refl
default-count (default_location x) = refl
default-count (base_address other) = refl
default-count (start_end begin end x) = refl
default-count (start_length begin count x) = refl

defaults-count : (es : List Entry) → length (defaults_in es) ≡ count_by is_default es
defaults-count [] = refl
defaults-count (e ∷ es) = omega (arith, length-append (default_of e) (defaults_in es), default-count e, defaults-count es, count-cons e es)

pub one-default : (target : Target) (at : ℕ) (bytes : List ℕ) (l : Loclist) → IsList target at bytes l → length (defaults_in l.entries) ≤ 1
one-default target at bytes l h = omega (arith, defaults-count l.entries, h.one_default)
