-- Lists and expressions are in order of their offsets.
use Rattle.std.proofs.Common.{◌≡◌, ℕ, ◌+◌, ◌<◌, ◌≤◌, List, [], ◌∷◌, ◌++◌, length, map, refl, sym, ap, subst, ◌∙◌, arith, Option, Some, None}
use Rattle.std.proofs.Common.{Bool}
use Rattle.std.specs.List.{cons_option}
use Rattle.std.specs.Prelude.{filter_map, ◌||◌, false}
use Rattle.std.proofs.lemmas.List.{length-append, map-append}
use Rattle.std.proofs.lemmas.List.Elements.{filter_map-append}
use Rattle.std.proofs.lemmas.Grind.{flat_map-append}
use Rattle.dw_bytes.specs.declared.target.Target.{Target}
use Rattle.dw_bytes.specs.Operands.{Block}
use Rattle.dw_bytes.specs.Sequence.{Sequence}
use Rattle.dw_loclists.specs.Entries.{Entry, IsEntry, is_default, expression_in}
use Rattle.dw_loclists.specs.Lists.{Loclist, IsList, Table, IsTable, AreTables, lists_of, starts_of}
use Rattle.dw_loclists.specs.Locations.{location_of, expressions_of, expressions_in}
use Rattle.dw_stack.specs.Located.{LocatedExpression}
use Rattle.dw_loclists.specs.Bounds.{AllWithin, RiseWithin}
use Rattle.dw_loclists.proofs.EachEntry.{entry-within, entry-some}
use Rattle.dw_loclists.proofs.EachList.{AreEntries, entries-in}
use Rattle.dw_loclists.proofs.EachTable.{list-some}
use Rattle.dw_loclists.proofs.Search.{rise-append}

-- ---- starts of lists

pub starts-rise : (target : Target) (at : ℕ) (bytes : List ℕ) (ls : List Loclist) → Sequence (IsList target) at bytes ls
    → RiseWithin at (at + length bytes) (starts_of ls)
starts-rise target at bytes [] are = omega arith
starts-rise target at bytes (l ∷ ls) (first, rest, parts, here, others) =
    let some = list-some target at first l here in
    let tail = starts-rise target (at + length first) rest ls others in
    let long : at + length first + length rest ≡ at + length bytes = omega (arith, ap length parts, length-append first rest) in (
      omega (arith, here.offset_is),
      later (l.offset + 1) (at + length first) (at + length bytes) (starts_of ls)
          (omega (arith, some, here.offset_is)) (subst (λ n. RiseWithin (at + length first) n (starts_of ls)) long tail),
    )
  where
    later : (low other high : ℕ) (xs : List ℕ) → low ≤ other → RiseWithin other high xs → RiseWithin low high xs
    later low other high [] le h = omega arith
    later low other high (x ∷ xs) le h = (omega (arith, h.0), h.1)

pub rise-later : (low other high : ℕ) (xs : List ℕ) → low ≤ other → RiseWithin other high xs → RiseWithin low high xs
rise-later low other high [] le h = omega arith
rise-later low other high (x ∷ xs) le h = (omega (arith, h.0), h.1)

-- ---- expressions

abbrev pub offsets-of : List LocatedExpression → List ℕ
offsets-of xs = map (λ (x : LocatedExpression). x.offset) xs

abbrev pub located-of : Option Block → List LocatedExpression
located-of None = []
located-of (Some b) = location_of b ∷ []

expressions-as : (e : Entry) → expressions_of (e ∷ []) ≡ located-of (expression_in e)
expressions-as e = from (expression_in e)
  where
    from : (b : Option Block) → map location_of (cons_option b []) ≡ located-of b
    from None = refl
    from (Some b) = refl

block-rises : (target : Target) (at end : ℕ) (b : Option Block) → at < end → AllWithin target at end b
    → RiseWithin (at + 1) (end + 1) (offsets-of (located-of b))
block-rises target at end None lt within = omega arith
block-rises target at end (Some b) lt within = (omega (arith, within.past), omega (arith, within.ends))

entry-rises : (target : Target) (at : ℕ) (bytes : List ℕ) (e : Entry) → IsEntry target at bytes e
    → RiseWithin (at + 1) (at + length bytes + 1) (offsets-of (expressions_of (e ∷ [])))
entry-rises target at bytes e here =
    let some = entry-some target at bytes e here in
    subst (λ (xs : List LocatedExpression). RiseWithin (at + 1) (at + length bytes + 1) (offsets-of xs)) (sym (expressions-as e))
    (block-rises target at (at + length bytes) (expression_in e) (omega (arith, some)) (entry-within target at bytes e here))

offsets-append : (xs ys : List LocatedExpression) → offsets-of (xs ++ ys) ≡ offsets-of xs ++ offsets-of ys
offsets-append xs ys = map-append (λ (x : LocatedExpression). x.offset) xs ys

-- if the offsets of `xs` ascend and are below `mid`, and the offsets of `ys` ascend and are at
-- least `mid`, the offsets of `xs` followed by `ys` ascend
both-rise : (low mid high other : ℕ) (xs ys : List LocatedExpression) → other ≡ high → RiseWithin low mid (offsets-of xs)
    → RiseWithin mid other (offsets-of ys) → RiseWithin low high (offsets-of (xs ++ ys))
both-rise low mid high other xs ys same h k =
    subst (RiseWithin low high) (sym (offsets-append xs ys))
    (rise-append low mid high (offsets-of xs) (offsets-of ys) h (subst (λ n. RiseWithin mid n (offsets-of ys)) same k))

pub entries-front : (e : Entry) (es : List Entry) → expressions_of (e ∷ es) ≡ expressions_of (e ∷ []) ++ expressions_of es
entries-front e es = ap (map location_of) (filter_map-append expression_in (e ∷ []) es)
    ∙ map-append location_of (filter_map expression_in (e ∷ [])) (filter_map expression_in es)

entries-rise : (target : Target) (d : Bool) (at : ℕ) (bytes : List ℕ) (es : List Entry) → AreEntries target d at bytes es
    → RiseWithin (at + 1) (at + length bytes + 1) (offsets-of (expressions_of es))
entries-rise target d at bytes [] h = omega arith
entries-rise target d at bytes (e ∷ es) (first, rest, parts, here, fine, going, others) =
    subst (λ (xs : List LocatedExpression). RiseWithin (at + 1) (at + length bytes + 1) (offsets-of xs)) (sym (entries-front e es))
    (both-rise (at + 1) (at + length first + 1) (at + length bytes + 1) (at + length first + length rest + 1) (expressions_of (e ∷ []))
    (expressions_of es) (omega (arith, ap length parts, length-append first rest)) (entry-rises target at first e here)
    (entries-rise target (d || is_default e) (at + length first) rest es others))

pub list-rises : (target : Target) (at : ℕ) (bytes : List ℕ) (l : Loclist) → IsList target at bytes l
    → RiseWithin (at + 1) (at + length bytes + 1) (offsets-of (expressions_of l.entries))
list-rises target at bytes l here = entries-rise target false at bytes l.entries (entries-in target at bytes l here)

lists-rise : (target : Target) (at : ℕ) (bytes : List ℕ) (ls : List Loclist) → Sequence (IsList target) at bytes ls
    → RiseWithin (at + 1) (at + length bytes + 1) (offsets-of (expressions_in ls))
lists-rise target at bytes [] are = omega arith
lists-rise target at bytes (l ∷ ls) (first, rest, parts, here, others) =
    both-rise (at + 1) (at + length first + 1) (at + length bytes + 1) (at + length first + length rest + 1) (expressions_of l.entries)
    (expressions_in ls) (omega (arith, ap length parts, length-append first rest))
    (list-rises target at first l here)
    (lists-rise target (at + length first) rest ls others)

-- ---- expressions of tables

table-end : (target : Target) (at : ℕ) (bytes : List ℕ) (t : Table) (s : IsTable target at bytes t)
    → t.array + length s.offsets + length s.lists ≡ at + length bytes
table-end target at bytes t s =
    omega (
      arith,
      s.array_is,
      ap length s.parts,
      length-append s.front (s.header ++ (s.offsets ++ s.lists)),
      length-append s.header
          (s.offsets ++ s.lists),
      length-append s.offsets s.lists,
    )

starts-append : (ls ms : List Loclist) → starts_of (ls ++ ms) ≡ starts_of ls ++ starts_of ms
starts-append ls ms = map-append (λ (l : Loclist). l.offset) ls ms

pub tables-start : (target : Target) (at : ℕ) (bytes : List ℕ) (ts : List Table) → AreTables target at bytes ts
    → RiseWithin at (at + length bytes) (starts_of (lists_of ts))
tables-start target at bytes [] are = omega arith
tables-start target at bytes (t ∷ ts) (first, rest, parts, here, others) =
    let own = starts-rise target (t.array + length here.offsets) here.lists t.lists here.lists_are in
    let first_rises : RiseWithin at (at + length first) (starts_of t.lists) =
    rise-later at (t.array + length here.offsets) (at + length first) (starts_of t.lists) (omega (arith, here.array_is))
    (subst (λ n. RiseWithin (t.array + length here.offsets) n (starts_of t.lists)) (table-end target at first t here) own) in
    let tail =
    subst (λ n. RiseWithin (at + length first) n (starts_of (lists_of ts))) (omega (arith, ap length parts, length-append first rest))
    (tables-start target (at + length first) rest ts others) in
    subst (RiseWithin at (at + length bytes)) (sym (starts-append t.lists (lists_of ts)))
    (rise-append at (at + length first) (at + length bytes) (starts_of t.lists) (starts_of (lists_of ts)) first_rises tail)

pub tables-rise : (target : Target) (at : ℕ) (bytes : List ℕ) (ts : List Table) → AreTables target at bytes ts
    → RiseWithin (at + 1) (at + length bytes + 1) (offsets-of (expressions_in (lists_of ts)))
tables-rise target at bytes [] are = omega arith
tables-rise target at bytes (t ∷ ts) (first, rest, parts, here, others) =
    let own = lists-rise target (t.array + length here.offsets) here.lists t.lists here.lists_are in
    let first_rises : RiseWithin (at + 1) (at + length first + 1) (offsets-of (expressions_in t.lists)) =
    rise-later (at + 1) (t.array + length here.offsets + 1) (at + length first + 1) (offsets-of (expressions_in t.lists))
    (omega (arith, here.array_is)) (subst
    (λ n. RiseWithin (t.array + length here.offsets + 1) (n + 1) (offsets-of (expressions_in t.lists)))
    (table-end target at first t here) own) in
    subst (λ (xs : List LocatedExpression). RiseWithin (at + 1) (at + length bytes + 1) (offsets-of xs))
    (sym (flat_map-append (λ (l : Loclist). expressions_of l.entries) t.lists (lists_of ts)))
    (both-rise (at + 1) (at + length first + 1) (at + length bytes + 1) (at + length first + length rest + 1) (expressions_in t.lists)
    (expressions_in (lists_of ts)) (omega (arith, ap length parts, length-append first rest)) first_rises
    (tables-rise target (at + length first) rest ts others))
