-- What is stored about lists and tables as they are read.
use Rattle.std.proofs.Common.{◌≡◌, ℕ, List, [], ◌∷◌, ◌++◌, map, refl, sym, ap, subst, ◌∙◌, append_assoc}
use Rattle.std.proofs.lemmas.List.{map-append}
use Rattle.std.proofs.lemmas.Grind.{flat_map-append}
use Rattle.dw_loclists.specs.declared.stored_lists.StoredExpression.{StoredExpression}
use Rattle.dw_loclists.specs.Lists.{Loclist, Table, lists_of, starts_of}
use Rattle.dw_loclists.specs.Locations.{expressions_of, expressions_in}
use Rattle.dw_stack.specs.Located.{LocatedExpression}
use Rattle.dw_loclists.specs.Stored.{Kept, with_lists, with_table, stored_from, IsStoredOf, AreStoredOf, KeepsMore}

pub nothing : {X : Type 0} (xs : List X) → xs ++ [] ≡ xs
nothing [] = refl
nothing {X} (x ∷ xs) = ap (λ (t : List X). x ∷ t) (nothing xs)

-- ---- expressions

-- adding what is stored about the expressions `first` and then about `second` adds what is stored
-- about both lists together
pub keeps-then : (first second : List LocatedExpression) (old mid new : List StoredExpression) → KeepsMore first old mid
    → KeepsMore second mid new → KeepsMore (first ++ second) old new
keeps-then first second old mid new h k = λ xs kept.
    subst (λ (ys : List LocatedExpression). AreStoredOf ys new) (append_assoc xs first second) (k (xs ++ first) (h xs kept))

one-past : (x : LocatedExpression) (k : StoredExpression) (xs : List LocatedExpression) (ks : List StoredExpression) → IsStoredOf x k
    → AreStoredOf xs ks → AreStoredOf (xs ++ x ∷ []) (ks ++ k ∷ [])
one-past x k [] [] h kept = (h, tt)
one-past x k [] (j ∷ ks) h kept = absurd kept
one-past x k (y ∷ xs) [] h kept = absurd kept
one-past x k (y ∷ xs) (j ∷ ks) h kept = (kept.0, one-past x k xs ks h kept.1)

pub keeps-one : (x : LocatedExpression) (k : StoredExpression) (old new : List StoredExpression) → IsStoredOf x k → new ≡ old ++ k ∷ []
    → KeepsMore (x ∷ []) old new
keeps-one x k old new h is = λ xs kept. subst (λ (ks : List StoredExpression). AreStoredOf (xs ++ x ∷ []) ks) (sym is)
    (one-past x k xs old h kept)

-- ---- where lists and tables begin

abbrev pub kept-as : List ℕ → List ℕ → Kept
kept-as tables lists = record { tables = tables; lists = lists }

one-expressions : (l : Loclist) → expressions_in (l ∷ []) ≡ expressions_of l.entries
one-expressions l = nothing (expressions_of l.entries)

starts-more : (ls : List Loclist) (l : Loclist) → starts_of (ls ++ l ∷ []) ≡ starts_of ls ++ l.offset ∷ []
starts-more ls l = map-append (λ (m : Loclist). m.offset) ls (l ∷ [])

expressions-more : (ls : List Loclist) (l : Loclist) → expressions_in (ls ++ l ∷ []) ≡ expressions_in ls ++ expressions_of l.entries
expressions-more ls l = flat_map-append (λ (m : Loclist). expressions_of m.entries) ls (l ∷ [])
    ∙ ap (λ (t : List LocatedExpression). expressions_in ls ++ t) (one-expressions l)

-- if the lists `ls` were added to k and then the offset of l is added, `ls` with l at the end were
-- added to k
pub list-kept : (k old new : Kept) (ls : List Loclist) (l : Loclist) → old ≡ with_lists k ls
    → new ≡ kept-as old.tables (old.lists ++ l.offset ∷ []) → new ≡ with_lists k (ls ++ l ∷ [])
list-kept k old new ls l so_far more =
    more ∙ (ap (λ (o : Kept). kept-as o.tables (o.lists ++ l.offset ∷ [])) so_far
    ∙ ap (kept-as k.tables)
    (append_assoc k.lists (starts_of ls) (l.offset ∷ []) ∙ ap (λ (t : List ℕ). k.lists ++ t) (sym (starts-more ls l))))

-- if the expressions of the lists `ls` and then the expressions of l were stored, the expressions
-- of `ls` with l at the end were stored
pub keeps-list : (ls : List Loclist) (l : Loclist) (old mid new : List StoredExpression) → KeepsMore (expressions_in ls) old mid
    → KeepsMore (expressions_of l.entries) mid new → KeepsMore (expressions_in (ls ++ l ∷ [])) old new
keeps-list ls l old mid new h k =
    subst (λ (ys : List LocatedExpression). KeepsMore ys old new) (sym (expressions-more ls l))
    (keeps-then (expressions_in ls) (expressions_of l.entries) old mid new h k)

-- the lists of the tables `ts` with t at the end are the lists of `ts` and then the lists of t
lists-of-more : (ts : List Table) (t : Table) → lists_of (ts ++ t ∷ []) ≡ lists_of ts ++ t.lists
lists-of-more ts t = flat_map-append (λ (u : Table). u.lists) ts (t ∷ []) ∙ ap (λ (x : List Loclist). lists_of ts ++ x) (nothing t.lists)

pub table-kept : (ts : List Table) (t : Table) → with_table (stored_from ts) t ≡ stored_from (ts ++ t ∷ [])
table-kept ts t =
    ap (λ (x : List ℕ). kept-as x (starts_of (lists_of ts) ++ starts_of t.lists)) (sym (map-append (λ (u : Table). u.offset) ts (t ∷ [])))
    ∙ ap (kept-as (map (λ (u : Table). u.offset) (ts ++ t ∷ [])))
    (sym (map-append (λ (m : Loclist). m.offset) (lists_of ts) t.lists) ∙ ap starts_of (sym (lists-of-more ts t)))

-- if the expressions of the tables `ts` are stored and then the expressions of t are added, the
-- expressions of `ts` with t at the end are stored
pub keeps-table : (ts : List Table) (t : Table) (old new : List StoredExpression) → AreStoredOf (expressions_in (lists_of ts)) old
    → KeepsMore (expressions_in t.lists) old new → AreStoredOf (expressions_in (lists_of (ts ++ t ∷ []))) new
keeps-table ts t old new kept more =
    subst (λ (ys : List LocatedExpression). AreStoredOf ys new)
    (sym (flat_map-append (λ (l : Loclist). expressions_of l.entries) (lists_of ts) t.lists) ∙ ap expressions_in (sym (lists-of-more ts t)))
    (more (expressions_in (lists_of ts)) kept)

-- adding the offsets of a table's lists and then the table's own offset is what `with_table` does
pub past-lists : (k new : Kept) (t : Table) (tables : List ℕ) → new ≡ with_lists k t.lists → tables ≡ new.tables ++ t.offset ∷ []
    → kept-as tables new.lists ≡ with_table k t
past-lists k new t tables lists table =
    ap (λ (x : List ℕ). kept-as x new.lists) table ∙ ap (λ (n : Kept). kept-as (n.tables ++ t.offset ∷ []) n.lists) lists
