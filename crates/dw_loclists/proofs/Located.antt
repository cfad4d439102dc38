-- The lists of a checked section are at their offsets, and their expressions are among the
-- section's expressions.
use Rattle.std.proofs.Common.{◌≡◌, ℕ, zero, suc, ◌+◌, ◌≤◌, Bool, true, false, cond, List, [], ◌∷◌, ◌++◌, length, drop, Contains, Ok, refl}
use Rattle.std.proofs.Common.{sym, ap, subst, ◌∙◌, append_assoc, arith, inl, inr}
use Rattle.std.specs.Prelude.{map}
use Rattle.std.proofs.Math.Seq.{drop-append_seam}
use Rattle.std.proofs.lemmas.List.{length-append}
use Rattle.std.proofs.lemmas.List.Elements.{Contains-append_left, Contains-append_right, Contains-append_cases}
use Rattle.dw_bytes.specs.declared.target.Target.{Target}
use Rattle.dw_bytes.specs.Reading.{Next, ReadPosition, section_from}
use Rattle.dw_bytes.specs.Sequence.{Sequence}
use Rattle.dw_loclists.specs.Entries.{Entry, is_default}
use Rattle.dw_loclists.specs.Lists.{Loclist, IsList, Table, IsTable, AreTables, lists_of}
use Rattle.dw_loclists.specs.Locations.{expressions_of, expressions_in, base_after, holds, held_by, bounded_at}
use Rattle.dw_stack.specs.Located.{LocatedExpression}
use Rattle.dw_loclists.specs.Locations.{default_of, defaults_in}
use Rattle.dw_loclists.specs.Reading.{entries_at, list_at, IsListAt, ListSection, IsChecked, tables_in, lists_in, located_in}
use Rattle.dw_loclists.proofs.EachList.{entries-read, list-found, list-only}
use Rattle.dw_loclists.specs.declared.stored_lists.StoredExpression.{StoredExpression}
use Rattle.dw_loclists.specs.Bounds.{Ascends, StandsIn}
use Rattle.dw_loclists.specs.Stored.{IsStoredOf, AreStoredOf, IsAmong}
use Rattle.dw_loclists.specs.Views.{offset_of}
use Rattle.dw_loclists.proofs.Order.{entries-front, list-rises, offsets-of}
use Rattle.dw_loclists.proofs.Checked.{checked-tables, lists-ascend, expressions-ascend}
use Rattle.dw_loclists.proofs.Search.{ascends-back, ascending-same, contains-past, rise-ascends}

no-list : {X : Type 0} (x : X) → Contains [] x → ⊥
no-list x (k, lt, is) = omega arith

-- a list in some bytes is also in longer bytes that contain them
within : (target : Target) (at other : ℕ) (before bytes past whole : List ℕ) (l : Loclist) → whole ≡ before ++ (bytes ++ past)
    → other ≡ at + length before → StandsIn target other bytes l → StandsIn target at whole l
within target at other before bytes past whole l parts at_is h = record {
  front = before ++ h.front;
  own = h.own;
  rest = h.rest ++ past;
  parts = parts ∙ (ap (λ (t : List ℕ). before ++ (t ++ past)) h.parts
      ∙ (ap (λ (t : List ℕ). before ++ t)
      (append_assoc h.front (h.own ++ h.rest) past ∙ ap (λ (t : List ℕ). h.front ++ t) (append_assoc h.own h.rest past))
      ∙ sym (append_assoc before h.front (h.own ++ (h.rest ++ past)))));
  offset_is = omega (arith, h.offset_is, at_is, length-append before h.front);
  list_is = h.list_is;
}

no-more : (xs : List ℕ) → xs ++ [] ≡ xs
no-more [] = refl
no-more (x ∷ xs) = ap (λ (t : List ℕ). x ∷ t) (no-more xs)

list-among : (target : Target) (at : ℕ) (bytes : List ℕ) (ls : List Loclist) (l : Loclist) → Sequence (IsList target) at bytes ls
    → Contains ls l → StandsIn target at bytes l
list-among target at bytes [] l are among = absurd (no-list l among)
list-among target at bytes (m ∷ ls) l (first, rest, parts, here, others) (zero, lt, is) =
    subst (StandsIn target at bytes) is
    (record {
      front = [];
      own = first;
      rest = rest;
      parts = parts;
      offset_is = omega (arith, here.offset_is);
      list_is =
          subst (λ n. IsList target n first m) (sym here.offset_is) here;
    })
list-among target at bytes (m ∷ ls) l (first, rest, parts, here, others) (suc k, lt, is) =
    within target at (at + length first) first rest [] bytes l (parts ∙ ap (λ (t : List ℕ). first ++ t) (sym (no-more rest))) refl
    (list-among target (at + length first) rest ls l others (k, omega arith, is))

in-table : (target : Target) (at : ℕ) (bytes : List ℕ) (t : Table) (l : Loclist) → IsTable target at bytes t → Contains t.lists l
    → StandsIn target at bytes l
in-table target at bytes t l s among =
    let before = s.front ++ (s.header ++ s.offsets) in
    let parts : bytes ≡ before ++ (s.lists ++ []) =
    s.parts ∙ (ap (λ (u : List ℕ). s.front ++ u) (sym (append_assoc s.header s.offsets s.lists))
    ∙ (sym (append_assoc s.front (s.header ++ s.offsets) s.lists) ∙ ap (λ (u : List ℕ). before ++ u) (sym (no-more s.lists)))) in
    within target at (t.array + length s.offsets) before s.lists [] bytes l parts
    (omega (arith, s.array_is, length-append s.front (s.header ++ s.offsets), length-append s.header s.offsets))
    (list-among target (t.array + length s.offsets) s.lists t.lists l s.lists_are among)

pub among-tables : (target : Target) (at : ℕ) (bytes : List ℕ) (ts : List Table) (l : Loclist) → AreTables target at bytes ts
    → Contains (lists_of ts) l → StandsIn target at bytes l
among-tables target at bytes [] l are among = absurd (no-list l among)
among-tables target at bytes (t ∷ ts) l (first, rest, parts, here, others) among =
    elim (Contains-append_cases t.lists (lists_of ts) l among) [
      | inl own ↦ within target at at [] first rest bytes l parts (omega arith) (in-table target at first t l here own)
      | inr past ↦ within target at (at + length first) first rest [] bytes l
          (parts ∙ ap (λ (u : List ℕ). first ++ u) (sym (no-more rest)))
          refl (among-tables target (at + length first) rest ts l others past)
    ]

-- the bytes at a list's offset encode the list
stands-next : (s : ListSection) (l : Loclist) → IsChecked s → Contains (lists_in s) l
    → (after : ReadPosition) × Next (IsList s.target l.offset) (section_from s.target s.section l.offset) l after
stands-next s l checked among =
    let h = among-tables s.target 0 s.section (tables_in s) l (checked-tables s checked) among in
    let after : ReadPosition = record { target = s.target; position = l.offset + length h.own; rest = h.rest } in
    let parts : drop l.offset s.section ≡ h.own ++ h.rest =
    ap (λ n. drop n s.section) (let at : l.offset ≡ length h.front = omega (arith, h.offset_is) in at)
    ∙ (ap (drop (length h.front)) h.parts ∙ drop-append_seam h.front (h.own ++ h.rest)) in
    (after, record { bytes = h.own; encoded = h.list_is; parts = parts; position = refl; target = refl })

-- reading from a list's offset returns its entries
pub list-read : (s : ListSection) (l : Loclist) → IsChecked s → Contains (lists_in s) l
    → (after : ReadPosition) × (entries_at false (section_from s.target s.section l.offset) ≡ Ok (l.entries, after))
list-read s l checked among =
    let next = stands-next s l checked among in
    (next.0, entries-read s.target (section_from s.target s.section l.offset) l next.0 refl next.1)

-- reading from a list's offset returns the list
pub list-alone : (s : ListSection) (l : Loclist) → IsChecked s → Contains (lists_in s) l → IsListAt s.target s.section l.offset l
list-alone s l checked among =
    let next = stands-next s l checked among in
    (next.0, list-only s.target (section_from s.target s.section l.offset) l next.0 refl next.1)

pub inside-section : (s : ListSection) (l : Loclist) → IsChecked s → Contains (lists_in s) l → l.offset ≤ length s.section
inside-section s l checked among =
    let h = among-tables s.target 0 s.section (tables_in s) l (checked-tables s checked) among in
    omega (arith, h.offset_is, ap length h.parts, length-append h.front (h.own ++ h.rest))

-- at most one list begins at an offset
pub one-list : (s : ListSection) (l m : Loclist) → IsChecked s → Contains (lists_in s) l → Contains (lists_in s) m → l.offset ≡ m.offset
    → l ≡ m
one-list s l m checked l_in m_in same =
    ascending-same (λ (x : Loclist). x.offset) (lists_in s) (ascends-back (λ (x : Loclist). x.offset) (lists_in s) (lists-ascend s checked))
    l m l_in m_in same

-- ---- expressions of a list are among the section's expressions

held-among : (base address : ℕ) (e : Entry) (x : LocatedExpression) → Contains (held_by base address e) x
    → Contains (expressions_of (e ∷ [])) x
held-among base address e x among = chosen (holds base address e) among
  where
    chosen : (b : Bool) → Contains (cond b (expressions_of (e ∷ [])) []) x → Contains (expressions_of (e ∷ [])) x
    chosen true h = h
    chosen false h = absurd (no-list x h)

default-among : (e : Entry) (x : LocatedExpression) → Contains (default_of e) x → Contains (expressions_of (e ∷ [])) x
default-among e x among = chosen (is_default e) among
  where
    chosen : (b : Bool) → Contains (cond b (expressions_of (e ∷ [])) []) x → Contains (expressions_of (e ∷ [])) x
    chosen true h = h
    chosen false h = absurd (no-list x h)

in-front : (e : Entry) (es : List Entry) (x : LocatedExpression) → Contains (expressions_of (e ∷ [])) x
    → Contains (expressions_of (e ∷ es)) x
in-front e es x h = subst (λ (xs : List LocatedExpression). Contains xs x) (sym (entries-front e es))
    (Contains-append_left (expressions_of (e ∷ [])) (expressions_of es) x h)

in-past : (e : Entry) (es : List Entry) (x : LocatedExpression) → Contains (expressions_of es) x → Contains (expressions_of (e ∷ es)) x
in-past e es x h = subst (λ (xs : List LocatedExpression). Contains xs x) (sym (entries-front e es))
    (Contains-append_right (expressions_of (e ∷ [])) (expressions_of es) x h)

bounded-among : (base address : ℕ) (es : List Entry) (x : LocatedExpression) → Contains (bounded_at base address es) x
    → Contains (expressions_of es) x
bounded-among base address [] x among = absurd (no-list x among)
bounded-among base address (e ∷ es) x among =
    elim (Contains-append_cases (held_by base address e) (bounded_at (base_after base (e ∷ [])) address es) x among) [
      | inl own ↦ in-front e es x (held-among base address e x own)
      | inr past ↦ in-past e es x (bounded-among (base_after base (e ∷ [])) address es x past)
    ]

defaults-among : (es : List Entry) (x : LocatedExpression) → Contains (defaults_in es) x → Contains (expressions_of es) x
defaults-among [] x among = absurd (no-list x among)
defaults-among (e ∷ es) x among = elim (Contains-append_cases (default_of e) (defaults_in es) x among) [
  | inl own ↦ in-front e es x (default-among e x own)
  | inr past ↦ in-past e es x (defaults-among es x past)
]

of-lists : (ls : List Loclist) (l : Loclist) (x : LocatedExpression) → Contains ls l → Contains (expressions_of l.entries) x
    → Contains (expressions_in ls) x
of-lists [] l x among h = absurd (no-list l among)
of-lists (m ∷ ls) l x (zero, lt, is) h =
    Contains-append_left (expressions_of m.entries) (expressions_in ls) x
    (subst (λ (y : Loclist). Contains (expressions_of y.entries) x) (sym is) h)
of-lists (m ∷ ls) l x (suc k, lt, is) h =
    Contains-append_right (expressions_of m.entries) (expressions_in ls) x (of-lists ls l x (k, omega arith, is) h)

-- each expression that a list has in an entry whose range contains the address, or in a default
-- entry, is an expression of the list
pub entries-among : (base address : ℕ) (es : List Entry) (x : LocatedExpression) → Contains (bounded_at base address es ++ defaults_in es) x
    → Contains (expressions_of es) x
entries-among base address es x among = elim (Contains-append_cases (bounded_at base address es) (defaults_in es) x among) [
  | inl h ↦ bounded-among base address es x h
  | inr h ↦ defaults-among es x h
]

-- such an expression is also one of the section
pub given-among : (s : ListSection) (l : Loclist) (base address : ℕ) (x : LocatedExpression) → Contains (lists_in s) l
    → Contains (bounded_at base address l.entries ++ defaults_in l.entries) x → Contains (located_in s) x
given-among s l base address x l_in among = of-lists (lists_in s) l x l_in (entries-among base address l.entries x among)

-- ---- stored expressions

-- if `ks` is what is stored about the expressions `xs`, each expression in `xs` is among the stored
-- ones
pub kept-among : (xs : List LocatedExpression) (ks : List StoredExpression) (x : LocatedExpression) → AreStoredOf xs ks → Contains xs x
    → IsAmong ks x
kept-among [] ks x kept among = absurd (no-list x among)
kept-among (y ∷ xs) [] x kept among = absurd kept
kept-among (y ∷ xs) (k ∷ ks) x kept (zero, lt, is) =
    (k, (zero, omega arith, refl), subst (λ (z : LocatedExpression). IsStoredOf z k) is kept.0)
kept-among (y ∷ xs) (k ∷ ks) x kept (suc j, lt, is) =
    let rest = kept-among xs ks x kept.1 (j, omega arith, is) in (rest.0, contains-past rest.0 k ks rest.1, rest.2)

same-offsets : (xs : List LocatedExpression) (ks : List StoredExpression) → AreStoredOf xs ks → offsets-of xs ≡ map offset_of ks
same-offsets [] [] kept = refl
same-offsets [] (k ∷ ks) kept = absurd kept
same-offsets (x ∷ xs) [] kept = absurd kept
same-offsets (x ∷ xs) (k ∷ ks) kept =
    ap (λ n. n ∷ offsets-of xs) (sym kept.0.offset_is) ∙ ap (λ (t : List ℕ). offset_of k ∷ t) (same-offsets xs ks kept.1)

pub kept-ascend : (s : ListSection) (ks : List StoredExpression) → IsChecked s → AreStoredOf (located_in s) ks → Ascends offset_of ks
kept-ascend s ks checked kept = ascends-back offset_of ks
    (subst (Ascends (λ n. n)) (same-offsets (located_in s) ks kept) (expressions-ascend s checked))

-- what is stored about the expressions of one list
pub list-ascend : (target : Target) (r : ReadPosition) (l : Loclist) (after : ReadPosition) (ks : List StoredExpression) → r.target ≡ target
    → list_at r ≡ Ok (l, after) → AreStoredOf (expressions_of l.entries) ks → Ascends offset_of ks
list-ascend target r l after ks same read kept =
    let h = list-found target r l after same read in
    let rise = list-rises target r.position h.bytes l h.encoded in
    ascends-back offset_of ks
    (subst (Ascends (λ n. n)) (same-offsets (expressions_of l.entries) ks kept)
    (rise-ascends (r.position + 1) (r.position + length h.bytes + 1) (offsets-of (expressions_of l.entries)) rise))
