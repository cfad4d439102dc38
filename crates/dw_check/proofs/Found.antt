-- A look-up in a section of location lists has exactly one reply, whatever a state file gives.
use Rattle.std.proofs.Common.{◌≡◌, ℕ, zero, suc, ◌^◌, ◌<◌, ◌==◌, Bool, true, false, cond, nat_lt, List, [], ◌∷◌, ◌++◌, length, Contains}
use Rattle.std.proofs.Common.{Option, Some, None, refl, sym, ap, ap₂, subst, ◌∙◌, arith, inl, inr, codes}
use Rattle.std.specs.Prelude.{◌⊎◌}
use Rattle.std.specs.List.{AllByRecursion, find}
use Rattle.std.proofs.lemmas.Bool.Decides.{nat_tests}
use Rattle.dw_bytes.specs.declared.target.Target.{Target}
use Rattle.dw_bytes.specs.declared.target.AddressSize.{AddressSize}
use Rattle.dw_bytes.specs.declared.fault.Fault.{Fault}
use Rattle.dw_loclists.specs.Lists.{Loclist, starts_of}
use Rattle.dw_loclists.specs.Locations.{locations_of}
use Rattle.dw_stack.specs.Located.{LocatedExpression}
use Rattle.dw_loclists.specs.Reading.{ListSection, IsChecked, lists_in, lists_fault}
use Rattle.dw_loclists.proofs.Search.{contains-map}
use Rattle.dw_sections.specs.Checked.{too_long}
use Rattle.dw_state.specs.StateFile.{StateFact}
use Rattle.dw_check.specs.Text.{expression_offset_line}
use Rattle.dw_check.specs.Lookups.{IsShowable, AreEvaluated, ShowsLocations, ShowsList, list_that_begins_at}
use Rattle.dw_check.specs.Runs.{Reply, text, refusal, not_hex, bad_line, lists_refusal, IsFound}
use Rattle.dw_requests.specs.declared.requests.ListLookup.{ListLookup}
use Rattle.dw_sections.specs.declared.section.Section.TheVariants.{Lists}
use Rattle.dw_check.proofs.Evaluated.{each_text, same_text}
use Rattle.dw_check.proofs.GoodLocations.{locations_show}
use Rattle.dw_sections.proofs.Lengths.{short_fault, long_fault}

-- ---- the list at an offset

abbrev is_at : ℕ → Loclist → Bool
is_at n l = l.offset == n

-- either no list begins at offset n and `find` gives None, or `find` gives a list that begins at n
abbrev Looked : ℕ → List Loclist → Type 0
Looked n ls = ((find (is_at n) ls ≡ None) × (Contains (starts_of ls) n → ⊥)) ⊎
    ((l : Loclist) × (find (is_at n) ls ≡ Some l) × Contains ls l × (l.offset ≡ n))

not_among : (n : ℕ) (l : Loclist) (ls : List Loclist) → (l.offset == n) ≡ false → (Contains (starts_of ls) n → ⊥)
    → Contains (starts_of (l ∷ ls)) n → ⊥
not_among n l ls e none (zero, lt, is) = grind (arith, nat_tests, e, is)
not_among n l ls e none (suc k, lt, is) = none (k, omega (arith, lt), is)

first_or : (n : ℕ) (l : Loclist) (ls : List Loclist) (b : Bool) → (l.offset == n) ≡ b → Looked n ls → Looked n (l ∷ ls)
first_or n l ls true e h =
    inr (l, ap (λ (b : Bool). cond b (Some l) (find (is_at n) ls)) e, (zero, omega arith, refl), grind (arith, nat_tests, e))
first_or n l ls false e (inl h) = inl (ap (λ (b : Bool). cond b (Some l) (find (is_at n) ls)) e ∙ h.0, not_among n l ls e h.1)
first_or n l ls false e (inr (m, is, (k, lt, at), same)) =
    inr (m, ap (λ (b : Bool). cond b (Some l) (find (is_at n) ls)) e ∙ is, (suc k, omega (arith, lt), at), same)

looked : (n : ℕ) (ls : List Loclist) → Looked n ls
looked n [] = inl (refl, λ (k, lt, is). omega (arith, lt))
looked n (l ∷ ls) = first_or n l ls (l.offset == n) refl (looked n ls)

pub no_list_at : (s : ListSection) (n : ℕ) → ¬ Contains (starts_of (lists_in s)) n → list_that_begins_at s n ≡ None
no_list_at s n none = elim (looked n (lists_in s)) [
  | inl h ↦ h.0
  | inr h ↦ absurd (none (subst (Contains (starts_of (lists_in s))) h.3 (contains-map (λ (l : Loclist). l.offset) (lists_in s) h.0 h.2)))
]

pub some_list_at : (s : ListSection) (n : ℕ) → Contains (starts_of (lists_in s)) n
    → (l : Loclist) × (list_that_begins_at s n ≡ Some l) × Contains (lists_in s) l × (l.offset ≡ n)
some_list_at s n among = elim (looked n (lists_in s)) [ inl h ↦ absurd (h.1 among) | inr h ↦ h ]

-- ---- each look-up has a text

pub each_evaluated : (size : AddressSize) (gs : List StateFact) (xs : List LocatedExpression) → AllByRecursion (IsShowable size) xs
    → (t : List ℕ) × AreEvaluated gs xs t
each_evaluated size gs [] h = ([], refl)
each_evaluated size gs (x ∷ xs) h =
    let own = each_text x.kind x.target x.bytes gs h.0.short h.0.good in
    let rest = each_evaluated size gs xs h.1 in
    ((expression_offset_line x.offset ++ own.0) ++ rest.0, (own.0, rest.0, refl, own.1, rest.1))

each_shown : (size : AddressSize) (gs : List StateFact) (xs : List LocatedExpression) → AllByRecursion (IsShowable size) xs
    → (t : List ℕ) × ShowsLocations gs xs t
each_shown size gs [] h = (codes "none\n", refl)
each_shown size gs (x ∷ xs) h = each_evaluated size gs (x ∷ xs) h

abbrev no_fault : Option Fault
no_fault = None

module _ (lookup : ListLookup) (target : Target) (section : List ℕ) (gs : List StateFact) where
  abbrev whole : ListSection
  whole = record { target = target; section = section }

  -- a section without a fault has fewer than 2^32 bytes and is accepted
  accepted : lists_refusal target section ≡ None → (length section < 2 ^ 32) × IsChecked whole
  accepted none = by (nat_lt (length section) (2 ^ 32)) refl
    where
      by : (b : Bool) → nat_lt (length section) (2 ^ 32) ≡ b → (length section < 2 ^ 32) × IsChecked whole
      by true e =
          let short : length section < 2 ^ 32 = grind (arith, nat_tests, e) in
          (short, sym (short_fault section _ short) ∙ none)
      by false e =
          let some : no_fault ≡ Some too_long =
          sym none ∙ long_fault section (lists_fault target section) (grind (arith, nat_tests, e)) in
          absurd cc

  by_list : (short : length section < 2 ^ 32) → IsChecked whole
      → (t : List ℕ) × ShowsList gs (list_that_begins_at whole lookup.list) lookup.base lookup.address t
  by_list short checked = elim (looked lookup.list (lists_in whole)) [
    | inl h ↦
        (codes "no list\n", subst (λ o. ShowsList gs o lookup.base lookup.address (codes "no list\n")) (sym h.0) refl)
    | inr h ↦
        let shown = each_shown target.address_size gs (locations_of h.0 lookup.base lookup.address)
        (locations_show whole h.0 lookup.base lookup.address checked short h.2) in
        (shown.0, subst (λ o. ShowsList gs o lookup.base lookup.address shown.0) (sym h.1) shown.1)
  ]

  by_fault : (f : Option Fault) → lists_refusal target section ≡ f → (r : Reply) × IsFound lookup target section gs r
  by_fault None e =
      let known = accepted e in
      let shown = by_list known.0 known.1 in
      (text shown.0, (e, shown.1))
  by_fault (Some f) e = (refusal Lists f, (refl, e))

  pub each_found : (r : Reply) × IsFound lookup target section gs r
  each_found = by_fault (lists_refusal target section) refl

-- ---- each look-up has at most one text

pub one_evaluated : (gs : List StateFact) (xs : List LocatedExpression) (a b : List ℕ) → AreEvaluated gs xs a → AreEvaluated gs xs b
    → a ≡ b
one_evaluated gs [] a b h k = h ∙ sym k
one_evaluated gs (x ∷ xs) a b (own, rest, is, first, others) (own2, rest2, is2, first2, others2) =
    is
    ∙ ap₂ (λ (t u : List ℕ). (expression_offset_line x.offset ++ t) ++ u) (same_text x.kind x.target x.bytes gs own own2 first first2)
    (one_evaluated gs xs rest rest2 others others2)
    ∙ sym is2

one_shown : (gs : List StateFact) (xs : List LocatedExpression) (a b : List ℕ) → ShowsLocations gs xs a → ShowsLocations gs xs b → a ≡ b
one_shown gs [] a b h k = h ∙ sym k
one_shown gs (x ∷ xs) a b h k = one_evaluated gs (x ∷ xs) a b h k

one_of_list : (gs : List StateFact) (l : Option Loclist) (base address : ℕ) (a b : List ℕ) → ShowsList gs l base address a
    → ShowsList gs l base address b → a ≡ b
one_of_list gs None base address a b h k = h ∙ sym k
one_of_list gs (Some l) base address a b h k = one_shown gs (locations_of l base address) a b h k

never : (f : Fault) (first : Option Fault) → first ≡ None → first ≡ Some f → ⊥
never f first none some = let both : None ≡ Some f = sym none ∙ some in cc

pub one_found : (lookup : ListLookup) (target : Target) (section : List ℕ) (gs : List StateFact) (r s : Reply)
    → IsFound lookup target section gs r → IsFound lookup target section gs s → r ≡ s
one_found lookup target section gs (text a) (text b) h k =
    ap text (one_of_list gs (list_that_begins_at (record { target = target; section = section }) lookup.list)
    lookup.base lookup.address a b h.1 k.1)
one_found lookup target section gs (text a) (refusal p f) h k = absurd (never f (lists_refusal target section) h.0 k.1)
one_found lookup target section gs (refusal p f) (text a) h k = absurd (never f (lists_refusal target section) k.0 h.1)
one_found lookup target section gs (refusal p f) (refusal q g) h k =
    let both : Some f ≡ Some g = sym h.1 ∙ k.1 in
    let same : f ≡ g = cc in
    ap (λ x. refusal x f) (h.0 ∙ sym k.0) ∙ ap (refusal q) same
one_found lookup target section gs (not_hex n) s h k = absurd h
one_found lookup target section gs (bad_line n) s h k = absurd h
one_found lookup target section gs (text a) (not_hex n) h k = absurd k
one_found lookup target section gs (text a) (bad_line n) h k = absurd k
one_found lookup target section gs (refusal p f) (not_hex n) h k = absurd k
one_found lookup target section gs (refusal p f) (bad_line n) h k = absurd k
