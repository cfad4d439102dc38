-- Rule sets that share one list of entries, and the rules that a section's CIEs leave.
use Rattle.std.proofs.Common.{◌≡◌, ℕ, zero, suc, ◌<◌, ◌≤◌, List, [], ◌∷◌, ◌++◌, length, drop, Some, None, refl, sym, ap, ◌∙◌, subst, arith}
use Rattle.std.specs.Prelude.{slice_get, slice_range}
use Rattle.std.proofs.lemmas.List.{map-append, length-append, length-map, take-append-le, drop_at}
use Rattle.std.proofs.lemmas.List.Sums.{sum_by-append}
use Rattle.std.proofs.lemmas.Slice.{between_is, between_to_end}
use Rattle.std.specs.List.{sum_by}
use Rattle.dw_frame.specs.Records.{Cie}
use Rattle.dw_rules.specs.declared.register_rules.RuleEntry.{RuleEntry}
use Rattle.dw_rules.specs.declared.register_rules.TheConstants.{MAX_RULES}
use Rattle.dw_rules.specs.declared.initial_rules.RuleSpan.{RuleSpan}
use Rattle.dw_rules.specs.Rules.{IsTable}
use Rattle.dw_rules.specs.RuleSet.{StoredRules}
use Rattle.dw_rules.specs.SavedRules.{ArePlain}
use Rattle.dw_rules.specs.Views.{entry_of, entries_of}
use Rattle.dw_rules.specs.ProgramState.{IsLeftBy}
use Rattle.dw_rules.specs.Initial.{AreLeftBy, stored_in_span, stored_in_spans, IsSpan, AreSpans, AreAllEntries}

-- ---- more entries at the end

range-front : {X : Type 0} (xs ys : List X) (i j : ℕ) → j ≤ length xs → slice_range (xs ++ ys) i j ≡ slice_range xs i j
range-front xs ys i j h = between_is (xs ++ ys) i j ∙ (ap (drop i) (take-append-le j xs ys h) ∙ sym (between_is xs i j))

range-back : {X : Type 0} (xs ys : List X) (i j : ℕ) → i ≡ length xs → j ≡ length (xs ++ ys) → slice_range (xs ++ ys) i j ≡ ys
range-back xs ys i j here there = between_to_end (xs ++ ys) i j (omega arith) ∙ drop_at xs ys i (sym here)

span-grown : (entries more : List RuleEntry) (s : RuleSpan) → IsSpan entries s → IsSpan (entries ++ more) s
span-grown entries more s h = record {
  order = h.order;
  within = omega (arith, h.within, length-append entries more);
  few = h.few;
  table = subst (λ l. IsTable 0 (entries_of l)) (sym (range-front entries more s.start s.end h.within)) h.table;
  plain = λ some. subst (λ l. ArePlain l s.plain_below) (sym (range-front entries more s.start s.end h.within)) (h.plain some);
}

spans-grown : (entries more : List RuleEntry) (spans : List RuleSpan) → AreSpans entries spans → AreSpans (entries ++ more) spans
spans-grown entries more [] all = tt
spans-grown entries more (s ∷ spans) all = (span-grown entries more s all.0, spans-grown entries more spans all.1)

kept-grown : (entries more : List RuleEntry) (spans : List RuleSpan) → AreSpans entries spans
    → stored_in_spans (entries ++ more) spans ≡ stored_in_spans entries spans
kept-grown entries more [] all = refl
kept-grown entries more (s ∷ spans) all =
    let here : stored_in_span (entries ++ more) s ≡ stored_in_span entries s =
    ap (λ l. record { cfa = (stored_in_span entries s).cfa; rules = entries_of l })
    (range-front entries more s.start s.end all.0.within) in
    let rest = kept-grown entries more spans all.1 in
    cc

-- ---- one more span

spans-one : (entries : List RuleEntry) (spans : List RuleSpan) (s : RuleSpan) → AreSpans entries spans → IsSpan entries s
    → AreSpans entries (spans ++ s ∷ [])
spans-one entries [] s all one = (one, tt)
spans-one entries (x ∷ spans) s all one = (all.0, spans-one entries spans s all.1 one)

-- the entries `more` of one more rule set, and their span s, were added at the end: all spans are
-- still valid, they stand for one more rule set, and there are no other entries
pub record Pushed (entries more : List RuleEntry) (spans : List RuleSpan) (s : RuleSpan) : Type 0 where
  pub are : AreAllEntries (entries ++ more) (spans ++ s ∷ [])
  pub kept : stored_in_spans (entries ++ more) (spans ++ s ∷ []) ≡ stored_in_spans entries spans
      ++ record { cfa = (stored_in_span entries s).cfa; rules = entries_of more } ∷ []

pub pushed : (entries more : List RuleEntry) (spans : List RuleSpan) (s : RuleSpan) → AreAllEntries entries spans → s.start ≡ length entries
    → s.end ≡ length (entries ++ more) → length more ≤ MAX_RULES → IsTable 0 (entries_of more)
    → (0 < s.plain_below → ArePlain more s.plain_below) → Pushed entries more spans s
pushed entries more spans s all here there few table plain =
    let long = length-append entries more in
    let rules : slice_range (entries ++ more) s.start s.end ≡ more = range-back entries more s.start s.end here there in
    let one : IsSpan (entries ++ more) s = record {
      order = omega (arith, here, there, long);
      within = omega (arith, there);
      few = omega (arith, here, there, long);
      table = subst (λ l. IsTable 0 (entries_of l)) (sym rules) table;
      plain = λ some. subst (λ l. ArePlain l s.plain_below) (sym rules) (plain some);
    } in
    let last : stored_in_span (entries ++ more) s ≡ record { cfa = (stored_in_span entries s).cfa; rules = entries_of more } =
    ap (λ l. record { cfa = (stored_in_span entries s).cfa; rules = entries_of l }) rules in
    let added : StoredRules = record { cfa = (stored_in_span entries s).cfa; rules = entries_of more } in
    let kept : stored_in_spans (entries ++ more) (spans ++ s ∷ []) ≡ stored_in_spans entries spans ++ added ∷ [] =
    map-append (stored_in_span (entries ++ more)) spans (s ∷ [])
    ∙ (ap (λ l. l ++ stored_in_span (entries ++ more) s ∷ []) (kept-grown entries more spans all.lie)
    ∙ ap (λ k. stored_in_spans entries spans ++ k ∷ []) last) in
    record {
      are = record {
        lie = spans-one (entries ++ more) spans s (spans-grown entries more spans all.lie) one;
        together = omega (
          arith,
          all.together,
          long,
          ap (λ (l : List StoredRules). sum_by (λ k. length k.rules) l) kept,
          sum_by-append (λ (k : StoredRules). length k.rules) (stored_in_spans entries spans) (added ∷ []),
          length-map more entry_of,
        );
      };
      kept = kept;
    }

-- ---- the rules that the CIEs leave, in order

pub left-one : (cies : List Cie) (left : List StoredRules) (c : Cie) (k : StoredRules) → AreLeftBy cies left → IsLeftBy c k
    → AreLeftBy (cies ++ c ∷ []) (left ++ k ∷ [])
left-one [] [] c k all one = (one, tt)
left-one [] (x ∷ left) c k all one = absurd all
left-one (d ∷ cies) [] c k all one = absurd all
left-one (d ∷ cies) (x ∷ left) c k all one = (all.0, left-one cies left c k all.1 one)

pub left-count : (cies : List Cie) (left : List StoredRules) → AreLeftBy cies left → length left ≡ length cies
left-count [] [] all = refl
left-count [] (x ∷ left) all = absurd all
left-count (d ∷ cies) [] all = absurd all
left-count (d ∷ cies) (x ∷ left) all = ap suc (left-count cies left all.1)

pub left-at : (cies : List Cie) (left : List StoredRules) (i : ℕ) (c : Cie) (k : StoredRules) → AreLeftBy cies left → slice_get cies i ≡ Some c
    → slice_get left i ≡ Some k → IsLeftBy c k
left-at [] left i c k all is there = let no : None ≡ Some c = is in cc
left-at (d ∷ cies) [] i c k all is there = absurd all
left-at (d ∷ cies) (x ∷ left) zero c k all is there =
    let a : d ≡ c = cc in
    let b : x ≡ k = cc in
    subst (λ y. IsLeftBy c y) b (subst (λ y. IsLeftBy y x) a all.0)
left-at (d ∷ cies) (x ∷ left) (suc i) c k all is there = left-at cies left i c k all.1 is there
