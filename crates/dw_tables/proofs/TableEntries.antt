-- The entries of a compiled table, which are stored as a list of starts and a list of rule set
-- numbers.
use Rattle.std.proofs.Common.{◌≡◌, ℕ, zero, suc, ◌<◌, ◌-◌, List, [], ◌∷◌, ◌++◌, length, get_or, refl, sym, ap, arith, Some, ◌∙◌}
use Rattle.std.specs.Prelude.{Option, slice_get}
use Rattle.std.specs.Option.{option_map}
use Rattle.std.specs.List.Sorted.{IsNonDecreasingBy}
use Rattle.std.proofs.lemmas.Option.{slice_get-get_or}
use Rattle.dw_tables.specs.declared.table_entries.EntrySpan.{EntrySpan}
use Rattle.dw_tables.specs.declared.table_entries.TableEntry.{TableEntry}
use Rattle.dw_tables.specs.CompiledTable.{AreAround, IsEntryCount, IsSpanOf, IsStartCount, entry_start, paired}

pub paired-length : (starts sets : List ℕ) → length starts ≡ length sets → length (paired starts sets) ≡ length starts
paired-length [] sets even = refl
paired-length (x ∷ starts) [] even = absurd (omega arith)
paired-length (x ∷ starts) (n ∷ sets) even = ap suc (paired-length starts sets (omega arith))

pub paired-more : (starts sets : List ℕ) (x n : ℕ) → length starts ≡ length sets
    → paired (starts ++ x ∷ []) (sets ++ n ∷ []) ≡ paired starts sets ++ record { start = x; set = n } ∷ []
paired-more [] [] x n even = refl
paired-more [] (m ∷ sets) x n even = absurd (omega arith)
paired-more (y ∷ starts) [] x n even = absurd (omega arith)
paired-more (y ∷ starts) (m ∷ sets) x n even =
    ap (λ (l : List TableEntry). record { start = y; set = m } ∷ l) (paired-more starts sets x n (omega arith))

pub paired-start : (starts sets : List ℕ) (k x : ℕ) (d : TableEntry) → length starts ≡ length sets → k < length starts
    → (get_or (paired starts sets) k d).start ≡ get_or starts k x
paired-start [] sets k x d even lt = absurd (omega arith)
paired-start (y ∷ starts) [] k x d even lt = absurd (omega arith)
paired-start (y ∷ starts) (m ∷ sets) zero x d even lt = refl
paired-start (y ∷ starts) (m ∷ sets) (suc k) x d even lt = paired-start starts sets k x d (omega arith) (omega arith)

pub paired-at : (starts sets : List ℕ) (k x n : ℕ) → length starts ≡ length sets → k < length starts → x ≡ get_or starts k x
    → n ≡ get_or sets k n → slice_get (paired starts sets) k ≡ Some (record { start = x; set = n })
paired-at [] sets k x n even lt is is_set = absurd (omega arith)
paired-at (y ∷ starts) [] k x n even lt is is_set = absurd (omega arith)
paired-at (y ∷ starts) (m ∷ sets) zero x n even lt is is_set =
    let e : TableEntry = record { start = x; set = n } in
    ap Some (λ i. record { start = sym is i; set = sym is_set i })
paired-at (y ∷ starts) (m ∷ sets) (suc k) x n even lt is is_set = paired-at starts sets k x n (omega arith) (omega arith) is is_set

pub paired-sorted : (starts sets : List ℕ) → length starts ≡ length sets → IsNonDecreasingBy entry_start (paired starts sets)
    → IsNonDecreasingBy (λ x. x) starts
paired-sorted starts sets even sorted i j x le lt =
    let d : TableEntry = record { start = 0; set = 0 } in
    let long = paired-length starts sets even in
    let up = sorted i j d le (omega arith) in
    omega (arith, up, paired-start starts sets i x d even (omega arith), paired-start starts sets j x d even lt)

pub paired-count : (starts sets : List ℕ) (a count : ℕ) → length starts ≡ length sets → IsStartCount starts a count
    → IsEntryCount (paired starts sets) a count
paired-count starts sets a count even c =
    let long = paired-length starts sets even in
    record {
      bound = omega (arith, c.bound);
      below = λ k d lt. omega (arith, c.below k 0 lt, paired-start starts sets k 0 d even (omega (arith, c.bound)));
      above = λ k d le lt. omega (arith, c.above k 0 le (omega arith), paired-start starts sets k 0 d even (omega arith));
    }

-- the span between two starts next to each other, if exactly `count` starts are at or below `a`
pub counted-span : (starts sets : List ℕ) (a count : ℕ) (span : EntrySpan) → length starts ≡ length sets
    → IsEntryCount (paired starts sets) a count → 0 < count → count < length starts
    → ((d : ℕ) → get_or starts (count - 1) d ≡ span.start) → ((d : ℕ) → get_or starts count d ≡ span.end)
    → ((d : ℕ) → get_or sets (count - 1) d ≡ span.set) → IsSpanOf (paired starts sets) a span
counted-span starts sets a count span even counted some more start_is end_is set_is =
    let d : TableEntry = record { start = 0; set = 0 } in
    let long = paired-length starts sets even in
    record {
      count = count;
      counted = counted;
      some = some;
      more = omega (arith, more, long);
      entry =
          paired-at starts sets (count - 1) span.start span.set even (omega (arith, more)) (sym (start_is span.start))
          (sym (set_is span.set));
      next =
          ap (λ (o : Option TableEntry). option_map entry_start o) (slice_get-get_or (paired starts sets) count d (omega (arith, more, long)))
          ∙ ap Some (paired-start starts sets count span.end d even more ∙ end_is span.end);
    }

-- exactly `count` starts are at or below an address that two starts next to each other are around
pub count-around : (starts : List ℕ) (a count low high : ℕ) → IsNonDecreasingBy (λ x. x) starts
    → AreAround starts a count low high → IsStartCount starts a count
count-around starts a count low high up around = record {
  bound = omega (arith, around.more);
  below = λ k d lt. omega (arith, up k (count - 1) d (omega (arith, lt, around.some)) (omega (arith, around.more)), around.low_is d, around.below);
  above = λ k d le lt. omega (arith, up count k d le lt, around.high_is d, around.above);
}

-- the span between two starts that are around the address `a`
pub span-around : (starts sets : List ℕ) (a count : ℕ) (span : EntrySpan) → length starts ≡ length sets
    → IsNonDecreasingBy (λ x. x) starts → AreAround starts a count span.start span.end
    → ((d : ℕ) → get_or sets (count - 1) d ≡ span.set) → IsSpanOf (paired starts sets) a span
span-around starts sets a count span even up around set_is =
    counted-span starts sets a count span even
    (paired-count starts sets a count even (count-around starts a count span.start span.end up around)) around.some around.more
    around.low_is around.high_is set_is
