-- A loop that reads the lines of a state file one by one.
use Rattle.std.proofs.Common.{◌≡◌, ℕ, suc, ◌+◌, ◌≤◌, ◌==◌, Bool, true, false, not, ◌&&◌, Err, List, [], ◌∷◌, ◌++◌, length, take, find}
use Rattle.std.proofs.Common.{ap, refl, sym, ◌∙◌, arith, append_assoc, length-append}
use Rattle.std.specs.List.{list_all, range_with_len}
use Rattle.std.proofs.lemmas.List.Folds.{list_all-append}
use Rattle.std.proofs.lemmas.List.Elements.{filter_map-append}
use Rattle.dw_bytes.specs.declared.target.Target.{Target}
use Rattle.dw_state.specs.Parts.{joined_on, parts_of}
use Rattle.dw_state.specs.StateFile.{fact_of_line, facts_of_lines, is_line, go_together, are_good, first_bad_line, facts_of_file}

and_true : (a : Bool) → (a && true) ≡ a
and_true true = refl
and_true false = refl

left_of : (a b : Bool) → (a && b) ≡ true → a ≡ true
left_of true b h = refl
left_of false b h = h

joined_long : (b : ℕ) (parts : List (List ℕ)) (n : ℕ) → length parts ≤ n + 1 → length (joined_on b parts) ≤ (n + 1) + 1
joined_long b [] n h = omega arith
joined_long b (p ∷ ps) n h = omega (arith, h)

parts_step : (s b : ℕ) (bytes : List ℕ) (t : Bool) → (b == s) ≡ t → length (parts_of s bytes) ≤ length bytes + 1
    → length (parts_of s (b ∷ bytes)) ≤ length (b ∷ bytes) + 1
parts_step s b bytes true e h = rw e (omega (arith, h))
parts_step s b bytes false e h = rw e (omega (arith, joined_long b (parts_of s bytes) (length bytes) h))

-- there is at most one more part than there are bytes
pub few_parts : (s : ℕ) (bytes : List ℕ) → length (parts_of s bytes) ≤ length bytes + 1
few_parts s [] = omega arith
few_parts s (b ∷ bytes) = parts_step s b bytes (b == s) refl (few_parts s bytes)

-- whether one of the first n lines is bad (`first_bad_line` in specs/StateFile.antt)
abbrev pub is_bad : Target → List ℕ → ℕ → Bool
is_bad target text n = not (are_good target (take n (parts_of 10 text)))

-- the first n lines of the file, `before`, have been read, and none of them is bad; the other lines
-- are `lines`
pub record Reading (target : Target) (text : List ℕ) (before : List (List ℕ)) (n : ℕ) (lines : List (List ℕ)) : Type 0 where
  pub is : parts_of 10 text ≡ before ++ lines
  pub count : length before ≡ n
  pub each : list_all (is_line target) before ≡ true
  pub first : first_bad_line target (parts_of 10 text) ≡ find (is_bad target text) (range_with_len (n + 1) (length lines))

-- whether a line isn't bad, given that none of the lines `before` it is bad
abbrev pub goes_past : Target → List (List ℕ) → List ℕ → Bool
goes_past target before line = is_line target line && go_together (facts_of_lines target before ++ facts_of_lines target (line ∷ []))

taken : (before : List (List ℕ)) (line : List ℕ) (lines : List (List ℕ))
    → take (length before + 1) (before ++ line ∷ lines) ≡ before ++ line ∷ []
taken [] line lines = refl
taken (b ∷ before) line lines = let next : length (b ∷ before) + 1 ≡ suc (length before + 1) = omega arith in
    rw next (ap (λ ls. b ∷ ls) (taken before line lines))

each_more : (target : Target) (before : List (List ℕ)) (line : List ℕ) → list_all (is_line target) before ≡ true
    → list_all (is_line target) (before ++ line ∷ []) ≡ is_line target line
each_more target before line each = rw (list_all-append (is_line target) before (line ∷ []), each) (and_true (is_line target line))

good_more : (target : Target) (text : List ℕ) (before : List (List ℕ)) (n : ℕ) (line : List ℕ) (lines : List (List ℕ))
    → Reading target text before n (line ∷ lines) → is_bad target text (n + 1) ≡ not (goes_past target before line)
good_more target text before n line lines h =
    rw (
      h.is,
      ← h.count,
      taken before line lines,
      each_more target before line h.each,
      filter_map-append (fact_of_line target) before (line ∷ []),
    ) refl

pub reads_line : (target : Target) (text : List ℕ) (before : List (List ℕ)) (n : ℕ) (line : List ℕ) (lines : List (List ℕ))
    → Reading target text before n (line ∷ lines) → goes_past target before line ≡ true
    → Reading target text (before ++ line ∷ []) (n + 1) lines
reads_line target text before n line lines h good = record {
  is = h.is ∙ sym (append_assoc before (line ∷ []) lines);
  count = length-append before (line ∷ []) ∙ ap (λ k. k + 1) h.count;
  each = each_more target before line h.each ∙ left_of (is_line target line) _ good;
  first = h.first ∙ rw (good_more target text before n line lines h, good) refl;
}

pub reads_bad : (target : Target) (text : List ℕ) (before : List (List ℕ)) (n : ℕ) (line : List ℕ) (lines : List (List ℕ))
    → Reading target text before n (line ∷ lines) → goes_past target before line ≡ false → facts_of_file target text ≡ Err (n + 1)
reads_bad target text before n line lines h bad =
    rw (h.first, good_more target text before n line lines h, bad) refl
