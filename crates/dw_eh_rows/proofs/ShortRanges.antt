-- Ranges that follow each other cover no address twice.
use Rattle.std.proofs.Common.{◌≡◌, ℕ, ◌+◌, ◌<◌, ◌≤◌, Bool, true, false, List, length, take, get_or, refl, arith}
use Rattle.std.proofs.lemmas.Bool.Decides.{nat_tests}
use Rattle.std.proofs.lemmas.List.Sums.{sum_by_more}
use Rattle.dw_eh_rows.specs.declared.short_range.ShortRange.{ShortRange}
use Rattle.dw_eh_rows.specs.Counting.{one_if, range_covers, times_in}

-- the first `count` ranges cover no address twice, and none from the end of the last of them on
pub record AreSpread (ranges : List ShortRange) (count end : ℕ) : Type 0 where
  pub once : (base a : ℕ) → times_in base a (take count ranges) ≤ 1
  pub above : (base a : ℕ) → base + end ≤ a → times_in base a (take count ranges) ≡ 0

pub spread-none : (ranges : List ShortRange) → AreSpread ranges 0 0
spread-none ranges = record { once = λ base a. omega arith; above = λ base a h. refl }

at-most : (b : Bool) → one_if b ≤ 1
at-most true = omega arith
at-most false = omega arith

above-one : (base a : ℕ) (r : ShortRange) → base + r.start + r.count ≤ a → one_if (range_covers base a r) ≡ 0
above-one base a r h = go (range_covers base a r) refl
  where
    go : (b : Bool) → range_covers base a r ≡ b → one_if b ≡ 0
    go false is = refl
    go true is = absurd (grind (arith, nat_tests, h, is))

-- a range that begins at the end of those before it, or above
once-more : (base a before : ℕ) (r : ShortRange) (end : ℕ) → before ≤ 1 → (base + end ≤ a → before ≡ 0) → end ≤ r.start
    → before + one_if (range_covers base a r) ≤ 1
once-more base a before r end once none le = go (range_covers base a r) refl
  where
    go : (b : Bool) → range_covers base a r ≡ b → before + one_if b ≤ 1
    go false is = omega (arith, once)
    go true is =
        let low : base + r.start ≤ a = grind (arith, nat_tests, is) in
        omega (arith, none (omega (arith, low, le)))

pub spread-more : (ranges : List ShortRange) (count end : ℕ) (r : ShortRange) → count < length ranges → get_or ranges count r ≡ r
    → end ≤ r.start → AreSpread ranges count end → AreSpread ranges (count + 1) (r.start + r.count)
spread-more ranges count end r inside here le so_far = record {
  once = λ base a. rw (more base a) (once-more base a (times_in base a (take count ranges)) r end (so_far.once base a) (so_far.above base a) le);
  above = λ base a h. omega (
    arith,
    more base a,
    so_far.above base a (omega (arith, h, le)),
    above-one base a r (omega (arith, h)),
  );
}
  where
    more : (base a : ℕ) → times_in base a (take (count + 1) ranges) ≡ times_in base a (take count ranges) + one_if (range_covers base a r)
    more base a = rw here at (sum_by_more (λ (s : ShortRange). one_if (range_covers base a s)) ranges count r inside)
