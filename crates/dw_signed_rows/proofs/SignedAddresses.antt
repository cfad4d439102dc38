-- The return address is signed at an address of an FDE if it is signed after the longest prefix of the
-- program after which the location is at most the address.
use Rattle.std.proofs.Common.{◌≡◌, ℕ, zero, suc, ◌≤◌, ◌<◌, Bool, true, false, List, [], ◌∷◌, ◌++◌, length, reverse}
use Rattle.std.proofs.Common.{take, refl, sym, ap, ◌∙◌, subst, arith, append_assoc}
use Rattle.std.specs.Prelude.{◌||◌, ◌&&◌, nat_lt, nat_le}
use Rattle.std.proofs.lemmas.Bool.Decides.{nat_tests}
use Rattle.std.proofs.lemmas.List.{append-nil, length-map, reverse-append}
use Rattle.dw_frame.specs.Codes.{instructions_of}
use Rattle.dw_frame.specs.Instructions.{Instruction}
use Rattle.dw_frame.specs.Records.{Cie, Fde}
use Rattle.dw_rules.specs.Effects.{effect_of}
use Rattle.dw_rules.specs.InForce.{Start, location_of}
use Rattle.dw_rows.specs.Clauses.{program_in, start_in}
use Rattle.dw_rows.specs.GoodPrograms.{IsGoodFdeProgram, IsLast, location_after}
use Rattle.dw_rows.specs.Section.{Covers}
use Rattle.dw_rows.proofs.programs.Goods.{climbs-to}
use Rattle.dw_rows.proofs.programs.Programs.{fde-from-good, good-read-fde, start-same}
use Rattle.dw_signed_rows.specs.SignedPrograms.{instructions_by, signed_after}
use Rattle.dw_signed_rows.specs.SignedRows.{instructions_in, location_by, signed_at, signed_by_cie}
use Rattle.dw_signed_rows.specs.SignedRows.{is_signed_after, is_signed_in, is_signed_up_to}
use Rattle.dw_signed_rows.proofs.GoodInstructions.{effects-prefix, instructions-read}
use Rattle.dw_signed_rows.proofs.Sections.{decide, signed-covered}

-- ---- one row

not-below : (at to a : ℕ) (b : Bool) → a < at → ((nat_le at a && nat_lt a to) && b) ≡ false
not-below at to a b low = let no : nat_le at a ≡ false = grind (arith, nat_tests) in rw no refl

not-above : (at to a : ℕ) (b : Bool) → to ≤ a → ((nat_le at a && nat_lt a to) && b) ≡ false
not-above at to a b high =
    let past : nat_lt a to ≡ false = grind (arith, nat_tests) in
    rw past (neither (nat_le at a))
  where
    neither : (low : Bool) → ((low && false) && b) ≡ false
    neither true = refl
    neither false = refl

here : (at to a : ℕ) (b : Bool) → at ≤ a → a < to → ((nat_le at a && nat_lt a to) && b) ≡ b
here at to a b low high =
    let yes : nat_le at a ≡ true = grind (arith, nat_tests) in
    let on : nat_lt a to ≡ true = grind (arith, nat_tests) in
    rw (yes, on) refl

-- ---- the instructions that are left

-- the location after `before` and the first m instructions that are left
abbrev reached : Cie → Start → List Instruction → List Instruction → ℕ → ℕ
reached c s before rest m = location_by c s (reverse (take m rest) ++ before)

taken : (x : Instruction) (m : ℕ) (rest before : List Instruction)
    → reverse (take (suc m) (x ∷ rest)) ++ before ≡ reverse (take m rest) ++ (x ∷ before)
taken x m rest before =
    ap (λ l. l ++ before) (reverse-append (x ∷ []) (take m rest)) ∙ append_assoc (reverse (take m rest)) (x ∷ []) before

-- no row has the address if the location is above it, now and later
none-above : (c : Cie) (s : Start) (first : Bool) (before rest : List Instruction) (a : ℕ)
    → ((m : ℕ) → m ≤ length rest → a < reached c s before rest m) → is_signed_after c s first before rest a ≡ false
none-above c s first before [] a past =
    not-below (location_by c s before) s.end a (signed_at first before 0) (past 0 (omega arith))
none-above c s first before (x ∷ rest) a past =
    let to = location_by c s (x ∷ before) in
    let now : is_signed_up_to c s first before to a ≡ false =
    not-below (location_by c s before) to a (signed_at first before 0) (past 0 (omega arith)) in
    let later : is_signed_after c s first (x ∷ before) rest a ≡ false =
    none-above c s first (x ∷ before) rest a
    (λ m le. subst (λ l. a < location_by c s l) (taken x m rest before) (past (suc m) (omega arith))) in
    rw (now, later) refl

-- n is the greatest number of instructions after which the location is at most the address, and the
-- location doesn't pass the address before
pub record IsLastOf (c : Cie) (s : Start) (before rest : List Instruction) (a n : ℕ) : Type 0 where
  pub within : n ≤ length rest
  pub upto : (m : ℕ) → m ≤ n → reached c s before rest m ≤ a
  pub past : (m : ℕ) → n < m → m ≤ length rest → a < reached c s before rest m

or-false : (b : Bool) → (b || false) ≡ b
or-false true = refl
or-false false = refl

-- so the row that begins after n instructions has the address, and no other row has it
signed-of-last : (c : Cie) (s : Start) (first : Bool) (before rest : List Instruction) (a n : ℕ)
    → IsLastOf c s before rest a n → a < s.end
    → is_signed_after c s first before rest a ≡ signed_at first (reverse (take n rest) ++ before) 0
signed-of-last c s first before [] a zero last high =
    here (location_by c s before) s.end a (signed_at first before 0) (last.upto 0 (omega arith)) high
signed-of-last c s first before [] a (suc n) last high = absurd (omega (arith, last.within))
signed-of-last c s first before (x ∷ rest) a zero last high =
    let to = location_by c s (x ∷ before) in
    let below : a < to = last.past 1 (omega arith) (omega arith) in
    let now : is_signed_up_to c s first before to a ≡ signed_at first before 0 =
    here (location_by c s before) to a (signed_at first before 0) (last.upto 0 (omega arith)) below in
    let later : is_signed_after c s first (x ∷ before) rest a ≡ false =
    none-above c s first (x ∷ before) rest a
    (λ m le.
    subst (λ l. a < location_by c s l) (taken x m rest before) (last.past (suc m) (omega arith) (omega arith))) in
    rw later (or-false _ ∙ now)
signed-of-last c s first before (x ∷ rest) a (suc n) last high =
    let to = location_by c s (x ∷ before) in
    let now : is_signed_up_to c s first before to a ≡ false =
    not-above (location_by c s before) to a (signed_at first before 0) (last.upto 1 (omega arith)) in
    let on : IsLastOf c s (x ∷ before) rest a n =
    record {
      within = omega (arith, last.within);
      upto = λ m le. subst (λ l. location_by c s l ≤ a) (taken x m rest before) (last.upto (suc m) (omega arith));
      past = λ m lt le.
          let past = last.past (suc m) (omega arith) (omega arith) in
          subst (λ l. a < location_by c s l) (taken x m rest before) past;
    } in
    rw now (signed-of-last c s first (x ∷ before) rest a n on high
    ∙ ap (λ l. signed_at first l 0) (sym (taken x n rest before)))

-- ---- the whole program

module _ (c : Cie) (f : Fde) (good : IsGoodFdeProgram c f) where
  length-same : length (instructions_by good.items) ≡ length (program_in c f good)
  length-same = length-map good.items (λ item. item.1) ∙ sym (length-map good.items (λ item. effect_of c item.1))

  location-same : (m : ℕ) → reached c (start_in c f good) [] (instructions_by good.items) m
      ≡ location_after (start_in c f good) (program_in c f good) m
  location-same m = ap (location_by c (start_in c f good)) (append-nil (reverse (take m (instructions_by good.items))))
      ∙ ap (location_of (start_in c f good)) (effects-prefix c good.items m)

  last-of : (a k : ℕ) → IsLast (start_in c f good) (program_in c f good) a k
      → IsLastOf c (start_in c f good) [] (instructions_by good.items) a k
  last-of a k last = record {
    within = omega (arith, last.within, length-same);
    upto = λ m le.
        let climbs = climbs-to (start_in c f good) (program_in c f good) good.good m k le last.within in
        omega (arith, location-same m, climbs, last.reached);
    past = λ m lt le.
        let past = last.last m lt (omega (arith, length-same)) in
        omega (arith, location-same m, past);
  }

pub signed-by-last : (c : Cie) (f : Fde) → (good : IsGoodFdeProgram c f) → (a k : ℕ) → Covers f a
    → IsLast (start_in c f good) (program_in c f good) a k → is_signed_in c f a ≡ signed_after c f good k
unfolding is_signed_in
signed-by-last c f good a k covers last =
    let s = start_in c f good in
    let xs = instructions_by good.items in
    let first = signed_by_cie c in
    ap (λ t. is_signed_after c t first [] (instructions_in (instructions_of f.program)) a) (start-same c f good.first)
    ∙ (ap (λ l. is_signed_after c s first [] l a) (instructions-read good.items _ (good-read-fde c f good))
    ∙ (signed-of-last c s first [] xs a k (last-of c f good a k last) covers.1
    ∙ ap (λ l. signed_at first l 0) (append-nil (reverse (take k xs)))))

pub unsigned-outside : (c : Cie) (f : Fde) → IsGoodFdeProgram c f → (a : ℕ) → ¬ Covers f a → is_signed_in c f a ≡ false
unsigned-outside c f good a not_covered = decide (is_signed_in c f a) false
    (λ is. absurd (not_covered (signed-covered c f (fde-from-good c f good) a is)))
    (λ no. absurd cc)
