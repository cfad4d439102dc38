-- Matching remember_states and restore_states among instructions: a restore_state puts back whether the
-- return address was signed before the matching remember_state.
use Rattle.std.proofs.Common.{◌≡◌, ℕ, zero, suc, ◌+◌, Bool, List, [], ◌∷◌, ◌++◌, length, reverse, take}
use Rattle.std.proofs.Common.{refl, sym, ap, ◌∙◌, subst, arith, append_assoc, length-append}
use Rattle.std.proofs.lemmas.List.{length-map, reverse-append, take_at}
use Rattle.dw_frame.specs.Instructions.{Instruction, remember_state, restore_state}
use Rattle.dw_frame.specs.Records.{Cie}
use Rattle.dw_rules.specs.Effects.{Effect, effect_of, remembers_state, restores_state}
use Rattle.dw_rows.specs.GoodPrograms.{IsBalanced, Match, remembers, restores_in}
use Rattle.dw_rows.proofs.programs.Matching.{StaysOut, StaysOut-balanced, remembers-reverse, restores-reverse}
use Rattle.dw_signed_rows.specs.SignedRows.{signed_at}
use Rattle.dw_signed_rows.proofs.GoodInstructions.{effects_in, effects-reverse}

-- ---- the instructions of a stretch of effects

-- the instructions, parted as their effects are
record IsParted (c : Cie) (xs : List Instruction) (a b : List Effect) : Type 0 where
  front : List Instruction
  back : List Instruction
  whole : xs ≡ front ++ back
  front_is : effects_in c front ≡ a
  back_is : effects_in c back ≡ b

parted : (c : Cie) (xs : List Instruction) (a b : List Effect) → effects_in c xs ≡ a ++ b → IsParted c xs a b
parted c xs [] b is = record { front = []; back = xs; whole = refl; front_is = refl; back_is = is }
parted c [] (y ∷ a) b is = absurd cc
parted c (x ∷ xs) (y ∷ a) b is =
    let same : effect_of c x ≡ y = cc in
    let left : effects_in c xs ≡ a ++ b = cc in
    let later = parted c xs a b left in
    record {
      front = x ∷ later.front;
      back = later.back;
      whole = ap (λ l. x ∷ l) later.whole;
      front_is = ap (λ l. effect_of c x ∷ l) later.front_is ∙ ap (λ z. z ∷ a) same;
      back_is = later.back_is;
    }

-- the first of some instructions has the first effect
record BeginsWith (c : Cie) (xs : List Instruction) (y : Effect) (b : List Effect) : Type 0 where
  head : Instruction
  tail : List Instruction
  whole : xs ≡ head ∷ tail
  head_is : effect_of c head ≡ y
  tail_is : effects_in c tail ≡ b

begins-with : (c : Cie) (xs : List Instruction) (y : Effect) (b : List Effect) → effects_in c xs ≡ y ∷ b
    → BeginsWith c xs y b
begins-with c [] y b is = absurd cc
begins-with c (x ∷ xs) y b is = record { head = x; tail = xs; whole = refl; head_is = cc; tail_is = cc }

only-remember : (c : Cie) (x : Instruction) → effect_of c x ≡ remembers_state → x ≡ remember_state
only-remember c remember_state is = refl
only-remember c _ is = absurd cc

only-restore : (c : Cie) (x : Instruction) → effect_of c x ≡ restores_state → x ≡ restore_state
only-restore c restore_state is = refl
only-restore c _ is = absurd cc

-- the restore_state at index j matches the remember_state at index i (`Match`), among instructions
pub record IsMatch (c : Cie) (xs : List Instruction) (i j : ℕ) : Type 0 where
  pub front : List Instruction
  pub between : List Instruction
  pub back : List Instruction
  pub whole : xs ≡ front ++ (remember_state ∷ (between ++ (restore_state ∷ back)))
  pub at_remember : length front ≡ i
  pub at_restore : i + 1 + length between ≡ j
  pub balanced : IsBalanced (effects_in c between)

-- the parts of the instructions, joined again
joined : (xs front late tail between last back : List Instruction) (x y : Instruction)
    → xs ≡ front ++ late → late ≡ x ∷ tail → x ≡ remember_state
    → tail ≡ between ++ last → last ≡ y ∷ back → y ≡ restore_state
    → xs ≡ front ++ (remember_state ∷ (between ++ (restore_state ∷ back)))
joined xs front late tail between last back x y whole opened opens inside closed closes = cc

pub match-of : (c : Cie) (xs : List Instruction) (p : List Effect) (i j : ℕ) → effects_in c xs ≡ p → Match p i j
    → IsMatch c xs i j
match-of c xs p i j are m =
    let outer = parted c xs m.front (remembers_state ∷ (m.between ++ (restores_state ∷ m.back))) (are ∙ m.whole) in
    let remember = begins-with c outer.back remembers_state (m.between ++ (restores_state ∷ m.back)) outer.back_is in
    let inner = parted c remember.tail m.between (restores_state ∷ m.back) remember.tail_is in
    let restore = begins-with c inner.back restores_state m.back inner.back_is in
    record {
      front = outer.front;
      between = inner.front;
      back = restore.tail;
      whole = joined xs outer.front outer.back remember.tail inner.front inner.back restore.tail remember.head
          restore.head outer.whole remember.whole (only-remember c remember.head remember.head_is)
          inner.whole restore.whole (only-restore c restore.head restore.head_is);
      at_remember = sym (length-map outer.front (effect_of c)) ∙ (ap length outer.front_is ∙ m.at_remember);
      at_restore = omega (arith, length-map inner.front (effect_of c), ap length inner.front_is, m.at_restore);
      balanced = subst IsBalanced (sym inner.front_is) m.balanced;
    }

-- ---- going back over a balanced stretch

out-restore : (e : ℕ) (xs : List Effect) → StaysOut e (restores_state ∷ xs) → StaysOut (suc e) xs
out-restore e xs out = record {
  each = λ front back is.
      let few = out.each (restores_state ∷ front) back (ap (λ l. restores_state ∷ l) is) in
      omega (arith, few);
}

out-remember : (e : ℕ) (xs : List Effect) → StaysOut (suc e) (remembers_state ∷ xs) → StaysOut e xs
out-remember e xs out = record {
  each = λ front back is.
      let few = out.each (remembers_state ∷ front) back (ap (λ l. remembers_state ∷ l) is) in
      omega (arith, few);
}

out-nothing : (xs : List Effect) → StaysOut 0 (remembers_state ∷ xs) → ⊥
out-nothing xs out = let few = out.each (remembers_state ∷ []) xs refl in omega (arith, few)

-- as `signed_at` goes back over `xs`, the number of restore_states that it still has to match grows by
-- the number of restore_states in `xs`, and shrinks by the number of remember_states
signed-skip : (c : Cie) (first : Bool) (xs rest : List Instruction) (e f : ℕ) → StaysOut e (effects_in c xs)
    → f + remembers (effects_in c xs) ≡ e + restores_in (effects_in c xs)
    → signed_at first (xs ++ rest) (suc e) ≡ signed_at first rest (suc f)
signed-skip c first [] rest e f out n = let same : e ≡ f = omega (arith, n) in rw same refl
signed-skip c first (restore_state ∷ xs) rest e f out n =
    signed-skip c first xs rest (suc e) f (out-restore e (effects_in c xs) out) (omega (arith, n))
signed-skip c first (remember_state ∷ xs) rest zero f out n = absurd (out-nothing (effects_in c xs) out)
signed-skip c first (remember_state ∷ xs) rest (suc e) f out n =
    signed-skip c first xs rest e f (out-remember e (effects_in c xs) out) (omega (arith, n))
signed-skip c first (x ∷ xs) rest e f out n =
    signed-skip c first xs rest e f
    (record { each = λ front back is. out.each (effect_of c x ∷ front) back (ap (λ l. effect_of c x ∷ l) is) }) n

-- the first i and the first j + 1 instructions, in reverse order, made from the parts of the match
before-remember : (c : Cie) (xs : List Instruction) (i j : ℕ) → (m : IsMatch c xs i j)
    → reverse (take i xs) ≡ reverse m.front
before-remember c xs i j m = ap reverse (ap (take i) m.whole ∙ take_at m.front _ i m.at_remember)

after-restore : (c : Cie) (xs : List Instruction) (i j : ℕ) → (m : IsMatch c xs i j)
    → reverse (take (j + 1) xs) ≡ restore_state ∷ (reverse m.between ++ (remember_state ∷ reverse m.front))
after-restore c xs i j m =
    let inside = m.front ++ (remember_state ∷ m.between) in
    let until = inside ++ (restore_state ∷ []) in
    let whole : xs ≡ until ++ m.back =
    m.whole ∙ (sym (append_assoc m.front (remember_state ∷ m.between) (restore_state ∷ m.back))
    ∙ sym (append_assoc inside (restore_state ∷ []) m.back)) in
    let long : length until ≡ j + 1 = omega (
      arith,
      length-append inside (restore_state ∷ []),
      length-append m.front (remember_state ∷ m.between),
      m.at_remember,
      m.at_restore,
    ) in
    let middle : reverse inside ≡ reverse m.between ++ (remember_state ∷ reverse m.front) =
    reverse-append m.front (remember_state ∷ m.between)
    ∙ (ap (λ l. l ++ reverse m.front) (reverse-append (remember_state ∷ []) m.between)
    ∙ append_assoc (reverse m.between) (remember_state ∷ []) (reverse m.front)) in
    ap reverse (ap (take (j + 1)) whole ∙ take_at until m.back (j + 1) long)
    ∙ (reverse-append inside (restore_state ∷ []) ∙ ap (λ l. restore_state ∷ l) middle)

pub signed-matched : (c : Cie) (first : Bool) (xs : List Instruction) (i j : ℕ) → IsMatch c xs i j
    → signed_at first (reverse (take (j + 1) xs)) 0 ≡ signed_at first (reverse (take i xs)) 0
signed-matched c first xs i j m =
    let ys = effects_in c m.between in
    let turned : effects_in c (reverse m.between) ≡ reverse ys = effects-reverse c m.between in
    let out : StaysOut 0 (effects_in c (reverse m.between)) =
    subst (StaysOut 0) (sym turned) (StaysOut-balanced ys m.balanced) in
    let equal : 0 + remembers (effects_in c (reverse m.between)) ≡ 0 + restores_in (effects_in c (reverse m.between)) =
    rw turned (omega (arith, m.balanced.equal, remembers-reverse ys, restores-reverse ys)) in
    ap (λ l. signed_at first l 0) (after-restore c xs i j m)
    ∙ (signed-skip c first (reverse m.between) (remember_state ∷ reverse m.front) 0 0 out equal
    ∙ ap (λ l. signed_at first l 0) (sym (before-remember c xs i j m)))
