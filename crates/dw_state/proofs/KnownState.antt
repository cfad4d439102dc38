-- How the maps that store the state of a state file change with each line of the file.
use Rattle.std.proofs.Common.{◌≡◌, ℕ, zero, suc, ◌+◌, ◌-◌, ◌<◌, ◌==◌, nat_lt, nat_le, Bool, true, false, Option, Some, None, List, []}
use Rattle.std.proofs.Common.{◌∷◌, ◌++◌, length, take, slice_index, ap, refl, sym, ◌∙◌, arith}
use Rattle.std.specs.Prelude.{MatchOption, if◌then◌else◌, slice_get}
use Rattle.std.specs.Bool.{OnTrue}
use Rattle.std.specs.Option.{is_none, option_or}
use Rattle.std.specs.declared.cmp.Ordering.TheVariants.{Less, Equal, Greater}
use Rattle.std.specs.Ordering.{is_eq, nat_cmp}
use Rattle.std.specs.Cmp.{nat_cmp_is}
use Rattle.std.specs.Map.{lookup}
use Rattle.std.specs.BTreeMap.{BTreeMap, get, Updates, IsUnchanged}
use Rattle.std.proofs.lemmas.Bool.Decides.{nat_tests}
use Rattle.std.proofs.lemmas.List.Sums.{fold-append}
use Rattle.dw_rules.specs.Abi.{abi_fault}
use Rattle.dw_state.specs.StateFile.{StateFact, bytes, first_that, content_in, byte_in, cfa_in, frame_base_in, object_in}
use Rattle.dw_state.specs.StateFile.{kept_in, kept_with, stack_pointer_in, go_together, KnownState, IsGivenBy}

cmp_lt : (k q : ℕ) → k < q → is_eq (nat_cmp k q) ≡ (k == q)
cmp_lt k q h = let other : (k == q) ≡ false = grind (arith, nat_tests) in rw (sym (nat_cmp_is k q Less h), other) refl

cmp_gt : (k q : ℕ) → q < k → is_eq (nat_cmp k q) ≡ (k == q)
cmp_gt k q h = let other : (k == q) ≡ false = grind (arith, nat_tests) in rw (sym (nat_cmp_is k q Greater h), other) refl

cmp_same : (k q : ℕ) → k ≡ q → is_eq (nat_cmp k q) ≡ (k == q)
cmp_same k q h = let same : (k == q) ≡ true = grind (arith, nat_tests, h) in rw (sym (nat_cmp_is k q Equal h), same) refl

by_order : (k q : ℕ) (a b : Bool) → nat_lt k q ≡ a → nat_lt q k ≡ b → is_eq (nat_cmp k q) ≡ (k == q)
by_order k q true b ea eb = cmp_lt k q (grind (arith, nat_tests, ea))
by_order k q false true ea eb = cmp_gt k q (grind (arith, nat_tests, eb))
by_order k q false false ea eb = cmp_same k q (grind (arith, nat_tests, ea, eb))

pub cmp_eq : (k q : ℕ) → is_eq (nat_cmp k q) ≡ (k == q)
cmp_eq k q = by_order k q (nat_lt k q) (nat_lt q k) refl refl

-- ---- the first of some options that has a value

pub or_none : {X : Type 0} → (p : Option X) → option_or p None ≡ p
or_none None = refl
or_none (Some x) = refl

pub or_or : {X : Type 0} → (p q r : Option X) → option_or (option_or p q) r ≡ option_or p (option_or q r)
or_or None q r = refl
or_or (Some x) q r = refl

-- ---- what the first fact of its kind gives, after one more fact

pub first_more : {X : Type 0} → (pick : StateFact → Option X) (gs : List StateFact) (g : StateFact)
    → first_that pick (gs ++ g ∷ []) ≡ option_or (first_that pick gs) (pick g)
first_more pick [] g = or_none (pick g)
first_more pick (h ∷ gs) g = ap (option_or (pick h)) (first_more pick gs g) ∙ sym (or_or (pick h) (first_that pick gs) (pick g))

-- ---- the bytes of a `mem` line, after one more byte

taken_more : (bs : List ℕ) (i j : ℕ) → i < length bs
    → slice_get (take (suc i) bs) j ≡ option_or (slice_get (take i bs) j) (if i == j then Some (slice_index bs i) else None)
taken_more [] i j h = absurd (omega (arith, h))
taken_more (b ∷ bs) zero zero h = refl
taken_more (b ∷ bs) zero (suc j) h = let other : (0 == suc j) ≡ false = grind (arith, nat_tests) in rw other refl
taken_more (b ∷ bs) (suc i) zero h = refl
taken_more (b ∷ bs) (suc i) (suc j) h = let same : (suc i == suc j) ≡ (i == j) = grind (arith, nat_tests) in
    rw same (taken_more bs i j (omega (arith, h)))

here_more : (m a b i : ℕ) (bs : List ℕ) → i < length bs → b ≡ slice_index bs i → (t : Bool) → nat_le m a ≡ t →
    byte_in a (bytes m (take (suc i) bs)) ≡ option_or (byte_in a (bytes m (take i bs))) (if (m + i) == a then Some b else None)
here_more m a b i bs h is true e =
    let same : ((m + i) == a) ≡ (i == (a - m)) = grind (arith, nat_tests, e) in
    rw (e, same, is) (taken_more bs i (a - m) h)
here_more m a b i bs h is false e =
    let other : ((m + i) == a) ≡ false = grind (arith, nat_tests, e) in
    rw (e, other) refl

pub bytes_more : (m i : ℕ) (bs : List ℕ) (a : ℕ) → i < length bs →
    byte_in a (bytes m (take (i + 1) bs)) ≡ option_or (byte_in a (bytes m (take i bs)))
    (if (m + i) == a then Some (slice_index bs i) else None)
bytes_more m i bs a h =
    let more : i + 1 ≡ suc i = omega arith in
    rw more (here_more m a (slice_index bs i) i bs h refl (nat_le m a) refl)

pub byte_added : (m i : ℕ) (bs : List ℕ) (a : ℕ) (old now new : Option ℕ) → i < length bs
    → now ≡ option_or old (byte_in a (bytes m (take i bs))) → new ≡ option_or now (if (m + i) == a then Some (slice_index bs i) else None)
    → new ≡ option_or old (byte_in a (bytes m (take (i + 1) bs)))
byte_added m i bs a old now new h is added =
    let one : Option ℕ = if (m + i) == a then Some (slice_index bs i) else None in
    added ∙ ap (λ o. option_or o one) is ∙ or_or old (byte_in a (bytes m (take i bs))) one
    ∙ ap (option_or old) (sym (bytes_more m i bs a h))

-- ---- a map to which a value was added, unless it had one for that key

new_here : {V : Type 0} → (old new : BTreeMap ℕ V) (k q : ℕ) (v : V) → get nat_cmp old k ≡ None
    → get nat_cmp new q ≡ (if is_eq (nat_cmp k q) then Some v else get nat_cmp old q) → (t : Bool) → (k == q) ≡ t
    → get nat_cmp new q ≡ option_or (get nat_cmp old q) (if k == q then Some v else None)
new_here old new k q v none is true e =
    let same : k ≡ q = grind (arith, nat_tests, e) in
    let at : is_eq (nat_cmp k q) ≡ true = cmp_eq k q ∙ e in
    let gone : get nat_cmp old q ≡ None = ap (get nat_cmp old) (sym same) ∙ none in
    rw (is, at, gone, e) refl
new_here old new k q v none is false e =
    let at : is_eq (nat_cmp k q) ≡ false = cmp_eq k q ∙ e in
    rw (is, at, e) (sym (or_none (get nat_cmp old q)))

old_there : {V : Type 0} → (old : BTreeMap ℕ V) (k q : ℕ) (v x : V) → get nat_cmp old k ≡ Some x → (t : Bool) → (k == q) ≡ t
    → get nat_cmp old q ≡ option_or (get nat_cmp old q) (if k == q then Some v else None)
old_there old k q v x some true e =
    let same : k ≡ q = grind (arith, nat_tests, e) in
    let is : get nat_cmp old q ≡ Some x = ap (get nat_cmp old) (sym same) ∙ some in
    rw is refl
old_there old k q v x some false e = rw e (sym (or_none (get nat_cmp old q)))

cases : {V : Type 0} → (old new : BTreeMap ℕ V) (k q : ℕ) (v : V) (o : Option V) → get nat_cmp old k ≡ o
    → MatchOption o (Updates nat_cmp old new k (Some v)) (λ _. IsUnchanged old new)
    → get nat_cmp new q ≡ option_or (get nat_cmp old q) (if k == q then Some v else None)
cases old new k q v None none h = new_here old new k q v none (h.0 q) (k == q) refl
cases old new k q v (Some x) some h =
    let same : get nat_cmp new q ≡ get nat_cmp old q = ap (λ es. lookup (λ y. is_eq (nat_cmp q y)) es) h in
    same ∙ old_there old k q v x some (k == q) refl

pub added : {V : Type 0} → (old new : BTreeMap ℕ V) (k : ℕ) (v : V)
    → MatchOption (get nat_cmp old k) (Updates nat_cmp old new k (Some v)) (λ _. IsUnchanged old new) → (q : ℕ)
    → get nat_cmp new q ≡ option_or (get nat_cmp old q) (if k == q then Some v else None)
added old new k v h q = cases old new k q v (get nat_cmp old k) refl h

-- ---- what is known after one more line

pub record After (old : KnownState) (g : StateFact) (new : KnownState) : Type 0 where
  pub registers : (n : ℕ) → new.registers n ≡ option_or (old.registers n) (content_in n g)
  pub memory : (a : ℕ) → new.memory a ≡ option_or (old.memory a) (byte_in a g)
  pub cfa : new.cfa ≡ option_or old.cfa (cfa_in g)
  pub frame_base : new.frame_base ≡ option_or old.frame_base (frame_base_in g)
  pub object : new.object ≡ option_or old.object (object_in g)
  pub kept : new.kept ≡ kept_with old.kept g
  pub stack_pointer : new.stack_pointer ≡ option_or old.stack_pointer (stack_pointer_in g)

one_more : {X : Type 0} → (pick : StateFact → Option X) (gs : List StateFact) (g : StateFact) (old new : Option X)
    → new ≡ option_or old (pick g) → old ≡ first_that pick gs → new ≡ first_that pick (gs ++ g ∷ [])
one_more pick gs g old new h is = h ∙ ap (λ o. option_or o (pick g)) is ∙ sym (first_more pick gs g)

-- one more fact adds its callee-saved register, if it gives one, to the registers of the facts gs
kept_more : (gs : List StateFact) (g : StateFact) → kept_in (gs ++ g ∷ []) ≡ kept_with (kept_in gs) g
kept_more gs g = fold-append kept_with [] gs (g ∷ [])

pub given_more : (old new : KnownState) (g : StateFact) → After old g new → (gs : List StateFact) → IsGivenBy old gs
    → IsGivenBy new (gs ++ g ∷ [])
given_more old new g h gs is = record {
  registers = λ n. one_more (content_in n) gs g (old.registers n) (new.registers n) (h.registers n) (is.registers n);
  memory = λ a. one_more (byte_in a) gs g (old.memory a) (new.memory a) (h.memory a) (is.memory a);
  cfa = one_more cfa_in gs g old.cfa new.cfa h.cfa is.cfa;
  frame_base = one_more frame_base_in gs g old.frame_base new.frame_base h.frame_base is.frame_base;
  object = one_more object_in gs g old.object new.object h.object is.object;
  kept = h.kept ∙ ap (λ ns. kept_with ns g) is.kept ∙ sym (kept_more gs g);
  stack_pointer = one_more stack_pointer_in gs g old.stack_pointer new.stack_pointer h.stack_pointer is.stack_pointer;
}

-- whether the facts still make an ABI after one more fact depends only on that fact and on the
-- known state before it
pub together_more : (old : KnownState) (gs : List StateFact) (g : StateFact) → IsGivenBy old gs
    → go_together (gs ++ g ∷ []) ≡ is_none (abi_fault (kept_with old.kept g) (option_or old.stack_pointer (stack_pointer_in g)))
together_more old gs g is =
    rw (kept_more gs g, first_more stack_pointer_in gs g, is.kept, is.stack_pointer) refl

-- the facts still make an ABI after a fact that adds no callee-saved register and no stack pointer
pub plain_goes : (old : KnownState) (g : StateFact) → kept_with old.kept g ≡ old.kept → stack_pointer_in g ≡ None
    → abi_fault old.kept old.stack_pointer ≡ None → (gs : List StateFact) → IsGivenBy old gs → true ≡ go_together (gs ++ g ∷ [])
plain_goes old g keeps none fit gs is = rw (together_more old gs g is, keeps, none, or_none old.stack_pointer, fit) refl

pub where_true : {A B : Type 0} → (t : Bool) → OnTrue t A → (A → B) → OnTrue t B
where_true true h f = f h
where_true false h f = tt
