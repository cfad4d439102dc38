-- When a callee-saved register or a stack pointer can be added to an ABI.
use Rattle.std.proofs.Common.{◌≡◌, ℕ, ◌<◌, ◌==◌, nat_eq, nat_lt, Bool, true, false, ◌||◌, Option, Some, None, List, [], ◌∷◌, ◌++◌, length}
use Rattle.std.proofs.Common.{ap, refl, sym, ◌∙◌, arith, append_assoc, append-nil, length-append}
use Rattle.std.specs.Prelude.{if◌then◌else◌, option_map}
use Rattle.std.specs.Option.{is_none, option_or, option_to_list, option_eq}
use Rattle.std.proofs.lemmas.Bool.Decides.{nat_tests}
use Rattle.std.proofs.lemmas.List.Folds.{list_any-append}
use Rattle.dw_bytes.specs.declared.fault.Fault.{Fault}
use Rattle.dw_rules.specs.Abi.{is_among, place_of_second, abi_fault}
use Rattle.dw_rules.specs.declared.abi.TheConstants.{MAX_KEPT}

or_false : (a : Bool) → (a || false) ≡ a
or_false true = refl
or_false false = refl

or_true : (a : Bool) → (a || true) ≡ true
or_true true = refl
or_true false = refl

-- ---- the first number that occurs a second time

-- the first repetition in xs ++ ys is in xs, or else in ys
second_of_both : (before xs ys : List ℕ)
    → place_of_second before (xs ++ ys) ≡ option_or (place_of_second before xs) (place_of_second (before ++ xs) ys)
second_of_both before [] ys = rw (append-nil before) refl
second_of_both before (x ∷ xs) ys =
    let later = second_of_both (before ++ x ∷ []) xs ys ∙ ap (λ (l : List ℕ). option_or (place_of_second (before ++ x ∷ []) xs)
    (place_of_second l ys)) (append_assoc before (x ∷ []) xs) in
    elim (is_among x before) as (λ t.
    (if t then Some (length before) else place_of_second (before ++ x ∷ []) (xs ++ ys))
    ≡ option_or (if t then Some (length before) else place_of_second (before ++ x ∷ []) xs) (place_of_second (before ++ x ∷ xs) ys)) [
      | true ↦ refl
      | false ↦ later
    ]

-- the first repetition in kept ++ n is in kept; if there is none in kept, it is n if kept has n; if
-- kept doesn't have n, there is no repetition
second_past : (kept : List ℕ) (n : ℕ) (t : Bool) → is_among n kept ≡ t
    → place_of_second [] (kept ++ n ∷ []) ≡ option_or (place_of_second [] kept) (if t then Some (length kept) else None)
second_past kept n t is = rw (second_of_both [] kept (n ∷ []), is) refl

-- ---- the fault of an ABI, by its number of registers and the first that occurs a second time

few : (long : Bool) (f : Fault) (g : ℕ → Fault) (o : Option ℕ) → (if long then Some f else option_map g o) ≡ None → long ≡ false
few true f g o h = cc
few false f g o h = refl

none_twice : (long : Bool) (f : Fault) (g : ℕ → Fault) (o : Option ℕ) → (if long then Some f else option_map g o) ≡ None → o ≡ None
none_twice true f g o h = cc
none_twice false f g None h = refl
none_twice false f g (Some at) h = cc

left_none : (o p : Option ℕ) → option_or o p ≡ None → o ≡ None
left_none None p h = refl
left_none (Some at) p h = cc

not_there : (t : Bool) (o : Option ℕ) (at : ℕ) → option_or o (if t then Some at else None) ≡ None → t ≡ false
not_there true None at h = cc
not_there true (Some x) at h = cc
not_there false o at h = refl

faulty : (long : Bool) (f : Fault) (g : ℕ → Fault) (o : Option ℕ) (at : ℕ)
    → is_none (if long then Some f else option_map g (option_or o (Some at))) ≡ false
faulty true f g o at = refl
faulty false f g None at = refl
faulty false f g (Some x) at = refl

short : (kept : List ℕ) (n : ℕ) → length kept < MAX_KEPT → nat_lt MAX_KEPT (length (kept ++ n ∷ [])) ≡ false
short kept n h = let long = length-append kept (n ∷ []) in grind (arith, nat_tests, long)

long : (kept : List ℕ) (n : ℕ) → length kept ≡ MAX_KEPT → nat_lt MAX_KEPT (length (kept ++ n ∷ [])) ≡ true
long kept n h = let more = length-append kept (n ∷ []) in grind (arith, nat_tests, more)

-- ---- one more register for an ABI without a fault

-- a callee-saved register can be added if there is room, and it is neither one of the others nor
-- the stack pointer
pub one_more_fits : (kept : List ℕ) (sp : Option ℕ) (n : ℕ) → abi_fault kept sp ≡ None → is_among n kept ≡ false
    → is_among n (option_to_list sp) ≡ false → length kept < MAX_KEPT → abi_fault (kept ++ n ∷ []) sp ≡ None
one_more_fits kept None n fit new other small =
    let none = none_twice _ _ _ (place_of_second [] (kept ++ [])) fit in
    let each : place_of_second [] kept ≡ None = ap (place_of_second []) (sym (append-nil kept)) ∙ none in
    rw (short kept n small, append-nil (kept ++ n ∷ []), second_past kept n false new, each) refl
one_more_fits kept (Some m) n fit new other small =
    let none = sym (second_past kept m (is_among m kept) refl) ∙ none_twice _ _ _ (place_of_second [] (kept ++ m ∷ [])) fit in
    let each : place_of_second [] kept ≡ None = left_none _ _ none in
    let apart : is_among m kept ≡ false = not_there _ _ _ none in
    let differ : (n == m) ≡ false = grind (arith, nat_tests, other) in
    let not_among : is_among m (kept ++ n ∷ []) ≡ false = rw (list_any-append (λ x. x == m) kept (n ∷ []), apart, differ) refl in
    rw (short kept n small, second_past (kept ++ n ∷ []) m false not_among, second_past kept n false new, each) refl

pub one_too_many : (kept : List ℕ) (sp : Option ℕ) (n : ℕ) → length kept ≡ MAX_KEPT → is_none (abi_fault (kept ++ n ∷ []) sp) ≡ false
one_too_many kept sp n full = rw (long kept n full) refl

pub stack_pointer_stays : (kept : List ℕ) (sp : Option ℕ) (n : ℕ) → is_among n (option_to_list sp) ≡ true
    → is_none (abi_fault (kept ++ n ∷ []) sp) ≡ false
stack_pointer_stays kept None n is = cc
stack_pointer_stays kept (Some m) n is =
    let same : (n == m) ≡ true = grind (arith, nat_tests, is) in
    let there : is_among m (kept ++ n ∷ []) ≡ true =
    rw (list_any-append (λ x. x == m) kept (n ∷ []), same) (or_true (is_among m kept)) in
    rw (second_past (kept ++ n ∷ []) m true there) (faulty _ _ _ _ _)

pub is_stack_pointer : (sp : Option ℕ) (n : ℕ) → is_among n (option_to_list sp) ≡ option_eq nat_eq sp (Some n)
is_stack_pointer None n = refl
is_stack_pointer (Some m) n = or_false (m == n)

-- a stack pointer can be set if it isn't one of the callee-saved registers
pub stack_pointer_fits : (kept : List ℕ) (n : ℕ) → abi_fault kept None ≡ None → is_among n kept ≡ false
    → abi_fault kept (Some n) ≡ None
stack_pointer_fits kept n fit new =
    let none = none_twice _ _ _ (place_of_second [] (kept ++ [])) fit in
    let each : place_of_second [] kept ≡ None = ap (place_of_second []) (sym (append-nil kept)) ∙ none in
    rw (few (nat_lt MAX_KEPT (length kept)) _ _ _ fit, second_past kept n false new, each) refl

pub kept_stays : (kept : List ℕ) (n : ℕ) → is_among n kept ≡ true → is_none (abi_fault kept (Some n)) ≡ false
kept_stays kept n there = rw (second_past kept n true there) (faulty _ _ _ _ _)
