-- The fault of an ABI, as a search of each register among those before it finds it.
use Rattle.std.proofs.Common.{◌≡◌, ℕ, ◌+◌, ◌<◌, ◌≤◌, true, false, List, [], ◌∷◌, ◌++◌, length, Option, None, Some, refl, sym, ap, ◌∙◌}
use Rattle.std.proofs.Common.{arith, take, drop, get_or}
use Rattle.std.proofs.lemmas.Bool.{le-ltb}
use Rattle.std.proofs.lemmas.List.{drop_more, take_more, length-take-le, take_all, drop_all}
use Rattle.std.specs.Option.{option_to_list}
use Rattle.dw_bytes.specs.declared.fault.FaultKind.TheVariants.{AbiTwice}
use Rattle.dw_rules.specs.declared.abi.TheConstants.{MAX_KEPT}
use Rattle.dw_rules.specs.Abi.{is_among, abi_fault, place_of_second}

-- none of the first `place` registers occurs twice among them, so the first number that does, in
-- the registers and `after`, is the first such number from there on
abbrev pub NoneBefore : List ℕ → List ℕ → ℕ → Type 0
NoneBefore registers after place =
    place_of_second [] (registers ++ after) ≡ place_of_second (take place registers) (drop place registers ++ after)

second_here : (before : List ℕ) (n : ℕ) (rest : List ℕ) → is_among n before ≡ true
    → place_of_second before (n ∷ rest) ≡ Some (length before)
second_here before n rest among = rw among refl

second_later : (before : List ℕ) (n : ℕ) (rest : List ℕ) → is_among n before ≡ false
    → place_of_second before (n ∷ rest) ≡ place_of_second (before ++ n ∷ []) rest
second_later before n rest other = rw other refl

fault_at : (registers : List ℕ) (pointer : Option ℕ) (at : ℕ) → length registers ≤ MAX_KEPT
    → place_of_second [] (registers ++ option_to_list pointer) ≡ Some at
    → abi_fault registers pointer ≡ Some (record { kind = AbiTwice; at = at })
fault_at registers pointer at few is = rw (le-ltb MAX_KEPT (length registers) few, is) refl

no_fault : (registers : List ℕ) (pointer : Option ℕ) → length registers ≤ MAX_KEPT
    → place_of_second [] (registers ++ option_to_list pointer) ≡ None → abi_fault registers pointer ≡ None
no_fault registers pointer few is = rw (le-ltb MAX_KEPT (length registers) few, is) refl

next_of : (registers after : List ℕ) (place : ℕ) → place < length registers
    → place_of_second (take place registers) (drop place registers ++ after)
    ≡ place_of_second (take place registers) (get_or registers place 0 ∷ drop (place + 1) registers ++ after)
next_of registers after place lt = ap (λ l. place_of_second (take place registers) (l ++ after)) (drop_more registers place 0 lt)

-- the register at `place` occurs before it
pub twice_at_place : (registers : List ℕ) (pointer : Option ℕ) (place : ℕ) → length registers ≤ MAX_KEPT
    → NoneBefore registers (option_to_list pointer) place
    → place < length registers → is_among (get_or registers place 0) (take place registers) ≡ true
    → abi_fault registers pointer ≡ Some (record { kind = AbiTwice; at = place })
twice_at_place registers pointer place few none lt among =
    fault_at registers pointer place few
    (none ∙ next_of registers (option_to_list pointer) place lt
    ∙ second_here (take place registers) (get_or registers place 0) (drop (place + 1) registers ++ option_to_list pointer) among
    ∙ ap (λ n. Some n) (length-take-le place registers (omega (arith, lt))))

-- the register at `place` doesn't occur before it
pub none_before_next : (registers after : List ℕ) (place : ℕ) → NoneBefore registers after place → place < length registers
    → is_among (get_or registers place 0) (take place registers) ≡ false → NoneBefore registers after (place + 1)
none_before_next registers after place none lt other =
    none ∙ next_of registers after place lt
    ∙ second_later (take place registers) (get_or registers place 0) (drop (place + 1) registers ++ after) other
    ∙ ap (λ l. place_of_second l (drop (place + 1) registers ++ after)) (sym (take_more registers place 0 lt))

-- after all registers, only the stack pointer is left
none_among_all : (registers after : List ℕ) (place : ℕ) → NoneBefore registers after place → length registers ≤ place
    → place_of_second [] (registers ++ after) ≡ place_of_second registers after
none_among_all registers after place none ge =
    none ∙ ap (λ l. place_of_second l (drop place registers ++ after)) (take_all place registers ge)
    ∙ ap (λ l. place_of_second registers (l ++ after)) (drop_all place registers ge)

pub without_pointer : (registers : List ℕ) (pointer : Option ℕ) (place : ℕ) → length registers ≤ MAX_KEPT
    → NoneBefore registers (option_to_list pointer) place → length registers ≤ place → pointer ≡ None
    → abi_fault registers pointer ≡ None
without_pointer registers pointer place few none ge is =
    no_fault registers pointer few
    (none_among_all registers (option_to_list pointer) place none ge
    ∙ ap (λ (o : Option ℕ). place_of_second registers (option_to_list o)) is)

pub pointer_is_kept : (registers : List ℕ) (pointer : Option ℕ) (place n : ℕ) → length registers ≤ MAX_KEPT
    → NoneBefore registers (option_to_list pointer) place → length registers ≤ place → pointer ≡ Some n
    → is_among n registers ≡ true → abi_fault registers pointer ≡ Some (record { kind = AbiTwice; at = length registers })
pointer_is_kept registers pointer place n few none ge is among =
    fault_at registers pointer (length registers) few
    (none_among_all registers (option_to_list pointer) place none ge
    ∙ ap (λ (o : Option ℕ). place_of_second registers (option_to_list o)) is ∙ second_here registers n [] among)

pub pointer_is_new : (registers : List ℕ) (pointer : Option ℕ) (place n : ℕ) → length registers ≤ MAX_KEPT
    → NoneBefore registers (option_to_list pointer) place → length registers ≤ place → pointer ≡ Some n
    → is_among n registers ≡ false → abi_fault registers pointer ≡ None
pointer_is_new registers pointer place n few none ge is other =
    no_fault registers pointer few
    (none_among_all registers (option_to_list pointer) place none ge
    ∙ ap (λ (o : Option ℕ). place_of_second registers (option_to_list o)) is ∙ second_later registers n [] other)
