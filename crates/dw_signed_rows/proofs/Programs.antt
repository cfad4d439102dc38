-- Programs without a fault, run one instruction at a time.
use Rattle.std.proofs.Common.{◌≡◌, ℕ, ◌+◌, ◌≤◌, ◌<◌, Bool, true, false, cond, List, [], ◌∷◌, ◌++◌, length, map, reverse, refl, sym, ap, ◌∙◌, arith, append_assoc, subst}
use Rattle.std.proofs.Common.{Option, Some, None, Result, Ok}
use Rattle.std.proofs.lemmas.List.{append-nil, reverse-append}
use Rattle.std.specs.Prelude.{◌||◌, ◌&&◌, ◌==◌, nat_lt, nat_le}
use Rattle.std.specs.Option.{option_or}
use Rattle.std.proofs.lemmas.Bool.Decides.{nat_tests}
use Rattle.dw_bytes.specs.declared.fault.Fault.{Fault}
use Rattle.dw_bytes.specs.declared.fault.FaultKind.{FaultKind}
use Rattle.dw_bytes.specs.declared.fault.FaultKind.TheVariants.{LocationBack, LocationPastEnd, NoCfa, NotInCie, RememberTooDeep, RestoreWithoutRemember}
use Rattle.dw_frame.specs.Codes.{instructions_of}
use Rattle.dw_frame.specs.Instructions.{Instruction, remember_state, restore_state, negate_ra_state}
use Rattle.dw_frame.specs.Records.{Cie, Fde}
use Rattle.dw_rules.specs.declared.remember_stack.TheConstants.{MAX_REMEMBERED}
use Rattle.dw_rules.specs.Effects.{Effect, advances_loc, sets_loc, effect_of, is_barred}
use Rattle.dw_rules.specs.InForce.{Start, cfa_at, location_of, open_count, cie_start, fde_start}
use Rattle.dw_rules.specs.ProgramFault.{cie_fault, cie_refusal_at, fault_from, fault_of_kind, fde_fault, fde_fault_from, goes_back, is_remember_state, is_restore_state, lacks_cfa, refusal_at}
use Rattle.dw_signed_rows.specs.SignedRows.{is_signed_after, is_signed_in, signed_at, is_signed_up_to, instructions_in, location_by, signed_by_cie}
use Rattle.dw_signed_rows.specs.Signatures.{IsAfter, SignatureState, turned_by}
use Rattle.dw_signed_rows.specs.SignedRuns.{HasPassed, HasPassedLast, IsRunning, Passes, SignedState, is_left_signed, is_signed_row, moved_by}
use Rattle.dw_signed_rows.specs.declared.signed_program.SignedRow.{SignedRow}

neither : (a b : Option Fault) → option_or a b ≡ None → (a ≡ None) × (b ≡ None)
neither None b is = (refl, is)
neither (Some x) b is = absurd cc

no-kind : (at : ℕ) (o : Option FaultKind) → fault_of_kind at o ≡ None → o ≡ None
no-kind at None is = refl
no-kind at (Some x) is = absurd cc

-- what is known of the first five tests of an instruction that isn't refused
untrue : (a b c d e : Bool) (ka kb kc kd ke : FaultKind) (rest : Option FaultKind)
    → cond a (Some ka) (cond b (Some kb) (cond c (Some kc) (cond d (Some kd) (cond e (Some ke) rest)))) ≡ None
    → (a ≡ false) × (b ≡ false) × (e ≡ false)
untrue true b c d e ka kb kc kd ke rest is = absurd cc
untrue false true c d e ka kb kc kd ke rest is = absurd cc
untrue false false true d e ka kb kc kd ke rest is = absurd cc
untrue false false false true e ka kb kc kd ke rest is = absurd cc
untrue false false false false true ka kb kc kd ke rest is = absurd cc
untrue false false false false false ka kb kc kd ke rest is = (refl, refl, refl)

-- what is known of an instruction that isn't refused
pub record IsFine (s : Start) (before : List Effect) (x : Effect) : Type 0 where
  pub back : goes_back (location_of s before) x ≡ false
  pub within : nat_lt s.end (location_of s (x ∷ before)) ≡ false
  pub deep : (is_remember_state x && nat_le MAX_REMEMBERED (open_count before 0)) ≡ false

pub fine : (s : Start) (before : List Effect) (x : Effect) → refusal_at s before x ≡ None → IsFine s before x
fine s before x none =
    let tests = untrue (goes_back (location_of s before) x) (nat_lt s.end (location_of s (x ∷ before)))
    (nat_lt (location_of s before) (location_of s (x ∷ before)) && lacks_cfa (cfa_at s before 0))
    (is_restore_state x && (open_count before 0 == 0)) (is_remember_state x && nat_le MAX_REMEMBERED (open_count before 0))
    LocationBack LocationPastEnd NoCfa RestoreWithoutRemember RememberTooDeep _ none in
    record { back = tests.0; within = tests.1; deep = tests.2 }

pub moves : (s : Start) (before : List Effect) (x : Effect) → location_of s (x ∷ before) ≡ moved_by x (location_of s before)
moves s before (advances_loc n) = refl
moves s before (sets_loc a) = refl
moves s before _ = refl

-- an instruction that isn't refused doesn't move the location back
pub forward : (s : Start) (before : List Effect) (x : Effect) → IsFine s before x → location_of s before ≤ location_of s (x ∷ before)
forward s before (advances_loc n) is = omega arith
forward s before (sets_loc a) is = let back = is.back in grind (arith, nat_tests)
forward s before _ is = omega arith

-- The program begins at the FDE's first address.
pub begins : (c : Cie) (f : Fde) (signature : SignatureState) → fde_fault c f ≡ None → signature.first ≡ signed_by_cie c
    → IsAfter c [] signature
    → (run : IsRunning c f (instructions_of f.program) (record { location = f.initial_location; signature = signature })) × (run.before ≡ [])
unfolding fde_fault
begins c f signature none first after = (
  record {
    before = [];
    fault = none;
    location = refl;
    within = omega arith;
    first = first;
    signature = after;
  },
  refl,
)

-- the next instruction of a program without a fault isn't refused, and what follows it has no fault
pub refused-not : (c : Cie) (f : Fde) (at : ℕ) (i : Instruction) (rest : List (Result (ℕ × Instruction) Fault)) (before : List Instruction)
    → fde_fault_from c f (map (effect_of c) before) (Ok (at, i) ∷ rest) ≡ None
    → IsFine (fde_start c f) (map (effect_of c) before) (effect_of c i)
    × (fde_fault_from c f (map (effect_of c) (i ∷ before)) rest ≡ None)
refused-not c f at i rest before none =
    let es = map (effect_of c) before in
    let (item, more) = neither _ _ none in
    let (expression, kind) = neither _ _ item in
    (fine (fde_start c f) es (effect_of c i) (no-kind at _ kind), more)

pub next-fine : (c : Cie) (f : Fde) (at : ℕ) (i : Instruction) (items rest : List (Result (ℕ × Instruction) Fault)) (m : SignedState)
    → (run : IsRunning c f items m) → items ≡ Ok (at, i) ∷ rest
    → IsFine (fde_start c f) (map (effect_of c) run.before) (effect_of c i)
    × (fde_fault_from c f (map (effect_of c) (i ∷ run.before)) rest ≡ None)
next-fine c f at i items rest m run next =
    refused-not c f at i rest run.before (sym (ap (fde_fault_from c f (map (effect_of c) run.before)) next) ∙ run.fault)

-- the location after the next instruction is one of the FDE's addresses, or its end
pub next-within : (c : Cie) (f : Fde) (at : ℕ) (i : Instruction) (items rest : List (Result (ℕ × Instruction) Fault)) (m : SignedState)
    → IsRunning c f items m → items ≡ Ok (at, i) ∷ rest → moved_by (effect_of c i) m.location ≤ f.initial_location + f.address_range
next-within c f at i items rest m run next =
    let s = fde_start c f in
    let es = map (effect_of c) run.before in
    let within = (next-fine c f at i items rest m run next).0.within in
    let reached : location_of s (effect_of c i ∷ es) ≤ s.end = grind (arith, nat_tests) in
    rw (run.location, sym (moves s es (effect_of c i))) reached

-- there is room for what the next remember_state saves
pub next-room : (c : Cie) (f : Fde) (at : ℕ) (items rest : List (Result (ℕ × Instruction) Fault)) (m : SignedState)
    → IsRunning c f items m → items ≡ Ok (at, remember_state) ∷ rest → length m.signature.remembered < MAX_REMEMBERED
next-room c f at items rest m run next =
    let deep = (next-fine c f at remember_state items rest m run next).0.deep in
    let waiting = run.signature.depth 0 in
    grind (arith, nat_tests)

-- what is signed of the row that begins at the location
row-signed : (c : Cie) (f : Fde) (items : List (Result (ℕ × Instruction) Fault)) (m : SignedState) (run : IsRunning c f items m) (to : ℕ)
    (row : SignedRow) → row.start ≡ m.location → row.end ≡ to → row.is_signed ≡ m.signature.is_signed → (a : ℕ)
    → is_signed_up_to c (fde_start c f) (signed_by_cie c) run.before to a ≡ is_signed_row row a
row-signed c f items m run to row start end is a =
    let s = fde_start c f in
    let now : row.is_signed ≡ signed_at (signed_by_cie c) run.before 0 =
    is ∙ (run.signature.now ∙ ap (λ b. signed_at b run.before 0) run.first) in
    ap (λ l. (nat_le l a && nat_lt a to) && signed_at (signed_by_cie c) run.before 0) (sym (start ∙ run.location))
    ∙ (ap (λ t. (nat_le row.start a && nat_lt a t) && signed_at (signed_by_cie c) run.before 0) (sym end)
    ∙ ap (λ b. (nat_le row.start a && nat_lt a row.end) && b) (sym now))

pub run-on : (c : Cie) (f : Fde) (at : ℕ) (i : Instruction) (items rest : List (Result (ℕ × Instruction) Fault)) (m new : SignedState)
    (row : SignedRow) (run : IsRunning c f items m) → items ≡ Ok (at, i) ∷ rest
    → row.start ≡ m.location → row.end ≡ new.location → row.is_signed ≡ m.signature.is_signed
    → new.location ≡ moved_by (effect_of c i) m.location → new.signature.first ≡ m.signature.first
    → IsAfter c (i ∷ run.before) new.signature → HasPassed c f items m run row rest new
run-on c f at i items rest m new row run next start end is moved same after =
    let s = fde_start c f in
    let es = map (effect_of c) run.before in
    let place : new.location ≡ location_by c s (i ∷ run.before) =
    moved ∙ (ap (moved_by (effect_of c i)) run.location ∙ sym (moves s es (effect_of c i))) in
    let known = next-fine c f at i items rest m run next in
    record {
      on = record {
        before = i ∷ run.before;
        fault = known.1;
        location = place;
        within = rw moved (next-within c f at i items rest m run next);
        first = same ∙ run.first;
        signature = after;
      };
      parted = λ a. ap (λ l. is_signed_after c s (signed_by_cie c) run.before (instructions_in l) a) next
          ∙ ap (λ b. b || is_signed_after c s (signed_by_cie c) (i ∷ run.before) (instructions_in rest) a)
          (row-signed c f items m run (location_by c s (i ∷ run.before)) row start (end ∙ place) is a);
      start = start;
      end = end;
      forward = rw (run.location, place) (forward s es (effect_of c i) known.0);
    }

pub run-ends : (c : Cie) (f : Fde) (items : List (Result (ℕ × Instruction) Fault)) (m : SignedState) (row : SignedRow)
    (run : IsRunning c f items m) → instructions_in items ≡ [] → row.start ≡ m.location → row.end ≡ f.initial_location + f.address_range
    → row.is_signed ≡ m.signature.is_signed → HasPassedLast c f items m run row
run-ends c f items m row run none start end is = record {
  whole = λ a. ap (λ l. is_signed_after c (fde_start c f) (signed_by_cie c) run.before l a) none
      ∙ row-signed c f items m run (f.initial_location + f.address_range) row start end is a;
  start = start;
  end = end;
}

-- ---- what running up to the end of a row returns

-- a program that begins, with its instructions under another name
pub begun-at : (c : Cie) (f : Fde) (m : SignedState) (items : List (Result (ℕ × Instruction) Fault)) → items ≡ instructions_of f.program
    → (run : IsRunning c f (instructions_of f.program) m)
    × ((a : ℕ) → is_left_signed c f (instructions_of f.program) m run a ≡ is_signed_in c f a)
    → (run : IsRunning c f items m) × ((a : ℕ) → is_left_signed c f items m run a ≡ is_signed_in c f a)
begun-at c f m items same begun =
    subst (λ (l : List (Result (ℕ × Instruction) Fault)). (run : IsRunning c f l m) × ((a : ℕ) → is_left_signed c f l m run a ≡ is_signed_in c f a))
    (sym same) begun

module _ (c : Cie) (f : Fde) (items : List (Result (ℕ × Instruction) Fault)) (m : SignedState) (run : IsRunning c f items m) where
  pub passed-last : (b : Bool) (row : SignedRow) (rest : List (Result (ℕ × Instruction) Fault)) (new : SignedState) → b ≡ true
      → Passes c f items m run b row rest new → HasPassedLast c f items m run row
  passed-last true row rest new is passed = passed
  passed-last false row rest new is passed = absurd cc

  pub passed-on : (b : Bool) (row : SignedRow) (rest : List (Result (ℕ × Instruction) Fault)) (new : SignedState) → b ≡ false
      → Passes c f items m run b row rest new → HasPassed c f items m run row rest new × (length rest < length items)
  passed-on true row rest new is passed = absurd cc
  passed-on false row rest new is passed = passed

  pub passed-signed : (b : Bool) (row : SignedRow) (rest : List (Result (ℕ × Instruction) Fault)) (new : SignedState)
      → Passes c f items m run b row rest new → (a : ℕ) → is_signed_row row a ≡ true → is_left_signed c f items m run a ≡ true
  passed-signed true row rest new passed a is = passed.whole a ∙ is
  passed-signed false row rest new passed a is =
      passed.0.parted a ∙ ap (λ b. b || is_left_signed c f rest new passed.0.on a) is

  -- a row doesn't end before its start
  pub passed-forward : (b : Bool) (row : SignedRow) (rest : List (Result (ℕ × Instruction) Fault)) (new : SignedState)
      → Passes c f items m run b row rest new → (row.start ≡ m.location) × (row.start ≤ row.end)
  passed-forward true row rest new passed = (passed.start, omega (arith, passed.start, passed.end, run.within))
  passed-forward false row rest new passed = (passed.0.start, omega (arith, passed.0.start, passed.0.end, passed.0.forward))

-- ---- a CIE's program

-- A CIE's program, which has no fault, was run up to the instructions `items`, which are left.
pub record IsLeaving (c : Cie) (items : List (Result (ℕ × Instruction) Fault)) (is_signed : Bool) : Type 0 where
  pub before : List Instruction
  pub fault : fault_from (cie_refusal_at c) (λ _. None) c (map (effect_of c) before) items ≡ None
  pub left : reverse (instructions_in (instructions_of c.program)) ≡ reverse (instructions_in items) ++ before
  pub now : is_signed ≡ signed_at false before 0

pub leaving-begins : (c : Cie) → cie_fault c ≡ None → IsLeaving c (instructions_of c.program) false
unfolding cie_fault
leaving-begins c none = record {
  before = [];
  fault = none;
  left = sym (append-nil (reverse (instructions_in (instructions_of c.program))));
  now = refl;
}

not-barred : (c : Cie) (before : List Effect) (x : Effect) → cie_refusal_at c before x ≡ None → is_barred x ≡ false
not-barred c before x none = go (is_barred x) none
  where
    go : (b : Bool) → cond b (Some NotInCie) (refusal_at (cie_start c) before x) ≡ None → b ≡ false
    go true is = absurd cc
    go false is = refl

cie-next : (c : Cie) (at : ℕ) (i : Instruction) (rest : List (Result (ℕ × Instruction) Fault)) (before : List Instruction)
    → fault_from (cie_refusal_at c) (λ _. None) c (map (effect_of c) before) (Ok (at, i) ∷ rest) ≡ None
    → (is_barred (effect_of c i) ≡ false) × (fault_from (cie_refusal_at c) (λ _. None) c (map (effect_of c) (i ∷ before)) rest ≡ None)
cie-next c at i rest before none =
    let (item, more) = neither _ _ none in
    let (expression, kind) = neither _ _ item in
    (not-barred c (map (effect_of c) before) (effect_of c i) (no-kind at _ kind), more)

turned : (c : Cie) (i : Instruction) (before : List Instruction) → is_barred (effect_of c i) ≡ false
    → turned_by i (signed_at false before 0) ≡ signed_at false (i ∷ before) 0
turned c remember_state before is = absurd cc
turned c restore_state before is = absurd cc
turned c negate_ra_state before is = refl
turned c _ before is = refl

pub leaving-on : (c : Cie) (at : ℕ) (i : Instruction) (rest : List (Result (ℕ × Instruction) Fault)) (is_signed : Bool)
    → IsLeaving c (Ok (at, i) ∷ rest) is_signed → IsLeaving c rest (turned_by i is_signed)
leaving-on c at i rest is_signed l =
    let (allowed, more) = cie-next c at i rest l.before l.fault in
    record {
      before = i ∷ l.before;
      fault = more;
      left = l.left ∙ (ap (λ xs. xs ++ l.before) (reverse-append (i ∷ []) (instructions_in rest))
          ∙ append_assoc (reverse (instructions_in rest)) (i ∷ []) l.before);
      now = ap (turned_by i) l.now ∙ turned c i l.before allowed;
    }

pub leaving-ends : (c : Cie) (items : List (Result (ℕ × Instruction) Fault)) (is_signed : Bool) → IsLeaving c items is_signed
    → instructions_in items ≡ [] → is_signed ≡ signed_by_cie c
leaving-ends c items is_signed l none =
    l.now ∙ sym (ap (λ xs. signed_at false xs 0) (l.left ∙ ap (λ xs. reverse xs ++ l.before) none))
