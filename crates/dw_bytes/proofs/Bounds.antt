-- A read goes forward and keeps the end of the bytes. If it fails, its fault is reported between
-- where it began and that end.
use Rattle.std.proofs.Common.{◌≡◌, ℕ, zero, suc, ◌+◌, ◌≤◌, Bool, true, false, cond, ltb, List, [], length, take, Result, Ok, Err, refl, ap}
use Rattle.std.proofs.Common.{subst, arith}
use Rattle.std.specs.Prelude.{Contains}
use Rattle.std.specs.List.{AllByRecursion}
use Rattle.std.proofs.lemmas.List.{length-append}
use Rattle.std.proofs.lemmas.List.Elements.{All-from_recursion}
use Rattle.dw_bytes.specs.declared.fault.Fault.{Fault}
use Rattle.dw_bytes.specs.declared.fault.FaultKind.TheVariants.{Truncated}
use Rattle.dw_bytes.specs.Encoding.{Bytes, Fixed, InitialLengthPair, Uleb, Sleb, bytes_of_address}
use Rattle.dw_bytes.specs.Reading.{ReadPosition, IsExact, IsRefusedAt, ◌>>=◌, past_field, take_at, fixed_at, address_at}
use Rattle.dw_bytes.specs.Reading.{initial_length_at, uleb_at, sleb_at}
use Rattle.dw_bytes.specs.Sequence.{located_read, and_then, at_most_of, sequence_of}
use Rattle.dw_bytes.proofs.Fields.{take_exact, fixed_exact, initial_length_exact, uleb_exact, sleb_exact}
use Rattle.dw_bytes.proofs.Refused.{fixed_refused, initial_length_refused, uleb_refused, sleb_refused}

abbrev pub end-of : ReadPosition → ℕ
end-of r = r.position + length r.rest

abbrev pub Stays : {X : Type 0} → ℕ → ReadPosition → Result (X × ReadPosition) Fault → Type 0
Stays from r (Ok x) = (r.position ≤ x.1.position) × (end-of x.1 ≡ end-of r)
Stays from r (Err fault) = (from ≤ fault.at) × (fault.at ≤ end-of r)

-- each read that begins at offset `from` or after it goes forward, and reports a fault at `from` or
-- after it
abbrev pub AlwaysStays : {X : Type 0} → ℕ → (ReadPosition → Result (X × ReadPosition) Fault) → Type 0
AlwaysStays from read = (r : ReadPosition) → from ≤ r.position → Stays from r (read r)

-- ---- reads made of other reads

moved : {B : Type 0} (from : ℕ) (r mid : ReadPosition) (y : Result (B × ReadPosition) Fault) → r.position ≤ mid.position
    → end-of mid ≡ end-of r → Stays from mid y → Stays from r y
moved from r mid (Ok y) on same k = (omega (arith, k.0), omega (arith, k.1))
moved from r mid (Err fault) on same k = (k.0, omega (arith, k.1))

pub bind-stays : {A B : Type 0} (from : ℕ) (r : ReadPosition) (x : Result (A × ReadPosition) Fault)
    (second : A → ReadPosition → Result (B × ReadPosition) Fault) → from ≤ r.position → Stays from r x
    → ((a : A) → AlwaysStays from (second a)) → Stays from r (x >>= λ a. second a.0 a.1)
bind-stays from r (Ok a) second h one two = moved from r a.1 (second a.0 a.1) one.0 one.1 (two a.0 a.1 (omega (arith, one.0)))
bind-stays from r (Err fault) second h one two = one

pub made-stays : {A : Type 0} (from : ℕ) (a : A) → AlwaysStays {X = A} from (λ r. Ok (a, r))
made-stays from a r h = (omega arith, refl)

located : {A : Type 0} (from at : ℕ) (r : ReadPosition) (x : Result (A × ReadPosition) Fault) → Stays from r x
    → Stays {X = ℕ × A} from r (x >>= λ a. Ok ((at, a.0), a.1))
located from at r (Ok a) h = h
located from at r (Err fault) h = h

pub located-stays : {A : Type 0} (read : ReadPosition → Result (A × ReadPosition) Fault) (r : ReadPosition) → Stays r.position r (read r)
    → Stays r.position r (located_read read r)
located-stays read r h = located r.position r.position r (read r) h

-- ---- reading single fields

field-stays : {X : Type 0} (from : ℕ) (read : ReadPosition → Result (X × ReadPosition) Fault) (IsEncoding : List ℕ → X → Type 0)
    (r : ReadPosition) → IsExact read IsEncoding r → (x : Result (X × ReadPosition) Fault) → read r ≡ x → IsRefusedAt r x
    → from ≤ r.position → Stays from r x
field-stays from read IsEncoding r exact (Ok x) is refused h =
    let next = exact.found x.0 x.1 is in
    (omega (arith, next.position), omega (arith, next.position, ap length next.parts, length-append next.bytes x.1.rest))
field-stays from read IsEncoding r exact (Err fault) is refused h = (omega (arith, refused), omega (arith, refused))

pub fixed-stays : (from n : ℕ) → AlwaysStays from (fixed_at n)
fixed-stays from n r h = field-stays from (fixed_at n) (Fixed r.target.order n) r (fixed_exact n r) (fixed_at n r) refl
    (fixed_refused n r) h

pub address-stays : (from : ℕ) → AlwaysStays from address_at
address-stays from r h = fixed-stays from (bytes_of_address r.target.address_size) r h

pub length-stays : (from : ℕ) → AlwaysStays from initial_length_at
length-stays from r h = field-stays from initial_length_at (InitialLengthPair r.target.order) r (initial_length_exact r) (initial_length_at r) refl
    (initial_length_refused r) h

pub uleb-stays : (from : ℕ) → AlwaysStays from uleb_at
uleb-stays from r h = field-stays from uleb_at Uleb r (uleb_exact r) (uleb_at r) refl (uleb_refused r) h

pub sleb-stays : (from : ℕ) → AlwaysStays from sleb_at
sleb-stays from r h = field-stays from sleb_at Sleb r (sleb_exact r) (sleb_at r) refl (sleb_refused r) h

front-refused : (b : Bool) (n : ℕ) (r : ReadPosition) → IsRefusedAt r (past_field (cond b (Err Truncated) (Ok (take n r.rest, n))) r)
front-refused true n r = refl
front-refused false n r = tt

take-refused : (n : ℕ) (r : ReadPosition) → IsRefusedAt r (take_at n r)
unfolding take_at
take-refused n r = front-refused (ltb (length r.rest) n) n r

pub take-stays : (from n : ℕ) → AlwaysStays from (take_at n)
take-stays from n r h = field-stays from (take_at n) (Bytes n) r (take_exact n r) (take_at n r) refl (take-refused n r) h

-- ---- reading things one after another

tested : {X : Type 0} (b : Bool) (items : List (Result X Fault)) (P : Result X Fault → Type 0) → AllByRecursion P items
    → AllByRecursion P (cond b items [])
tested true items P h = h
tested false items P h = tt

step : {X : Type 0} (read : ReadPosition → Result (X × ReadPosition) Fault) (On : ReadPosition → Type 0) (P : Result X Fault → Type 0)
    → ((r : ReadPosition) (x : X) (after : ReadPosition) → On r → read r ≡ Ok (x, after) → P (Ok x) × On after)
    → ((r : ReadPosition) (fault : Fault) → On r → read r ≡ Err fault → P (Err fault))
    → (others : ReadPosition → List (Result X Fault)) → ((r : ReadPosition) → On r → AllByRecursion P (others r))
    → (r : ReadPosition) (x : Result (X × ReadPosition) Fault) → read r ≡ x → On r → AllByRecursion P (and_then x others)
step read On P good bad others past r (Ok x) is on = let h = good r x.0 x.1 on is in (h.0, past x.1 h.1)
step read On P good bad others past r (Err fault) is on = (bad r fault on is, tt)

-- If P holds for each value and each fault that one read gives, P holds for all items of the list
-- that reading again and again gives.
all-along : {X : Type 0} (read : ReadPosition → Result (X × ReadPosition) Fault) (On : ReadPosition → Type 0) (P : Result X Fault → Type 0)
    → ((r : ReadPosition) (x : X) (after : ReadPosition) → On r → read r ≡ Ok (x, after) → P (Ok x) × On after)
    → ((r : ReadPosition) (fault : Fault) → On r → read r ≡ Err fault → P (Err fault))
    → (n : ℕ) (r : ReadPosition) → On r → AllByRecursion P (at_most_of read n r)
all-along read On P good bad zero r on = tt
all-along {X} read On P good bad (suc n) r on = tested (ltb 0 (length r.rest)) (and_then (read r) (at_most_of read n)) P
    (step read On P good bad (at_most_of read n) (all-along read On P good bad n) r (read r) refl on)

pub each-along : {X : Type 0} (read : ReadPosition → Result (X × ReadPosition) Fault) (On : ReadPosition → Type 0)
    (P : Result X Fault → Type 0)
    → ((r : ReadPosition) (x : X) (after : ReadPosition) → On r → read r ≡ Ok (x, after) → P (Ok x) × On after)
    → ((r : ReadPosition) (fault : Fault) → On r → read r ≡ Err fault → P (Err fault))
    → (r : ReadPosition) (item : Result X Fault) → On r → Contains (sequence_of read r) item → P item
unfolding sequence_of
each-along {X} read On P good bad r item on (k, lt, is) =
    let all = All-from_recursion P (sequence_of read r) (all-along read On P good bad (length r.rest) r on) in
    subst P is (all k item lt)
