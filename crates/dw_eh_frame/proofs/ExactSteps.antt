-- A read of two things one after another is exact if the read of each is. From this the reads of the
-- parts of a record are put together.
use Rattle.std.proofs.Common.{◌≡◌, ℕ, ◌+◌, Bool, true, false, List, [], ◌++◌, length, Option, Some, None, Result, Ok, Err, refl, sym, ap}
use Rattle.std.proofs.Common.{subst, ◌∙◌, append_assoc, arith}
use Rattle.std.proofs.lemmas.List.{length-append}
use Rattle.dw_bytes.specs.declared.target.Target.{Target}
use Rattle.dw_bytes.specs.declared.fault.Fault.{Fault}
use Rattle.dw_bytes.specs.declared.fault.FaultKind.{FaultKind}
use Rattle.dw_bytes.specs.Reading.{ReadPosition, Next, IsExact, ◌>>=◌}
use Rattle.dw_bytes.specs.Fields.{ok_unless, unless}
use Rattle.dw_bytes.proofs.Readers.{ExactAt, bind-ok, ok-is, same-reading}

-- the bytes encode some x, and then a y that x decides about
pub record Then {X Y : Type 0} (IsFirst : ℕ → List ℕ → X → Type 0) (IsNext : X → ℕ → List ℕ → Y → Type 0) (at : ℕ) (bytes : List ℕ)
    (y : Y) : Type 0 where
  pub value : X
  pub first : List ℕ
  pub rest : List ℕ
  pub parts : bytes ≡ first ++ rest
  pub first_is : IsFirst at first value
  pub next_is : IsNext value (at + length first) rest y

abbrev pub finish : {A : Type 0} → A → ReadPosition → Result (A × ReadPosition) Fault
finish a r = Ok (a, r)

-- `Next` still holds if the value and the position after it are replaced by equal ones
pub given : {A : Type 0} (IsEncoding : List ℕ → A → Type 0) (r : ReadPosition) (a b : A) (x y : ReadPosition) → finish a x ≡ finish b y
    → Next IsEncoding r a x → Next IsEncoding r b y
given {A} IsEncoding r a b x y is h = subst (λ (p : A × ReadPosition). Next IsEncoding r p.0 p.1) (ok-is (a, x) (b, y) is) h

-- a read that gives the same at a position is exact there too
pub exact-as : {X : Type 0} (read other : ReadPosition → Result (X × ReadPosition) Fault) (IsEncoding : List ℕ → X → Type 0)
    (r : ReadPosition)
    → read r ≡ other r → IsExact other IsEncoding r → IsExact read IsEncoding r
exact-as read other IsEncoding r same exact = record {
  found = λ v after is. exact.found v after (sym same ∙ is);
  only = λ v after next. same ∙ exact.only v after next;
}

-- a read is exact for another relation if each implies the other
pub exact-for : {X : Type 0} (read : ReadPosition → Result (X × ReadPosition) Fault) (A B : List ℕ → X → Type 0) (r : ReadPosition)
    → ((bytes : List ℕ) (v : X) → A bytes v → B bytes v) → ((bytes : List ℕ) (v : X) → B bytes v → A bytes v)
    → IsExact read A r → IsExact read B r
exact-for read A B r to from exact = record {
  found = λ v after is.
      let h = exact.found v after is in
      record { bytes = h.bytes; encoded = to h.bytes v h.encoded; parts = h.parts; position = h.position; target = h.target };
  only = λ v after h. exact.only v after
      (record { bytes = h.bytes; encoded = from h.bytes v h.encoded; parts = h.parts; position = h.position; target = h.target });
}

-- a read that gives a fault, where no bytes encode anything
pub none-exact : {X : Type 0} (read : ReadPosition → Result (X × ReadPosition) Fault) (IsEncoding : List ℕ → X → Type 0) (fault : Fault)
    (r : ReadPosition) → read r ≡ Err fault → ((bytes : List ℕ) (v : X) → IsEncoding bytes v → ⊥) → IsExact read IsEncoding r
none-exact read IsEncoding fault r bad none = record {
  found = λ v after is. absurd cc;
  only = λ v after h. absurd (none h.bytes v h.encoded);
}

-- nothing is read, and the value is known
pub made-exact : {X : Type 0} (x : X) (r : ReadPosition) → IsExact (λ here. finish x here) (λ bytes v. (bytes ≡ []) × (v ≡ x)) r
made-exact {X} x r = record {
  found = λ v after is. given (λ bytes v. (bytes ≡ []) × (v ≡ x)) r x v r after is
      (record { bytes = []; encoded = (refl, refl); parts = refl; position = omega arith; target = refl });
  only = λ v after h.
      let rest : after.rest ≡ r.rest = ap (λ (t : List ℕ). t ++ after.rest) (sym h.encoded.0) ∙ sym h.parts in
      let position : after.position ≡ r.position = omega (arith, h.position, ap length h.encoded.0) in
      ap (λ (p : ReadPosition). finish x p) (sym (same-reading after r h.target position rest))
      ∙ ap (λ (y : X). finish y after) (sym h.encoded.1);
}

-- the value that was read is turned into another one
pub map-exact : {X Y : Type 0} (read : ReadPosition → Result (X × ReadPosition) Fault) (IsEncoding : List ℕ → X → Type 0) (f : X → Y)
    (r : ReadPosition)
    → IsExact read IsEncoding r
    → IsExact (λ here. read here >>= λ x. finish (f x.0) x.1) (λ bytes y. (x : X) × IsEncoding bytes x × (y ≡ f x)) r
map-exact {X} {Y} read IsEncoding f r exact = record {
  found = λ y after is.
      let x = bind-ok (read r) (λ x. finish (f x.0) x.1) (y, after) is in
      let h = exact.found x.0.0 x.0.1 x.1 in
      given (λ bytes y. (x : X) × IsEncoding bytes x × (y ≡ f x)) r (f x.0.0) y x.0.1 after x.2
      (record { bytes = h.bytes; encoded = (x.0.0, h.encoded, refl); parts = h.parts; position = h.position; target = h.target });
  only = λ y after h.
      let is = exact.only h.encoded.0 after
      (record { bytes = h.bytes; encoded = h.encoded.1; parts = h.parts; position = h.position; target = h.target }) in
      rw is (ap (λ (z : Y). finish z after) (sym h.encoded.2));
}

abbrev fine : {A : Type 0} → A → Result A Fault
fine a = Ok a

passed-test : {X : Type 0} (test : Bool) (kind : FaultKind) (at : ℕ) (x y : X) → ok_unless (unless test kind) at x ≡ fine y
    → (test ≡ true) × (x ≡ y)
passed-test true kind at x y is = (refl, cc)
passed-test false kind at x y is = absurd cc

-- a value that a test has to let through
pub checked-exact : {X : Type 0} (read : ReadPosition → Result (X × ReadPosition) Fault) (IsEncoding : List ℕ → X → Type 0)
    (test : X → Bool)
    (kind : FaultKind) (r : ReadPosition) → IsExact read IsEncoding r
    → IsExact (λ here. read here >>= λ x. ok_unless (unless (test x.0) kind) here.position x)
    (λ bytes x. IsEncoding bytes x × (test x ≡ true)) r
checked-exact {X} read IsEncoding test kind r exact = record {
  found = λ v after is.
      let x = bind-ok (read r) (λ x. ok_unless (unless (test x.0) kind) r.position x) (v, after) is in
      let passed = passed-test (test x.0.0) kind r.position x.0 (v, after) x.2 in
      let h = exact.found x.0.0 x.0.1 x.1 in
      subst (λ (p : X × ReadPosition). Next (λ bytes x. IsEncoding bytes x × (test x ≡ true)) r p.0 p.1) passed.1
      (record { bytes = h.bytes; encoded = (h.encoded, passed.0); parts = h.parts; position = h.position; target = h.target });
  only = λ v after h.
      let is = exact.only v after
      (record { bytes = h.bytes; encoded = h.encoded.0; parts = h.parts; position = h.position; target = h.target }) in
      rw is (ap (λ b. ok_unless (unless b kind) r.position (v, after)) h.encoded.1);
}

abbrev pub known : {Y : Type 0} → Fault → Option Y → ReadPosition → Result (Y × ReadPosition) Fault
known fault None r = Err fault
known fault (Some y) r = Ok (y, r)

known-is : {Y : Type 0} (fault : Fault) (o : Option Y) (r : ReadPosition) (y : Y) (after : ReadPosition) → known fault o r ≡ finish y after
    → (o ≡ Some y) × (r ≡ after)
known-is fault None r y after is = absurd cc
known-is {Y} fault (Some x) r y after is = let both = ok-is (x, r) (y, after) is in
    (ap (λ (p : Y × ReadPosition). Some p.0) both, ap (λ (p : Y × ReadPosition). p.1) both)

-- a value of which something is made, if it can be
pub known-exact : {X Y : Type 0} (read : ReadPosition → Result (X × ReadPosition) Fault) (IsEncoding : List ℕ → X → Type 0)
    (make : X → Option Y)
    (fault : Fault) (r : ReadPosition) → IsExact read IsEncoding r
    → IsExact (λ here. read here >>= λ x. known fault (make x.0) x.1) (λ bytes y. (x : X) × IsEncoding bytes x × (make x ≡ Some y)) r
known-exact {X} {Y} read IsEncoding make fault r exact = record {
  found = λ y after is.
      let x = bind-ok (read r) (λ x. known fault (make x.0) x.1) (y, after) is in
      let made = known-is fault (make x.0.0) x.0.1 y after x.2 in
      let h = exact.found x.0.0 x.0.1 x.1 in
      subst (λ (p : ReadPosition). Next (λ bytes y. (x : X) × IsEncoding bytes x × (make x ≡ Some y)) r y p) made.1
      (record { bytes = h.bytes; encoded = (x.0.0, h.encoded, made.0); parts = h.parts; position = h.position; target = h.target });
  only = λ y after h.
      let is = exact.only h.encoded.0 after
      (record { bytes = h.bytes; encoded = h.encoded.1; parts = h.parts; position = h.position; target = h.target }) in
      rw is (ap (λ (o : Option Y). known fault o after) h.encoded.2);
}

-- one thing, and then another
pub then-exact : {X Y : Type 0} (target : Target) (read : ReadPosition → Result (X × ReadPosition) Fault)
    (next : X → ReadPosition → Result (Y × ReadPosition) Fault) (IsFirst : ℕ → List ℕ → X → Type 0)
    (IsNext : X → ℕ → List ℕ → Y → Type 0) (r : ReadPosition) → r.target ≡ target
    → IsExact read (IsFirst r.position) r → ((x : X) → ExactAt target (next x) (IsNext x))
    → IsExact (λ here. read here >>= λ x. next x.0 x.1) (Then IsFirst IsNext r.position) r
then-exact {X} {Y} target read next IsFirst IsNext r same one others = record {
  found = λ y after is.
      let x = bind-ok (read r) (λ x. next x.0 x.1) (y, after) is in
      let h = one.found x.0.0 x.0.1 x.1 in
      let k = (others x.0.0 x.0.1 (h.target ∙ same)).found y after x.2 in
      record {
        bytes = h.bytes ++ k.bytes;
        encoded = record {
          value = x.0.0;
          first = h.bytes;
          rest = k.bytes;
          parts = refl;
          first_is = h.encoded;
          next_is = subst (λ at. IsNext x.0.0 at k.bytes y) h.position k.encoded;
        };
        parts = h.parts ∙ ap (λ (t : List ℕ). h.bytes ++ t) k.parts ∙ sym (append_assoc h.bytes k.bytes after.rest);
        position = omega (arith, h.position, k.position, length-append h.bytes k.bytes);
        target = k.target ∙ h.target;
      };
  only = λ y after h.
      let s = h.encoded in
      let mid : ReadPosition = record { target = r.target; position = r.position + length s.first; rest = s.rest ++ after.rest } in
      let first = one.only s.value mid (record {
        bytes = s.first;
        encoded = s.first_is;
        parts = h.parts ∙ ap (λ (t : List ℕ). t ++ after.rest) s.parts ∙ append_assoc s.first s.rest after.rest;
        position = refl;
        target = refl;
      }) in
      let second = (others s.value mid same).only y after (record {
        bytes = s.rest;
        encoded = s.next_is;
        parts = refl;
        position = omega (arith, h.position, ap length s.parts, length-append s.first s.rest);
        target = h.target;
      }) in
      rw (first, second) refl;
}

-- ---- reads that give no value

-- a read that gives only what is left, as one that gives a value
abbrev pub passing : (ReadPosition → Result ReadPosition Fault) → ReadPosition → Result (Unit {0} × ReadPosition) Fault
passing skip r = skip r >>= λ after. finish {A = Unit {0}} tt after

as-passing : {Y : Type 0} (x : Result ReadPosition Fault) (next : ReadPosition → Result (Y × ReadPosition) Fault)
    → (x >>= next) ≡ ((x >>= λ after. finish {A = Unit {0}} tt after) >>= λ p. next p.1)
as-passing (Ok after) next = refl
as-passing (Err fault) next = refl

skipped : {X : Type 0} (x : Result (X × ReadPosition) Fault)
    → ((x >>= λ a. Ok a.1) >>= λ after. finish {A = Unit {0}} tt after) ≡ (x >>= λ a. finish {A = Unit {0}} tt a.1)
skipped (Ok x) = refl
skipped (Err fault) = refl

-- a thing of which only what is left after it is given
pub skipping-exact : {X : Type 0} (read : ReadPosition → Result (X × ReadPosition) Fault) (IsEncoding : List ℕ → X → Type 0)
    (r : ReadPosition)
    → IsExact read IsEncoding r
    → IsExact {X = Unit {0}} (passing (λ here. read here >>= λ a. Ok a.1)) (λ bytes u. (x : X) × IsEncoding bytes x) r
skipping-exact {X} read IsEncoding r exact =
    exact-for {X = Unit {0}} (passing (λ here. read here >>= λ a. Ok a.1)) (λ bytes u. (x : X) × IsEncoding bytes x × (u ≡ tt))
    (λ bytes u. (x : X) × IsEncoding bytes x) r
    (λ bytes u h. (h.0, h.1)) (λ bytes u h. (h.0, h.1, refl))
    (exact-as {X = Unit {0}} (passing (λ here. read here >>= λ a. Ok a.1)) (λ here. read here >>= λ a. finish {A = Unit {0}} tt a.1)
    (λ bytes u. (x : X) × IsEncoding bytes x × (u ≡ tt)) r (skipped (read r))
    (map-exact {Y = Unit {0}} read IsEncoding (λ x. tt) r exact))

-- what is passed, and then a value that is known
pub passed-exact : {Y : Type 0} (skip : ReadPosition → Result ReadPosition Fault) (IsEncoding : List ℕ → Unit {0} → Type 0) (y : Y)
    (r : ReadPosition)
    → IsExact {X = Unit {0}} (passing skip) IsEncoding r
    → IsExact (λ here. skip here >>= λ after. finish y after) (λ bytes v. IsEncoding bytes tt × (v ≡ y)) r
passed-exact {Y} skip IsEncoding y r exact =
    exact-for (λ here. skip here >>= λ after. finish y after) (λ bytes v. (u : Unit {0}) × IsEncoding bytes u × (v ≡ y))
    (λ bytes v. IsEncoding bytes tt × (v ≡ y)) r
    (λ bytes v h. (h.1, h.2)) (λ bytes v h. (tt, h.0, h.1))
    (exact-as (λ here. skip here >>= λ after. finish y after) (λ here. passing skip here >>= λ x. finish y x.1)
    (λ bytes v. (u : Unit {0}) × IsEncoding bytes u × (v ≡ y)) r (as-passing (skip r) (λ after. finish y after))
    (map-exact {X = Unit {0}} (passing skip) IsEncoding (λ u. y) r exact))

-- what is passed, and then a thing
pub after-exact : {Y : Type 0} (target : Target) (skip : ReadPosition → Result ReadPosition Fault)
    (next : ReadPosition → Result (Y × ReadPosition) Fault) (IsFirst : ℕ → List ℕ → Unit {0} → Type 0)
    (IsNext : ℕ → List ℕ → Y → Type 0) (r : ReadPosition) → r.target ≡ target
    → IsExact (passing skip) (IsFirst r.position) r → ExactAt target next IsNext
    → IsExact (λ here. skip here >>= next) (Then {X = Unit {0}} IsFirst (λ x. IsNext) r.position) r
after-exact target skip next IsFirst IsNext r same one others =
    exact-as (λ here. skip here >>= next) (λ here. passing skip here >>= λ x. next x.1)
    (Then {X = Unit {0}} IsFirst (λ x. IsNext) r.position) r
    (as-passing (skip r) next)
    (then-exact {X = Unit {0}} target (passing skip) (λ x. next) IsFirst (λ x. IsNext) r same one (λ x. others))
