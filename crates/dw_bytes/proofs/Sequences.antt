-- Things that are encoded one after another are read exactly if the bytes are their encodings.
use Rattle.std.proofs.Common.{◌≡◌, ℕ, zero, suc, ◌+◌, ◌-◌, ◌<◌, ◌≤◌, ◌↔◌, cond, ltb, List, [], ◌∷◌, ◌++◌, length, map, append_assoc, Result}
use Rattle.std.proofs.Common.{Ok, Err, refl, sym, ap, subst, ◌∙◌, arith, inl, inr}
use Rattle.std.proofs.lemmas.Bool.{lt-ltb, le-ltb, cases_lt}
use Rattle.std.proofs.lemmas.List.{length-append}
use Rattle.dw_bytes.specs.declared.target.Target.{Target}
use Rattle.dw_bytes.specs.declared.target.Format.{Format}
use Rattle.dw_bytes.specs.declared.fault.Fault.{Fault}
use Rattle.dw_bytes.specs.Encoding.{Offset}
use Rattle.dw_bytes.specs.Reading.{ReadPosition, Next, IsExact, ◌>>=◌, offset_at}
use Rattle.dw_bytes.specs.Sequence.{Sequence, Located, located_read, and_then, at_most_of, sequence_of, Exactly, exactly_of}
use Rattle.dw_bytes.proofs.Readers.{ExactAt, bind-ok, ok-is, same-reading, offset-exact}

-- A read of one thing that is exact at every position with this target. No encoding is empty.
pub record ReadsEach {X : Type 0} (target : Target) (read : ReadPosition → Result (X × ReadPosition) Fault) (IsEncoding : ℕ → List ℕ → X
    → Type 0) : Type 0 where
  pub exact : (r : ReadPosition) → r.target ≡ target → IsExact read (IsEncoding r.position) r
  pub some : (at : ℕ) (bytes : List ℕ) (x : X) → IsEncoding at bytes x → 0 < length bytes

-- Each successful read takes at least one byte.
abbrev pub Forward : {X : Type 0} → (ReadPosition → Result (X × ReadPosition) Fault) → Type 0
Forward {X} read = (r : ReadPosition) (x : X) (after : ReadPosition) → read r ≡ Ok (x, after) → length after.rest < length r.rest

-- if the read of a thing is exact, so is the read of the thing paired with its offset
pub located-exact : {X : Type 0} (target : Target) (read : ReadPosition → Result (X × ReadPosition) Fault) (IsEncoding : ℕ → List ℕ → X
    → Type 0) → ExactAt target read IsEncoding → (r : ReadPosition) → r.target ≡ target
    → IsExact (located_read read) (Located IsEncoding r.position) r
located-exact {X} target read IsEncoding exact r same = record {
  found = λ item after e.
      let a = bind-ok (read r) (λ x. Ok ((r.position, x.0), x.1)) (item, after) e in
      let h = (exact r same).found a.0.0 a.0.1 a.1 in
      let is : ((r.position, a.0.0), a.0.1) ≡ (item, after) = ok-is ((r.position, a.0.0), a.0.1) (item, after) a.2 in
      subst (λ (q : (ℕ × X) × ReadPosition). Next (Located IsEncoding r.position) r q.0 q.1) is
      (record { bytes = h.bytes; encoded = (refl, h.encoded); parts = h.parts; position = h.position; target = h.target });
  only = λ item after h.
      let is = (exact r same).only item.1 after
      (record { bytes = h.bytes; encoded = h.encoded.1; parts = h.parts; position = h.position; target = h.target }) in
      ap (λ x. x >>= λ (a : X × ReadPosition). Ok ((r.position, a.0), a.1)) is ∙ ap (λ (n : ℕ). Ok ((n, item.1), after)) (sym h.encoded.0);
}

-- ---- what one step gives

empty : (xs : List ℕ) → length xs ≡ 0 → xs ≡ []
empty [] h = refl
empty (x ∷ xs) h = absurd (omega arith)

turn : {X : Type 0} (read : ReadPosition → Result (X × ReadPosition) Fault) (n : ℕ) (r : ReadPosition) → 0 < length r.rest
    → at_most_of read (suc n) r ≡ and_then (read r) (at_most_of read n)
turn read n r some = ap (λ b. cond b (and_then (read r) (at_most_of read n)) []) (lt-ltb 0 (length r.rest) some)

none : {X : Type 0} (read : ReadPosition → Result (X × ReadPosition) Fault) (n : ℕ) (r : ReadPosition) → length r.rest ≡ 0
    → at_most_of read n r ≡ []
none read zero r h = refl
none read (suc n) r h = ap (λ b. cond b (and_then (read r) (at_most_of read n)) []) (le-ltb 0 (length r.rest) (omega arith))

same-then : {X : Type 0} (read : ReadPosition → Result (X × ReadPosition) Fault) → Forward read
    → (r : ReadPosition) (x : Result (X × ReadPosition) Fault) (f g : ReadPosition → List (Result X Fault)) → read r ≡ x
    → ((after : ReadPosition) → length after.rest < length r.rest → f after ≡ g after) → and_then x f ≡ and_then x g
same-then {X} read forward r (Ok found) f g is same =
    ap (λ (items : List (Result X Fault)). Ok found.0 ∷ items) (same found.1 (forward r found.0 found.1 is))
same-then read forward r (Err fault) f g is same = refl

-- any two limits that are at least the number of bytes give the same list of things
pub enough-same : {X : Type 0} (read : ReadPosition → Result (X × ReadPosition) Fault) → Forward read → (n m : ℕ) (r : ReadPosition)
    → length r.rest ≤ n → length r.rest ≤ m → at_most_of read n r ≡ at_most_of read m r
enough-same read forward zero m r h k = sym (none read m r (omega arith))
enough-same read forward (suc n) zero r h k = none read (suc n) r (omega arith)
enough-same read forward (suc n) (suc m) r h k =
    ap (λ x. cond (ltb 0 (length r.rest)) x [])
    (same-then read forward r (read r) (at_most_of read n) (at_most_of read m) refl
    (λ after lt. enough-same read forward n m after (omega arith) (omega arith)))

turn-of : {X : Type 0} (read : ReadPosition → Result (X × ReadPosition) Fault) → Forward read
    → (n : ℕ) (r : ReadPosition) (x : X) (after : ReadPosition) → length r.rest ≡ suc n → read r ≡ Ok (x, after)
    → sequence_of read r ≡ Ok x ∷ sequence_of read after
unfolding sequence_of
turn-of {X} read forward n r x after long is =
    let less = forward r x after is in
    ap (λ k. at_most_of read k r) long ∙ (turn read n r (omega arith)
    ∙ (ap (λ y. and_then y (at_most_of read n)) is ∙ ap (λ (items : List (Result X Fault)). Ok x ∷ items)
    (enough-same read forward n (length after.rest) after (omega (arith, less)) (omega arith))))

-- if the first read gives x, the list is x followed by what is read after it
pub goes-on : {X : Type 0} (read : ReadPosition → Result (X × ReadPosition) Fault) → Forward read
    → (r : ReadPosition) (x : X) (after : ReadPosition) → read r ≡ Ok (x, after) → sequence_of read r ≡ Ok x ∷ sequence_of read after
goes-on read forward r x after is = let less = forward r x after is in
    turn-of read forward (length r.rest - 1) r x after (omega (arith, less)) is

stops-of : {X : Type 0} (read : ReadPosition → Result (X × ReadPosition) Fault) (n : ℕ) (r : ReadPosition) (fault : Fault)
    → length r.rest ≡ suc n → read r ≡ Err fault → sequence_of read r ≡ Err fault ∷ []
unfolding sequence_of
stops-of read n r fault long is = ap (λ k. at_most_of read k r) long
    ∙ (turn read n r (omega arith) ∙ ap (λ x. and_then x (at_most_of read n)) is)

-- if bytes are left and the first read gives a fault, that fault is the only item of the list
pub stops : {X : Type 0} (read : ReadPosition → Result (X × ReadPosition) Fault) (r : ReadPosition) (fault : Fault) → 0 < length r.rest
    → read r ≡ Err fault → sequence_of read r ≡ Err fault ∷ []
stops read r fault some is = stops-of read (length r.rest - 1) r fault (omega arith) is

-- nothing is read if no bytes are left
pub ends : {X : Type 0} (read : ReadPosition → Result (X × ReadPosition) Fault) (r : ReadPosition) → length r.rest ≡ 0
    → sequence_of read r ≡ []
unfolding sequence_of
ends read r h = none read (length r.rest) r h

-- ---- exactness

then-ok : {X : Type 0} (x : Result (X × ReadPosition) Fault) (f : ReadPosition → List (Result X Fault)) (y : X)
    (others : List (Result X Fault)) → and_then x f ≡ Ok y ∷ others → (after : ReadPosition) × (x ≡ Ok (y, after)) × (f after ≡ others)
then-ok {X} (Ok found) f y others is =
    let same : found.0 ≡ y = cc in
    (found.1, ap (λ (z : X). Ok (z, found.1)) same, cc)
then-ok (Err fault) f y others is = absurd cc

not-none : {X : Type 0} (x : Result (X × ReadPosition) Fault) (f : ReadPosition → List (Result X Fault)) → and_then x f ≡ [] → ⊥
not-none (Ok found) f is = cc
not-none (Err fault) f is = cc

abbrev pub all-read : {X : Type 0} → List X → List (Result X Fault)
all-read xs = map Ok xs

pub all-found : {X : Type 0} (target : Target) (read : ReadPosition → Result (X × ReadPosition) Fault) (IsEncoding : ℕ → List ℕ → X
    → Type 0) → ReadsEach target read IsEncoding
    → (n : ℕ) (r : ReadPosition) (xs : List X) → r.target ≡ target → length r.rest ≤ n → at_most_of read n r ≡ all-read xs
    → Sequence IsEncoding r.position r.rest xs
all-found target read IsEncoding each zero r [] same enough is = empty r.rest (omega arith)
all-found target read IsEncoding each zero r (x ∷ xs) same enough is = absurd cc
all-found target read IsEncoding each (suc n) r [] same enough is = elim (cases_lt 0 (length r.rest)) [
  | inr out ↦ empty r.rest (omega arith)
  | inl some ↦ absurd (not-none (read r) (at_most_of read n) (sym (turn read n r some) ∙ is))
]
all-found {X} target read IsEncoding each (suc n) r (x ∷ xs) same enough is = elim (cases_lt 0 (length r.rest)) [
  | inr out ↦ let no-more : [] ≡ all-read (x ∷ xs) = sym (none read (suc n) r (omega arith)) ∙ is in absurd cc
  | inl some ↦
      let (after, found, others) = then-ok (read r) (at_most_of read n) x (all-read xs) (sym (turn read n r some) ∙ is) in
      let next = (each.exact r same).found x after found in
      let taken = each.some r.position next.bytes x next.encoded in
      let rest = all-found target read IsEncoding each n after xs (next.target ∙ same)
      (omega (arith, taken, ap length next.parts, length-append next.bytes after.rest)) others in
      (next.bytes, after.rest, next.parts, next.encoded, subst (λ p. Sequence IsEncoding p after.rest xs) next.position rest)
]

pub all-only : {X : Type 0} (target : Target) (read : ReadPosition → Result (X × ReadPosition) Fault) (IsEncoding : ℕ → List ℕ → X → Type 0)
    → ReadsEach target read IsEncoding
    → (n : ℕ) (r : ReadPosition) (xs : List X) → r.target ≡ target → length r.rest ≤ n → Sequence IsEncoding r.position r.rest xs
    → at_most_of read n r ≡ all-read xs
all-only target read IsEncoding each n r [] same enough are = none read n r (ap length are)
all-only target read IsEncoding each zero r (x ∷ xs) same enough (first, rest, parts, encoded, others) =
    let some = each.some r.position first x encoded in
    absurd (omega (arith, some, ap length parts, length-append first rest))
all-only {X} target read IsEncoding each (suc n) r (x ∷ xs) same enough (first, rest, parts, encoded, others) =
    let after : ReadPosition = record { target = r.target; position = r.position + length first; rest = rest } in
    let some = each.some r.position first x encoded in
    let long = length-append first rest in
    let is = (each.exact r same).only x after
    (record { bytes = first; encoded = encoded; parts = parts; position = refl; target = refl }) in
    let tail = all-only target read IsEncoding each n after xs same (omega (arith, some, ap length parts, long)) others in
    turn read n r (omega (arith, some, ap length parts, long))
    ∙ (ap (λ y. and_then y (at_most_of read n)) is ∙ ap (λ (items : List (Result X Fault)). Ok x ∷ items) tail)

pub sequence-exact : {X : Type 0} (target : Target) (read : ReadPosition → Result (X × ReadPosition) Fault) (IsEncoding : ℕ → List ℕ → X
    → Type 0) → ReadsEach target read IsEncoding
    → (r : ReadPosition) (xs : List X) → r.target ≡ target → (sequence_of read r ≡ all-read xs) ↔ Sequence IsEncoding r.position r.rest xs
unfolding sequence_of
sequence-exact target read IsEncoding each r xs same = (
  (λ is. all-found target read IsEncoding each (length r.rest) r xs same (omega arith) is),
  (λ are. all-only target read IsEncoding each (length r.rest) r xs same (omega arith) are),
)

-- if a read is exact for every target and no encoding is empty, each successful read takes at least
-- one byte
pub forward : {X : Type 0} (read : ReadPosition → Result (X × ReadPosition) Fault) (IsEncoding : Target → ℕ → List ℕ → X → Type 0)
    → ((target : Target) → ReadsEach target read (IsEncoding target)) → Forward read
forward read IsEncoding each r x after is =
    let here = each r.target in
    let next = (here.exact r refl).found x after is in
    let some = here.some r.position next.bytes x next.encoded in
    omega (arith, some, ap length next.parts, length-append next.bytes after.rest)

-- ---- a given number of things

abbrev finish : {A : Type 0} → A → ReadPosition → Result (A × ReadPosition) Fault
finish a r = Ok (a, r)

given : {A : Type 0} (IsEncoding : List ℕ → A → Type 0) (r : ReadPosition) (a b : A) (x y : ReadPosition) → finish a x ≡ finish b y
    → Next IsEncoding r a x → Next IsEncoding r b y
given {A} IsEncoding r a b x y is h = subst (λ (p : A × ReadPosition). Next IsEncoding r p.0 p.1) (ok-is (a, x) (b, y) is) h

pub exactly-exact : {X : Type 0} (target : Target) (read : ReadPosition → Result (X × ReadPosition) Fault) (IsEncoding : ℕ → List ℕ → X
    → Type 0) → ExactAt target read IsEncoding
    → (count : ℕ) → ExactAt target (exactly_of read count) (Exactly IsEncoding count)
exactly-exact {X} target read IsEncoding exact zero r same = record {
  found = λ xs after is. given {A = List X} (Exactly IsEncoding 0 r.position) r [] xs r after is
      (record { bytes = []; encoded = (refl, refl); parts = refl; position = omega arith; target = refl });
  only = none-only;
}
  where
    none-only : (xs : List X) (after : ReadPosition) → Next (Exactly IsEncoding 0 r.position) r xs after
        → exactly_of read 0 r ≡ Ok (xs, after)
    none-only [] after h =
        let rest : after.rest ≡ r.rest = ap (λ (t : List ℕ). t ++ after.rest) (sym h.encoded.0) ∙ sym h.parts in
        let position : after.position ≡ r.position = omega (arith, h.position, ap length h.encoded.0) in
        ap (λ (x : ReadPosition). finish {A = List X} [] x) (sym (same-reading after r h.target position rest))
    none-only (x ∷ xs) after h = absurd (omega (arith, h.encoded.1))
exactly-exact {X} target read IsEncoding exact (suc count) r same = record {
  found = λ ys after is.
      let x = bind-ok (read r) (λ x. exactly_of read count x.1 >>= λ xs. finish (x.0 ∷ xs.0) xs.1) (ys, after) is in
      let xs = bind-ok (exactly_of read count x.0.1) (λ xs. finish (x.0.0 ∷ xs.0) xs.1) (ys, after) x.2 in
      let h = (exact r same).found x.0.0 x.0.1 x.1 in
      let k = (exactly-exact target read IsEncoding exact count x.0.1 (h.target ∙ same)).found xs.0.0 xs.0.1 xs.1 in
      given {A = List X} (Exactly IsEncoding (suc count) r.position) r (x.0.0 ∷ xs.0.0) ys xs.0.1 after xs.2 (record {
        bytes = h.bytes ++ k.bytes;
        encoded = (
          (h.bytes, k.bytes, refl, h.encoded, subst (λ at. Sequence IsEncoding at k.bytes xs.0.0) h.position k.encoded.0),
          omega (arith, k.encoded.1),
        );
        parts = h.parts ∙ ap (λ (t : List ℕ). h.bytes ++ t) k.parts ∙ sym (append_assoc h.bytes k.bytes xs.0.1.rest);
        position = omega (arith, h.position, k.position, length-append h.bytes k.bytes);
        target = k.target ∙ h.target;
      });
  only = some-only (λ mid here. exactly-exact target read IsEncoding exact count mid here);
}
  where
    some-only : ((mid : ReadPosition) → mid.target ≡ target → IsExact (exactly_of read count) (Exactly IsEncoding count mid.position) mid)
        → (ys : List X) (after : ReadPosition) → Next (Exactly IsEncoding (suc count) r.position) r ys after
        → exactly_of read (suc count) r ≡ Ok (ys, after)
    some-only past [] after h = absurd (omega (arith, h.encoded.1))
    some-only past (x ∷ xs) after h =
        let s = h.encoded.0 in
        let mid : ReadPosition = record { target = r.target; position = r.position + length s.0; rest = s.1 ++ after.rest } in
        let one = (exact r same).only x mid (record {
          bytes = s.0;
          encoded = s.3;
          parts = h.parts ∙ ap (λ (t : List ℕ). t ++ after.rest) s.2
              ∙ append_assoc s.0 s.1 after.rest;
          position = refl;
          target = refl;
        }) in
        let others = (past mid same).only xs after
        (record {
          bytes = s.1;
          encoded = (s.4, omega (arith, h.encoded.1));
          parts = refl;
          position = omega (arith, h.position, ap length s.2, length-append s.0 s.1);
          target = h.target;
        }) in
        rw (one, others) refl

-- an array of offsets is read exactly if the next bytes are the encodings of its offsets
pub offsets-exact : (format : Format) (count : ℕ) (r : ReadPosition)
    → IsExact (exactly_of (offset_at format) count) (Exactly (λ at. Offset r.target.order format) count r.position) r
offsets-exact format count r = exactly-exact r.target (offset_at format) (λ at. Offset r.target.order format)
    (offset-exact r.target format) count r refl

-- Reading n things succeeds. If one more thing can then be read, reading n + 1 things gives all of
-- them. If reading one more gives a fault, reading any number of things above n gives that fault.
pub exactly-more : {X : Type 0} (read : ReadPosition → Result (X × ReadPosition) Fault) (n : ℕ) (r mid after : ReadPosition) (xs : List X)
    (x : X)
    → exactly_of read n r ≡ Ok (xs, mid) → read mid ≡ Ok (x, after) → exactly_of read (suc n) r ≡ Ok (xs ++ x ∷ [], after)
exactly-more {X} read zero r mid after xs x is one =
    let same : ([], r) ≡ (xs, mid) = ok-is {A = List X} ([], r) (xs, mid) is in
    let here : read r ≡ finish x after = subst (λ (p : List X × ReadPosition). read p.1 ≡ finish x after) (sym same) one in
    rw here (ap (λ (p : List X × ReadPosition). finish (p.0 ++ x ∷ []) after) same)
exactly-more {X} read (suc n) r mid after xs x is one =
    let y = bind-ok (read r) (λ y. exactly_of read n y.1 >>= λ ys. finish (y.0 ∷ ys.0) ys.1) (xs, mid) is in
    let ys = bind-ok (exactly_of read n y.0.1) (λ ys. finish (y.0.0 ∷ ys.0) ys.1) (xs, mid) y.2 in
    let same : (y.0.0 ∷ ys.0.0, ys.0.1) ≡ (xs, mid) = ok-is {A = List X} (y.0.0 ∷ ys.0.0, ys.0.1) (xs, mid) ys.2 in
    let there : read ys.0.1 ≡ finish x after = subst (λ (p : List X × ReadPosition). read p.1 ≡ finish x after) (sym same) one in
    let others = exactly-more read n y.0.1 ys.0.1 after ys.0.0 x ys.1 there in
    ap (λ (z : Result (X × ReadPosition) Fault). z >>= λ w. exactly_of read (suc n) w.1 >>= λ ws. finish (w.0 ∷ ws.0) ws.1) y.1
    ∙ (ap (λ (z : Result (List X × ReadPosition) Fault). z >>= λ ws. finish (y.0.0 ∷ ws.0) ws.1) others
    ∙ ap (λ (p : List X × ReadPosition). finish (p.0 ++ x ∷ []) after) same)

pub exactly-stops : {X : Type 0} (read : ReadPosition → Result (X × ReadPosition) Fault) (n m : ℕ) (r mid : ReadPosition) (xs : List X)
    (fault : Fault)
    → n < m → exactly_of read n r ≡ Ok (xs, mid) → read mid ≡ Err fault → exactly_of read m r ≡ Err fault
exactly-stops read n zero r mid xs fault lt is bad = absurd (omega arith)
exactly-stops {X} read zero (suc m) r mid xs fault lt is bad =
    let same : ([], r) ≡ (xs, mid) = ok-is {A = List X} ([], r) (xs, mid) is in
    let here : read r ≡ Err fault = subst (λ (p : List X × ReadPosition). read p.1 ≡ Err fault) (sym same) bad in
    rw here refl
exactly-stops {X} read (suc n) (suc m) r mid xs fault lt is bad =
    let y = bind-ok (read r) (λ y. exactly_of read n y.1 >>= λ ys. finish (y.0 ∷ ys.0) ys.1) (xs, mid) is in
    let ys = bind-ok (exactly_of read n y.0.1) (λ ys. finish (y.0.0 ∷ ys.0) ys.1) (xs, mid) y.2 in
    let same : (y.0.0 ∷ ys.0.0, ys.0.1) ≡ (xs, mid) = ok-is {A = List X} (y.0.0 ∷ ys.0.0, ys.0.1) (xs, mid) ys.2 in
    let there : read ys.0.1 ≡ Err fault = subst (λ (p : List X × ReadPosition). read p.1 ≡ Err fault) (sym same) bad in
    let others = exactly-stops read n m y.0.1 ys.0.1 ys.0.0 fault (omega arith) ys.1 there in
    ap (λ (z : Result (X × ReadPosition) Fault). z >>= λ w. exactly_of read m w.1 >>= λ ws. finish (w.0 ∷ ws.0) ws.1) y.1
    ∙ ap (λ (z : Result (List X × ReadPosition) Fault). z >>= λ ws. finish (y.0.0 ∷ ws.0) ws.1) others
