-- A body is read exactly if the next bytes encode its length and as many bytes as that length says.
-- A body that is read lies inside its section.
use Rattle.std.proofs.Common.{◌≡◌, ℕ, ◌+◌, ◌≤◌, List, ◌++◌, length, take, drop, Result, Ok, Err, refl, sym, ap, subst, ◌∙◌, arith, inl, inr}
use Rattle.std.specs.Prelude.{◌⊎◌}
use Rattle.std.proofs.lemmas.List.{drop-take, take_at as taken}
use Rattle.dw_bytes.specs.declared.target.Target.{Target}
use Rattle.dw_bytes.specs.declared.target.Format.{Format}
use Rattle.dw_bytes.specs.declared.fault.Fault.{Fault}
use Rattle.dw_bytes.specs.Encoding.{Bytes, InitialLengthPair}
use Rattle.dw_bytes.specs.Reading.{ReadPosition, ◌>>=◌, section_from, take_at, initial_length_at}
use Rattle.dw_bytes.specs.Bodies.{body_of, framed_at, IsFramed}
use Rattle.dw_bytes.proofs.Readers.{bind-ok, ok-is, same-reading, length-exact, take-exact, leaves-suffix}
use Rattle.dw_bytes.proofs.Bounds.{Stays, end-of, length-stays, take-stays}

abbrev framed : Format → ReadPosition → ReadPosition → Result ((Format × ReadPosition) × ReadPosition) Fault
framed format body after = Ok ((format, body), after)

framed-same : (r : ReadPosition) (f g : Format) (x y a b : ReadPosition) → framed f x a ≡ framed g y b → IsFramed r f x a → IsFramed r g y b
framed-same r f g x y a b is h =
    let same : ((f, x), a) ≡ ((g, y), b) = ok-is {A = Format × ReadPosition} ((f, x), a) ((g, y), b) is in
    subst (λ (p : (Format × ReadPosition) × ReadPosition). IsFramed r p.0.0 p.0.1 p.1) same h

framed-parts : (r mid after : ReadPosition) (format : Format) (n : ℕ) (bytes : List ℕ) → initial_length_at r ≡ Ok ((format, n), mid)
    → take_at n mid ≡ Ok (bytes, after) → IsFramed r format (body_of mid bytes) after
framed-parts r mid after format n bytes first second =
    let size = (length-exact r.target r refl).found (format, n) mid first in
    let body = (take-exact r.target n mid size.target).found bytes after second in
    let value : bytes ≡ body.bytes = body.encoded.value in
    let count : length bytes ≡ n = ap length value ∙ body.encoded.count in
    record {
      front = size.bytes;
      length_is = subst (λ k. InitialLengthPair r.target.order size.bytes (format, k)) (sym count) size.encoded;
      parts = size.parts ∙ ap (λ (t : List ℕ). size.bytes ++ t) (body.parts ∙ ap (λ (t : List ℕ). t ++ after.rest) (sym value));
      body_position = size.position;
      body_target = size.target;
      position = body.position ∙ ap (λ (t : List ℕ). mid.position + length t) (sym value);
      target = body.target ∙ size.target;
    }

pub framed-found : (r : ReadPosition) (format : Format) (body after : ReadPosition) → framed_at r ≡ Ok ((format, body), after)
    → IsFramed r format body after
unfolding framed_at
framed-found r format body after is =
    let a = bind-ok (initial_length_at r) (λ size. take_at size.0.1 size.1 >>= λ bytes. framed size.0.0 (body_of size.1 bytes.0) bytes.1)
    ((format, body), after) is in
    let b = bind-ok (take_at a.0.0.1 a.0.1) (λ bytes. framed a.0.0.0 (body_of a.0.1 bytes.0) bytes.1) ((format, body), after) a.2 in
    framed-same r a.0.0.0 format (body_of a.0.1 b.0.0) body b.0.1 after b.2 (framed-parts r a.0.1 b.0.1 a.0.0.0 a.0.0.1 b.0.0 a.1 b.1)

pub framed-only : (r : ReadPosition) (format : Format) (body after : ReadPosition) → IsFramed r format body after
    → framed_at r ≡ Ok ((format, body), after)
unfolding framed_at
framed-only r format body after h =
    let mid : ReadPosition = record { target = r.target; position = r.position + length h.front; rest = body.rest ++ after.rest } in
    let one = (length-exact r.target r refl).only (format, length body.rest) mid
    (record { bytes = h.front; encoded = h.length_is; parts = h.parts; position = refl; target = refl }) in
    let two = (take-exact r.target (length body.rest) mid refl).only body.rest after
    (record {
      bytes = body.rest;
      encoded = record { count = refl; value = refl };
      parts = refl;
      position = omega (arith, h.position, h.body_position);
      target = h.target;
    }) in
    rw (one, two) (ap (λ (b : ReadPosition). framed format b after)
    (same-reading (body_of mid body.rest) body (sym h.body_target) (sym h.body_position) refl))

abbrev body-at : Target → ℕ → List ℕ → ReadPosition
body-at target at bytes = record { target = target; position = at; rest = bytes }

-- the bytes of a body are the section's bytes from the body's start up to its end
body-is : (section bytes rest : List ℕ) (first end : ℕ) → end ≡ first + length bytes → drop first section ≡ bytes ++ rest
    → drop first (take end section) ≡ bytes
body-is section bytes rest first end long parts =
    ap (λ n. drop first (take n section)) long
    ∙ (drop-take first (length bytes) section ∙ (ap (take (length bytes)) parts ∙ taken bytes rest (length bytes) refl))

pub framed-window : (target : Target) (section : List ℕ) (at : ℕ) (format : Format) (n : ℕ) (mid : ReadPosition) (bytes : List ℕ)
    (after : ReadPosition) → at ≤ length section
    → initial_length_at (section_from target section at) ≡ Ok ((format, n), mid) → take_at n mid ≡ Ok (bytes, after)
    → mid.position ≤ length section
    → framed_at (section_from target section at) ≡ Ok (
      (format, section_from target (take after.position section) mid.position),
      section_from target section after.position,
    )
unfolding framed_at
framed-window target section at format n mid bytes after inside first second mid_inside =
    let mid_is : mid ≡ section_from target section mid.position = leaves-suffix target initial_length_at (λ here. InitialLengthPair target.order)
    (length-exact target) section at (format, n) mid inside first in
    let from_mid : take_at n (section_from target section mid.position) ≡ Ok (bytes, after) = ap (take_at n) (sym mid_is) ∙ second in
    let next = (take-exact target n (section_from target section mid.position) refl).found bytes after from_mid in
    let after_is : after ≡ section_from target section after.position =
    leaves-suffix target (take_at n) (λ here. Bytes n) (take-exact target n) section mid.position bytes after mid_inside from_mid in
    let parts : drop mid.position section ≡ bytes ++ after.rest =
    next.parts ∙ ap (λ (t : List ℕ). t ++ after.rest) (sym next.encoded.value) in
    let long : after.position ≡ mid.position + length bytes =
    next.position ∙ ap (λ (t : List ℕ). mid.position + length t) (sym next.encoded.value) in
    let bytes_are : drop mid.position (take after.position section) ≡ bytes =
    body-is section bytes after.rest mid.position after.position long parts in
    let mid_target : mid.target ≡ target = ap (λ (r : ReadPosition). r.target) mid_is in
    rw (first, second) (
    ap (λ (t : Target). framed format (body-at t mid.position bytes) after) mid_target
    ∙ (ap (λ (b : List ℕ). framed format (body-at target mid.position b) after) (sym bytes_are)
    ∙ ap (λ (r : ReadPosition). framed format (section_from target (take after.position section) mid.position) r) after_is)
    )

-- ---- where the faults are

abbrev no : (A : Type 0) → Fault → Result A Fault
no A fault = Err fault

err-is : (A : Type 0) (f g : Fault) → no A f ≡ no A g → f ≡ g
err-is A f g e = cc

pub not-err : {A : Type 0} {x : A} {fault : Fault} → Ok x ≡ Err fault → ⊥
not-err e = cc

-- if two steps in a row give a fault, the first step gives that fault, or it gives a value and the
-- second step gives that fault
pub bind-err : {A B : Type 0} (x : Result A Fault) (f : A → Result B Fault) (fault : Fault) → (x >>= f) ≡ Err fault
    → (x ≡ Err fault) ⊎ ((a : A) × (x ≡ Ok a) × (f a ≡ Err fault))
bind-err (Ok a) f fault is = inr (a, refl, is)
bind-err {A} {B} (Err other) f fault is = let same : other ≡ fault = err-is B other fault is in inl (ap (λ (e : Fault). no A e) same)

pub framed-refused : (r : ReadPosition) (fault : Fault) → framed_at r ≡ Err fault → fault.at ≤ end-of r
unfolding framed_at
framed-refused r fault is =
    elim (bind-err (initial_length_at r) (λ size. take_at size.0.1 size.1 >>= λ bytes. Ok
    ((size.0.0, body_of size.1 bytes.0), bytes.1)) fault is) [
      | inl e ↦ let stays = subst (Stays {X = Format × ℕ} r.position r) e (length-stays r.position r (omega arith)) in stays.1
      | inr h ↦
          let size = h.0 in
          let stays = subst (Stays {X = Format × ℕ} r.position r) h.1 (length-stays r.position r (omega arith)) in
          elim (bind-err (take_at size.0.1 size.1) (λ bytes. Ok ((size.0.0, body_of size.1 bytes.0), bytes.1)) fault h.2) [
            | inl e ↦ let body = subst (Stays {X = List ℕ} size.1.position size.1) e
                (take-stays size.1.position size.0.1 size.1 (omega arith)) in omega (arith, body.1, stays.1)
            | inr k ↦ absurd (not-err k.2)
          ]
    ]
