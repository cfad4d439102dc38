-- Reads that give a value exactly if the next bytes encode it (`IsExact`), and what follows from
-- that.
use Rattle.std.proofs.Common.{◌≡◌, ℕ, ◌+◌, ◌≤◌, List, ◌++◌, length, take, drop, Result, Ok, Err, refl, sym, ap, subst, ◌∙◌, arith}
use Rattle.std.proofs.Math.Seq.{drop-append-add, drop-append_seam}
use Rattle.std.proofs.lemmas.List.{length-take, take-append-drop, take_at}
use Rattle.dw_bytes.specs.declared.target.Target.{Target}
use Rattle.dw_bytes.specs.declared.target.Format.{Format}
use Rattle.dw_bytes.specs.declared.fault.Fault.{Fault}
use Rattle.dw_bytes.specs.Encoding.{Bytes, Fixed, Offset, Address, InitialLengthPair, Uleb, Sleb, bytes_of_address, bytes_of_offset}
use Rattle.dw_bytes.specs.Reading.{ReadPosition, Next, IsExact, ◌>>=◌, take_at as taken_at, fixed_at, offset_at, address_at}
use Rattle.dw_bytes.specs.Reading.{initial_length_at, uleb_at, sleb_at}
use Rattle.dw_bytes.proofs.Fields.{take_exact, fixed_exact, initial_length_exact, uleb_exact, sleb_exact}

-- a read that is exact at every position with this target
abbrev pub Exact : {X : Type 0} → Target → (ReadPosition → Result (X × ReadPosition) Fault) → (List ℕ → X → Type 0) → Type 0
Exact target read IsEncoding = (r : ReadPosition) → r.target ≡ target → IsExact read IsEncoding r

-- a read that is exact at every position with this target, where an encoding may depend on its
-- offset
abbrev pub ExactAt : {X : Type 0} → Target → (ReadPosition → Result (X × ReadPosition) Fault) → (ℕ → List ℕ → X → Type 0) → Type 0
ExactAt target read IsEncoding = (r : ReadPosition) → r.target ≡ target → IsExact read (IsEncoding r.position) r

-- if two steps in a row give the value y, the first step gives some value x, and the second step
-- gives y for x
pub bind-ok : {A B : Type 0} (r : Result A Fault) (f : A → Result B Fault) (y : B) → (r >>= f) ≡ Ok y → (x : A) × (r ≡ Ok x) × (f x ≡ Ok y)
bind-ok (Ok x) f y e = (x, refl, e)
bind-ok (Err d) f y e = absurd cc

abbrev finish : {A : Type 0} → A × ReadPosition → Result (A × ReadPosition) Fault
finish x = Ok x

pub ok-is : {A : Type 0} (x y : A × ReadPosition) → finish x ≡ finish y → x ≡ y
ok-is x y e = cc

abbrev pub reading-of : Target → ℕ → List ℕ → ReadPosition
reading-of target position rest = record { target = target; position = position; rest = rest }

pub same-reading : (a b : ReadPosition) → a.target ≡ b.target → a.position ≡ b.position → a.rest ≡ b.rest → a ≡ b
same-reading a b t p x = ap (λ v. reading-of v a.position a.rest) t
    ∙ (ap (λ v. reading-of b.target v a.rest) p ∙ ap (λ v. reading-of b.target b.position v) x)

-- ---- reading single fields

pub take-exact : (target : Target) (n : ℕ) → Exact target (taken_at n) (Bytes n)
take-exact target n r same = take_exact n r

pub uleb-exact : (target : Target) → Exact target uleb_at Uleb
uleb-exact target r same = uleb_exact r

pub sleb-exact : (target : Target) → Exact target sleb_at Sleb
sleb-exact target r same = sleb_exact r

pub fixed-exact : (target : Target) (n : ℕ) → Exact target (fixed_at n) (Fixed target.order n)
fixed-exact target n r same = subst (λ (t : Target). IsExact (fixed_at n) (Fixed t.order n) r) same (fixed_exact n r)

pub address-exact : (target : Target) → Exact target address_at (Address target)
address-exact target r same =
    let here = fixed_exact (bytes_of_address r.target.address_size) r in
    let own : IsExact address_at (Address r.target) r = record { found = here.found; only = here.only } in
    subst (λ (t : Target). IsExact address_at (Address t) r) same own

pub offset-exact : (target : Target) (format : Format) → Exact target (offset_at format) (Offset target.order format)
offset-exact target format r same =
    let here = fixed_exact (bytes_of_offset format) r in
    let own : IsExact (offset_at format) (Offset r.target.order format) r = record { found = here.found; only = here.only } in
    subst (λ (t : Target). IsExact (offset_at format) (Offset t.order format) r) same own

pub length-exact : (target : Target) → Exact target initial_length_at (InitialLengthPair target.order)
length-exact target r same = subst (λ (t : Target). IsExact initial_length_at (InitialLengthPair t.order) r) same (initial_length_exact r)

-- ---- no encoding is a proper prefix of another encoding

at-start : {X : Type 0} (IsEncoding : List ℕ → X → Type 0) (target : Target) (at : ℕ) (bytes a x : List ℕ) (v : X) → bytes ≡ a ++ x
    → IsEncoding a v → Next IsEncoding (reading-of target at bytes) v (reading-of target (at + length a) x)
at-start IsEncoding target at bytes a x v e h = record { bytes = a; encoded = h; parts = e; position = refl; target = refl }

pub one-encoding : {X : Type 0} (target : Target) (read : ReadPosition → Result (X × ReadPosition) Fault) (IsEncoding : ℕ → List ℕ → X
    → Type 0) → ExactAt target read IsEncoding
    → (at : ℕ) (a b x y : List ℕ) (m n : X) → IsEncoding at a m → IsEncoding at b n → a ++ x ≡ b ++ y → (a ≡ b) × (m ≡ n)
one-encoding {X} target read IsEncoding exact at a b x y m n p q e =
    let r = reading-of target at (a ++ x) in
    let first = (exact r refl).only m (reading-of target (at + length a) x) (at-start (IsEncoding at) target at (a ++ x) a x m refl p) in
    let second = (exact r refl).only n (reading-of target (at + length b) y) (at-start (IsEncoding at) target at (a ++ x) b y n e q) in
    let both : (m, reading-of target (at + length a) x) ≡ (n, reading-of target (at + length b) y) =
    ok-is (m, reading-of target (at + length a) x) (n, reading-of target (at + length b) y) (sym first ∙ second) in
    let past : at + length a ≡ at + length b = ap (λ (w : X × ReadPosition). w.1.position) both in
    let len : length a ≡ length b = omega (arith, past) in
    (sym (take_at a x (length a) refl) ∙ ap (take (length a)) e ∙ take_at b y (length a) (sym len), ap (λ (w : X × ReadPosition). w.0) both)

-- ---- what is left of a section

suffix : (section bytes rest : List ℕ) (at : ℕ) → at ≤ length section → drop at section ≡ bytes ++ rest
    → rest ≡ drop (at + length bytes) section
suffix section bytes rest at inside parts =
    let front : length (take at section) ≡ at = omega (arith, length-take at section) in
    let whole : take at section ++ (bytes ++ rest) ≡ section = ap (λ (t : List ℕ). take at section ++ t) (sym parts)
    ∙ take-append-drop at section in
    sym (drop-append_seam bytes rest)
    ∙ (sym (drop-append-add (take at section) (bytes ++ rest) (length bytes))
    ∙ (ap (λ n. drop (n + length bytes) (take at section ++ (bytes ++ rest))) front ∙ ap (drop (at + length bytes)) whole))

-- After an exact read from a section, what is left is the section from the new position on.
pub leaves-suffix : {X : Type 0} (target : Target) (read : ReadPosition → Result (X × ReadPosition) Fault) (IsEncoding : ℕ → List ℕ → X
    → Type 0) → ExactAt target read IsEncoding
    → (section : List ℕ) (at : ℕ) (v : X) (after : ReadPosition) → at ≤ length section
    → read (reading-of target at (drop at section)) ≡ Ok (v, after)
    → after ≡ reading-of target after.position (drop after.position section)
leaves-suffix target read IsEncoding exact section at v after inside e =
    let next = (exact (reading-of target at (drop at section)) refl).found v after e in
    let rest : after.rest ≡ drop (at + length next.bytes) section = suffix section next.bytes after.rest at inside next.parts in
    same-reading after (reading-of target after.position (drop after.position section)) next.target refl
    (rest ∙ ap (λ n. drop n section) (sym next.position))
