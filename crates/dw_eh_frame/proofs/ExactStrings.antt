-- The string of an augmentation is read exactly if the next bytes encode it.
use Rattle.std.proofs.Common.{◌≡◌, ℕ, ◌+◌, ◌<◌, ◌≤◌, Bool, true, false, cond, ltb, eqb, List, [], ◌∷◌, ◌++◌, length, take, get_or, Some}
use Rattle.std.proofs.Common.{None, Ok, Err}
use Rattle.std.proofs.Common.{refl, sym, ap, subst, ◌∙◌, append_assoc, arith}
use Rattle.std.specs.Prelude.{◌==◌}
use Rattle.std.specs.List.{position_or_len}
use Rattle.std.proofs.lemmas.Bool.{ltb-true, lt-ltb, eqb-true, eqb-false, eq-eqb, ne_eqb}
use Rattle.std.proofs.lemmas.List.{length-take, length-append, get_or-take, get_or_append_left, take_more, take_at}
use Rattle.std.proofs.Math.Seq.{get_or-append_seam}
use Rattle.std.proofs.lemmas.List.Sums.{position_or_len_is, fails_before_first, passes_at_first}
use Rattle.dw_bytes.specs.declared.target.Target.{Target}
use Rattle.dw_bytes.specs.declared.fault.FaultKind.TheVariants.{Augmentation}
use Rattle.dw_bytes.proofs.Encoded.{Agrees, guard_ok, past_field_found, past_field_only}
use Rattle.dw_bytes.proofs.Readers.{ExactAt}
use Rattle.dw_eh_frame.specs.Augmentations.{string_by, string_of, string_at}
use Rattle.dw_eh_frame.specs.Encoding.{IsString}

abbrev zero-byte : ℕ → Bool
zero-byte b = b == 0

abbrev found-string : List ℕ → ℕ → List ℕ × ℕ
found-string bytes n = (take n bytes, n + 1)

by-test : (test : Bool) (bytes : List ℕ) (n : ℕ)
    → string_by bytes (cond test (Some n) None) ≡ cond test (Ok (found-string bytes n)) (Err Augmentation)
by-test true bytes n = refl
by-test false bytes n = refl

string-found : (bytes v : List ℕ) (n : ℕ) → string_of bytes ≡ Ok (v, n) → (n ≤ length bytes) × IsString (take n bytes) v
string-found bytes v n is =
    let front = take 9 bytes in
    let at = position_or_len zero-byte front in
    let g = guard_ok (ltb at (length front)) Augmentation (found-string bytes at) (v, n)
    (sym (by-test (ltb at (length front)) bytes at) ∙ is) in
    let inside : at < length front = ltb-true at (length front) g.0 in
    let few : at < 9 = omega (arith, inside, length-take 9 bytes) in
    let within : at < length bytes = omega (arith, inside, length-take 9 bytes) in
    let v-is : take at bytes ≡ v = ap (λ (p : List ℕ × ℕ). p.0) g.1 in
    let n-is : at + 1 ≡ n = ap (λ (p : List ℕ × ℕ). p.1) g.1 in
    let last : get_or bytes at 0 ≡ 0 = sym (get_or-take 9 bytes at 0 few)
    ∙ eqb-true (get_or front at 0) 0 (passes_at_first zero-byte front 0 inside) in
    let ends : take (at + 1) bytes ≡ take at bytes ++ 0 ∷ [] = take_more bytes at 0 within ∙ ap (λ (b : ℕ). take at bytes ++ b ∷ []) last in
    let long : length (take at bytes) ≡ at = omega (arith, length-take at bytes, within) in
    let own : IsString (take (at + 1) bytes) (take at bytes) = record {
      parts = ends;
      letters_are = λ k d lt is_zero.
          let before : k < at = omega (arith, lt, long) in
          let none : eqb (get_or front k d) 0 ≡ false = fails_before_first zero-byte front k d before in
          let here : get_or front k d ≡ get_or (take at bytes) k d = get_or-take 9 bytes k d (omega (arith, before, few))
          ∙ sym (get_or-take at bytes k d before) in
          eqb-false (get_or front k d) 0 none (here ∙ is_zero);
      few = omega (arith, long, few);
    } in (
      omega (arith, within, n-is),
      subst (λ (p : List ℕ × ℕ). IsString (take p.1 bytes) p.0) g.1 own,
    )

string-only : (text tail v : List ℕ) → IsString text v → string_of (text ++ tail) ≡ Ok (v, length text)
string-only text tail v h =
    let bytes = text ++ tail in
    let front = take 9 bytes in
    let whole : bytes ≡ v ++ 0 ∷ tail = ap (λ (t : List ℕ). t ++ tail) h.parts ∙ append_assoc v (0 ∷ []) tail in
    let long : length text ≡ length v + 1 = omega (arith, ap length h.parts, length-append v (0 ∷ [])) in
    let few = h.few in
    let inside : length v < length front = omega (arith, length-take 9 bytes, length-append text tail, long, few) in
    let seen : (k d : ℕ) → k < 9 → get_or front k d ≡ get_or (v ++ 0 ∷ tail) k d = λ k d lt.
    get_or-take 9 bytes k d lt ∙ ap (λ (t : List ℕ). get_or t k d) whole in
    let at : position_or_len zero-byte front ≡ length v = position_or_len_is zero-byte front (length v) 0 (omega arith)
    (λ k lt. ne_eqb (get_or front k 0) 0
    (λ is_zero. h.letters_are k 0 lt
    (sym (get_or_append_left v (0 ∷ tail) 0 k lt) ∙ sym (seen k 0 (omega (arith, lt, few))) ∙ is_zero)))
    (λ here. eq-eqb (get_or front (length v) 0) 0 (seen (length v) 0 (omega arith) ∙ get_or-append_seam v 0 tail 0)) in
    let taken : take (length v) bytes ≡ v = ap (take (length v)) whole ∙ take_at v (0 ∷ tail) (length v) refl in
    by-test (ltb (position_or_len zero-byte front) (length front)) bytes (position_or_len zero-byte front)
    ∙ rw (at, lt-ltb (length v) (length front) inside, taken, long) refl

string-agrees : Agrees string_of IsString
string-agrees = record { found = string-found; only = string-only }

pub string-exact : (target : Target) → ExactAt target string_at (λ at. IsString)
unfolding string_at
string-exact target r same = record {
  found = λ v after is. past_field_found string_of IsString string-agrees r v after is;
  only = λ v after h. past_field_only string_of IsString string-agrees r v after h;
}
