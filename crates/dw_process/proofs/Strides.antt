-- One step of the search among sorted starts.
use Rattle.std.proofs.Common.{◌≡◌, ℕ, ◌+◌, ◌*◌, ◌<◌, List, length, get_or, leb, leb-true, leb-false, Bool, true, false, subst, sym, ap, arith}
use Rattle.std.specs.List.Sorted.{IsNonDecreasingBy}
use Rattle.dw_process.specs.ModuleMaps.{IsStride}

so-many : (starts : List ℕ) (low q a n m : ℕ) → n ≡ m → IsStride starts low q a (m * q) → IsStride starts low q a (n * q)
so-many starts low q a n m same h = subst (λ (v : ℕ). IsStride starts low q a (v * q)) (sym same) h

at : (starts : List ℕ) (i j : ℕ) → i ≡ j → get_or starts i 0 ≡ get_or starts j 0
at starts i j is = ap (λ (n : ℕ). get_or starts n 0) is

pub strides : (f : Bool → ℕ) → f true ≡ 1 → f false ≡ 0 → (starts : List ℕ) (low q a : ℕ)
    → IsNonDecreasingBy (λ (x : ℕ). x) starts → low + 3 * q < length starts → (x y z : Bool)
    → leb (get_or starts (low + q) 0) a ≡ x → leb (get_or starts (low + 2 * q) 0) a ≡ y
    → leb (get_or starts (low + 3 * q) 0) a ≡ z
    → (n m k : ℕ) → n ≡ f x → m ≡ f y → k ≡ f z → IsStride starts low q a ((n + m + k) * q)
strides f one nil starts low q a sorted inside true true true hx hy hz n m k nx my kz =
    so-many starts low q a (n + m + k) 3 (omega arith) (record {
      bound = omega arith;
      below = λ some. let s = leb-true _ _ hz in omega (arith, s);
      above = λ few. absurd (omega arith);
    })
strides f one nil starts low q a sorted inside true true false hx hy hz n m k nx my kz =
    so-many starts low q a (n + m + k) 2 (omega arith) (record {
      bound = omega arith;
      below = λ some. let s = leb-true _ _ hy in omega (arith, s);
      above = λ few. let s = leb-false _ _ hz in omega (arith, s, at starts (low + 2 * q + q) (low + 3 * q) (omega arith));
    })
strides f one nil starts low q a sorted inside true false false hx hy hz n m k nx my kz =
    so-many starts low q a (n + m + k) 1 (omega arith) (record {
      bound = omega arith;
      below = λ some. let s = leb-true _ _ hx in omega (arith, s, at starts (low + 1 * q) (low + q) (omega arith));
      above = λ few. let s = leb-false _ _ hy in omega (arith, s, at starts (low + 1 * q + q) (low + 2 * q) (omega arith));
    })
strides f one nil starts low q a sorted inside false false false hx hy hz n m k nx my kz =
    so-many starts low q a (n + m + k) 0 (omega arith) (record {
      bound = omega arith;
      below = λ some. absurd (omega arith);
      above = λ few. let s = leb-false _ _ hx in omega (arith, s, at starts (low + 0 * q + q) (low + q) (omega arith));
    })
strides f one nil starts low q a sorted inside false true z hx hy hz n m k nx my kz =
    let s = leb-false _ _ hx in let t = leb-true _ _ hy in let up = sorted (low + q) (low + 2 * q) 0 (omega arith) (omega arith) in
    absurd (omega (arith, s, t, up))
strides f one nil starts low q a sorted inside x false true hx hy hz n m k nx my kz =
    let s = leb-false _ _ hy in let t = leb-true _ _ hz in let up = sorted (low + 2 * q) (low + 3 * q) 0 (omega arith) inside in
    absurd (omega (arith, s, t, up))
