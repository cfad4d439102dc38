-- Checked expressions whose bytes are stored together in one array.
use Rattle.std.proofs.Common.{◌≡◌, ℕ, zero, suc, ◌+◌, ◌<◌, ◌≤◌, List, [], ◌∷◌, ◌++◌, length, get_or, take, drop, refl, sym, ap, ◌∙◌, subst, arith}
use Rattle.std.proofs.lemmas.List.{length-append, length-drop, drop-append-le, map-append, take-append-le}
use Rattle.std.proofs.lemmas.List.Sums.{sum_by-append}
use Rattle.std.proofs.Math.Seq.{drop-append_seam, take-length}
use Rattle.std.specs.Prelude.{Some, None, Ok, Err}
use Rattle.std.specs.List.{sum_by}
use Rattle.std.specs.List.Sorted.{IsBinarySearchResult}
use Rattle.std.specs.Ordering.{nat_cmp}
use Rattle.dw_bytes.specs.declared.target.Target.{Target}
use Rattle.dw_frame.specs.Bounds.{Ascends}
use Rattle.dw_stack.specs.declared.state.Kind.{Kind}
use Rattle.dw_stack.specs.Expressions.{IsChecked, IsGoodExpression, IsDepthOf, operations_in}
use Rattle.dw_stack.specs.Located.{LocatedExpression}
use Rattle.dw_rules.specs.declared.owned_expressions.OwnedExpression.{OwnedExpression}
use Rattle.dw_rules.specs.Expressions.{expression_at}
use Rattle.dw_rules.specs.ExpressionOrder.{expression_offset}
use Rattle.dw_rules.proofs.Search.{searched-found, searched-none, ascending-same}
use Rattle.dw_rules.proofs.Elements.{ascending-back, contains-map, contained-map}
use Rattle.dw_rules.proofs.ExpressionsByOffset.{found-at, absent-at}
use Rattle.dw_rules.specs.OwnedExpressions.{bytes_in, owned_in, all_owned, IsOwned, AreOwned, AreAllBytes}

-- ---- more bytes at the end

bytes-grown : (bytes more : List ℕ) (k : OwnedExpression) → k.start + k.length ≤ length bytes
    → bytes_in (bytes ++ more) k ≡ bytes_in bytes k
bytes-grown bytes more k inside =
    let long = length-drop k.start bytes in
    ap (λ (l : List ℕ). take k.length l) (drop-append-le k.start bytes more (omega (arith, inside)))
    ∙ take-append-le k.length (drop k.start bytes) more (omega (arith, inside, long))

pub bytes-past : (bytes more : List ℕ) (start many : ℕ) → start ≡ length bytes → many ≡ length more
    → take many (drop start (bytes ++ more)) ≡ more
bytes-past bytes more start many at long =
    ap (λ (n : ℕ). take many (drop n (bytes ++ more))) at
    ∙ ap (λ (l : List ℕ). take many l) (drop-append_seam bytes more)
    ∙ ap (λ (n : ℕ). take n more) long ∙ take-length more

abbrev located_with : OwnedExpression → List ℕ → LocatedExpression
located_with k bytes = record { offset = k.offset; kind = k.kind; target = k.target; bytes = bytes }

all-grown : (bytes more : List ℕ) (kept : List OwnedExpression) → AreOwned bytes kept
    → all_owned (bytes ++ more) kept ≡ all_owned bytes kept
all-grown bytes more [] are = refl
all-grown bytes more (k ∷ kept) are =
    ap (λ (l : List ℕ). located_with k l ∷ all_owned (bytes ++ more) kept) (bytes-grown bytes more k are.0.inside)
    ∙ ap (λ (l : List LocatedExpression). owned_in bytes k ∷ l) (all-grown bytes more kept are.1)

one-grown : (bytes more : List ℕ) (k : OwnedExpression) → IsOwned bytes k → IsOwned (bytes ++ more) k
one-grown bytes more k is = record {
  inside = omega (arith, is.inside, length-append bytes more);
  checked = subst (λ (l : List ℕ). IsChecked (record { kind = k.kind; target = k.target; bytes = l; depth = k.depth; count = k.count }))
      (sym (bytes-grown bytes more k is.inside)) is.checked;
}

are-grown : (bytes more : List ℕ) (kept : List OwnedExpression) → AreOwned bytes kept → AreOwned (bytes ++ more) kept
are-grown bytes more [] are = tt
are-grown bytes more (k ∷ kept) are = (one-grown bytes more k are.0, are-grown bytes more kept are.1)

are-more : (bytes : List ℕ) (kept : List OwnedExpression) (k : OwnedExpression) → AreOwned bytes kept → IsOwned bytes k
    → AreOwned bytes (kept ++ k ∷ [])
are-more bytes [] k are is = (is, tt)
are-more bytes (x ∷ kept) k are is = (are.0, are-more bytes kept k are.1 is)

-- one more expression: all expressions, if the bytes of `k` were added at the end
pub one-more : (bytes more : List ℕ) (kept : List OwnedExpression) (k : OwnedExpression) → AreOwned bytes kept
    → all_owned (bytes ++ more) (kept ++ k ∷ []) ≡ all_owned bytes kept ++ owned_in (bytes ++ more) k ∷ []
one-more bytes more kept k are =
    map-append (owned_in (bytes ++ more)) kept (k ∷ [])
    ∙ ap (λ (l : List LocatedExpression). l ++ owned_in (bytes ++ more) k ∷ []) (all-grown bytes more kept are)

-- if exactly the bytes of `k` were added, the array still holds nothing else
pub all-bytes-more : (bytes more : List ℕ) (kept : List OwnedExpression) (k : OwnedExpression) → AreAllBytes bytes kept
    → IsOwned (bytes ++ more) k → bytes_in (bytes ++ more) k ≡ more → AreAllBytes (bytes ++ more) (kept ++ k ∷ [])
all-bytes-more bytes more kept k all is same = record {
  owned = are-more (bytes ++ more) kept k (are-grown bytes more kept all.owned) is;
  together = omega (
    arith,
    all.together,
    length-append bytes more,
    ap (λ (l : List LocatedExpression). sum_by (λ e. length e.bytes) l) (one-more bytes more kept k all.owned),
    sum_by-append (λ (e : LocatedExpression). length e.bytes) (all_owned bytes kept) (owned_in (bytes ++ more) k ∷ []),
    ap (λ (l : List ℕ). length l) same,
  );
}

-- the stored expression at an index has its bytes in the array, and passed its check (`IsOwned`)
pub owned-at : (bytes : List ℕ) (kept : List OwnedExpression) (n : ℕ) (k : OwnedExpression) → AreOwned bytes kept → n < length kept
    → get_or kept n k ≡ k → IsOwned bytes k
owned-at bytes [] n k are lt at = absurd (omega arith)
owned-at bytes (x ∷ kept) zero k are lt at = subst (IsOwned bytes) at are.0
owned-at bytes (x ∷ kept) (suc n) k are lt at = owned-at bytes kept n k are.1 (omega arith) at

-- an expression passed its check if its parts are equal to those of a checked expression
pub owned-checked : (kind also : Kind) (target one other : Target) (bytes its : List ℕ) (depth count : ℕ) → IsGoodExpression kind one its
    → one ≡ target → its ≡ bytes → also ≡ kind → other ≡ target → IsDepthOf kind target bytes depth
    → count ≡ length (operations_in target bytes)
    → IsChecked (record { kind = also; target = other; bytes = bytes; depth = depth; count = count })
owned-checked kind also target one other bytes its depth count good of_one of_bytes of_kind of_other deep many =
    let right : IsGoodExpression kind target bytes =
    subst (λ (t : Target). IsGoodExpression kind t bytes) of_one (subst (λ (l : List ℕ). IsGoodExpression kind one l) of_bytes good) in
    subst (λ (k : Kind). IsChecked (record { kind = k; target = other; bytes = bytes; depth = depth; count = count })) (sym of_kind)
    (subst (λ (t : Target). IsChecked (record { kind = kind; target = t; bytes = bytes; depth = depth; count = count })) (sym of_other)
    (record { good = right; depth = deep; count = many }))

-- ---- the expression at an offset

abbrev pub offset_in : OwnedExpression → ℕ
offset_in x = x.offset

pub owned-found : (bytes : List ℕ) (xs : List OwnedExpression) (offset place : ℕ) (k : OwnedExpression)
    → Ascends expression_offset (all_owned bytes xs) → place < length xs
    → IsBinarySearchResult (λ y. nat_cmp (offset_in y) offset) xs (Ok place) → get_or xs place k ≡ k
    → (expression_at (all_owned bytes xs) offset ≡ Some (owned_in bytes k)) × (k.offset ≡ offset)
owned-found bytes xs offset place k up bound by_key here =
    let found = searched-found offset_in xs offset k place bound by_key in
    let at_k : offset_in k ≡ offset = ap offset_in (sym here) ∙ found.1 in
    let among = contains-map (owned_in bytes) xs k (place, bound, here) in (
      found-at (all_owned bytes xs) (owned_in bytes k) offset among at_k
          (λ g g_in same. ascending-same expression_offset (all_owned bytes xs) up g (owned_in bytes k) g_in among (same ∙ sym at_k)),
      at_k,
    )

pub owned-absent : (bytes : List ℕ) (xs : List OwnedExpression) (offset place : ℕ) → Ascends expression_offset (all_owned bytes xs)
    → place ≤ length xs → IsBinarySearchResult (λ y. nat_cmp (offset_in y) offset) xs (Err place)
    → expression_at (all_owned bytes xs) offset ≡ None
owned-absent bytes xs offset place up bound by_key =
    let none = searched-none offset_in xs (ascending-back (owned_in bytes) expression_offset xs up) offset place bound by_key in
    absent-at (all_owned bytes xs) offset
    (λ e among same. let kept = contained-map (owned_in bytes) xs e among in none kept.0 kept.1 (ap expression_offset kept.2 ∙ same))
