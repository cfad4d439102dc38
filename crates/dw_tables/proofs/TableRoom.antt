-- How many bytes the rows of a compiled table take, and when a limit on them is exceeded.
use Rattle.std.proofs.Common.{◌≡◌, ℕ, zero, suc, ◌+◌, ◌*◌, ◌<◌, ◌≤◌, List, [], ◌∷◌, ◌++◌, length, get_or, take, map, Contains, refl, sym, ap, ◌∙◌}
use Rattle.std.proofs.Common.{Some, subst, arith, Result, Ok, Err}
use Rattle.std.specs.Result.{IfErr, IsErrAnd}
use Rattle.std.proofs.lemmas.List.{take_more, get_or_default}
use Rattle.std.proofs.lemmas.List.Sums.{sum_by-append, sum_by-take-le}
use Rattle.std.specs.List.{sum_by}
use Rattle.dw_frame.specs.Records.{Cie, Fde}
use Rattle.dw_stack.specs.Located.{LocatedExpression}
use Rattle.dw_tables.specs.declared.table_room.Unmade.{Unmade}
use Rattle.dw_tables.specs.declared.table_room.Unmade.TheVariants.{Memory, Room}
use Rattle.dw_rules.specs.Rules.{PlacedRow}
use Rattle.dw_rules.specs.RowsWithExpressions.{row_with_expressions}
use Rattle.dw_rows.specs.UnwindRows.{rows_of}
use Rattle.dw_tables.specs.UnwindTables.{row_bytes, fde_bytes}
use Rattle.dw_rows.specs.Section.{FrameSection, cie_in, rows_by_cie}
use Rattle.dw_rows.specs.AddressIndex.{IsIndexOf}
use Rattle.dw_tables.specs.CompiledTable.{returning, LacksRoom}
use Rattle.dw_rules.proofs.RulesWithExpressions.{length-with}
use Rattle.dw_rows.proofs.sections.Indexes.{AreDistinct}

-- if `room < less` implies `other < more`, then `LacksRoom why room less` implies
-- `LacksRoom why other more`
pub lacks-more : (why : Unmade) (room other less more : ℕ) → (room < less → other < more) → LacksRoom why room less → LacksRoom why other more
lacks-more Memory room other less more up h = tt
lacks-more Room room other less more up h = up h

-- a call that passes an error on fails for the same reason
pub still-lacks : {X : Type 0} (r : Result X Unmade) (why : Unmade) (room most : ℕ) → IsErrAnd r (λ e. e ≡ why) → LacksRoom why room most
    → IfErr r (λ e. LacksRoom e room most)
still-lacks (Ok x) why room most is h = tt
still-lacks (Err e) why room most is h = subst (λ w. LacksRoom w room most) (sym is) h

-- the sum of f over a list with x at the front is f of x plus the sum over the rest
pub sum-cons : {X : Type 0} (f : X → ℕ) (x : X) (xs : List X) → sum_by f (x ∷ xs) ≡ f x + sum_by f xs
sum-cons f x xs = omega (arith, sum_by-append f (x ∷ []) xs)

-- the first k elements and the next one have at most the sum over all elements
pub sum-next : {X Y : Type 0} (f : Y → ℕ) (g : X → Y) (xs : List X) (k : ℕ) (x : X) → k < length xs → get_or xs k x ≡ x
    → sum_by f (map g (take k xs)) + f (g x) ≤ sum_by f (map g xs)
sum-next f g [] k x lt is = absurd (omega arith)
sum-next f g (y ∷ xs) zero x lt is = omega (arith, sum-cons f (g y) (map g xs), ap (λ v. f (g v)) is)
sum-next f g (y ∷ xs) (suc k) x lt is =
    omega (arith, sum-cons f (g y) (map g (take k xs)), sum-cons f (g y) (map g xs), sum-next f g xs k x (omega arith) is)

-- ---- rows

abbrev pub cost : List (PlacedRow × ℕ) → ℕ
cost rows = sum_by (λ x. row_bytes x.0) rows

pub cost-returning : (r : ℕ) (rows : List PlacedRow) → cost (returning r rows) ≡ sum_by row_bytes rows
cost-returning r [] = refl
cost-returning r (row ∷ rows) =
    sum-cons (λ x. row_bytes x.0) (row, r) (returning r rows) ∙ ap (λ n. row_bytes row + n) (cost-returning r rows)
    ∙ sym (sum-cons row_bytes row rows)

bytes-given : (es : List LocatedExpression) (rows : List PlacedRow) → sum_by row_bytes (map (row_with_expressions es) rows) ≡ sum_by row_bytes rows
bytes-given es [] = refl
bytes-given es (row ∷ rows) =
    sum-cons row_bytes (row_with_expressions es row) (map (row_with_expressions es) rows)
    ∙ ap (λ (n : ℕ). 80 + 16 * n + sum_by row_bytes (map (row_with_expressions es) rows)) (length-with es row.rules)
    ∙ ap (λ n. row_bytes row + n) (bytes-given es rows) ∙ sym (sum-cons row_bytes row rows)

pub fde-cost : (s : FrameSection) (c : Cie) (f : Fde) → cie_in s f ≡ Some c
    → fde_bytes s f ≡ 80 + cost (returning c.return_address_register (rows_of c f))
fde-cost s c f pointed =
    ap (λ n. 80 + n) (bytes-given s.expressions (rows_by_cie (cie_in s f) f)
    ∙ ap (λ o. sum_by row_bytes (rows_by_cie o f)) pointed
    ∙ sym (cost-returning c.return_address_register (rows_of c f)))

-- ---- the rows of an FDE

-- ---- the cost of the rows of one FDE after another

pub sum-further : {X : Type 0} (f : X → ℕ) (xs : List X) (k : ℕ) (x : X) → k < length xs → get_or xs k x ≡ x
    → sum_by f (take (k + 1) xs) ≡ sum_by f (take k xs) + f x
sum-further f xs k x lt is =
    ap (sum_by f) (take_more xs k x lt ∙ ap (λ y. take k xs ++ y ∷ []) is) ∙ sum_by-append f (take k xs) (x ∷ []) ∙ omega arith

abbrev without : {X : Type 0} → List X → ℕ → List X
without [] i = []
without (x ∷ xs) zero = xs
without (x ∷ xs) (suc i) = x ∷ without xs i

sum-without : {X : Type 0} (f : X → ℕ) (xs : List X) (i : ℕ) (x : X) → i < length xs → get_or xs i x ≡ x
    → sum_by f xs ≡ f x + sum_by f (without xs i)
sum-without f [] i x lt is = absurd (omega arith)
sum-without f (y ∷ xs) zero x lt is = sum-cons f y xs ∙ ap (λ v. f v + sum_by f xs) is
sum-without f (y ∷ xs) (suc i) x lt is =
    omega (arith, sum-without f xs i x (omega arith) is, sum-cons f y xs, sum-cons f y (without xs i))

in-without : {X : Type 0} (xs : List X) (i j : ℕ) (x : X) → ¬ (i ≡ j) → j < length xs → get_or xs j x ≡ x → Contains (without xs i) x
in-without [] i j x apart lt is = absurd (omega arith)
in-without (y ∷ xs) zero zero x apart lt is = absurd (apart refl)
in-without (y ∷ xs) zero (suc j) x apart lt is = (j, omega arith, is)
in-without (y ∷ xs) (suc i) zero x apart lt is = (zero, omega arith, is)
in-without (y ∷ xs) (suc i) (suc j) x apart lt is =
    let rest = in-without xs i j x (λ same. apart (ap suc same)) (omega arith) is in (suc rest.0, omega (arith, rest.1), rest.2)

-- if the FDEs in `xs` have distinct offsets and all are in `ys`, the sum of f over `xs` is at most
-- the sum of f over `ys`
sum-within : (f : Fde → ℕ) (xs ys : List Fde) → AreDistinct xs → ((x : Fde) → Contains xs x → Contains ys x)
    → sum_by f xs ≤ sum_by f ys
sum-within f [] ys distinct within = omega arith
sum-within f (x ∷ xs) ys distinct within =
    let at = within x (zero, omega arith, refl) in
    omega (
      arith,
      sum-cons f x xs,
      sum-without f ys at.0 x at.1 at.2,
      sum-within f xs (without ys at.0)
          (λ i j d i_in j_in same. let next = distinct (suc i) (suc j) d (omega arith) (omega arith) same in omega (arith, next))
          (λ y h. among at y h),
    )
  where
    among : (at : Contains ys x) (y : Fde) → Contains xs y → Contains (without ys at.0) y
    among at y h =
        let there = within y (suc h.0, omega (arith, h.1), h.2) in
        let apart : ¬ (at.0 ≡ there.0) = λ same.
        let one : x ≡ y = sym at.2 ∙ get_or_default ys at.0 x y at.1 ∙ ap (λ n. get_or ys n y) same ∙ there.2 in
        let offsets : x.offset ≡ (get_or xs h.0 y).offset = ap (λ (g : Fde). g.offset) (one ∙ sym h.2) in
        let twice : zero ≡ suc h.0 = distinct zero (suc h.0) y (omega arith) (omega (arith, h.1)) offsets in
        omega (arith, twice) in
        in-without ys at.0 there.0 y apart there.1 there.2

-- the sum of f over the first k FDEs of an index is at most the sum of f over all FDEs
pub sum-first : (f : Fde → ℕ) (fdes index : List Fde) (k : ℕ) → IsIndexOf fdes index → sum_by f (take k index) ≤ sum_by f fdes
sum-first f fdes index k is =
    omega (arith, sum_by-take-le f index k, sum-within f index fdes is.ordered.distinct is.from)
