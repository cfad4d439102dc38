-- A walk that gives registers passes one frame more, or ends.
use Rattle.std.proofs.Common.{◌≡◌, ◌≢◌, ℕ, ◌+◌, ◌-◌, ◌<◌, ◌≤◌, true, List, [], ◌∷◌, ◌++◌, refl, sym, ap, subst, ◌∙◌, arith, length, take, drop, set, drop-drop, drop-set-lt}
use Rattle.std.specs.Prelude.{Option, Some}
use Rattle.std.proofs.lemmas.List.{take_more_set}
use Rattle.dw_rules.specs.Rules.{Row}
use Rattle.dw_unwind.specs.Caller.{Answer, value}
use Rattle.dw_unwind.specs.Walks.{CallerRelation, IsFrameAt, Place, WalkedFrame, next_place}
use Rattle.dw_unwind.specs.WalkSteps.{cfa_of}
use Rattle.dw_unwind.specs.declared.frames.Stop.{Stop}
use Rattle.dw_unwind.specs.declared.frames.Stop.TheVariants.{ReturnUndefined, ReturnUnreadable}
use Rattle.dw_cached_rows.specs.declared.cached_rows.TheConstants.{ROWS}
use Rattle.dw_cached_rows.specs.declared.packed_row.PackedRow.{PackedRow}
use Rattle.dw_cached_rows.specs.declared.register_place.FrameWithRegisters.{FrameWithRegisters}
use Rattle.dw_cached_rows.specs.declared.register_place.RegisterPlace.{RegisterPlace}
use Rattle.dw_cached_rows.specs.declared.register_place.RegisterStep.{RegisterStep}
use Rattle.dw_cached_rows.specs.declared.register_place.RegisterStep.TheVariants as steps
use Rattle.dw_cached_rows.specs.PackedRows.{IsWalkedRowOf}
use Rattle.dw_cached_rows.specs.CachedRows.{entry_at, is_usable}
use Rattle.dw_cached_rows.specs.CachedWalks.{over_cached}
use Rattle.dw_cached_rows.specs.RegisterWalks.{EndsWith, EndsWithRegisters, IsRegisterStep, IsWith, PassesWith, WalksWith}
use Rattle.dw_cached_rows.proofs.Passing.{HasRow, frame-here}

passes-snoc : (u : CallerRelation) (from : Place) (xs : List FrameWithRegisters) (q next : Place) (shown : FrameWithRegisters)
    (frame : WalkedFrame) → PassesWith u from xs q → IsWith shown.place q → IsFrameAt u q frame → cfa_of frame ≡ Some (value shown.cfa)
    → next_place frame.caller ≡ Some next → PassesWith u from (xs ++ shown ∷ []) next
passes-snoc u from [] q next shown frame same with is cfa goes =
    subst (λ (p : Place). PassesWith u p (shown ∷ []) next) (sym same) (with, frame, is, cfa, next, goes, refl)
passes-snoc u from (x ∷ xs) q next shown frame (here, f, is-f, cfa-f, after, goes-f, rest) with is cfa goes =
    (here, f, is-f, cfa-f, after, goes-f, passes-snoc u after xs q next shown frame rest with is cfa goes)

-- what a step says of each place where the walk may be
abbrev pub SaysWith : (ℕ → Option ℕ) → PackedRow → RegisterPlace → RegisterStep → Type 0
SaysWith memory e here step = (p : Place) (full : Row) → IsWith here p → IsWalkedRowOf e full → IsRegisterStep memory full p step

abbrev with-cfa : RegisterPlace → ℕ → FrameWithRegisters
with-cfa here cfa = record { place = here; cfa = cfa }

walks-next : (rows : List PackedRow) (confirmed i : ℕ) (memory : ℕ → Option ℕ) (from here next : RegisterPlace) (xs : List FrameWithRegisters)
    → here.key ≢ 0 → i < ROWS → is_usable confirmed here.key (entry_at rows i) ≡ true → HasRow (entry_at rows i)
    → SaysWith memory (entry_at rows i) here (steps.To next) → WalksWith (over_cached rows confirmed memory) from xs here
    → WalksWith (over_cached rows confirmed memory) from (xs ++ with-cfa here next.stack_pointer ∷ []) next
walks-next rows confirmed i memory from here next xs some lt usable has says walks p at =
    let u = over_cached rows confirmed memory in
    let before = walks p at in
    let q = before.0 in
    let step = says q has.0 before.2 has.1 in
    let f : WalkedFrame = record { address = q.address; caller = Some step.0 } in
    let frame = frame-here rows confirmed here.key i memory q step.0 before.2.looked_up some lt usable has step.1 in
    let cfa : cfa_of f ≡ Some (value next.stack_pointer) = ap (λ (a : Answer). Some a) step.2 in
    (step.3, passes-snoc u p xs q step.3 (with-cfa here next.stack_pointer) f before.1 before.2 frame cfa step.4, step.5)

pub walks-on : (held rows : List PackedRow) (confirmed i : ℕ) (memory : ℕ → Option ℕ) (from here next : RegisterPlace)
    (xs : List FrameWithRegisters) (n : ℕ) (step : RegisterStep) → rows ≡ held → n < length xs → here.key ≢ 0 → i < ROWS
    → is_usable confirmed here.key (entry_at rows i) ≡ true → (step ≢ steps.Other → HasRow (entry_at rows i)) → step ≡ steps.To next
    → SaysWith memory (entry_at rows i) here step → WalksWith (over_cached held confirmed memory) from (take n xs) here
    → WalksWith (over_cached held confirmed memory) from (take (n + 1) (set xs n (with-cfa here next.stack_pointer))) next
walks-on held rows confirmed i memory from here next xs n step same lt some inside usable has is says walks =
    let u = over_cached held confirmed memory in
    subst (λ (l : List FrameWithRegisters). WalksWith u from l next) (sym (take_more_set xs n (with-cfa here next.stack_pointer) lt))
    (walks-next held confirmed i memory from here next (take n xs) some inside
    (subst (λ (r : List PackedRow). is_usable confirmed here.key (entry_at r i) ≡ true) same usable)
    (subst (λ (r : List PackedRow). HasRow (entry_at r i)) same (has (λ other. other-goes next (sym other ∙ is))))
    (subst (λ (r : List PackedRow). SaysWith memory (entry_at r i) here (steps.To next)) same
    (subst (λ (s : RegisterStep). SaysWith memory (entry_at rows i) here s) is says)) walks)
  where
    other-goes : (next : RegisterPlace) → steps.Other ≡ steps.To next → ⊥
    other-goes next is = absurd (cc)

-- a step that ends a walk
abbrev pub EndsBy : RegisterStep → ℕ → Stop → Type 0
EndsBy step cfa stop = (memory : ℕ → Option ℕ) (full : Row) (p : Place) → IsRegisterStep memory full p step → EndsWith memory full p cfa stop

ends-next : (rows : List PackedRow) (confirmed i : ℕ) (memory : ℕ → Option ℕ) (from here : RegisterPlace) (xs : List FrameWithRegisters)
    (cfa : ℕ) (stop : Stop) → here.key ≢ 0 → i < ROWS → is_usable confirmed here.key (entry_at rows i) ≡ true → HasRow (entry_at rows i)
    → ((p : Place) (full : Row) → IsWith here p → IsWalkedRowOf (entry_at rows i) full → EndsWith memory full p cfa stop)
    → WalksWith (over_cached rows confirmed memory) from xs here
    → EndsWithRegisters (over_cached rows confirmed memory) from (xs ++ with-cfa here cfa ∷ []) stop
ends-next rows confirmed i memory from here xs cfa stop some lt usable has says walks p at =
    let before = walks p at in
    let q = before.0 in
    let step = says q has.0 before.2 has.1 in
    let f : WalkedFrame = record { address = q.address; caller = Some step.0 } in
    record {
      before = xs;
      place = q;
      shown = with-cfa here cfa;
      last = f;
      passes = before.1;
      with = before.2;
      is = frame-here rows confirmed here.key i memory q step.0 before.2.looked_up some lt usable has step.1;
      cfa = ap (λ (a : Answer). Some a) step.2;
      ends = step.3;
      all = refl;
    }

pub walk-ends : (held rows : List PackedRow) (confirmed i : ℕ) (memory : ℕ → Option ℕ) (from here : RegisterPlace)
    (xs : List FrameWithRegisters) (n cfa : ℕ) (step : RegisterStep) (stop : Stop) → rows ≡ held → n < length xs → here.key ≢ 0 → i < ROWS
    → is_usable confirmed here.key (entry_at rows i) ≡ true → HasRow (entry_at rows i) → EndsBy step cfa stop
    → SaysWith memory (entry_at rows i) here step → WalksWith (over_cached held confirmed memory) from (take n xs) here
    → EndsWithRegisters (over_cached held confirmed memory) from (take (n + 1) (set xs n (with-cfa here cfa))) stop
walk-ends held rows confirmed i memory from here xs n cfa step stop same lt some inside usable has ends says walks =
    let u = over_cached held confirmed memory in
    subst (λ (l : List FrameWithRegisters). EndsWithRegisters u from l stop) (sym (take_more_set xs n (with-cfa here cfa) lt))
    (ends-next held confirmed i memory from here (take n xs) cfa stop some inside
    (subst (λ (r : List PackedRow). is_usable confirmed here.key (entry_at r i) ≡ true) same usable)
    (subst (λ (r : List PackedRow). HasRow (entry_at r i)) same has)
    (λ p full at is. ends memory full p (says p full at (subst (λ (r : List PackedRow). IsWalkedRowOf (entry_at r i) full) (sym same) is))) walks)

pub ends-undefined : (step : RegisterStep) (cfa : ℕ) → step ≡ steps.ReturnUndefined cfa → EndsBy step cfa ReturnUndefined
ends-undefined step cfa is memory full p says = subst (λ (s : RegisterStep). IsRegisterStep memory full p s) is says

pub ends-unreadable : (step : RegisterStep) (cfa : ℕ) → step ≡ steps.ReturnUnreadable cfa → EndsBy step cfa ReturnUnreadable
ends-unreadable step cfa is memory full p says = subst (λ (s : RegisterStep). IsRegisterStep memory full p s) is says

pub some-undefined : (e : PackedRow) (step : RegisterStep) (cfa : ℕ) → (step ≢ steps.Other → HasRow e) → step ≡ steps.ReturnUndefined cfa → HasRow e
some-undefined e step cfa has is = has (λ other. absurd (cc (other, is)))

pub some-unreadable : (e : PackedRow) (step : RegisterStep) (cfa : ℕ) → (step ≢ steps.Other → HasRow e) → step ≡ steps.ReturnUnreadable cfa → HasRow e
some-unreadable e step cfa has is = has (λ other. absurd (cc (other, is)))

-- the frames that are written, once one more is
pub written-next : (xs old : List FrameWithRegisters) (n : ℕ) (x : FrameWithRegisters) → n < length xs → drop n xs ≡ drop n old
    → drop (n + 1) (set xs n x) ≡ drop (n + 1) old
written-next xs old n x lt rest =
    drop-set-lt (n + 1) xs n x (omega arith)
    ∙ sym (drop-drop 1 n xs) ∙ ap (λ (l : List FrameWithRegisters). drop 1 l) rest ∙ drop-drop 1 n old

-- the same from any later index on
pub written-past : (xs old : List FrameWithRegisters) (n m : ℕ) (x : FrameWithRegisters) → n < length xs → n + 1 ≤ m
    → drop n xs ≡ drop n old → drop m (set xs n x) ≡ drop m old
written-past xs old n m x lt le rest =
    let k = m - (n + 1) in
    let m-is : n + 1 + k ≡ m = omega arith in
    subst (λ (i : ℕ). drop i (set xs n x) ≡ drop i old) m-is
    (sym (drop-drop k (n + 1) (set xs n x)) ∙ ap (λ (l : List FrameWithRegisters). drop k l) (written-next xs old n x lt rest)
    ∙ drop-drop k (n + 1) old)
