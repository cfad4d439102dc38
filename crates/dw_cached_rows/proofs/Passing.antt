-- A walk passes one frame more, or ends.
use Rattle.std.proofs.Common.{◌≡◌, ◌≢◌, ℕ, zero, suc, ◌<◌, ◌≤◌, ◌-◌, ◌==◌, ◌&&◌, ◌%◌, Bool, true, false, List, [], ◌∷◌, ◌++◌, refl, sym, ap, subst, inl, ◌∙◌, arith, ◌+◌, length, take, drop, set, drop-drop, drop-set-lt}
use Rattle.std.specs.Prelude.{Option, Some, None, option_map}
use Rattle.std.proofs.lemmas.List.{map-append, take_more_set}
use Rattle.std.proofs.lemmas.Bool.Decides.{nat_tests}
use Rattle.dw_rules.specs.Rules.{Row}
use Rattle.dw_unwind.specs.Caller.{Caller}
use Rattle.dw_unwind.specs.Walks.{AreFrames, CallerRelation, IsFrameAt, Place, UnwindsAt, WalkedFrame, address_before, content_of, next_place, place_of_caller}
use Rattle.dw_unwind.specs.declared.frames.Stop.{Stop}
use Rattle.dw_unwind.specs.declared.frames.Stop.TheVariants.{ReturnUndefined, ReturnUnreadable}
use Rattle.dw_cached_rows.specs.declared.cached_rows.TheConstants.{ROWS}
use Rattle.dw_cached_rows.specs.declared.packed_row.PackedRow.{PackedRow}
use Rattle.dw_cached_rows.specs.declared.packed_row.TheConstants.{SLOTS}
use Rattle.dw_cached_rows.specs.declared.stack_place.StackPlace.{StackPlace}
use Rattle.dw_cached_rows.specs.declared.stack_place.Step.{Step}
use Rattle.dw_cached_rows.specs.declared.stack_place.Step.TheVariants as steps
use Rattle.dw_cached_rows.specs.PackedRows.{IsWalkedRowOf}
use Rattle.dw_cached_rows.specs.CachedRows.{entry_at, is_confirmed, is_usable}
use Rattle.dw_cached_rows.specs.CachedWalks.{EndsAfter, EndsHere, IsAt, IsCallerFrom, IsStep, Passes, addresses_of, as_caller, over_cached, place_after}

-- ---- one frame more

frames-snoc : (u : CallerRelation) (p : Option Place) (frames : List WalkedFrame) (q : Place) (f : WalkedFrame) → AreFrames u p frames
    → place_after p frames ≡ Some q → IsFrameAt u q f
    → AreFrames u p (frames ++ f ∷ []) × (place_after p (frames ++ f ∷ []) ≡ next_place f.caller)
frames-snoc u p [] q f are is at = (subst (λ (o : Option Place). AreFrames u o (f ∷ [])) (sym is) (at, tt), refl)
frames-snoc u None (g ∷ frames) q f are is at = absurd are
frames-snoc u (Some p) (g ∷ frames) q f are is at =
    let rest = frames-snoc u (next_place g.caller) frames q f are.1 is at in ((are.0, rest.0), rest.1)

-- ---- the frame of a usable entry

-- a row for which the entry stands
abbrev pub HasRow : PackedRow → Type 0
HasRow p = (row : Row) × IsWalkedRowOf p row

both : (a b : Bool) → (a && b) ≡ true → (a ≡ true) × (b ≡ true)
both true true is = (refl, refl)
both true false is = absurd (cc)
both false b is = absurd (cc)

same : (n m : ℕ) → (n == m) ≡ true → n ≡ m
same n m is = grind (arith, nat_tests, is)

unwinds : (rows : List PackedRow) (confirmed key i : ℕ) (memory : ℕ → Option ℕ) (q : Place) (caller : Caller) → key ≢ 0
    → i < ROWS → is_usable confirmed key (entry_at rows i) ≡ true → (has : HasRow (entry_at rows i))
    → IsCallerFrom memory has.0 q caller
    → UnwindsAt (over_cached rows confirmed memory) q.registers (address_before key) (Some caller)
unwinds rows confirmed zero i memory q caller some lt usable has is = absurd (some refl)
unwinds rows confirmed (suc a) i memory q caller some lt usable has is =
    let e = entry_at rows i in
    let split = both (e.key == suc a) (is_confirmed confirmed (e.slot % SLOTS)) usable in (
      Some (has.0, 16),
      record {
        slot = e.slot % SLOTS;
        confirmed = split.1;
        held = (i, record { inside = lt; key = same e.key (suc a) split.0; slot_is = refl; is = inl has.1 });
        column = refl;
      },
      is,
    )

pub frame-here : (rows : List PackedRow) (confirmed key i : ℕ) (memory : ℕ → Option ℕ) (q : Place) (caller : Caller)
    → q.looked_up ≡ address_before key → key ≢ 0 → i < ROWS → is_usable confirmed key (entry_at rows i) ≡ true
    → (has : HasRow (entry_at rows i)) → IsCallerFrom memory has.0 q caller
    → IsFrameAt (over_cached rows confirmed memory) q (record { address = q.address; caller = Some caller })
frame-here rows confirmed key i memory q caller looked_up some lt usable has is = (
  refl,
  subst (λ (o : Option ℕ). UnwindsAt (over_cached rows confirmed memory) q.registers o (Some caller)) (sym looked_up)
      (unwinds rows confirmed key i memory q caller some lt usable has is),
)

addresses-snoc : (frames : List WalkedFrame) (f : WalkedFrame) (xs : List ℕ) (x : ℕ) → addresses_of frames ≡ xs → f.address ≡ x
    → addresses_of (frames ++ f ∷ []) ≡ xs ++ x ∷ []
addresses-snoc frames f xs x are is =
    map-append (λ (g : WalkedFrame). g.address) frames (f ∷ [])
    ∙ ap (λ (l : List ℕ). l ++ f.address ∷ []) are ∙ ap (λ (a : ℕ). xs ++ a ∷ []) is

-- what a step says of each place where the walk may be
abbrev pub Says : (ℕ → Option ℕ) → PackedRow → StackPlace → Step → Type 0
Says memory e here step = (p : Place) (full : Row) → IsAt memory here p → IsWalkedRowOf e full → IsStep memory full p step

-- a walk that is at the next place is also at the other one, if the next is that of a caller
abbrev pub IsCallerAt : (ℕ → Option ℕ) → StackPlace → StackPlace → Type 0
IsCallerAt memory next to = (caller : Caller) (q : Place) → next_place (Some caller) ≡ Some q → IsAt memory next q → IsAt memory to q

pub at-next : (memory : ℕ → Option ℕ) (next : StackPlace) → IsCallerAt memory next next
at-next memory next caller q is at = at

-- a caller is looked up by its address
pub by-address : (caller : Caller) (q : Place) → next_place (Some caller) ≡ Some q → q.looked_up ≡ address_before q.address
by-address caller q is = go (content_of caller.return_address) is
  where
    go : (o : Option ℕ) → option_map (place_of_caller caller) o ≡ Some q → q.looked_up ≡ address_before q.address
    go None none = absurd (cc)
    go (Some a) some =
        let same : place_of_caller caller a ≡ q = cc in
        subst (λ (p : Place). p.looked_up ≡ address_before p.address) same refl

pub same-address : (a b : ℕ) → address_before a ≡ address_before b → a ≡ b
same-address zero zero is = refl
same-address zero (suc b) is = absurd (cc)
same-address (suc a) zero is = absurd (cc)
same-address (suc a) (suc b) is = cc

pub at-caller : (memory : ℕ → Option ℕ) (next : StackPlace) → IsCallerAt memory next (as_caller next)
at-caller memory next caller q is at = record {
  address = same-address q.address next.key (sym (by-address caller q is) ∙ at.looked_up);
  looked_up = at.looked_up;
  pointer = at.pointer;
  frame_pointer = at.frame_pointer;
}

pub passes-next : (rows : List PackedRow) (confirmed i : ℕ) (memory : ℕ → Option ℕ) (from here next to : StackPlace) (xs : List ℕ)
    → IsCallerAt memory next to → here.key ≢ 0 → i < ROWS → is_usable confirmed here.key (entry_at rows i) ≡ true → HasRow (entry_at rows i)
    → Says memory (entry_at rows i) here (steps.To next) → Passes (over_cached rows confirmed memory) memory from xs here
    → Passes (over_cached rows confirmed memory) memory from (xs ++ here.address ∷ []) to
passes-next rows confirmed i memory from here next to xs comes some lt usable has says passes p at =
    let u = over_cached rows confirmed memory in
    let before = passes p at in
    let frames = before.0 in let q = before.1 in let passed = before.2 in let at-q = before.3 in
    let step = says q has.0 at-q has.1 in
    let f : WalkedFrame = record { address = q.address; caller = Some step.0 } in
    let more = frames-snoc u (Some p) frames q f passed.are passed.to_is
    (frame-here rows confirmed here.key i memory q step.0 at-q.looked_up some lt usable has step.1) in (
      frames ++ f ∷ [],
      step.2,
      record { are = more.0; to_is = more.1 ∙ step.3 },
      comes step.0 step.2 step.3 step.4,
      addresses-snoc frames f xs here.address before.4 at-q.address,
    )

pub ends-next : (rows : List PackedRow) (confirmed i : ℕ) (memory : ℕ → Option ℕ) (from here : StackPlace) (xs : List ℕ) (stop : Stop)
    → here.key ≢ 0 → i < ROWS → is_usable confirmed here.key (entry_at rows i) ≡ true → HasRow (entry_at rows i)
    → ((p : Place) (full : Row) → IsAt memory here p → IsWalkedRowOf (entry_at rows i) full → EndsHere memory full p stop) → Passes (over_cached rows confirmed memory) memory from xs here
    → EndsAfter (over_cached rows confirmed memory) memory from (xs ++ here.address ∷ []) stop
ends-next rows confirmed i memory from here xs stop some lt usable has says passes p at =
    let before = passes p at in
    let frames = before.0 in let q = before.1 in let passed = before.2 in let at-q = before.3 in
    let step = says q has.0 at-q has.1 in
    let f : WalkedFrame = record { address = q.address; caller = Some step.0 } in (
      frames ++ f ∷ [],
      record {
        before = frames;
        place = q;
        last = f;
        passed = passed;
        is = frame-here rows confirmed here.key i memory q step.0 at-q.looked_up some lt usable has step.1;
        ends = step.2;
        all = refl;
      },
      addresses-snoc frames f xs here.address before.4 at-q.address,
    )

pub passes-none : (u : CallerRelation) (memory : ℕ → Option ℕ) (from : StackPlace) → Passes u memory from [] from
passes-none u memory from p at = ([], p, record { are = tt; to_is = refl }, at, refl)

-- ---- what a walk writes

-- The addresses that are written, once one more is.
pub written-next : (xs old : List ℕ) (n x : ℕ) → n < length xs → drop n xs ≡ drop n old → drop (n + 1) (set xs n x) ≡ drop (n + 1) old
written-next xs old n x lt rest =
    drop-set-lt (n + 1) xs n x (omega arith)
    ∙ sym (drop-drop 1 n xs) ∙ ap (λ (l : List ℕ). drop 1 l) rest ∙ drop-drop 1 n old

-- The same from any later index on.
pub written-past : (xs old : List ℕ) (n m x : ℕ) → n < length xs → n + 1 ≤ m → drop n xs ≡ drop n old → drop m (set xs n x) ≡ drop m old
written-past xs old n m x lt le rest =
    let k = m - (n + 1) in
    let m-is : n + 1 + k ≡ m = omega arith in
    subst (λ (i : ℕ). drop i (set xs n x) ≡ drop i old) m-is
    (sym (drop-drop k (n + 1) (set xs n x)) ∙ ap (λ (l : List ℕ). drop k l) (written-next xs old n x lt rest) ∙ drop-drop k (n + 1) old)

pub walks-on : (held rows : List PackedRow) (confirmed i : ℕ) (memory : ℕ → Option ℕ) (from here next to : StackPlace) (xs : List ℕ) (n : ℕ)
    (step : Step) → IsCallerAt memory next to → rows ≡ held → n < length xs → here.key ≢ 0 → i < ROWS → is_usable confirmed here.key (entry_at rows i) ≡ true
    → (step ≢ steps.Other → HasRow (entry_at rows i)) → step ≡ steps.To next → Says memory (entry_at rows i) here step
    → Passes (over_cached held confirmed memory) memory from (take n xs) here
    → Passes (over_cached held confirmed memory) memory from (take (n + 1) (set xs n here.address)) to
walks-on held rows confirmed i memory from here next to xs n step comes same lt some inside usable has is says passes =
    let u = over_cached held confirmed memory in
    subst (λ (l : List ℕ). Passes u memory from l to) (sym (take_more_set xs n here.address lt))
    (passes-next held confirmed i memory from here next to (take n xs) comes some inside
    (subst (λ (r : List PackedRow). is_usable confirmed here.key (entry_at r i) ≡ true) same usable)
    (subst (λ (r : List PackedRow). HasRow (entry_at r i)) same (has (λ other. other-goes next (sym other ∙ is))))
    (subst (λ (r : List PackedRow). Says memory (entry_at r i) here (steps.To next)) same
    (subst (λ (s : Step). Says memory (entry_at rows i) here s) is says)) passes)
  where
    other-goes : (next : StackPlace) → steps.Other ≡ steps.To next → ⊥
    other-goes next is = absurd (cc)

-- a step that ends a walk
abbrev pub EndsBy : Step → Stop → Type 0
EndsBy step stop = (memory : ℕ → Option ℕ) (full : Row) (p : Place) → IsStep memory full p step → EndsHere memory full p stop

pub walk-ends : (held rows : List PackedRow) (confirmed i : ℕ) (memory : ℕ → Option ℕ) (from here : StackPlace) (xs : List ℕ) (n : ℕ)
    (step : Step) (stop : Stop) → rows ≡ held → n < length xs → here.key ≢ 0 → i < ROWS
    → is_usable confirmed here.key (entry_at rows i) ≡ true → HasRow (entry_at rows i) → EndsBy step stop
    → Says memory (entry_at rows i) here step → Passes (over_cached held confirmed memory) memory from (take n xs) here
    → EndsAfter (over_cached held confirmed memory) memory from (take (n + 1) (set xs n here.address)) stop
walk-ends held rows confirmed i memory from here xs n step stop same lt some inside usable has ends says passes =
    let u = over_cached held confirmed memory in
    subst (λ (l : List ℕ). EndsAfter u memory from l stop) (sym (take_more_set xs n here.address lt))
    (ends-next held confirmed i memory from here (take n xs) stop some inside
    (subst (λ (r : List PackedRow). is_usable confirmed here.key (entry_at r i) ≡ true) same usable)
    (subst (λ (r : List PackedRow). HasRow (entry_at r i)) same has)
    (λ p full at is. ends memory full p (says p full at (subst (λ (r : List PackedRow). IsWalkedRowOf (entry_at r i) full) (sym same) is))) passes)

-- a step that ends a walk isn't `Other`, and ends it for its own reason
pub ends-undefined : (step : Step) → step ≡ steps.ReturnUndefined → EndsBy step ReturnUndefined
ends-undefined step is memory full p says = subst (λ (s : Step). IsStep memory full p s) is says

pub ends-unreadable : (step : Step) → step ≡ steps.ReturnUnreadable → EndsBy step ReturnUnreadable
ends-unreadable step is memory full p says = subst (λ (s : Step). IsStep memory full p s) is says

pub some-undefined : (e : PackedRow) (step : Step) → (step ≢ steps.Other → HasRow e) → step ≡ steps.ReturnUndefined → HasRow e
some-undefined e step has is = has (λ other. absurd (cc (other, is)))

pub some-unreadable : (e : PackedRow) (step : Step) → (step ≢ steps.Other → HasRow e) → step ≡ steps.ReturnUnreadable → HasRow e
some-unreadable e step has is = has (λ other. absurd (cc (other, is)))
