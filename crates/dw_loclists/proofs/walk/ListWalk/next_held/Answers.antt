use Rattle.std.proofs.Common.{rules, ◌≡◌, true, false, List, [], ◌∷◌, ◌++◌, Some, None, Ok, Option, refl, sym, ap, ◌∙◌}
use Rattle.std.specs.Prelude.{◌||◌, is_some, option_map, MatchOption}
use Rattle.dw_bytes.specs.declared.block.Block as declared
use Rattle.dw_bytes.specs.Operands.{Block, block_of}
use Rattle.dw_loclists.specs.Entries.{end_of_list, default_location, base_address, is_end, is_default}
use Rattle.dw_loclists.specs.Locations.{location_of, base_after, holds, bounded_at, defaults_in}
use Rattle.dw_stack.specs.Located.{LocatedExpression}
use Rattle.dw_loclists.specs.Reading.{entry_at, entries_at}
use Rattle.dw_loclists.specs.Views.{entry_of}
use Rattle.dw_loclists.specs.Walks.{default_located, entries_in, held_ahead}
use Rattle.dw_loclists.proofs.Walking.{always-read, none-before, step-ends, step-goes, or-false, or-true, held-step, defaults-step}
use Rattle.dw_loclists.proofs.Walking.{first-default, holds-bounded, holds-some, holds-none, not-default}
use Rattle.dw_loclists.proofs.walk.ListWalk.next_held.Goals as goal

pub unreachable-requires : goal.unreachable-requires
unreachable-requires c = always-read (is_some c.entries.self.default) c.entries.self.cursor c.in-Err.field-0 c.entries.invariant.readable
    c.in-Err.ensures.exact

-- the contract of `next_held` for the case that it returns an expression
given : (old new : List LocatedExpression) (none default readable : Type 0) (o : Option declared.Block) (b : Block)
    → option_map block_of o ≡ Some b → old ≡ location_of b ∷ new → default → readable
    → MatchOption o none (λ x. (old ≡ location_of (block_of x) ∷ new) × default × readable)
given old new none default readable None b is held d r = absurd cc
given old new none default readable (Some x) b is held d r = let same : block_of x ≡ b =
    cc in (held ∙ ap (λ (y : Block). location_of y ∷ new) (sym same), d, r)

pub returns-in-EndOfList : goal.returns-in-EndOfList
returns-in-EndOfList c =
    let w = c.entries.self in
    let before = c.entries.invariant in
    let d = is_some w.default in
    let read : entry_at w.cursor ≡ Ok (end_of_list, c.read.new.cursor) = search rules in
    let none = step-ends d w.cursor end_of_list c.read.new.cursor before.readable read refl in (
      sym before.held ∙ ap (bounded_at w.base c.args.address) none,
      sym before.default ∙ (ap (λ es. default_located w.default ++ defaults_in es) none ∙ nothing (default_located w.default)),
    )
  where
    nothing : (xs : List LocatedExpression) → xs ++ [] ≡ xs
    nothing [] = refl
    nothing (x ∷ xs) = ap (λ (t : List LocatedExpression). x ∷ t) (nothing xs)

pub entries-preserved-in-BaseAddress : goal.entries-preserved-in-BaseAddress
entries-preserved-in-BaseAddress c =
    let w = c.entries.self in
    let before = c.entries.invariant in
    let d = is_some w.default in
    let mid = c.read.new.cursor in
    let e = base_address c.in-BaseAddress.base in
    let read : entry_at w.cursor ≡ Ok (e, mid) = search rules in
    let step = step-goes d d w.cursor e mid before.readable read refl (or-false d) in
    record {
      readable = step.readable;
      held = sym (held-step w.base c.args.address (entries_in (entries_at d w.cursor)) e (entries_in (entries_at d mid)) step.entries)
          ∙ before.held;
      default = ap (λ (xs : List LocatedExpression). default_located w.default ++ xs)
          (sym (defaults-step (entries_in (entries_at d w.cursor)) e (entries_in (entries_at d mid)) step.entries)) ∙ before.default;
    }

pub entries-preserved-in-DefaultLocation : goal.entries-preserved-in-DefaultLocation
entries-preserved-in-DefaultLocation c =
    let w = c.entries.self in
    let before = c.entries.invariant in
    let d = is_some w.default in
    let mid = c.read.new.cursor in
    let b = c.in-DefaultLocation.expression in
    let e = default_location (block_of b) in
    let read : entry_at w.cursor ≡ Ok (e, mid) = search rules in
    let step = step-goes d true w.cursor e mid before.readable read refl (or-true d) in
    record {
      readable = step.readable;
      held = sym (held-step w.base c.args.address (entries_in (entries_at d w.cursor)) e (entries_in (entries_at true mid)) step.entries)
          ∙ before.held;
      default = sym (first-default w.default b (entries_in (entries_at true mid)) (none-before d w.cursor e mid before.readable read))
          ∙ (ap (λ (xs : List LocatedExpression). default_located w.default ++ xs)
          (sym (defaults-step (entries_in (entries_at d w.cursor)) e (entries_in (entries_at true mid)) step.entries))
          ∙ before.default);
    }

pub entries-preserved : goal.entries-preserved
entries-preserved c =
    let w = c.entries.self in
    let before = c.entries.invariant in
    let d = is_some w.default in
    let mid = c.read.new.cursor in
    let e = entry_of c.in-Ok.entry in
    let going : is_end (entry_of c.in-Ok.entry) ≡ false = search rules in
    let other : is_default (entry_of c.in-Ok.entry) ≡ false = search rules in
    let base : base_after w.base (entry_of c.in-Ok.entry ∷ []) ≡ w.base = search rules in
    let step = step-goes d d w.cursor e mid before.readable c.in-Ok.ensures.exact going (ap (λ b. d || b) other ∙ or-false d) in
    let es = entries_in (entries_at d mid) in
    let xs = entries_in (entries_at d w.cursor) in
    let held : bounded_at w.base c.args.address xs ≡ bounded_at w.base c.args.address es =
    held-step w.base c.args.address xs e es step.entries
    ∙ (ap (λ (l : List LocatedExpression). l ++ bounded_at (base_after w.base (e ∷ [])) c.args.address es)
    (holds-none w.base c.args.address e (sym c.holds.ensures ∙ c.if-holds.false)) ∙ ap (λ n. bounded_at n c.args.address es) base) in
    let defaults : defaults_in xs ≡ defaults_in es =
    defaults-step xs e es step.entries ∙ ap (λ (l : List LocatedExpression). l ++ defaults_in es) (not-default e other) in
    record {
      readable = step.readable;
      held = sym held ∙ before.held;
      default = ap (λ (l : List LocatedExpression). default_located w.default ++ l) (sym defaults) ∙ before.default;
    }

pub returns-then-holds : goal.returns-then-holds
returns-then-holds c =
    let w = c.entries.self in
    let before = c.entries.invariant in
    let d = is_some w.default in
    let mid = c.read.new.cursor in
    let e = entry_of c.in-Ok.entry in
    let here : holds w.base c.args.address e ≡ true = sym c.holds.ensures ∙ c.if-holds.true in
    let bounded = holds-bounded w.base c.args.address e here in
    let some = holds-some w.base c.args.address e here in
    let step =
    step-goes d d w.cursor e mid before.readable c.in-Ok.ensures.exact bounded.going (ap (λ b. d || b) bounded.other ∙ or-false d) in
    let es = entries_in (entries_at d mid) in
    let xs = entries_in (entries_at d w.cursor) in
    let held : bounded_at w.base c.args.address xs ≡ location_of some.0 ∷ bounded_at w.base c.args.address es =
    held-step w.base c.args.address xs e es step.entries
    ∙ (ap (λ (l : List LocatedExpression). l ++ bounded_at (base_after w.base (e ∷ [])) c.args.address es) some.2
    ∙ ap (λ n. location_of some.0 ∷ bounded_at n c.args.address es) bounded.same_base) in
    let defaults : defaults_in xs ≡ defaults_in es =
    defaults-step xs e es step.entries ∙ ap (λ (l : List LocatedExpression). l ++ defaults_in es) (not-default e bounded.other) in
    given (held_ahead c.args.address c.args.self.now) (bounded_at w.base c.args.address es) _ _ _ c.expression.result some.0
    (c.expression.ensures ∙ some.1)
    (sym before.held ∙ held)
    (ap (λ (l : List LocatedExpression). default_located w.default ++ l) (sym defaults) ∙ before.default)
    step.readable
