use Rattle.std.proofs.Common.{rules, sym, subst, ◌∙◌, get_or}
use Rattle.std.proofs.lemmas.List.Sorted.{answers_always}
use Rattle.dw_bytes.specs.Operands.{block_of}
use Rattle.dw_loclists.specs.declared.stored_lists.StoredExpression.{StoredExpression}
use Rattle.dw_loclists.specs.Locations.{location_of}
use Rattle.dw_loclists.specs.Stored.{IsStoredOf}
use Rattle.dw_loclists.specs.Views.{offset_of}
use Rattle.dw_loclists.proofs.Search.{searched-found, searched-none, ascending-same}
use Rattle.dw_loclists.proofs.find.find_expression.Goals as goal

-- the default value for reading a list at an index, which the proofs need but never reach
abbrev none : StoredExpression
none = record { offset = 0; length = 0; count = 0; depth = 0 }

pub lend-requires : goal.lend-requires
lend-requires c =
    let xs = c.args.expressions.now in
    let facts = c.in-Ok.ensures in
    let by_key = facts.position offset_of (answers_always _ _ _ (λ f a r g called. search rules)) in
    let found = searched-found offset_of xs c.args.block.offset none c.in-Ok.place facts.bound by_key in
    let kept = c.requires.kept in
    let same =
    ascending-same offset_of xs c.requires.order kept.0 (get_or xs c.in-Ok.place none) kept.1 found.0
    (kept.2.offset_is ∙ sym found.1) in
    subst (IsStoredOf (location_of (block_of c.args.block))) same kept.2

pub unreachable-requires : goal.unreachable-requires
unreachable-requires c =
    let xs = c.args.expressions.now in
    let facts = c.in-Err.ensures in
    let by_key = facts.position offset_of (answers_always _ _ _ (λ f a r g called. search rules)) in
    let none = searched-none offset_of xs c.requires.order c.args.block.offset c.in-Err.field-0 facts.bound by_key in
    let kept = c.requires.kept in
    none kept.0 kept.1 kept.2.offset_is
