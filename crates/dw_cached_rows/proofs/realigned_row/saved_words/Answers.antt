use Rattle.std.proofs.Common.{◌≡◌, ◌≢◌, ◌+ℤ◌, ap, pos, rules, to_z, of_z, w8}
use Rattle.dw_rules.specs.Views.{rule_of}
use Rattle.dw_stack.specs.Located.{located_of}
use Rattle.dw_cached_rows.proofs.RealignedPacking.{saved-read}
use Rattle.dw_cached_rows.proofs.realigned_row.saved_words.Goals as goal

pub returns-in-Some : goal.returns-in-Some
returns-in-Some c =
    let saved = to_z w8 (of_z w8 c.in-Some.saved) in
    let words = c.in_ok-words-in-Expression.words in
    let some : saved ≢ pos 0 = search rules in
    let is : words ≡ saved +ℤ pos 1 = search rules in
    saved-read saved words (rule_of c.args.rule) (located_of (c.in-Expression.offset, c.in-Expression.expression)) some is
    (ap rule_of c.in-Expression.is) (c.in_ok-words-in-Expression.ensures c.in-Expression.offset)
