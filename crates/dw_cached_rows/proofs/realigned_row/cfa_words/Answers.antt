use Rattle.std.proofs.Common.{ap}
use Rattle.dw_rules.specs.Views.{cfa_rule_of}
use Rattle.dw_stack.specs.Located.{located_of}
use Rattle.dw_cached_rows.proofs.RealignedPacking.{cfa-read}
use Rattle.dw_cached_rows.proofs.realigned_row.cfa_words.Goals as goal

pub returns-in-Expression : goal.returns-in-Expression
returns-in-Expression c =
    cfa-read c.words_of_word.result (λ at. located_of (at, c.in-Expression.expression)) c.in-Expression.offset (cfa_rule_of c.args.cfa)
    (ap cfa_rule_of c.in-Expression.is) c.words_of_word.ensures
