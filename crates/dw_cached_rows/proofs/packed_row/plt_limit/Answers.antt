use Rattle.std.proofs.Common.{◌≡◌, ◌∙◌, ap, arith, rules}
use Rattle.dw_rules.specs.Views.{cfa_rule_of}
use Rattle.dw_stack.specs.Located.{LocatedExpression, located_of}
use Rattle.dw_cached_rows.specs.PackedRows.{little_64}
use Rattle.dw_cached_rows.proofs.PltExpressions.{eleven, five, nine, plt-coded, same-bytes}
use Rattle.dw_cached_rows.proofs.packed_row.plt_limit.Goals as goal

pub returns-then-eq : goal.returns-then-eq
returns-then-eq c =
    let x : LocatedExpression = located_of (c.in-Expression.offset, c.in-Expression.expression) in
    let target : x.target ≡ little_64 = search rules in
    let bytes = same-bytes c.bytes-bytes.result.now c.as_slice.result.now (search rules) ∙ c.as_slice.ensures in (
      (λ zero. absurd (cc)),
      omega arith,
      x,
      ap cfa_rule_of c.in-Expression.is,
      plt-coded 11 0x3b x target (search rules) eleven,
    )

pub returns-then-eq-2 : goal.returns-then-eq-2
returns-then-eq-2 c =
    let x : LocatedExpression = located_of (c.in-Expression.offset, c.in-Expression.expression) in
    let target : x.target ≡ little_64 = search rules in
    let bytes = same-bytes c.bytes-bytes.result.now c.as_slice-2.result.now (search rules) ∙ c.as_slice-2.ensures in (
      (λ zero. absurd (cc)),
      omega arith,
      x,
      ap cfa_rule_of c.in-Expression.is,
      plt-coded 9 0x39 x target (search rules) nine,
    )

pub returns-then-eq-3 : goal.returns-then-eq-3
returns-then-eq-3 c =
    let x : LocatedExpression = located_of (c.in-Expression.offset, c.in-Expression.expression) in
    let target : x.target ≡ little_64 = search rules in
    let bytes = same-bytes c.bytes-bytes.result.now c.as_slice-3.result.now (search rules) ∙ c.as_slice-3.ensures in (
      (λ zero. absurd (cc)),
      omega arith,
      x,
      ap cfa_rule_of c.in-Expression.is,
      plt-coded 5 0x35 x target (search rules) five,
    )
