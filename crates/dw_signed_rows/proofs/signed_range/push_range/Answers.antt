use Rattle.std.proofs.Common.{◌≡◌, ◌∙◌, ◌∷◌, [], ◌++◌, List, ap, sym, arith}
use Rattle.dw_signed_rows.specs.SignedRanges.{ends_at}
use Rattle.dw_signed_rows.specs.declared.signed_range.SignedRange.{SignedRange}
use Rattle.dw_signed_rows.proofs.Ranges.{end-appended, joined-to, order-appended, order-joined}
use Rattle.dw_signed_rows.proofs.signed_range.push_range.Goals as goal

pub returns-in_ok-push-in-Some-clause-pushed : goal.returns-in_ok-push-in-Some-clause-pushed
returns-in_ok-push-in-Some-clause-pushed c =
    joined-to c.args.ranges.now.items c.pop.new.self.items c.push.new.self.items c.in-Some.last c.args.range c.requires.order
    c.in-Some.ensures.items c.in_ok-push-in-Some.ensures.items (omega (arith, c.if-last-range.true)) c.requires.some

pub returns-in_ok-push-in-Some-clause-order : goal.returns-in_ok-push-in-Some-clause-order
returns-in_ok-push-in-Some-clause-order c =
    order-joined c.args.ranges.now.items c.pop.new.self.items c.push.new.self.items c.in-Some.last c.args.range c.requires.order
    c.in-Some.ensures.items c.in_ok-push-in-Some.ensures.items (omega (arith, c.if-last-range.true)) c.requires.some

pub returns-in_ok-push-in-Some-clause-end : goal.returns-in_ok-push-in-Some-clause-end
returns-in_ok-push-in-Some-clause-end c =
    ap (ends_at 0) c.in_ok-push-in-Some.ensures.items
    ∙ end-appended 0 c.pop.new.self.items (record { start = c.in-Some.last.start; end = c.args.range.end })

pub returns-in_ok-push-in-Some-2-2-clause-order : goal.returns-in_ok-push-in-Some-2-2-clause-order
returns-in_ok-push-in-Some-2-2-clause-order c =
    let all : c.push-in-Some-2-2.new.self.items ≡ c.args.ranges.now.items ++ c.args.range ∷ [] =
    c.in_ok-push-in-Some-2-2.ensures.items
    ∙ ap (λ (l : List SignedRange). l ++ c.args.range ∷ []) (c.in_ok-push-in-Some-2.ensures.items ∙ sym c.in-Some.ensures.items) in
    rw all (order-appended 0 c.args.ranges.now.items c.args.range c.requires.order c.requires.low c.requires.some)

pub returns-in_ok-push-in-Some-2-2-clause-end : goal.returns-in_ok-push-in-Some-2-2-clause-end
returns-in_ok-push-in-Some-2-2-clause-end c =
    ap (ends_at 0) c.in_ok-push-in-Some-2-2.ensures.items ∙ end-appended 0 c.push-in-Some-2.new.self.items c.args.range
