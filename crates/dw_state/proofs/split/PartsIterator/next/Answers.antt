use Rattle.std.proofs.Common.{rules, arith, ap, take, drop, length, ◌≡◌, ◌+◌, ◌∷◌}
use Rattle.dw_state.specs.Parts.{parts_of}
use Rattle.dw_state.proofs.Separated.{cut_at, uncut, all_past}
use Rattle.dw_state.proofs.split.PartsIterator.next.Goals as goal

pub returns-in-Some-clause-steps : goal.returns-in-Some-clause-steps
returns-in-Some-clause-steps c =
    let rest = c.in_ok-rest.rest.now in
    let cut = cut_at c.self.inside.separator rest c.in-Some.at c.in-Some.ensures.0.high c.in-Some.ensures.1
    (λ i l. c.in-Some.ensures.0.before i (omega arith) l) in
    rw (all_past rest (c.in-Some.at + 1)) (search (rules, cut, c.in_ok-rest.was, c.self.view_is))

pub returns-in-None-clause-steps : goal.returns-in-None-clause-steps
returns-in-None-clause-steps c =
    let whole = uncut c.self.inside.separator c.in_ok-rest.rest.now (λ i l. c.in-None.ensures i (omega arith) l) in
    search (rules, whole, c.in_ok-rest.was, c.self.view_is)

pub returns-in-Some-clause-goes : goal.returns-in-Some-clause-goes
returns-in-Some-clause-goes c =
    let rest = c.in_ok-rest.rest.now in
    let cut = cut_at c.self.inside.separator rest c.in-Some.at c.in-Some.ensures.0.high c.in-Some.ensures.1
    (λ i l. c.in-Some.ensures.0.before i (omega arith) l) in
    let steps : c.args.self.now ≡ take c.in-Some.at rest ∷ parts_of c.self.inside.separator (drop (c.in-Some.at + 1) rest) =
    search (rules, cut, c.in_ok-rest.was, c.self.view_is) in
    let long = ap length steps in
    rw (all_past rest (c.in-Some.at + 1)) (search rules)
