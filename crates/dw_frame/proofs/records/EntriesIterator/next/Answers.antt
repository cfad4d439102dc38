use Rattle.std.proofs.Common.{◌≡◌, ◌∙◌, ◌∷◌, [], Ok, Err, sym, ap, arith, length, rules}
use Rattle.dw_frame.specs.Sections.{records_from}
use Rattle.dw_frame.specs.Views.{record_of}
use Rattle.dw_frame.proofs.EachRecord.{at-end, at-fault, at-record}
use Rattle.dw_frame.proofs.records.EntriesIterator.next.Goals as goal

pub returns-then-self-end-clause-steps : goal.returns-then-self-end-clause-steps
returns-then-self-end-clause-steps c =
    let it = c.self.inside in
    let none : c.args.self.now ≡ [] = sym c.self.view_is ∙ at-end it.target it.section.now it.at (omega arith) in
    (none, none)

pub returns-in-Ok-clause-steps : goal.returns-in-Ok-clause-steps
returns-in-Ok-clause-steps c =
    let it = c.self.inside in
    sym c.self.view_is ∙ at-record it.target it.section.now it.at c.in-Ok.next (record_of c.in-Ok.entry) c.in-Ok.ensures.exact

pub returns-in-Ok-clause-goes : goal.returns-in-Ok-clause-goes
returns-in-Ok-clause-goes c =
    let it = c.self.inside in
    let steps : c.args.self.now ≡ Ok (record_of c.in-Ok.entry) ∷ records_from it.target it.section.now c.in-Ok.next =
    sym c.self.view_is ∙ at-record it.target it.section.now it.at c.in-Ok.next (record_of c.in-Ok.entry) c.in-Ok.ensures.exact in
    let long = ap length steps in
    search rules

pub returns-in-Err-clause-steps : goal.returns-in-Err-clause-steps
returns-in-Err-clause-steps c =
    let it = c.self.inside in
    sym c.self.view_is ∙ at-fault it.target it.section.now it.at c.in-Err.fault (omega arith) c.in-Err.ensures.exact
    ∙ ap (λ rest. Err c.in-Err.fault ∷ rest) (sym (at-end it.target it.section.now (length it.section.now) (omega arith)))

pub returns-in-Err-clause-goes : goal.returns-in-Err-clause-goes
returns-in-Err-clause-goes c =
    let it = c.self.inside in
    let steps : c.args.self.now ≡ Err c.in-Err.fault ∷ [] = sym c.self.view_is ∙ at-fault it.target it.section.now it.at c.in-Err.fault
    (omega arith) c.in-Err.ensures.exact in
    let long = ap length steps in
    let ended : records_from it.target it.section.now (length it.section.now) ≡ [] =
    at-end it.target it.section.now (length it.section.now) (omega arith) in
    let none = ap length ended in
    search rules
