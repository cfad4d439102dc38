use Rattle.std.proofs.Common.{◌∷◌, ◌≡◌, ◌<◌, [], arith, inl, rules, subst, sym, w64, ℕ, ℤ, List}
use Rattle.std.specs.Prelude.{All}
use mir.Val.{to_z, of_z}
use Rattle.std.proofs.lemmas.List.{get_or_append_left, length-append}
use Rattle.dw_rules.specs.SavedRules.{Saved}
use Rattle.dw_unwind.specs.UsualSteps.{IsLeftOf}
use Rattle.dw_unwind.specs.declared.register_file.TheConstants.{PLACES}
use Rattle.dw_unwind.proofs.InPlace.{last-saved}
use Rattle.dw_unwind.proofs.usual_step.return_rule.Goals as goal

pub returns-then-last-number-clause-rule : goal.returns-then-last-number-clause-rule
returns-then-last-number-clause-rule c =
    let w = c.in_ok-last in
    let same : to_z w64 (of_z w64 w.last_offset) ≡ w.last_offset = search rules in
    let is : IsLeftOf c.args.rules w.last w.last_offset w.others = record {
      rule = last-saved c.args.rules w.others w.last w.last_offset w.ensures c.requires.table;
      others = inl w.ensures;
    } in
    subst (λ (n : ℕ). IsLeftOf c.args.rules n (to_z w64 (of_z w64 w.last_offset)) w.others) c.if-last-number.true
    (subst (λ (o : ℤ). IsLeftOf c.args.rules w.last o w.others) (sym same) is)

pub returns-then-last-number-clause-places : goal.returns-then-last-number-clause-places
returns-then-last-number-clause-places c = λ k d lt.
    let w = c.in_ok-last in
    let last : List Saved = (w.last, w.last_offset) ∷ [] in
    let all = subst (All (λ (saved : Saved). saved.0 < PLACES)) w.ensures c.requires.places in
    subst (λ (saved : Saved). saved.0 < PLACES) (get_or_append_left w.others last d k lt) (all k d (omega (arith, lt, length-append w.others last)))
