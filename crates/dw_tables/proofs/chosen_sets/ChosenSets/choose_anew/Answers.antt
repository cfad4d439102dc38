use Rattle.std.proofs.Common.{ℕ, List, ◌∷◌, ◌++◌, [], map, ap, subst, sym, arith}
use Rattle.std.proofs.lemmas.List.{length-map}
use Rattle.dw_rules.specs.Views.{entry_of}
use Rattle.dw_tables.specs.CompiledTable.{IsNumbered, set_numbered, sets_bytes}
use Rattle.dw_tables.proofs.NumberedPrograms.{chosen-more, bytes-more, bytes-of-lent}
use Rattle.dw_tables.proofs.chosen_sets.ChosenSets.choose_anew.Goals as goal

pub returns-clause-number : goal.returns-clause-number
returns-clause-number c =
    let states = c.args.sets.now in
    let old = c.args.self.now.numbers.items in
    let k = set_numbered states c.args.index in
    subst (λ (l : List ℕ). IsNumbered (map (set_numbered states) old) k c.in-Ok.number (map (set_numbered states) l))
    (sym c.in_ok-push.ensures.items)
    (subst (λ n. IsNumbered (map (set_numbered states) old) k n (map (set_numbered states) (old ++ c.args.index ∷ [])))
    (omega (arith, c.in-Ok.ensures, c.len.ensures)) (chosen-more states old c.args.index))

pub returns-clause-stored : goal.returns-clause-stored
returns-clause-stored c =
    let states = c.args.sets.now in
    let old = c.args.self.now.numbers.items in
    omega (
      arith,
      ap (λ (l : List ℕ). sets_bytes (map (set_numbered states) l)) c.in_ok-push.ensures.items,
      bytes-more states old c.args.index,
      bytes-of-lent states c.args.index _ _ _ c.lend.ensures.rules,
      length-map c.lend.result.0.entries.now entry_of,
      c.in_ok-self.ensures.left,
    )

pub returns-clause-spent : goal.returns-clause-spent
returns-clause-spent c =
    omega (
      arith,
      bytes-of-lent c.args.sets.now c.args.index _ _ _ c.lend.ensures.rules,
      length-map c.lend.result.0.entries.now entry_of,
      c.in_ok-self.ensures.left,
    )
