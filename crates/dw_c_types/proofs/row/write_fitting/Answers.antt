use Rattle.std.proofs.Common.{◌≡◌, ◌∙◌, ◌∷◌, [], ℤ, ap, map, rules, subst, sym, w64}
use Rattle.std.specs.Prelude.{slice_set}
use Rattle.std.proofs.lemmas.List.{length-map, map-append}
use mir.Val.{to_z, of_z}
use Rattle.dw_rules.specs.SavedRules.{Saved, as_saved}
use Rattle.dw_c_types.specs.Rows.{crule_of}
use Rattle.dw_c_types.specs.Slots.{put_into}
use Rattle.dw_c_types.proofs.Putting.{comes, one_more, puts_shown}
use Rattle.dw_c_types.proofs.row.write_fitting.Goals as goal

pub loop-register-preserved : goal.loop-register-preserved
loop-register-preserved c =
    let count = c.loop-register.count in
    let saved : Saved → Saved = λ s. s in
    let came = c.loop-register.yielded in
    let item : Saved = (c.in-Some.register, c.in-Some.offset) in
    let keeps = c.loop-register.invariant in
    let slots = c.args.slots.now in
    let same : to_z w64 (of_z w64 c.in-Some.offset) ≡ c.in-Some.offset = search rules in
    let shown : c.saved_rule.result ≡ crule_of (as_saved item) =
    subst (λ (z : ℤ). c.saved_rule.result ≡ crule_of (as_saved (c.in-Some.register, z))) same c.saved_rule.ensures in
    let before = map as_saved (map saved came) in
    record {
      whole = comes saved came item _ _ _ keeps.whole (c.in-Some.ensures).steps;
      written = ap (λ x. slice_set c.loop-register.slots count x) shown
          ∙ ap (λ l. slice_set l count (crule_of (as_saved item))) keeps.written
          ∙ puts_shown crule_of before slots count (as_saved item)
          (keeps.counted ∙ sym (length-map (map saved came) as_saved) ∙ sym (length-map before crule_of))
          ∙ ap (λ l. put_into (map crule_of l) slots) (sym (map-append as_saved (map saved came) (item ∷ [])))
          ∙ ap (λ l. put_into (map crule_of (map as_saved l)) slots) (sym (map-append saved came (item ∷ [])));
      counted = one_more saved came item count keeps.counted;
    }
