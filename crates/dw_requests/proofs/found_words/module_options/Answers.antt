use Rattle.std.proofs.Common.{◌≡◌, ◌⊎◌, ◌∙◌, subst, map, rules, IfErr, Some, None, [], codes}
use Rattle.std.specs.Prelude.{unwrap_or}
use Rattle.std.specs.List.{Any}
use Rattle.clap.specs.Words.{found_of, rows_of, all_of}
use Rattle.clap.proofs.WalkLemmas.{raw_values-rows}
use Rattle.dw_requests.specs.Arguments.{target_by_flags}
use Rattle.dw_requests.specs.NamedModules.{module_of}
use Rattle.dw_requests.specs.declared.requests.Usage.TheVariants.{Memory, BadArgument}
use Rattle.dw_requests.proofs.found_words.module_options.Goals as goal

pub returns-in-Some-clause-ok : goal.returns-in-Some-clause-ok
returns-in-Some-clause-ok c =
    let given : Some (map (λ t. t.now) c.in-Some.texts.now) ≡ all_of (codes "module") (rows_of (found_of c.args.matches.now)) =
    c.in-Some.ensures ∙ raw_values-rows (found_of c.args.matches.now) (codes "module") in
    rw (← given, ← c.target_by_flags.ensures) c.parse_modules.ensures.ok

pub returns-in-Some-clause-err : goal.returns-in-Some-clause-err
returns-in-Some-clause-err c =
    let rows = rows_of (found_of c.args.matches.now) in
    let texts = map (λ t. t.now) c.in-Some.texts.now in
    let given : Some texts ≡ all_of (codes "module") rows =
    c.in-Some.ensures ∙ raw_values-rows (found_of c.args.matches.now) (codes "module") in
    subst (λ o. IfErr c.parse_modules.result (λ e. (e ≡ Memory) ⊎ ((e ≡ BadArgument)
    × Any (λ text. module_of (target_by_flags rows) text ≡ None) (unwrap_or o [])))) given
    (subst (λ t. IfErr c.parse_modules.result (λ e. (e ≡ Memory) ⊎ ((e ≡ BadArgument) × Any (λ text. module_of t text ≡ None) texts)))
    c.target_by_flags.ensures c.parse_modules.ensures.err)

pub returns-in-None-clause-ok : goal.returns-in-None-clause-ok
returns-in-None-clause-ok c =
    let given = c.in-None.ensures ∙ raw_values-rows (found_of c.args.matches.now) (codes "module") in
    rw (← given) (search rules)
