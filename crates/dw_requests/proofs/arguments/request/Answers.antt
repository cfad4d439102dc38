use Rattle.std.proofs.Common.{◌≡◌, ◌∙◌, ap, ap₂, sym, map, rules, subst}
use Rattle.std.specs.String.{string_bytes}
use Rattle.clap.specs.Words.{HasKind, fault_of, is_simple, is_simple_and_free, subcommand_of, subcommand_rows_of}
use Rattle.dw_requests.specs.Commands.{dwcheck}
use Rattle.dw_requests.specs.Requests.{AsksBy}
use Rattle.dw_requests.proofs.Shown.{answered, refused}
use Rattle.dw_requests.proofs.Simple.{is_simple_dwcheck, is_free_dwcheck}
use Rattle.dw_requests.proofs.arguments.request.Goals as goal

pub returns-in-Ok : goal.returns-in-Ok
returns-in-Ok c =
    let app = c.in_ok-command.ensures.app in
    let words : map (λ w. string_bytes w) c.as_slice.result.now ≡ map (λ w. string_bytes w) c.args.words.items = search rules in
    let none = sym (ap₂ fault_of app words) ∙ c.in-Ok.ensures.kinds (ap is_simple_and_free app ∙ is_free_dwcheck) in
    let same = (c.in-Ok.ensures.matches (ap is_simple app ∙ is_simple_dwcheck)).1 ∙ ap₂ subcommand_of app words in
    subst (λ m. AsksBy (fault_of dwcheck (map (λ w. string_bytes w) c.args.words.items)) m c.request_of_matches.result) same
    (answered _ (subcommand_rows_of c.in-Ok.matches) c.request_of_matches.result
    none c.request_of_matches.ensures.ok c.request_of_matches.ensures.err)

pub returns : goal.returns
returns c =
    let app = c.in_ok-command.ensures.app in
    let words : map (λ w. string_bytes w) c.as_slice.result.now ≡ map (λ w. string_bytes w) c.args.words.items = search rules in
    let kind = c.in-Err.ensures.kinds (ap is_simple_and_free app ∙ is_free_dwcheck) in
    refused (fault_of dwcheck (map (λ w. string_bytes w) c.args.words.items))
    (subcommand_of dwcheck (map (λ w. string_bytes w) c.args.words.items)) c.in-Err.error _
    (subst (λ ks. HasKind ks c.in-Err.error) (ap₂ fault_of app words) kind) c.usage_of_clap_error.ensures
