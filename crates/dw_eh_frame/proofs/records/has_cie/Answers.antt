use Rattle.std.proofs.Common.{rules, ◌∙◌}
use Rattle.std.proofs.lemmas.List.Sorted.{answers_always}
use Rattle.dw_eh_frame.proofs.CieSearch.{entry_offset, searched}
use Rattle.dw_eh_frame.proofs.records.has_cie.Goals as goal

pub returns-in_default : goal.returns-in_default
returns-in_default c =
    let facts = c.binary_search_by_key.ensures in
    let by_key = facts.position entry_offset (answers_always _ _ _ (λ f a r g called. search rules)) in
    c.is_ok.ensures.value
    ∙ searched c.args.cies.now c.args.offset c.binary_search_by_key.result c.requires facts.bound by_key
