use Rattle.std.proofs.Common.{rules, ap, ◌∙◌, not}
use Rattle.std.proofs.lemmas.List.Elements.{filter_from_retain}
use Rattle.dw_check.specs.Files.{is_blank, without_blanks}
use Rattle.dw_check.proofs.files.drop_blanks.Goals as goal

pub returns : goal.returns
returns c =
    filter_from_retain _ (λ b. not (is_blank b)) (λ p x b q said. search (rules, said)) _ _ _ c.retain.ensures.filtered
    ∙ ap without_blanks c.in_ok-bytes.ensures.items
