use Rattle.std.proofs.Common.{ap, ◌∙◌, codes, false}
use Rattle.std.specs.Option.{option_map_or}
use Rattle.std.specs.Str.{bytes_eq}
use Rattle.dw_requests.proofs.found_words.has_flag.Goals as goal

pub returns-in-Some : goal.returns-in-Some
returns-in-Some c = c.eq.ensures ∙ ap (λ t. option_map_or (λ text. bytes_eq text (codes "true")) t false) c.in-Some.ensures

pub returns-in-None : goal.returns-in-None
returns-in-None c = ap (λ t. option_map_or (λ text. bytes_eq text (codes "true")) t false) c.in-None.ensures
