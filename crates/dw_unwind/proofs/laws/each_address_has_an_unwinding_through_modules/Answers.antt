use Rattle.std.proofs.Common.{get_or}
use Rattle.std.proofs.lemmas.List.Elements.{recursion_from_All}
use Rattle.dw_rows.specs.Section.{FrameSection}
use Rattle.dw_unwind.specs.Caller.{machine}
use Rattle.dw_unwind.specs.Walks.{over_section}
use Rattle.dw_unwind.specs.declared.modules.Module.{Module}
use Rattle.dw_unwind.proofs.ModuleWalks.{HasSome, some_through}
use Rattle.dw_unwind.proofs.laws.each_address_has_an_unwinding_through_modules.Goals as goal

pub returns : goal.returns
returns c = λ sections abi memory registers address checked.
    some_through (λ (s : FrameSection). s.target) (λ s. over_section s abi memory) sections
    (recursion_from_All (λ (m : Module FrameSection). HasSome (over_section m.rows abi memory)) sections
    (λ i d lt registers a. c.each_address_has_an_unwinding.ensures (machine (get_or sections i d).rows.target registers memory) abi
    (get_or sections i d).rows a (checked i d lt))) registers address
