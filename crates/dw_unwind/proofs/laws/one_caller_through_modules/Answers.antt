use Rattle.std.proofs.Common.{get_or}
use Rattle.std.proofs.lemmas.List.Elements.{recursion_from_All}
use Rattle.dw_rows.specs.Section.{FrameSection}
use Rattle.dw_unwind.specs.Caller.{machine}
use Rattle.dw_unwind.specs.Walks.{over_section}
use Rattle.dw_unwind.specs.declared.modules.Module.{Module}
use Rattle.dw_unwind.proofs.ModuleWalks.{HasOne, one_through}
use Rattle.dw_unwind.proofs.laws.one_caller_through_modules.Goals as goal

pub returns : goal.returns
returns c = λ sections abi memory registers address one other checked.
    one_through (λ (s : FrameSection). s.target) (λ s. over_section s abi memory) sections
    (recursion_from_All (λ (m : Module FrameSection). HasOne (over_section m.rows abi memory)) sections
    (λ i d lt registers a x y. c.one_caller.ensures (machine (get_or sections i d).rows.target registers memory) abi
    (get_or sections i d).rows a x y (checked i d lt))) registers address one other
