use Rattle.std.proofs.Common.{◌^◌, ℕ, Option, Some}
use Rattle.dw_eval.specs.Numbers.{width_of}
use Rattle.dw_rules.specs.Abi.{Abi}
use Rattle.dw_rows.specs.Section.{FrameSection, IsChecked}
use Rattle.dw_unwind.specs.Caller.{Caller}
use Rattle.dw_unwind.specs.CallerFits.{CallerFits}
use Rattle.dw_unwind.specs.Walks.{first_place, over_section}
use Rattle.dw_unwind.proofs.CallersFit.{row_caller_fits}
use Rattle.dw_unwind.proofs.ModuleWalks.{by_its_rows, by_one_module, walk_over_its_section, walk_over_one_module}
use Rattle.dw_unwind.proofs.laws.one_module_is_its_section.Goals as goal

pub returns-clause-unwindings : goal.returns-clause-unwindings
returns-clause-unwindings c = λ frame abi memory registers address caller below. (
  by_its_rows (λ (s : FrameSection). s.target) (λ s. over_section s abi memory) frame registers address caller below,
  by_one_module (λ (s : FrameSection). s.target) (λ s. over_section s abi memory) frame registers address caller below,
)

pub returns-clause-walks : goal.returns-clause-walks
returns-clause-walks c = λ frame abi memory registers address limit xs stop checked below. (
  walk_over_its_section frame abi memory (fits frame abi memory checked) (first_place address registers) limit xs stop below,
  walk_over_one_module frame abi memory (fits frame abi memory checked) (first_place address registers) limit xs stop below,
)
  where
    fits : (frame : FrameSection) (abi : Abi) (memory : ℕ → Option ℕ) → IsChecked frame → (known : ℕ → Option ℕ) (a : ℕ) (caller : Caller)
        → over_section frame abi memory known a (Some caller) → CallerFits (2 ^ width_of frame.target.address_size) caller
    fits frame abi memory checked known a caller h =
        row_caller_fits c.rules_under_abis.ensures.each c.numbers_of_evaluations_fit.ensures frame.target known memory abi
        h.cie.return_address_register h.row caller (c.rows_have_good_expressions.ensures.under frame a checked h.row h.row_is) h.is
