-- A known state has the registers, the memory and the ABI that the facts of its state file give. So
-- a caller or a walk in the known state is also one in the state that the facts give.
use Rattle.std.proofs.Common.{◌≡◌, ◌∙◌, ℕ, List, refl, subst}
use Rattle.std.specs.Prelude.{Option}
use Rattle.std.proofs.Math.Path.{fun_ext}
use Rattle.dw_rules.specs.Abi.{Abi, abi_of}
use Rattle.dw_rows.specs.Section.{FrameSection}
use Rattle.dw_unwind.specs.Caller.{Caller}
use Rattle.dw_unwind.specs.Modules.{over_sections}
use Rattle.dw_unwind.specs.Walks.{WalkedFrame, Walks, first_place}
use Rattle.dw_unwind.specs.declared.frames.Stop.{Stop}
use Rattle.dw_unwind.specs.declared.modules.Module.{Module}
use Rattle.dw_check.specs.Runs.{abi_given, memory_given, registers_given}
use Rattle.dw_state.specs.StateFile.{StateFact, KnownState, IsGivenBy}

module _ (sections : List (Module FrameSection)) (abi : Abi) (k : KnownState) (facts : List StateFact) (is : IsGivenBy k facts)
    (of_abi : abi ≡ abi_of k.kept k.stack_pointer) where
  same_registers : k.registers ≡ registers_given facts
  same_registers = fun_ext is.registers

  same_memory : k.memory ≡ memory_given facts
  same_memory = fun_ext is.memory

  same_abi : abi ≡ abi_given facts
  same_abi = of_abi ∙ rw (is.kept, is.stack_pointer) refl

  -- a caller in the known state is a caller in the state that the facts give
  pub same_caller : (address : ℕ) (caller : Option Caller) → over_sections abi k.memory sections k.registers address caller
      → over_sections (abi_given facts) (memory_given facts) sections (registers_given facts) address caller
  same_caller address caller h =
      subst (λ r. over_sections (abi_given facts) (memory_given facts) sections r address caller) same_registers
      (subst (λ m. over_sections (abi_given facts) m sections k.registers address caller) same_memory
      (subst (λ (a : Abi). over_sections a k.memory sections k.registers address caller) same_abi h))

  -- a walk in the known state is a walk in the state that the facts give
  pub same_walk : (address limit : ℕ) (frames : List WalkedFrame) (stop : Stop)
      → Walks (over_sections abi k.memory sections) (first_place address k.registers) limit frames stop
      → Walks (over_sections (abi_given facts) (memory_given facts) sections) (first_place address (registers_given facts)) limit frames stop
  same_walk address limit frames stop walks =
      subst (λ r. Walks (over_sections (abi_given facts) (memory_given facts) sections) (first_place address r) limit frames stop)
      same_registers
      (subst (λ m. Walks (over_sections (abi_given facts) m sections) (first_place address k.registers) limit frames stop) same_memory
      (subst (λ (a : Abi). Walks (over_sections a k.memory sections) (first_place address k.registers) limit frames stop) same_abi walks))
