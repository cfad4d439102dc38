-- Lemmas about why a module with both sections isn't added.
use Rattle.std.proofs.Common.{◌≡◌, ℕ, List, Option, None}
use Rattle.std.specs.Prelude.{IfErr, Result, Ok, Err}
use Rattle.dw_bytes.specs.declared.target.Target.{Target}
use Rattle.dw_rows.specs.Section.{FrameSection, frame_of, section_fault}
use Rattle.dw_process.specs.BothSections.{AreBothRefused, AreRefusedWith}
use Rattle.dw_process.specs.EhModules.{IsEhFrameOf}
use Rattle.dw_process.specs.declared.address_range.AddressRange.{AddressRange}
use Rattle.dw_process.specs.declared.both_sections.BothSections.{BothSections}
use Rattle.dw_process.specs.declared.both_sections.TableRooms.{TableRooms}
use Rattle.dw_process.specs.declared.loaded_module.LoadedModule.{LoadedModule}
use Rattle.dw_process.specs.declared.refusal.BothRefusal.{BothRefusal}
use Rattle.dw_process.specs.declared.refusal.BothRefusal.TheVariants.{DebugFrame, EhFrame, Memory, Room, Range, Overlaps}

module _ (s : BothSections) (target : Target) (load_address : ℕ) (given : Option AddressRange) (rooms : TableRooms) (modules : List LoadedModule)
    (frame : FrameSection) (accepted : section_fault target s.debug_frame.now ≡ None) (is : IsEhFrameOf s.leaves_out s.eh_frame target frame) where
  refused_by : (why : BothRefusal) → AreRefusedWith (frame_of target s.debug_frame.now) frame load_address given rooms modules why
      → AreBothRefused s target load_address given rooms modules why
  refused_by (DebugFrame fault) h = absurd h
  refused_by (EhFrame fault) h = absurd h
  refused_by Memory h = tt
  refused_by Room h = record { accepted = accepted; frame = frame; is = is; refused = h }
  refused_by Range h = record { accepted = accepted; frame = frame; is = is; refused = h }
  refused_by (Overlaps id) h = record { accepted = accepted; frame = frame; is = is; refused = h }

  pub rows_refused : (result : Result ℕ BothRefusal)
      → IfErr result (AreRefusedWith (frame_of target s.debug_frame.now) frame load_address given rooms modules)
      → IfErr result (AreBothRefused s target load_address given rooms modules)
  rows_refused (Ok id) h = tt
  rows_refused (Err why) h = refused_by why h
