use Rattle.std.proofs.Common.{◌+◌, ◌≤◌, ℕ, Contains, sym, subst, List, map}
use Rattle.std.specs.Prelude.{Option, Some, None, IfSome}
use Rattle.std.specs.Option.{option_map}
use Rattle.dw_frame.specs.Records.{Fde}
use Rattle.dw_frame.specs.Sections.{top_of}
use Rattle.dw_frame.specs.Views.{fde_of}
use Rattle.dw_frame.specs.declared.entry.FrameDescriptionEntry.{FrameDescriptionEntry}
use Rattle.dw_rows.specs.Section.{FrameSection, CoversOnce, IsCoverOf}
use Rattle.dw_rows.specs.AddressIndex.{IsAddressIndex}
use Rattle.dw_rows.specs.declared.index.IndexEntry.{IndexEntry}
use Rattle.dw_rows.proofs.sections.ListedSections.{listed-once, listed-fits}
use Rattle.dw_rows.proofs.listed_frame.ListedFrame.fde_for_address.Goals as goal

-- if all FDEs end at or below the target's highest address, so does the FDE found for an address
cover-fits : (s : FrameSection) (a : ℕ) (o : Option FrameDescriptionEntry) → IsCoverOf s.fdes a (option_map fde_of o)
    → ((f : Fde) → Contains s.fdes f → f.initial_location + f.address_range ≤ top_of s.target)
    → IfSome o (λ fde. fde.initial_location + fde.address_range ≤ top_of s.target)
cover-fits s a None covered each = tt
cover-fits s a (Some fde) covered each = each (fde_of fde) covered.0

pub covering-requires-clause-index : goal.covering-requires-clause-index
covering-requires-clause-index c =
    subst (λ (l : List FrameDescriptionEntry). IsAddressIndex (map fde_of l) c.deref-2.result.now) (sym c.deref.ensures.value)
    (subst (λ (l : List IndexEntry). IsAddressIndex (map fde_of c.self.inside.fdes.items) l)
    (sym c.deref-2.ensures.value) c.self.invariant.index_of)

pub covering-requires-clause-once : goal.covering-requires-clause-once
covering-requires-clause-once c =
    subst (λ (l : List FrameDescriptionEntry). CoversOnce (map fde_of l)) (sym c.deref.ensures.value)
    (listed-once _ c.self.invariant.listed)

pub returns-clause-only : goal.returns-clause-only
returns-clause-only c =
    subst (λ (s : FrameSection). IsCoverOf s.fdes c.args.address (option_map fde_of c.covering.result)) c.self.view_is
    (subst (λ (l : List FrameDescriptionEntry). IsCoverOf (map fde_of l) c.args.address
    (option_map fde_of c.covering.result)) c.deref.ensures.value c.covering.ensures)

pub returns-clause-fit : goal.returns-clause-fit
returns-clause-fit c =
    cover-fits c.args.self.now c.args.address c.covering.result (returns-clause-only c)
    (subst (λ (s : FrameSection). (f : Fde) → Contains s.fdes f → f.initial_location + f.address_range ≤ top_of s.target) c.self.view_is
    (listed-fits _ c.self.invariant.listed))
