-- A walk with one unwinder is a walk with another that gives the same callers.
use Rattle.std.proofs.Common.{◌≡◌, ℕ, List, [], ◌∷◌, Option, None, Some, refl, subst, sym}
use Rattle.std.specs.Prelude.{◌↔◌, IfSome, option_map}
use Rattle.dw_rules.specs.Abi.{Abi}
use Rattle.dw_rules.specs.Rules.{Row}
use Rattle.dw_rows.specs.Section.{FrameSection}
use Rattle.dw_tables.specs.UnwindTables.{IsTableOf, RowTable, row_at}
use Rattle.dw_rows.specs.RowLookups.{IsFoundAt}
use Rattle.dw_unwind.specs.Caller.{Caller, UnwindsBy, machine}
use Rattle.dw_unwind.specs.declared.frames.Stop.{Stop}
use Rattle.dw_unwind.specs.Walks.{AlwaysUnwinds, CallerRelation, Place, WalkedFrame, AreFrames, UnwindsAt, Walks, next_place, over_rows, over_section, over_table}
use Rattle.dw_unwind.specs.Walks.{address_before, content_of, place_of_caller}
use Rattle.dw_unwind.proofs.Callers.{found-unwinds, unwinds-found}

-- If the first address that a walk looks up has the property `P`, so has each later one (`next`).
-- At such addresses `v` has all callers of `u` (`each`), so a walk with `u` is a walk with `v`.
module _ (u v : CallerRelation) (P : ℕ → Type 0)
    (each : (registers : ℕ → Option ℕ) (address : ℕ) (caller : Option Caller) → P address → u registers address caller
    → v registers address caller)
    (next : (registers : ℕ → Option ℕ) (address : ℕ) (caller : Caller) → P address → u registers address (Some caller)
    → IfSome (content_of caller.return_address) (λ n. IfSome (address_before n) P)) where
  unwinds_where : (registers : ℕ → Option ℕ) (o : Option ℕ) (caller : Option Caller) → IfSome o P → UnwindsAt u registers o caller
      → UnwindsAt v registers o caller
  unwinds_where registers None caller there h = h
  unwinds_where registers (Some a) caller there h = each registers a caller there h

  abbrev There : Option Place → Type 0
  There None = Unit {0}
  There (Some p) = IfSome p.looked_up P

  there_at : (caller : Caller) (o : Option ℕ) → IfSome o (λ n. IfSome (address_before n) P) → There (option_map (place_of_caller caller) o)
  there_at caller None h = tt
  there_at caller (Some n) h = h

  there_next : (registers : ℕ → Option ℕ) (o : Option ℕ) (caller : Option Caller) → IfSome o P → UnwindsAt u registers o caller
      → There (next_place caller)
  there_next registers o None there h = tt
  there_next registers None (Some caller) there h = absurd (cc)
  there_next registers (Some a) (Some caller) there h =
      there_at caller (content_of caller.return_address) (next registers a caller there h)

  frames_where : (p : Option Place) (frames : List WalkedFrame) → There p → AreFrames u p frames → AreFrames v p frames
  frames_where p [] there h = tt
  frames_where None (f ∷ frames) there h = absurd h
  frames_where (Some p) (f ∷ frames) there h = (
    (h.0.0, unwinds_where p.registers p.looked_up f.caller there h.0.1),
    frames_where (next_place f.caller) frames (there_next p.registers p.looked_up f.caller there h.0.1) h.1,
  )

  pub walk_where : (first : Place) (limit : ℕ) (frames : List WalkedFrame) (stop : Stop) → IfSome first.looked_up P
      → Walks u first limit frames stop → Walks v first limit frames stop
  walk_where first limit frames stop there h =
      record { are = frames_where (Some first) frames there h.are; few = h.few; ends = h.ends }

always : (o : Option ℕ) → IfSome o (λ (a : ℕ). Unit {0})
always None = tt
always (Some a) = tt

always_next : (o : Option ℕ) → IfSome o (λ (n : ℕ). IfSome (address_before n) (λ (a : ℕ). Unit {0}))
always_next None = tt
always_next (Some n) = always (address_before n)

-- if `v` has all callers of `u` at every address, a walk with `u` is a walk with `v`
pub walk_over : (u v : CallerRelation) → ((registers : ℕ → Option ℕ) (address : ℕ) (caller : Option Caller) → u registers address caller
    → v registers address caller) → (first : Place) (limit : ℕ) (frames : List WalkedFrame) (stop : Stop)
    → Walks u first limit frames stop → Walks v first limit frames stop
walk_over u v each first limit frames stop h =
    walk_where u v (λ (a : ℕ). Unit {0}) (λ registers address caller there. each registers address caller)
    (λ registers address caller there h. always_next (content_of caller.return_address)) first limit frames stop (always first.looked_up) h

-- two unwinders with the same callers give the same walks
pub walks_same : (u v : CallerRelation)
    → ((registers : ℕ → Option ℕ) (address : ℕ) (caller : Option Caller) → u registers address caller ↔ v registers address caller)
    → (first : Place) (limit : ℕ) (frames : List WalkedFrame) (stop : Stop) → Walks u first limit frames stop ↔ Walks v first limit frames stop
walks_same u v same first limit frames stop = (
  walk_over u v (λ registers address caller. (same registers address caller).0) first limit frames stop,
  walk_over v u (λ registers address caller. (same registers address caller).1) first limit frames stop,
)

-- an unwinder with the callers of another that has an answer everywhere has one everywhere too
pub always_as : (u v : CallerRelation)
    → ((registers : ℕ → Option ℕ) (address : ℕ) (caller : Option Caller) → u registers address caller ↔ v registers address caller)
    → AlwaysUnwinds v → AlwaysUnwinds u
always_as u v same some registers address =
    let found = some registers address in
    (found.0, (same registers address found.0).1 found.1)

-- ---- walks with rows looked up in a section, with the rows of a table, and with a section's table

pub over_what_is_found : (s : FrameSection) (abi : Abi) (memory registers : ℕ → Option ℕ) (address : ℕ) (caller : Option Caller)
    → over_rows s.target (IsFoundAt s) abi memory registers address caller ↔ over_section s abi memory registers address caller
over_what_is_found s abi memory registers address caller = (
  λ h. unwinds-found (machine s.target registers memory) abi s address h.0 caller h.1 h.2,
  by_found caller,
)
  where
    by_found : (c : Option Caller) → over_section s abi memory registers address c
        → over_rows s.target (IsFoundAt s) abi memory registers address c
    by_found None h = (None, h, tt)
    by_found (Some c) h = (Some (h.row, h.cie.return_address_register), (h.row_is, (h.fde, h.cie, h.covers, h.cie_is, refl)), h.is)

pub over_what_a_table_gives : (t : RowTable) (abi : Abi) (memory registers : ℕ → Option ℕ) (address : ℕ) (caller : Option Caller)
    → over_rows t.target (λ a found. found ≡ row_at t a) abi memory registers address caller ↔ over_table t abi memory registers address caller
over_what_a_table_gives t abi memory registers address caller = (
  λ h. subst (λ (found : Option (Row × ℕ)). UnwindsBy (machine t.target registers memory) abi found caller) h.1 h.2,
  λ h. (row_at t address, refl, h),
)

pub over_a_table : (s : FrameSection) (t : RowTable) (abi : Abi) (memory : ℕ → Option ℕ) → IsTableOf s t → (registers : ℕ → Option ℕ)
    (address : ℕ) (caller : Option Caller) → over_table t abi memory registers address caller ↔ over_section s abi memory registers address caller
over_a_table s t abi memory is registers address caller = (
  λ h. unwinds-found (machine s.target registers memory) abi s address (row_at t address) caller (is.row address)
      (subst (λ target. UnwindsBy (machine target registers memory) abi (row_at t address) caller) is.target h),
  λ h. subst (λ target. UnwindsBy (machine target registers memory) abi (row_at t address) caller) (sym is.target)
      (found-unwinds (machine s.target registers memory) abi s address (row_at t address) caller (is.row address) h),
)
