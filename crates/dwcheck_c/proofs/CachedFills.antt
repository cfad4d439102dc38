-- Rows that C keeps: what a row that was kept is.
use Rattle.std.proofs.Common.{◌≡◌, ◌≢◌, ◌⊎◌, ℕ, false, inl, inr, refl, List, subst, sym}
use Rattle.std.specs.Prelude.{IfSome, Option, Some}
use Rattle.dw_unwind.specs.Walks.{AreFrames, Place, WalkedFrame, over_rows}
use Rattle.dw_bytes.specs.declared.target.Target.{Target}
use Rattle.dw_rules.specs.Rules.{Row}
use Rattle.dw_eh_frame.specs.Records.{EhFde}
use Rattle.dw_cached_rows.specs.declared.packed_row.PackedRow.{PackedRow}
use Rattle.dw_cached_rows.specs.declared.packed_row.TheConstants.{RETURN_ADDRESS}
use Rattle.dw_cached_rows.specs.CachedRows.{AreRowsOf, HasRulesAt, Holds, IsKept, KnowsItsAddress, LeadsToAt, entry_at}
use Rattle.dw_cached_rows.specs.PackedRows.{little_64}
use Rattle.dw_cached_rows.specs.CachedWalks.{over_cached, x86_64}
use Rattle.dw_cached_rows.proofs.OverLookUps.{UnderAbi, over-look-ups-at}
use Rattle.dwcheck_c.specs.CachedFills.{CanBeKept, FindsConfirmed, FindsIn, HasUsableRow, IsOfFill}
use Rattle.dwcheck_c.specs.InPlaceLookUps.{HasRow}
use Rattle.dwcheck_c.specs.declared.in_place.CHeader.{CHeader}
use Rattle.dwcheck_c.specs.declared.module.CModule.{CModule}

pub usable-kept : (old : List PackedRow) (target : Target) (e : EhFde) (slot address : ℕ) (row : Row) (other at : ℕ) (held : Row)
    → target ≡ little_64
    → Holds old other at held ⊎ IsKept slot address row e.cie.cie.return_address_register e.cie.augmentation.is_signal other at held
    → Holds old other at held ⊎ (CanBeKept target e × IsKept slot address row 16 false other at held)
usable-kept old target e slot address row other at held is (inl before) = inl before
usable-kept old target e slot address row other at held is (inr kept) = inr (
  record { target_is = is; column = kept.column_is; called = kept.called },
  record { slot_is = kept.slot_is; address_is = kept.address_is; rules = kept.rules; column_is = refl; called = refl },
)

pub of-fill : (old : List PackedRow) (m : CModule) (h : CHeader) (target : Target) (e : EhFde) (slot address : ℕ) (row : Row) (other at : ℕ)
    (held : Row) → HasRow m h address target e row
    → Holds old other at held ⊎ (CanBeKept target e × IsKept slot address row 16 false other at held)
    → Holds old other at held ⊎ IsOfFill m h slot address other at held
of-fill old m h target e slot address row other at held has (inl before) = inl before
of-fill old m h target e slot address row other at held has (inr (usable, kept)) = inr (record {
  slot_is = kept.slot_is;
  address_is = kept.address_is;
  row = row;
  has = record { target = target; fde = e; usable = usable; has = has };
  rules = kept.rules;
})

-- ---- rows are those of their modules

pub none-in-zeros : (loaded : ℕ → CModule × CHeader) (rows : List PackedRow) → ((i : ℕ) → (entry_at rows i).key ≡ 0)
    → AreRowsOf (FindsIn loaded) rows
none-in-zeros loaded rows zeros slot address held is = absurd (cc (zeros is.0, is.1.key))

pub after-fill : (loaded : ℕ → CModule × CHeader) (old new : List PackedRow) (slot address : ℕ) → AreRowsOf (FindsIn loaded) old
    → ((other at : ℕ) (held : Row) → Holds new other at held → Holds old other at held
    ⊎ IsOfFill (loaded slot).0 (loaded slot).1 slot address other at held)
    → AreRowsOf (FindsIn loaded) new
after-fill loaded old new slot address are only other at held is = elim (only other at held is) [
  | inl before ↦ are other at held before
  | inr kept ↦ (
    kept.row,
    subst (λ (s : ℕ). FindsIn loaded s at (Some (kept.row, 16))) (sym kept.slot_is)
        (subst (λ (a : ℕ). FindsIn loaded slot a (Some (kept.row, 16))) (sym kept.address_is) (kept.has, refl)),
    subst (λ (a : ℕ). HasRulesAt a held kept.row) (sym kept.address_is) kept.rules,
  )
]

pub after-forget : (loaded next : ℕ → CModule × CHeader) (old new : List PackedRow) (slot : ℕ) → AreRowsOf (FindsIn loaded) old
    → ((address : ℕ) (row : Row) → Holds new slot address row → ⊥)
    → ((other address : ℕ) (row : Row) → other ≢ slot → Holds new other address row → Holds old other address row)
    → ((other : ℕ) → other ≢ slot → next other ≡ loaded other) → AreRowsOf (FindsIn next) new
after-forget loaded next old new slot are none others same other at held is =
    let differs : other ≢ slot = λ same-slot. none at held (subst (λ (s : ℕ). Holds new s at held) same-slot is) in
    let before = are other at held (others other at held differs is) in (
      before.0,
      subst (λ (m : CModule × CHeader). HasUsableRow m.0 m.1 at before.0 × (◌≡◌ {A = ℕ} 16 RETURN_ADDRESS)) (sym (same other differs)) before.1,
      before.2,
    )

-- ---- walks

pub walks-over-look-ups : UnderAbi → (loaded : ℕ → CModule × CHeader) (rows : List PackedRow) (mask : ℕ) (memory : ℕ → Option ℕ)
    (from : Option Place) (frames : List WalkedFrame) → AreRowsOf (FindsIn loaded) rows → IfSome from KnowsItsAddress
    → AreFrames (over_cached rows mask memory) from frames
    → AreFrames (over_rows little_64 (FindsConfirmed loaded mask) x86_64 memory) from frames
walks-over-look-ups under loaded rows mask memory from frames are = over-look-ups-at under rows mask memory (FindsConfirmed loaded mask) from frames leads
  where
    leads : LeadsToAt (FindsConfirmed loaded mask) rows mask
    leads address held confirms =
        let row = are confirms.slot address held.0 confirms.held in (row.0, (confirms.slot, confirms.confirmed, row.1), row.2)
