-- A cache of hints: which hint it has for an address. A hint says where the row of an address may
-- be.
use Rattle.std.specs.Prelude.{ℕ, ◌*◌, ◌%◌, ◌/◌, ◌^◌, ◌-◌, slice_index_or}
use Rattle.dw_process.specs.declared.row_cache.RowCache.{RowCache}
use Rattle.dw_process.specs.declared.row_cache.RowHint.{RowHint}

-- the hint that says nothing
abbrev pub no_hint : RowHint
no_hint = record { module_index = 2 ^ 32 - 1; entry_count = 2 ^ 32 - 1 }

-- the index of the hint for an address, by the 9 highest bits of a product of 64 bits
abbrev pub place_of : ℕ → ℕ
place_of address = (address * 0x9e3779b97f4a7c15) % 2 ^ 64 / 2 ^ 55

-- the hint that a cache has for an address
abbrev pub hint_at : RowCache → ℕ → RowHint
hint_at cache address = slice_index_or cache.hints (place_of address) no_hint
