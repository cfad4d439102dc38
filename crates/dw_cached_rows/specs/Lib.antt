-- ---- What the bytes of a cache say.

-- the row that an entry of a cache stands for
pub mod PackedRows
-- which rows a cache has, for which modules
pub mod CachedRows
-- ---- Walks with these rows.

-- where a walk is that gives addresses alone, and what it does with a cache
pub mod CachedWalks
-- the same, with registers
pub mod RegisterWalks
