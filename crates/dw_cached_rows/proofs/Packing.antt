-- The rules of a row that are taken one after the other are those of the packed row.
use Rattle.std.proofs.Common.{◌≡◌, ◌⊎◌, ℕ, ℤ, Bool, false, inl, inr, negsuc, List, [], ◌∷◌, ◌++◌, ap, ◌∙◌}
use Rattle.dw_rules.specs.Rules.{Row, Rule, offset}
use Rattle.dw_cached_rows.specs.declared.packed_row.PackedRow.{PackedRow}
use Rattle.dw_cached_rows.specs.declared.packed_row.TheConstants.{RETURN_ADDRESS}
use Rattle.dw_cached_rows.specs.CachedRows.{Holds, IsKept, IsPutIn}
use Rattle.dw_cached_rows.specs.PackedRows.{IsPackedFrom, IsRowOf, StandsFor, saved_rule}
use Rattle.dw_cached_rows.proofs.PltRows.{alike}

pub all-taken : (a b c d e f : ℤ) (r0 r1 r2 r3 r4 r5 r6 : List (ℕ × Rule)) → r0 ≡ saved_rule 3 a ++ r1 → r1 ≡ saved_rule 6 b ++ r2
    → r2 ≡ saved_rule 12 c ++ r3 → r3 ≡ saved_rule 13 d ++ r4 → r4 ≡ saved_rule 14 e ++ r5 → r5 ≡ saved_rule 15 f ++ r6
    → r6 ≡ (16, offset (negsuc 7)) ∷ []
    → r0 ≡ saved_rule 3 a ++ (saved_rule 6 b ++ (saved_rule 12 c ++ (saved_rule 13 d ++ (saved_rule 14 e ++ (saved_rule 15 f
    ++ (16, offset (negsuc 7)) ∷ [])))))
all-taken a b c d e f r0 r1 r2 r3 r4 r5 r6 one two three four five six last =
    one ∙ ap (λ (l : List (ℕ × Rule)). saved_rule 3 a ++ l)
    (two ∙ ap (λ (l : List (ℕ × Rule)). saved_rule 6 b ++ l)
    (three ∙ ap (λ (l : List (ℕ × Rule)). saved_rule 12 c ++ l)
    (four ∙ ap (λ (l : List (ℕ × Rule)). saved_rule 13 d ++ l)
    (five ∙ ap (λ (l : List (ℕ × Rule)). saved_rule 14 e ++ l)
    (six ∙ ap (λ (l : List (ℕ × Rule)). saved_rule 15 f ++ l) last)))))

-- ---- a row that is put in

-- A row for which the entry stands that was put in has the rules of the row that was packed, or gives
-- at the address what that one gives.
pub kept-of : (slot address column : ℕ) (row : Row) (is_signal : Bool) (entry : PackedRow) (other at : ℕ) (held : Row)
    → (entry.form ≡ 0) ⊎ ((column ≡ RETURN_ADDRESS) × (is_signal ≡ false) × IsPackedFrom address row entry)
    → IsPutIn slot address entry other at held → IsKept slot address row column is_signal other at held
kept-of slot address column row is_signal entry other at held (inl zero) put = absurd (none entry address held zero put.is)
  where
    none : (p : PackedRow) (address : ℕ) (row : Row) → p.form ≡ 0 → StandsFor address p row → ⊥
    none p address row zero (inl (inl is)) = is.some zero
    none p address row zero (inl (inr is)) = absurd (cc (zero, is.form))
    none p address row zero (inr plt) = absurd (cc (zero, plt.form))
kept-of slot address column row is_signal entry other at held (inr packed) put = record {
  slot_is = put.slot_is;
  address_is = put.address_is;
  rules = alike entry address row held packed.2 put.is;
  column_is = packed.0;
  called = packed.1;
}

pub still-of : (slot address column : ℕ) (row : Row) (is_signal : Bool) (entry : PackedRow) (old new : List PackedRow)
    → (entry.form ≡ 0) ⊎ ((column ≡ RETURN_ADDRESS) × (is_signal ≡ false) × IsPackedFrom address row entry)
    → ((other at : ℕ) (held : Row) → Holds new other at held → Holds old other at held ⊎ IsPutIn slot address entry other at held)
    → (other at : ℕ) (held : Row) → Holds new other at held
    → Holds old other at held ⊎ IsKept slot address row column is_signal other at held
still-of slot address column row is_signal entry old new packed only other at held holds = elim (only other at held holds) [
  | inl before ↦ inl before
  | inr put ↦ inr (kept-of slot address column row is_signal entry other at held packed put)
]

-- a compact row is packed from its rules alone
pub packed-compactly : (entry : PackedRow) (address column : ℕ) (row : Row) (is_signal : Bool)
    → (entry.form ≡ 0) ⊎ ((column ≡ RETURN_ADDRESS) × (is_signal ≡ false) × IsRowOf entry row × (entry.plt_limit ≡ 0))
    → (entry.form ≡ 0) ⊎ ((column ≡ RETURN_ADDRESS) × (is_signal ≡ false) × IsPackedFrom address row entry)
packed-compactly entry address column row is_signal (inl zero) = inl zero
packed-compactly entry address column row is_signal (inr (is, called, row_is, plain)) = inr (is, called, inl (row_is, plain))
