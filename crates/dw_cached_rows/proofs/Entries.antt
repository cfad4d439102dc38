-- The entries of a cache.
use Rattle.std.proofs.Common.{◌≡◌, ◌==◌, ◌⊎◌, inl, inr, ℕ, zero, suc, ◌<◌, ◌%◌, ◌/◌, Bool, true, false, List, arith, get_or, length, replicate, set, refl, sym, ap, subst, ◌∙◌}
use Rattle.std.proofs.lemmas.List.{get_or-set_other, get_or-set_same}
use Rattle.std.proofs.Math.Nat.{mod-eq_of_lt}
use Rattle.std.proofs.lemmas.Bool.{eqb-false}
use Rattle.std.proofs.lemmas.Bool.Decides.{nat_tests}
use Rattle.dw_rules.specs.Rules.{Row}
use Rattle.dw_cached_rows.specs.declared.packed_row.PackedRow.{PackedRow}
use Rattle.dw_cached_rows.specs.declared.packed_row.TheConstants.{SLOTS}
use Rattle.dw_cached_rows.specs.PackedRows.{StandsFor}
use Rattle.dw_cached_rows.specs.declared.cached_rows.TheConstants.{ROWS, WAYS}
use Rattle.dw_cached_rows.specs.CachedRows.{Holds, HoldsInSet, IsPutIn, entry_at, nothing, set_of_key}

all-same : (n i : ℕ) (p : PackedRow) → get_or (replicate n p) i p ≡ p
all-same zero i p = refl
all-same (suc n) zero p = refl
all-same (suc n) (suc i) p = all-same n i p

-- entries without a key have no rows
pub none-held : (n : ℕ) (p : PackedRow) (slot address : ℕ) (row : Row) → p ≡ nothing → Holds (replicate n p) slot address row → ⊥
none-held n p slot address row is held =
    let key : (entry_at (replicate n nothing) held.0).key ≡ suc address =
    ap (λ (q : PackedRow). (entry_at (replicate n q) held.0).key) (sym is) ∙ held.1.key in
    absurd (cc (key, all-same n held.0 nothing))

-- ---- an entry that is put in

-- an entry with another key or slot stands for the same rows
stands-still : (entry : PackedRow) (key slot at : ℕ) (held : Row) → StandsFor at (record entry { key = key; slot = slot }) held
    → StandsFor at entry held
stands-still entry key slot at held (inl (inl is)) = inl (inl (record { some = is.some; usual = is.usual; cfa = is.cfa; rules = is.rules }))
stands-still entry key slot at held (inl (inr is)) = inl (inr (record {
  form = is.form;
  expression = is.expression;
  cfa = is.cfa;
  is = is.is;
  saved = is.saved;
  returns = is.returns;
}))
stands-still entry key slot at held (inr plt) = inr (record {
  expression = plt.expression;
  cfa = plt.cfa;
  is = plt.is;
  some = plt.some;
  inside = plt.inside;
  form = plt.form;
  here = plt.here;
  next = plt.next;
  rules = plt.rules;
})

stands-moved : (entry : PackedRow) (key slot at : ℕ) (held : Row) → StandsFor at entry held
    → StandsFor at (record entry { key = key; slot = slot }) held
stands-moved entry key slot at held (inl (inl is)) = inl (inl (record { some = is.some; usual = is.usual; cfa = is.cfa; rules = is.rules }))
stands-moved entry key slot at held (inl (inr is)) = inl (inr (record {
  form = is.form;
  expression = is.expression;
  cfa = is.cfa;
  is = is.is;
  saved = is.saved;
  returns = is.returns;
}))
stands-moved entry key slot at held (inr plt) = inr (record {
  expression = plt.expression;
  cfa = plt.cfa;
  is = plt.is;
  some = plt.some;
  inside = plt.inside;
  form = plt.form;
  here = plt.here;
  next = plt.next;
  rules = plt.rules;
})

-- an entry of the form 0 stands for no row
pub stands-some : (p : PackedRow) (address : ℕ) (row : Row) → p.form ≡ 0 → StandsFor address p row → ⊥
stands-some p address row none (inl (inl is)) = is.some none
stands-some p address row none (inl (inr is)) = absurd (cc (none, is.form))
stands-some p address row none (inr plt) = absurd (cc (none, plt.form))

-- the rows for which the entry stands that was put in
pub put-held : (old : List PackedRow) (index : ℕ) (entry : PackedRow) (slot key address : ℕ) (row : Row) → index < length old → index < ROWS
    → slot < SLOTS → key ≡ suc address → index / WAYS ≡ set_of_key key → StandsFor address entry row
    → HoldsInSet (set old index (record entry { key = key; slot = slot })) slot address row
put-held old index entry slot key address row inside within low key-is in-set stands =
    let put : PackedRow = record entry { key = key; slot = slot } in
    let found : entry_at (set old index put) index ≡ put = get_or-set_same old index put nothing inside in (
      index,
      record {
        inside = within;
        key = ap (λ (p : PackedRow). p.key) found ∙ key-is;
        slot_is = ap (λ (p : PackedRow). p.slot % SLOTS) found ∙ mod-eq_of_lt low;
        is = subst (λ (p : PackedRow). StandsFor address p row) (sym found) (stands-moved entry key slot address row stands);
      },
      in-set ∙ ap set_of_key key-is,
    )

-- the row of an entry was there before, or is one for which the entry stands that was put in
pub put-only : (old : List PackedRow) (index : ℕ) (entry : PackedRow) (slot key address other at : ℕ) (held : Row) → index < length old
    → slot < SLOTS → key ≡ suc address → Holds (set old index (record entry { key = key; slot = slot })) other at held
    → Holds old other at held ⊎ IsPutIn slot address entry other at held
put-only old index entry slot key address other at held inside low key-is (i, is) = go (index == i) refl
  where
    put : PackedRow
    put = record entry { key = key; slot = slot }

    go : (b : Bool) → (index == i) ≡ b → Holds old other at held ⊎ IsPutIn slot address entry other at held
    go true same =
        let here : index ≡ i = grind (arith, nat_tests, same) in
        let found : entry_at (set old index put) i ≡ put =
        ap (entry_at (set old index put)) (sym here) ∙ get_or-set_same old index put nothing inside in
        inr (record {
          slot_is = sym (ap (λ (p : PackedRow). p.slot % SLOTS) (sym found) ∙ is.slot_is) ∙ mod-eq_of_lt low;
          address_is = cc (key-is, ap (λ (p : PackedRow). p.key) found, is.key);
          is = stands-still entry key slot address held
              (subst (λ (a : ℕ). StandsFor a put held) (cc (key-is, ap (λ (p : PackedRow). p.key) found, is.key))
              (subst (λ (p : PackedRow). StandsFor at p held) found is.is));
        })
    go false differs =
        let same : entry_at (set old index put) i ≡ entry_at old i =
        get_or-set_other old index i put nothing (λ here. eqb-false index i differs (sym here)) in
        inl (
          i,
          record {
            inside = is.inside;
            key = ap (λ (p : PackedRow). p.key) (sym same) ∙ is.key;
            slot_is = ap (λ (p : PackedRow). p.slot % SLOTS) (sym same) ∙ is.slot_is;
            is = subst (λ (p : PackedRow). StandsFor at p held) same is.is;
          },
        )
