-- Reading one more entry of a list, by the shortcut (`check_common`) or in full (`check_next`).
use Rattle.std.proofs.Common.{◌≡◌, ℕ, ◌<◌, ◌≤◌, Bool, true, false, List, [], ◌∷◌, ◌++◌, length, Some, None, Ok, Err, refl, sym, ap, subst, ◌∙◌, arith}
use Rattle.std.specs.Prelude.{◌&&◌, ◌||◌}
use Rattle.dw_bytes.specs.declared.fault.Fault.{Fault}
use Rattle.dw_bytes.specs.Reading.{ReadPosition, MovesForward, fixed_at, address_at, uleb_at}
use Rattle.dw_bytes.specs.Operands.{Block, block_at}
use Rattle.dw_loclists.specs.declared.stored_lists.StoredExpression.{StoredExpression}
use Rattle.dw_loclists.specs.Entries.{Entry, end_of_list, offset_pair, base_address, start_length}
use Rattle.dw_loclists.specs.Lists.{Loclist}
use Rattle.dw_loclists.specs.Locations.{location_of, expressions_of}
use Rattle.dw_loclists.specs.Stored.{AreStoredOf, KeepsMore, Passes}
use Rattle.dw_stack.specs.Located.{LocatedExpression}
use Rattle.dw_loclists.specs.Reading.{entry_at, location_fault, checked_entry_at, entries_at, list_at}
use Rattle.dw_loclists.proofs.EachEntry.{checked-none, location-good, none-if-fine}
use Rattle.dw_loclists.proofs.StoredLists.{nothing}
use Rattle.dw_loclists.proofs.EachList.{listed, put_all, next-entry, entries-last, entries-refused, list-ends, list-stops, keeps-entry, keeps-end}

-- ---- what kind of entry is read, by its code and its operands

pub end-read : (r a : ReadPosition) → fixed_at 1 r ≡ Ok (0, a) → entry_at r ≡ Ok (end_of_list, a)
unfolding entry_at
end-read r a code = rw code refl

pub base-read : (r a b : ReadPosition) (base : ℕ) → fixed_at 1 r ≡ Ok (6, a) → address_at a ≡ Ok (base, b)
    → entry_at r ≡ Ok (base_address base, b)
unfolding entry_at
base-read r a b base code first = rw (code, first) refl

pub pair-read : (r a b c d : ReadPosition) (begin end : ℕ) (x : Block) → fixed_at 1 r ≡ Ok (4, a) → uleb_at a ≡ Ok (begin, b)
    → uleb_at b ≡ Ok (end, c) → block_at c ≡ Ok (x, d) → entry_at r ≡ Ok (offset_pair begin end x, d)
unfolding entry_at
pair-read r a b c d begin end x code first second third = rw (code, first, second, third) refl

pub length-read : (r a b c d : ReadPosition) (begin count : ℕ) (x : Block) → fixed_at 1 r ≡ Ok (8, a) → address_at a ≡ Ok (begin, b)
    → uleb_at b ≡ Ok (count, c) → block_at c ≡ Ok (x, d) → entry_at r ≡ Ok (start_length begin count x, d)
unfolding entry_at
length-read r a b c d begin count x code first second third = rw (code, first, second, third) refl

and-false : (b : Bool) → (b && false) ≡ false
and-false true = refl
and-false false = refl

nothing-kept : (items : List StoredExpression) → KeepsMore [] items items
nothing-kept items = λ xs kept. subst (λ (ys : List LocatedExpression). AreStoredOf ys items) (sym (nothing xs)) kept

pub end-passes : (d : Bool) (r a : ReadPosition) (items : List StoredExpression) → fixed_at 1 r ≡ Ok (0, a)
    → Passes d true false r a items items
end-passes d r a items code = record {
  entry = end_of_list;
  read = checked-none d r end_of_list a (end-read r a code)
      (none-if-fine d r.position end_of_list (record { only = and-false d; range = tt; good = tt }));
  end_is = refl;
  default_is = refl;
  kept = nothing-kept items;
}

pub base-passes : (d : Bool) (r a b : ReadPosition) (base : ℕ) (items : List StoredExpression) → fixed_at 1 r ≡ Ok (6, a)
    → address_at a ≡ Ok (base, b) → Passes d false false r b items items
base-passes d r a b base items code first = record {
  entry = base_address base;
  read = checked-none d r (base_address base) b (base-read r a b base code first)
      (none-if-fine d r.position (base_address base) (record { only = and-false d; range = tt; good = tt }));
  end_is = refl;
  default_is = refl;
  kept = nothing-kept items;
}

pub pair-passes : (dflt : Bool) (r a b c d : ReadPosition) (begin end : ℕ) (x : Block) (before after : List StoredExpression)
    → fixed_at 1 r ≡ Ok (4, a) → uleb_at a ≡ Ok (begin, b) → uleb_at b ≡ Ok (end, c) → block_at c ≡ Ok (x, d) → begin ≤ end
    → location_fault (Some x) ≡ None → KeepsMore (location_of x ∷ []) before after → Passes dflt false false r d before after
pair-passes dflt r a b c d begin end x before after code first second third range good kept = record {
  entry = offset_pair begin end x;
  read = checked-none dflt r (offset_pair begin end x) d (pair-read r a b c d begin end x code first second third)
      (none-if-fine dflt r.position (offset_pair begin end x)
      (record { only = and-false dflt; range = range; good = location-good (Some x) good }));
  end_is = refl;
  default_is = refl;
  kept = kept;
}

pub length-passes : (dflt : Bool) (r a b c d : ReadPosition) (begin count : ℕ) (x : Block) (before after : List StoredExpression)
    → fixed_at 1 r ≡ Ok (8, a) → address_at a ≡ Ok (begin, b) → uleb_at b ≡ Ok (count, c) → block_at c ≡ Ok (x, d)
    → location_fault (Some x) ≡ None → KeepsMore (location_of x ∷ []) before after → Passes dflt false false r d before after
length-passes dflt r a b c d begin count x before after code first second third good kept = record {
  entry = start_length begin count x;
  read = checked-none dflt r (start_length begin count x) d (length-read r a b c d begin count x code first second third)
      (none-if-fine dflt r.position (start_length begin count x)
      (record { only = and-false dflt; range = tt; good = location-good (Some x) good }));
  end_is = refl;
  default_is = refl;
  kept = kept;
}

-- whether a default_location was read stays the same after an entry that isn't one
pub or-false : (b : Bool) → (b || false) ≡ b
or-false true = refl
or-false false = refl

pub goes-then : (a b c : ReadPosition) → MovesForward a b → MovesForward b c → MovesForward a c
goes-then a b c first then = record {
  forward = omega (arith, first.forward, then.forward);
  same_end = then.same_end ∙ first.same_end;
  same_target = then.same_target ∙ first.same_target;
}

pub goes-nowhere : (a : ReadPosition) → MovesForward a a
goes-nowhere a = record { forward = omega arith; same_end = refl; same_target = refl }

-- ---- a list that is partly read: the entries read so far, their stored expressions, and the rest

abbrev pub SoFar : ReadPosition → List StoredExpression → Bool → ReadPosition → List StoredExpression → Type 0
SoFar first old has_default here now =
    (es : List Entry) × (entries_at false first ≡ put_all es (entries_at has_default here)) × KeepsMore (expressions_of es) old now

pub one-more : (first here after : ReadPosition) (old mid new : List StoredExpression) (d default next : Bool)
    → SoFar first old d here mid → Passes d false default here after mid new → (d || default) ≡ next → SoFar first old next after new
one-more first here after old mid new d default next so_far p or =
    let es = so_far.0 in (
      es ++ p.entry ∷ [],
      next-entry first here after d next es p.entry so_far.1 p.read p.end_is (ap (λ b. d || b) p.default_is ∙ or),
      keeps-entry es p.entry old mid new so_far.2 p.kept,
    )

pub last-one : (first here after : ReadPosition) (old mid new : List StoredExpression) (d default : Bool) → SoFar first old d here mid
    → Passes d true default here after mid new
    → (l : Loclist) × (list_at first ≡ Ok (l, after)) × KeepsMore (expressions_of l.entries) old new
last-one first here after old mid new d default so_far p =
    let es = so_far.0 in (
      listed first.position es,
      list-ends first here after d es so_far.1 (entries-last d here p.entry after p.read p.end_is),
      keeps-end es p.entry old mid new p.end_is so_far.2 p.kept,
    )

pub refused : (first here : ReadPosition) (old mid : List StoredExpression) (d : Bool) (f : Fault) → SoFar first old d here mid
    → 0 < length here.rest → checked_entry_at d here ≡ Err f → list_at first ≡ Err f
refused first here old mid d f so_far some bad =
    list-stops first here d so_far.0 f so_far.1 (entries-refused d here f some bad)
