-- Lemmas about the first module that has a row for an address.
use Rattle.std.proofs.Common.{◌≡◌, ℕ, suc, ◌<◌, List, [], ◌∷◌, length, get_or, Bool, true, false, Option, Some, None, refl, sym, subst, ap, ◌∙◌, arith}
use Rattle.std.specs.Prelude.{◌↔◌, cond, All, IfSome}
use Rattle.std.specs.Option.{option_and_then, option_or}
use Rattle.std.proofs.lemmas.Bool.Decides.{nat_tests}
use Rattle.dw_bytes.specs.declared.target.Target.{Target}
use Rattle.dw_eval.specs.World.{World}
use Rattle.dw_rules.specs.Abi.{Abi}
use Rattle.dw_rules.specs.Rules.{Row}
use Rattle.dw_unwind.specs.Caller.{Caller, UnwindsBy, machine}
use Rattle.dw_tables.specs.UnwindTables.{RowTable, row_at}
use Rattle.dw_unwind.specs.Modules.{OrElse, as_linked, over_tables}
use Rattle.dw_unwind.specs.Walks.{over_rows}
use Rattle.dw_unwind.specs.declared.modules.Module.{Module}
use Rattle.dw_process.specs.FirstRows.{HasRowInRange, first_row, tables_of, with_fallback}
use Rattle.dw_process.specs.declared.address_range.AddressRange.{AddressRange}
use Rattle.dw_process.specs.declared.loaded_module.LoadedModule.{LoadedModule}
use Rattle.dw_process.specs.ModuleMaps.{AreInOrder, is_in, module_at}
use Rattle.dw_process.specs.Processes.{AreModulesOf, ProcessState, fallback_row, row_in, row_of_module}

tail_in_order : (m : LoadedModule) (modules : List LoadedModule) → AreInOrder (m ∷ modules) → AreInOrder modules
tail_in_order m modules order = record {
  proper = λ k d lt. order.proper (suc k) d (omega (arith, lt));
  order = λ i j d less lt. order.order (suc i) (suc j) d (omega (arith, less)) (omega (arith, lt));
}

apart : (r s : AddressRange) (a : ℕ) → is_in r a ≡ true → r.last < s.first → is_in s a ≡ false
apart r s a inside below = grind (arith, nat_tests)

-- a later module doesn't have an address that is in the first module's range
later_ones : (m : LoadedModule) (modules : List LoadedModule) (a : ℕ) → AreInOrder (m ∷ modules) → is_in m.range a ≡ true
    → (k : ℕ) (d : LoadedModule) → k < length modules → is_in (get_or modules k d).range a ≡ false
later_ones m modules a order inside k d lt =
    apart m.range (get_or modules k d).range a inside (order.order 0 (suc k) d (omega arith) (omega (arith, lt)))

none_of : (b : Bool) (o : Option (Row × ℕ)) → b ≡ false → IfSome o (λ found. b ≡ true) → o ≡ None
none_of b None is h = refl
none_of b (Some x) is h = cc

abbrev HaveRowsInRange : ℕ → List LoadedModule → Type 0
HaveRowsInRange a modules = All (HasRowInRange a) modules

tail_has : (a : ℕ) (m : LoadedModule) (modules : List LoadedModule) → HaveRowsInRange a (m ∷ modules) → HaveRowsInRange a modules
tail_has a m modules has = λ k d lt. has (suc k) d (omega (arith, lt))

none_later : (modules : List LoadedModule) (a : ℕ) → ((k : ℕ) (d : LoadedModule) → k < length modules → is_in (get_or modules k d).range a ≡ false)
    → HaveRowsInRange a modules → first_row modules a ≡ None
none_later [] a out has = refl
none_later (m ∷ modules) a out has =
    let here = none_of (is_in m.range a) (row_of_module m a) (out 0 m (omega arith)) (has 0 m (omega arith)) in
    ap (λ (o : Option (Row × ℕ)). option_or o (first_row modules a)) here
    ∙ none_later modules a (λ k d lt. out (suc k) d (omega (arith, lt))) (tail_has a m modules has)

keep : (o rest : Option (Row × ℕ)) → rest ≡ None → o ≡ option_or o rest
keep None rest is = sym is
keep (Some x) rest is = refl

pub agree : (modules : List LoadedModule) (a : ℕ) → AreInOrder modules → HaveRowsInRange a modules
    → option_and_then (λ m. row_of_module m a) (module_at modules a) ≡ first_row modules a
agree [] a order has = refl
agree (m ∷ modules) a order has =
    by_test (is_in m.range a) refl (agree modules a (tail_in_order m modules order) (tail_has a m modules has))
  where
    by_test : (b : Bool) → is_in m.range a ≡ b → option_and_then (λ m. row_of_module m a) (module_at modules a) ≡ first_row modules a
        → option_and_then (λ m. row_of_module m a) (cond b (Some m) (module_at modules a)) ≡ option_or (row_of_module m a) (first_row modules a)
    by_test true is rest = keep (row_of_module m a) (first_row modules a)
        (none_later modules a (later_ones m modules a order is) (tail_has a m modules has))
    by_test false is rest =
        let here = none_of (is_in m.range a) (row_of_module m a) is (has 0 m (omega arith)) in
        rest ∙ sym (ap (λ (o : Option (Row × ℕ)). option_or o (first_row modules a)) here)

or_or : (o p rest : Option (Row × ℕ)) → option_or o (option_or p rest) ≡ option_or (option_or o p) rest
or_or None p rest = refl
or_or (Some x) p rest = refl

-- ---- unwinding

module _ (e : World) (abi : Abi) (R : Option Caller → Type 0) (rest : Option (Row × ℕ)) where
  goes : (o : Option (Row × ℕ)) (own caller : Option Caller) → (R caller → UnwindsBy e abi rest caller) → UnwindsBy e abi o own
      → OrElse own R caller → UnwindsBy e abi (option_or o rest) caller
  goes None None caller on by h = on h
  goes None (Some c) caller on by h = absurd by
  goes (Some x) None caller on by h = absurd by
  goes (Some x) (Some c) caller on by h = subst (λ (k : Option Caller). UnwindsBy e abi (Some x) k) (sym h) by

  comes : (o : Option (Row × ℕ)) (caller : Option Caller) → (UnwindsBy e abi rest caller → R caller) → UnwindsBy e abi (option_or o rest) caller
      → (own : Option Caller) × UnwindsBy e abi o own × OrElse own R caller
  comes None caller on by = (None, tt, on by)
  comes (Some x) None on by = absurd by
  comes (Some x) (Some c) on by = (Some c, by, refl)

none_by : (e : World) (abi : Abi) (caller : Option Caller) → caller ≡ None ↔ UnwindsBy e abi None caller
none_by e abi None = (λ h. tt, λ h. refl)
none_by e abi (Some c) = (λ h. cc, λ h. absurd h)

module _ (target : Target) (abi : Abi) (memory registers : ℕ → Option ℕ) (a : ℕ) where
  -- a table before others: unwinding with all of them is unwinding with the first row
  one_more : (table : RowTable) (load_address : ℕ) → table.target ≡ target → (others : List (Module RowTable)) (rest : Option (Row × ℕ)) (caller : Option Caller)
      → over_tables abi memory others registers a caller ↔ UnwindsBy (machine target registers memory) abi rest caller
      → over_tables abi memory (record { rows = table; load_address = load_address } ∷ others) registers a caller
      ↔ UnwindsBy (machine target registers memory) abi (option_or (row_at table (as_linked table.target load_address a)) rest) caller
  one_more table load_address same others rest caller both =
      let e = machine target registers memory in
      let row = row_at table (as_linked table.target load_address a) in
      let R = over_tables abi memory others registers a in (
        λ h. goes e abi R rest row h.0 caller both.0
            (subst (λ (t : Target). UnwindsBy (machine t registers memory) abi row h.0) same h.1) h.2,
        λ h. let w = comes e abi R rest row caller both.1 h in
            (w.0, subst (λ (t : Target). UnwindsBy (machine t registers memory) abi row w.0) (sym same) w.1, w.2),
      )

  with_second : (fallback : Option RowTable) (load_address : ℕ) → IfSome fallback (λ table. table.target ≡ target)
      → (others : List (Module RowTable)) (rest : Option (Row × ℕ)) (caller : Option Caller)
      → over_tables abi memory others registers a caller ↔ UnwindsBy (machine target registers memory) abi rest caller
      → over_tables abi memory (with_fallback fallback load_address others) registers a caller
      ↔ UnwindsBy (machine target registers memory) abi (option_or (fallback_row fallback (as_linked target load_address a)) rest) caller
  with_second None load_address same others rest caller both = both
  with_second (Some table) load_address same others rest caller both =
      subst (λ (t : Target). over_tables abi memory (record { rows = table; load_address = load_address } ∷ others) registers a caller
      ↔ UnwindsBy (machine target registers memory) abi (option_or (row_at table (as_linked t load_address a)) rest) caller)
      same (one_more table load_address same others rest caller both)

  at_target : (modules : List LoadedModule) → All (λ m. m.rows.target ≡ target) modules
      → All (λ m. IfSome m.fallback (λ table. table.target ≡ target)) modules → (caller : Option Caller)
      → over_tables abi memory (tables_of modules) registers a caller ↔ UnwindsBy (machine target registers memory) abi (first_row modules a) caller
  at_target [] all seconds caller = none_by (machine target registers memory) abi caller
  at_target (m ∷ modules) all seconds caller =
      let same : m.rows.target ≡ target = all 0 m (omega arith) in
      let second : IfSome m.fallback (λ table. table.target ≡ target) = seconds 0 m (omega arith) in
      let rest = at_target modules (λ k d lt. all (suc k) d (omega (arith, lt))) (λ k d lt. seconds (suc k) d (omega (arith, lt))) caller in
      let later = with_second m.fallback m.load_address second (tables_of modules) (first_row modules a) caller rest in
      let both = one_more m.rows m.load_address same (with_fallback m.fallback m.load_address (tables_of modules))
      (option_or (fallback_row m.fallback (as_linked target m.load_address a)) (first_row modules a)) caller later in
      let at = as_linked m.rows.target m.load_address a in
      let is : option_or (row_at m.rows at) (option_or (fallback_row m.fallback (as_linked target m.load_address a)) (first_row modules a))
      ≡ first_row (m ∷ modules) a
      = ap (λ (t : Target). option_or (row_at m.rows at) (option_or (fallback_row m.fallback (as_linked t m.load_address a)) (first_row modules a))) (sym same)
      ∙ or_or (row_at m.rows at) (fallback_row m.fallback at) (first_row modules a) in
      subst (λ (o : Option (Row × ℕ)). over_tables abi memory (tables_of (m ∷ modules)) registers a caller
      ↔ UnwindsBy (machine target registers memory) abi o caller) is both

pub unwinds_same : (p : ProcessState) (abi : Abi) (memory registers : ℕ → Option ℕ) (a : ℕ) (caller : Option Caller)
    → AreModulesOf p.target p.next_id p.modules → HaveRowsInRange a p.modules
    → over_rows p.target (λ a found. found ≡ row_in p a) abi memory registers a caller
    ↔ over_tables abi memory (tables_of p.modules) registers a caller
unwinds_same p abi memory registers a caller are has =
    let same : row_in p a ≡ first_row p.modules a = agree p.modules a are.order has in
    let both = at_target p.target abi memory registers a p.modules are.targets are.fallback_targets caller in
    let e = machine p.target registers memory in (
      λ h. both.1 (subst (λ (o : Option (Row × ℕ)). UnwindsBy e abi o caller) (h.1 ∙ same) h.2),
      λ h. (row_in p a, refl, subst (λ (o : Option (Row × ℕ)). UnwindsBy e abi o caller) (sym same) (both.0 h)),
    )
