-- Lemmas about the row of an address, from the module whose range contains the address.
use Rattle.std.proofs.Common.{◌≡◌, ℕ, suc, List, [], ◌∷◌, Bool, true, false, Option, Some, None, refl, sym, subst, ap, ◌∙◌, arith}
use Rattle.std.specs.Prelude.{◌↔◌, cond, Contains, IfSome}
use Rattle.std.specs.Option.{option_and_then, option_map}
use Rattle.std.proofs.lemmas.List.Elements.{All-contains}
use Rattle.dw_bytes.specs.declared.target.Target.{Target}
use Rattle.dw_rules.specs.Abi.{Abi}
use Rattle.dw_rules.specs.Rules.{Row}
use Rattle.dw_rows.specs.RowLookups.{IsRowUnder}
use Rattle.dw_unwind.specs.Caller.{Caller, UnwindsBy, machine}
use Rattle.dw_unwind.specs.Modules.{as_linked}
use Rattle.dw_unwind.specs.Walks.{over_rows}
use Rattle.dw_process.specs.declared.loaded_module.LoadedModule.{LoadedModule}
use Rattle.dw_process.specs.ModuleMaps.{is_in, module_at}
use Rattle.dw_process.specs.Processes.{AreModulesOf, IsFoundIn, ProcessState, found_at, found_with, linked_row, row_in, row_of_module}

some_inside : {X : Type 0} (x y : X) → Some x ≡ Some y → x ≡ y
some_inside x y is = cc

found_among : (modules : List LoadedModule) (a : ℕ) (m : LoadedModule) → Some m ≡ module_at modules a → Contains modules m
found_among [] a m is = cc
found_among (n ∷ modules) a m is = by_test (is_in n.range a) is (found_among modules a m)
  where
    by_test : (b : Bool) → Some m ≡ cond b (Some n) (module_at modules a) → (Some m ≡ module_at modules a → Contains modules m) → Contains (n ∷ modules) m
    by_test true here rest = (0, omega arith, sym (some_inside m n here))
    by_test false later rest = let w = rest later in (suc w.0, omega (arith, w.1), w.2)

found_inside : (modules : List LoadedModule) (a : ℕ) (m : LoadedModule) → Some m ≡ module_at modules a → is_in m.range a ≡ true
found_inside [] a m is = cc
found_inside (n ∷ modules) a m is = by_test (is_in n.range a) refl is (found_inside modules a m)
  where
    by_test : (b : Bool) → is_in n.range a ≡ b → Some m ≡ cond b (Some n) (module_at modules a)
        → (Some m ≡ module_at modules a → is_in m.range a ≡ true) → is_in m.range a ≡ true
    by_test true inside here rest = subst (λ (k : LoadedModule). is_in k.range a ≡ true) (sym (some_inside m n here)) inside
    by_test false outside later rest = rest later

module _ (p : ProcessState) (are : AreModulesOf p.target p.next_id p.modules) (a : ℕ) where
  pub nothing : None ≡ module_at p.modules a → None ≡ row_in p a
  nothing is = ap (λ (o : Option LoadedModule). option_and_then (λ m. linked_row m (as_linked m.rows.target m.load_address a)) o) is

  pub nothing_found : None ≡ module_at p.modules a → None ≡ found_at p a
  nothing_found is =
      ap (λ (o : Option LoadedModule). option_and_then (λ m. option_map (found_with p.target m) (linked_row m (as_linked m.rows.target m.load_address a))) o) is

  pub its_target : (m : LoadedModule) → Some m ≡ module_at p.modules a → m.rows.target ≡ p.target
  its_target m is = All-contains (λ (m : LoadedModule). m.rows.target ≡ p.target) p.modules m are.targets (found_among p.modules a m is)

  pub its_fallback : (m : LoadedModule) → Some m ≡ module_at p.modules a → IfSome m.fallback (λ table. table.target ≡ p.target)
  its_fallback m is = All-contains (λ (m : LoadedModule). IfSome m.fallback (λ table. table.target ≡ p.target)) p.modules m are.fallback_targets
      (found_among p.modules a m is)

  -- the two tables have the same target
  pub its_targets : (m : LoadedModule) → Some m ≡ module_at p.modules a → IfSome m.fallback (λ table. table.target ≡ m.rows.target)
  its_targets m is = subst (λ (t : Target). IfSome m.fallback (λ table. table.target ≡ t)) (sym (its_target m is)) (its_fallback m is)

  its_row : (m : LoadedModule) → Some m ≡ module_at p.modules a → (o : Option (Row × ℕ))
      → o ≡ linked_row m (as_linked p.target m.load_address a) → o ≡ linked_row m (as_linked m.rows.target m.load_address a)
  its_row m is o row = row ∙ ap (λ (t : Target). linked_row m (as_linked t m.load_address a)) (sym (its_target m is))

  module _ (m : LoadedModule) (is : Some m ≡ module_at p.modules a) (o : Option (Row × ℕ))
      (row : o ≡ linked_row m (as_linked p.target m.load_address a)) where
    pub its_row_found : option_map (found_with p.target m) o ≡ found_at p a
    its_row_found =
        ap (λ (o : Option (Row × ℕ)). option_map (found_with p.target m) o) (its_row m is o row)
        ∙ ap (λ (o : Option LoadedModule). option_and_then (λ m. option_map (found_with p.target m) (linked_row m (as_linked m.rows.target m.load_address a))) o) is

  pub its_module : (m : LoadedModule) → Some m ≡ module_at p.modules a → (row : Row) (register : ℕ)
      → Some (row, register) ≡ linked_row m (as_linked p.target m.load_address a) → IsRowUnder m.rows.target row
      → IsFoundIn p a (found_with p.target m (row, register))
  its_module m is row register found h = record {
    its_module = m;
    among = found_among p.modules a m is;
    inside = found_inside p.modules a m is;
    id = refl;
    cookie = refl;
    load_address = refl;
    target = sym (its_target m is);
    row = sym (its_row m is (Some (row, register)) found);
    under = h;
  }

-- unwinding with the rows of the module of the address, and with those of the process
pub its_unwindings : (p : ProcessState) (m : LoadedModule) (abi : Abi) (memory registers : ℕ → Option ℕ) (a : ℕ) (caller : Option Caller)
    → Some m ≡ module_at p.modules a → m.rows.target ≡ p.target
    → over_rows m.rows.target (λ a found. found ≡ row_of_module m a) abi memory registers a caller
    ↔ over_rows p.target (λ a found. found ≡ row_in p a) abi memory registers a caller
its_unwindings p m abi memory registers a caller is target =
    let same : row_of_module m a ≡ row_in p a = ap (λ (o : Option LoadedModule). option_and_then (λ m. row_of_module m a) o) is in (
      λ h. (h.0, h.1 ∙ same, subst (λ (t : Target). UnwindsBy (machine t registers memory) abi h.0 caller) target h.2),
      λ h. (h.0, h.1 ∙ sym same, subst (λ (t : Target). UnwindsBy (machine t registers memory) abi h.0 caller) (sym target) h.2),
    )
