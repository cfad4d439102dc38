-- Lemmas about the modules of a process: what holds of them still holds once a module is added or
-- removed.
use Rattle.std.proofs.Common.{◌≡◌, ℕ, suc, ◌+◌, ◌<◌, List, ◌∷◌, length, take, drop, arith}
use Rattle.std.specs.List.{insert, remove}
use Rattle.std.specs.Prelude.{◌≢◌, All, IfSome}
use Rattle.std.proofs.lemmas.List.Elements.{All-append, All-take, All-drop, All-cons}
use Rattle.std.proofs.lemmas.List.Quantifiers.{all_pairs_remove}
use Rattle.dw_bytes.specs.declared.target.Target.{Target}
use Rattle.dw_process.specs.declared.loaded_module.LoadedModule.{LoadedModule}
use Rattle.dw_process.specs.ModuleMaps.{IsPlaceFor, IsProper}
use Rattle.dw_process.specs.Processes.{AreModulesOf}
use Rattle.dw_process.proofs.Placing.{AllPairs-insert, order_of_less, order_of_more}

all_less : (P : LoadedModule → Type 0) (modules : List LoadedModule) (i : ℕ) → All P modules → All P (remove modules i)
all_less P modules i all = All-append P (take i modules) (drop (suc i) modules) (All-take P i modules all) (All-drop P (suc i) modules all)

all_more : (P : LoadedModule → Type 0) (modules : List LoadedModule) (i : ℕ) (m : LoadedModule) → P m → All P modules → All P (insert modules i m)
all_more P modules i m own all =
    All-append P (take i modules) (m ∷ drop i modules) (All-take P i modules all) (All-cons P m (drop i modules) own (All-drop P i modules all))

pub kept_of_less : (target : Target) (next_id : ℕ) (modules : List LoadedModule) (i : ℕ) → i < length modules → AreModulesOf target next_id modules
    → AreModulesOf target next_id (remove modules i)
kept_of_less target next_id modules i lt are = record {
  order = order_of_less modules i lt are.order;
  distinct = all_pairs_remove (λ (m n : LoadedModule). m.id ≢ n.id) modules i lt are.distinct;
  given = all_less (λ (m : LoadedModule). m.id < next_id) modules i are.given;
  targets = all_less (λ (m : LoadedModule). m.rows.target ≡ target) modules i are.targets;
  fallback_targets = all_less (λ (m : LoadedModule). IfSome m.fallback (λ table. table.target ≡ target)) modules i are.fallback_targets;
}

pub kept_of_more : (target : Target) (next_id : ℕ) (modules : List LoadedModule) (i : ℕ) (m : LoadedModule) → m.id ≡ next_id → m.rows.target ≡ target
    → IfSome m.fallback (λ table. table.target ≡ target) → IsProper m.range → IsPlaceFor m.range modules i → AreModulesOf target next_id modules → AreModulesOf target (next_id + 1) (insert modules i m)
kept_of_more target next_id modules i m id_is target_is fallback_is proper place are = record {
  order = order_of_more modules i m proper place are.order;
  distinct = AllPairs-insert modules i m place.bound (λ (a b : LoadedModule). a.id ≢ b.id) are.distinct
      (λ k d lt same. let low = are.given k d (omega (arith, lt, place.bound)) in omega (arith, low, same, id_is))
      (λ k d le lt same. let low = are.given k d lt in omega (arith, low, same, id_is));
  given = all_more (λ (x : LoadedModule). x.id < next_id + 1) modules i m (omega (arith, id_is))
      (λ k d lt. let low = are.given k d lt in omega (arith, low));
  targets = all_more (λ (x : LoadedModule). x.rows.target ≡ target) modules i m target_is are.targets;
  fallback_targets = all_more (λ (x : LoadedModule). IfSome x.fallback (λ table. table.target ≡ target)) modules i m fallback_is are.fallback_targets;
}
