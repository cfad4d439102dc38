-- A record that is left out changes nothing of what is kept.
use Rattle.std.proofs.Common.{◌≡◌, List, [], ◌∷◌, ◌++◌, Option, Some, None, Ok, Err, sym, ap, ◌∙◌}
use Rattle.std.specs.List.{fold}
use Rattle.std.proofs.lemmas.List.Sums.{fold-append}
use Rattle.dw_bytes.specs.declared.fault.Fault.{Fault}
use Rattle.dw_frame.specs.Records.{cies_among}
use Rattle.dw_eh_frame.specs.Items.{Item}
use Rattle.dw_eh_frame.specs.Records.{EhRecord, all_in_dwarf}
use Rattle.dw_eh_rows.specs.KeptRecords.{Split, fault_after, keep_unless, leave_out, split_all, split_one}

-- what is kept depends on what was kept alone
same-one : (s t : Split) (item : Item) → s.kept ≡ t.kept → (split_one s item).kept ≡ (split_one t item).kept
same-one s t (at, Err fault) same = same
same-one s t (at, Ok x) same =
    go (fault_after (cies_among (all_in_dwarf s.kept)) x) (fault_after (cies_among (all_in_dwarf t.kept)) x)
    (ap (λ (l : List EhRecord). fault_after (cies_among (all_in_dwarf l)) x) same)
  where
    go : (a b : Option Fault) → a ≡ b → (keep_unless s at x a).kept ≡ (keep_unless t at x b).kept
    go None None is = ap (λ (l : List EhRecord). l ++ x ∷ []) same
    go (Some fault) (Some other) is = same
    go None (Some other) is = absurd cc
    go (Some fault) None is = absurd cc

same-kept : (s t : Split) (items : List Item) → s.kept ≡ t.kept → (fold split_one s items).kept ≡ (fold split_one t items).kept
same-kept s t [] same = same
same-kept s t (item ∷ items) same = same-kept (split_one s item) (split_one t item) items (same-one s t item same)

pub others-kept : (before after : List Item) (item : Item) (fault : Fault)
    → split_one (split_all before) item ≡ leave_out (split_all before) item.0 fault
    → (split_all (before ++ item ∷ after)).kept ≡ (split_all (before ++ after)).kept
others-kept before after item fault left =
    ap (λ (s : Split). s.kept) (fold-append split_one (record { kept = []; left_out = [] }) before (item ∷ after))
    ∙ (same-kept (split_one (split_all before) item) (split_all before) after (ap (λ (s : Split). s.kept) left)
    ∙ sym (ap (λ (s : Split). s.kept) (fold-append split_one (record { kept = []; left_out = [] }) before after)))
