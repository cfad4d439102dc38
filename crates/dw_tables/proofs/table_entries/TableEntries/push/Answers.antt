use Rattle.std.proofs.Common.{◌≡◌, ℕ, List, [], ◌∷◌, ◌++◌, ap, ◌∙◌}
use Rattle.dw_tables.specs.declared.table_entries.TableEntry.{TableEntry}
use Rattle.dw_tables.specs.CompiledTable.{paired}
use Rattle.dw_tables.proofs.TableEntries.{paired-more}
use Rattle.dw_tables.proofs.table_entries.TableEntries.push.Goals as goal

pub returns-in-Ok : goal.returns-in-Ok
returns-in-Ok c =
    let starts = c.self.inside.starts in
    let sets = c.self.inside.sets in
    let more_sets : c.push.new.self ≡ sets ++ c.args.entry.set ∷ [] = c.in_ok-push.ensures in
    let more_starts : c.push-2.new.self ≡ starts ++ c.args.entry.start ∷ [] = c.in-Ok.ensures in
    ap (λ (l : List ℕ). paired l c.push.new.self) more_starts
    ∙ ap (λ (l : List ℕ). paired (starts ++ c.args.entry.start ∷ []) l) more_sets
    ∙ paired-more starts sets c.args.entry.start c.args.entry.set c.self.invariant.even
    ∙ ap (λ (l : List TableEntry). l ++ c.args.entry ∷ []) c.self.view_is
