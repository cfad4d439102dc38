use Rattle.std.proofs.Common.{◌≡◌, List, length, Some, sym, subst, ap, ◌∙◌, arith}
use Rattle.std.specs.Prelude.{Bool, true, false, slice_get}
use Rattle.std.specs.Bool.{OnTrue}
use Rattle.std.proofs.lemmas.List.{get_or_default}
use Rattle.std.proofs.lemmas.Option.{get_or_from_slice_get}
use Rattle.dw_tables.specs.CompiledTable.{StoredSet}
use Rattle.dw_tables.proofs.RuleSets.{zipped-length, zipped-at}
use Rattle.dw_tables.proofs.rule_sets.RuleSets.are_at.Goals as goal

pub index-requires : goal.index-requires
index-requires c =
    omega (
      arith,
      c.requires,
      c.self.inside.registers.ok.0,
      zipped-length c.self.inside.rules c.self.inside.registers.items c.self.invariant,
      ap (λ (l : List StoredSet). length l) c.self.view_is,
    )

pub are_at-requires : goal.are_at-requires
are_at-requires c =
    omega (
      arith,
      c.requires,
      c.self.invariant,
      zipped-length c.self.inside.rules c.self.inside.registers.items c.self.invariant,
      ap (λ (l : List StoredSet). length l) c.self.view_is,
    )

so : (b : Bool) {X Y : Type 0} → OnTrue b X → (X → Y) → OnTrue b Y
so true fact then = then fact
so false fact then = tt

pub returns-then-index-register : goal.returns-then-index-register
returns-then-index-register c =
    let k = c.args.rules.now in
    so c.are_at.result c.are_at.ensures (λ found.
    subst (λ (l : List StoredSet). slice_get l c.args.place ≡ Some (record { rules = k; register = c.args.register })) c.self.view_is
    (zipped-at c.self.inside.rules c.self.inside.registers.items c.args.place k c.args.register c.self.invariant
    (omega (
      arith,
      c.requires,
      c.self.invariant,
      zipped-length c.self.inside.rules c.self.inside.registers.items c.self.invariant,
      ap (λ (l : List StoredSet). length l) c.self.view_is,
    )) (sym (get_or_from_slice_get c.self.inside.rules c.args.place k k found))
    (sym c.if-index-register.true ∙ c.index.ensures ∙ get_or_default c.self.inside.registers.items c.args.place c.index.result.now c.args.register
    (omega (
      arith,
      c.requires,
      zipped-length c.self.inside.rules c.self.inside.registers.items c.self.invariant,
      ap (λ (l : List StoredSet). length l) c.self.view_is,
    )))))
