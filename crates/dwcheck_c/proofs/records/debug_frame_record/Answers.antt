use Rattle.std.proofs.Common.{ℕ, List, ◌∷◌, drop, Result, Ok, refl, ap, ◌∙◌, arith}
use Rattle.std.proofs.lemmas.List.{length-drop}
use Rattle.dw_bytes.specs.declared.fault.Fault.{Fault}
use Rattle.dw_frame.specs.Records.{Record, cie_record, fde_record}
use Rattle.dw_frame.specs.declared.entry.Entry.{Entry}
use Rattle.dw_frame.specs.Views.{cie_of, entry_of, fde_of}
use Rattle.dwcheck_c.proofs.FirstEntries.{fault-inside, left-of, some-item}
use Rattle.dwcheck_c.proofs.records.debug_frame_record.Goals as goal

abbrev Item : Type 0
Item = Result Record Fault

pub overflow_add-result : goal.overflow_add-result
overflow_add-result c =
    let first = left-of c.args.target c.args.frame.now c.args.at c.entries.result c.entries.ensures ∙ c.in-Some-Err.ensures.steps
    ∙ ap (λ (i : Item). i ∷ c.next.new.self) (ap entry_of c.in-Some-Err.field-0-is) in
    let inside = fault-inside c.args.target c.args.frame.now c.args.at c.in-Some-Err.why c.next.new.self
    (c.records_are_sound.ensures c.args.target (drop c.args.at c.args.frame.now)) first (omega (arith, c.requires.inside)) in
    omega (arith, inside, c.requires.short)

pub unreachable-requires : goal.unreachable-requires
unreachable-requires c =
    let left : List ℕ = drop c.args.at c.args.frame.now in
    some-item c.args.target left (λ next x. c.records_come_in_order.ensures.entry c.args.target left 0 next x)
    (λ why. c.records_come_in_order.ensures.fault c.args.target left 0 why)
    (λ x after. c.records_follow_each_other.ensures c.args.target left 0 x after)
    (omega (arith, length-drop c.args.at c.args.frame.now, c.requires.inside))
    (left-of c.args.target c.args.frame.now c.args.at c.entries.result c.entries.ensures ∙ c.in-None.ensures.steps.0)

pub returns-in-Some-Ok-Cie : goal.returns-in-Some-Ok-Cie
returns-in-Some-Ok-Cie c = record {
  exact = record {
    found = cie_record (cie_of c.in-Some-Ok-Cie.cie);
    others = c.next.new.self;
    read = left-of c.args.target c.args.frame.now c.args.at c.entries.result c.entries.ensures ∙ c.in-Some-Ok-Cie.ensures.steps
        ∙ ap (λ (i : Item). i ∷ c.next.new.self) (ap entry_of c.in-Some-Ok-Cie.field-0-is ∙ ap (λ (e : Entry). entry_of (Ok e)) c.in-Some-Ok-Cie.field-0-0-is);
    shown = c.c_cie_of.ensures;
  };
}

pub returns-in-Some-Ok-Fde : goal.returns-in-Some-Ok-Fde
returns-in-Some-Ok-Fde c = record {
  exact = record {
    found = fde_record (fde_of c.in-Some-Ok-Fde.fde);
    others = c.next.new.self;
    read = left-of c.args.target c.args.frame.now c.args.at c.entries.result c.entries.ensures ∙ c.in-Some-Ok-Fde.ensures.steps
        ∙ ap (λ (i : Item). i ∷ c.next.new.self) (ap entry_of c.in-Some-Ok-Fde.field-0-is ∙ ap (λ (e : Entry). entry_of (Ok e)) c.in-Some-Ok-Fde.field-0-0-is);
    shown = c.c_fde_of.ensures;
  };
}

pub returns-in-Some-Err : goal.returns-in-Some-Err
returns-in-Some-Err c = record {
  exact = record {
    found = c.in-Some-Err.why;
    others = c.next.new.self;
    read = left-of c.args.target c.args.frame.now c.args.at c.entries.result c.entries.ensures ∙ c.in-Some-Err.ensures.steps
        ∙ ap (λ (i : Item). i ∷ c.next.new.self) (ap entry_of c.in-Some-Err.field-0-is);
    moved = refl;
  };
}
