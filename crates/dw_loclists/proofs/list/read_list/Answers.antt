use Rattle.std.proofs.Common.{◌≡◌, ℕ, ◌<◌, Bool, true, false, List, length, Result, Err, sym, ap, subst, ◌∙◌, arith, inl, inr}
use Rattle.std.specs.Prelude.{◌⊎◌, ◌||◌}
use Rattle.std.proofs.lemmas.Grind.{common_steps}
use Rattle.dw_bytes.specs.declared.fault.Fault.{Fault}
use Rattle.dw_bytes.specs.declared.fault.FaultKind.TheVariants.{NoEnd}
use Rattle.dw_bytes.specs.Reading.{ReadPosition, MovesForward}
use Rattle.dw_bytes.specs.Answers.{memory}
use Rattle.dw_loclists.specs.declared.stored_lists.StoredExpression.{StoredExpression}
use Rattle.dw_loclists.specs.Entries.{Entry}
use Rattle.dw_loclists.specs.Stored.{Passes}
use Rattle.dw_loclists.specs.Reading.{checked_entry_at, entries_at, list_at}
use Rattle.dw_loclists.proofs.EachList.{entries-end, list-stops}
use Rattle.dw_loclists.proofs.Passing.{one-more, last-one, refused, or-false, goes-then, goes-nowhere}
use Rattle.dw_loclists.proofs.list.read_list.Goals as goal

abbrev no-list : Fault → Result (List Entry × ReadPosition) Fault
no-list f = Err f

pub returns-then-ended-clause-exact : goal.returns-then-ended-clause-exact
returns-then-ended-clause-exact c =
    let here = c.entries.ahead in
    let d = c.entries.has_default in
    let mid = c.entries.expressions.items in
    let new = c.check_common.new.expressions.items in
    let after = c.check_common.new.cursor in
    let passes : Passes d true false here after mid new =
    subst (λ (b : Bool). Passes d b false here after mid new) c.if-ended.true (c.in-Some.ensures.exact d) in
    last-one c.args.cursor.now here after c.args.expressions.now.items mid new d false c.entries.invariant.so_far passes

pub entries-preserved-in-Some : goal.entries-preserved-in-Some
entries-preserved-in-Some c =
    let here = c.entries.ahead in
    let d = c.entries.has_default in
    let mid = c.entries.expressions.items in
    let new = c.check_common.new.expressions.items in
    let after = c.check_common.new.cursor in
    let passes : Passes d false false here after mid new =
    subst (λ (b : Bool). Passes d b false here after mid new) c.if-ended.false (c.in-Some.ensures.exact d) in
    record {
      so_far = one-more c.args.cursor.now here after c.args.expressions.now.items mid new d false d c.entries.invariant.so_far passes
          (or-false d);
      same = c.entries.invariant.same;
      goes = goes-then c.args.cursor.now here after c.entries.invariant.goes c.in-Some.ensures.goes_on;
    }

pub returns-in_err-passed-clause-exact : goal.returns-in_err-passed-clause-exact
returns-in_err-passed-clause-exact c =
    let here = c.entries.ahead in
    let d = c.entries.has_default in
    let fault = c.in_err-passed.field-0.0 in
    let some : 0 < length here.rest =
    omega (arith, c.entries-test.true, c.position.ensures, c.entries.invariant.goes.same_end, c.requires) in
    let stop : (fault ≡ memory) ⊎ (list_at c.args.cursor.now ≡ Err fault) = elim c.in_err-passed.ensures.exact [
      | inl e ↦ inl e
      | inr e ↦
          let bad : checked_entry_at d here ≡ Err fault = subst (λ (r : ReadPosition). checked_entry_at d r ≡ Err fault) (c.copy-aside.ensures ∙ c.in-None.ensures.exact.0) e
          in
          inr (refused c.args.cursor.now here c.args.expressions.now.items c.entries.expressions.items d fault
          c.entries.invariant.so_far some bad)
    ] in
    grind (arith, common_steps, stop)

pub returns-in_err-passed-clause-goes_on : goal.returns-in_err-passed-clause-goes_on
returns-in_err-passed-clause-goes_on c = subst (λ (r : ReadPosition). MovesForward c.args.cursor.now r) (sym c.entries.invariant.same)
    (goes-nowhere c.args.cursor.now)

pub returns-then-passed-clause-exact : goal.returns-then-passed-clause-exact
returns-then-passed-clause-exact c =
    let here = c.entries.ahead in
    let d = c.entries.has_default in
    let mid = c.entries.expressions.items in
    let new = c.check_next.new.expressions.items in
    let after = c.check_next.new.cursor in
    let last = c.in_ok-passed.passed.default in
    let passes : Passes d true last here after mid new =
    subst (λ (b : Bool). Passes d b last here after mid new) c.if-passed.true
    (subst (λ (r : ReadPosition). Passes d c.in_ok-passed.passed.ended last r after mid new)
    (c.copy-aside.ensures ∙ c.in-None.ensures.exact.0)
    (subst (λ (ks : List StoredExpression). Passes d c.in_ok-passed.passed.ended last c.copy-aside.result after ks new)
    c.in-None.ensures.exact.1 c.in_ok-passed.ensures.exact)) in
    last-one c.args.cursor.now here after c.args.expressions.now.items mid new d last c.entries.invariant.so_far passes

pub entries-preserved-then-has_default : goal.entries-preserved-then-has_default
entries-preserved-then-has_default c =
    let here = c.entries.ahead in
    let d = c.entries.has_default in
    let mid = c.entries.expressions.items in
    let new = c.check_next.new.expressions.items in
    let after = c.check_next.new.cursor in
    let last = c.in_ok-passed.passed.default in
    let passes : Passes d false last here after mid new =
    subst (λ (b : Bool). Passes d b last here after mid new) c.if-passed.false
    (subst (λ (r : ReadPosition). Passes d c.in_ok-passed.passed.ended last r after mid new)
    (c.copy-aside.ensures ∙ c.in-None.ensures.exact.0)
    (subst (λ (ks : List StoredExpression). Passes d c.in_ok-passed.passed.ended last c.copy-aside.result after ks new)
    c.in-None.ensures.exact.1 c.in_ok-passed.ensures.exact)) in
    let or : (d || last) ≡ d = ap (λ b. b || last) c.if-has_default.true ∙ sym c.if-has_default.true in
    record {
      so_far = one-more c.args.cursor.now here after c.args.expressions.now.items mid new d last d c.entries.invariant.so_far passes or;
      same = c.entries.invariant.same;
      goes = goes-then c.args.cursor.now here after c.entries.invariant.goes
          (subst (λ (r : ReadPosition). MovesForward r after) (c.copy-aside.ensures ∙ c.in-None.ensures.exact.0)
          c.in_ok-passed.ensures.goes_on);
    }

pub entries-preserved : goal.entries-preserved
entries-preserved c =
    let here = c.entries.ahead in
    let d = c.entries.has_default in
    let mid = c.entries.expressions.items in
    let new = c.check_next.new.expressions.items in
    let after = c.check_next.new.cursor in
    let last = c.in_ok-passed.passed.default in
    let passes : Passes d false last here after mid new =
    subst (λ (b : Bool). Passes d b last here after mid new) c.if-passed.false
    (subst (λ (r : ReadPosition). Passes d c.in_ok-passed.passed.ended last r after mid new)
    (c.copy-aside.ensures ∙ c.in-None.ensures.exact.0)
    (subst (λ (ks : List StoredExpression). Passes d c.in_ok-passed.passed.ended last c.copy-aside.result after ks new)
    c.in-None.ensures.exact.1 c.in_ok-passed.ensures.exact)) in
    let or : (d || last) ≡ last = ap (λ b. b || last) c.if-has_default.false in
    record {
      so_far = one-more c.args.cursor.now here after c.args.expressions.now.items mid new d last last c.entries.invariant.so_far passes or;
      same = c.entries.invariant.same;
      goes = goes-then c.args.cursor.now here after c.entries.invariant.goes
          (subst (λ (r : ReadPosition). MovesForward r after) (c.copy-aside.ensures ∙ c.in-None.ensures.exact.0)
          c.in_ok-passed.ensures.goes_on);
    }

pub returns-clause-exact : goal.returns-clause-exact
returns-clause-exact c =
    let here = c.entries.ahead in
    let so_far = c.entries.invariant.so_far in
    let at_end : here.position ≡ c.args.end =
    omega (arith, c.entries-test.false, c.position.ensures, c.entries.invariant.goes.same_end, c.requires) in
    let ended : entries_at c.entries.has_default here ≡ no-list (record { kind = NoEnd; at = c.args.end }) =
    entries-end c.entries.has_default here (omega (arith, at_end, c.entries.invariant.goes.same_end, c.requires))
    ∙ ap (λ (n : ℕ). no-list (record { kind = NoEnd; at = n })) at_end in
    inr (list-stops c.args.cursor.now here c.entries.has_default so_far.0 (record { kind = NoEnd; at = c.args.end }) so_far.1 ended)

pub returns-clause-goes_on : goal.returns-clause-goes_on
returns-clause-goes_on c = subst (λ (r : ReadPosition). MovesForward c.args.cursor.now r) (sym c.entries.invariant.same)
    (goes-nowhere c.args.cursor.now)
