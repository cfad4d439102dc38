use Rattle.std.proofs.Common.{◌≡◌, ◌++◌, ◌∷◌, [], List, ℕ, length, take, drop, sym, ap, subst, ◌∙◌, arith}
use Rattle.std.proofs.lemmas.List.{length-append}
use Rattle.std.proofs.Math.Seq.{take-append_seam}
use Rattle.dw_bytes.specs.declared.target.Target.{Target}
use Rattle.dw_stack.specs.declared.state.Kind.{Kind}
use Rattle.dw_stack.specs.Expressions.{IsChecked}
use Rattle.dw_stack.specs.Certificates.{checked_of}
use Rattle.dw_stack.specs.Located.{LocatedExpression, located_of}
use Rattle.dw_rules.specs.declared.owned_expressions.OwnedExpression.{OwnedExpression}
use Rattle.dw_rules.specs.OwnedExpressions.{owned_in, IsOwned}
use Rattle.dw_rules.proofs.ExpressionBytes.{bytes-past, one-more, all-bytes-more, owned-checked}
use Rattle.dw_rules.proofs.owned_expressions.ExpressionList.push.Goals as goal

pub invariant_of-self-then-is_err : goal.invariant_of-self-then-is_err
invariant_of-self-then-is_err c =
    let bytes = c.self.inside.bytes.items in
    let its = c.bytes-bytes.result.now in
    let more : c.extend_from_slice.new.self.items ≡ bytes ++ its = c.in_ok-extend_from_slice.ensures.items in
    let begins : c.in-Ok.start ≡ length bytes = omega (arith, c.in-Ok.ensures, c.len.ensures, c.self.inside.bytes.ok.0) in
    let back : c.truncate.new.self.items ≡ bytes =
    c.truncate.ensures.items ∙ ap (λ (l : List ℕ). take c.in-Ok.start l) more ∙ ap (λ (n : ℕ). take n (bytes ++ its)) begins
    ∙ take-append_seam bytes its in
    let kept : c.push.new.self.items ≡ c.self.inside.kept.items = rw c.if-is_err.ensures.negation at c.push.ensures.items in
    rw (back, kept) c.self.invariant

-- the entry that is added
abbrev one : goal.Else-is_err → OwnedExpression
one c = record {
  offset = c.args.offset;
  start = c.in-Ok.start;
  length = c.in-Ok-try_from.length;
  count = c.operation_count.result;
  depth = c.depth.result;
  kind = c.kind.result;
  target = c.target.result;
}

begins : (c : goal.Else-is_err) → c.in-Ok.start ≡ length c.self.inside.bytes.items
begins c = omega (arith, c.in-Ok.ensures, c.len.ensures, c.self.inside.bytes.ok.0)

long : (c : goal.Else-is_err) → c.in-Ok-try_from.length ≡ length c.bytes-bytes.result.now
long c = omega (arith, c.in-Ok-try_from.ensures)

past : (c : goal.Else-is_err) → take c.in-Ok-try_from.length (drop c.in-Ok.start (c.self.inside.bytes.items ++ c.bytes-bytes.result.now))
    ≡ c.bytes-bytes.result.now
past c = bytes-past c.self.inside.bytes.items c.bytes-bytes.result.now c.in-Ok.start c.in-Ok-try_from.length (begins c) (long c)

-- the bytes that are added are the expression's bytes
same : (c : goal.Else-is_err) → c.bytes-bytes.result.now ≡ (checked_of c.args.checked.now).bytes
same c = c.bytes-bytes.ensures ∙ c.expression.ensures.bytes

owned : (c : goal.Else-is_err) → IsOwned (c.self.inside.bytes.items ++ c.bytes-bytes.result.now) (one c)
owned c =
    let is = checked_of c.args.checked.now in
    let bytes = c.self.inside.bytes.items ++ c.bytes-bytes.result.now in
    let k = one c in record {
      inside = omega (arith, begins c, long c, length-append c.self.inside.bytes.items c.bytes-bytes.result.now);
      checked = subst (λ (l : List ℕ). IsChecked (record { kind = k.kind; target = k.target; bytes = l; depth = k.depth; count = k.count }))
          (sym (past c ∙ same c))
          (owned-checked is.kind k.kind is.target _ k.target is.bytes _ k.depth k.count c.expression.ensures.good
          c.expression.ensures.target c.expression.ensures.bytes c.kind.ensures (c.target.ensures ∙ c.expression-2.ensures.target)
          c.depth.ensures.depth c.operation_count.ensures.count);
    }

pub invariant_of-self-else-is_err : goal.invariant_of-self-else-is_err
invariant_of-self-else-is_err c =
    let more : c.extend_from_slice.new.self.items ≡ c.self.inside.bytes.items ++ c.bytes-bytes.result.now =
    c.in_ok-extend_from_slice.ensures.items in
    let kept : c.push.new.self.items ≡ c.self.inside.kept.items ++ one c ∷ [] = rw c.if-is_err.ensures.negation at c.push.ensures.items in
    rw (more, kept)
    (all-bytes-more c.self.inside.bytes.items c.bytes-bytes.result.now c.self.inside.kept.items (one c) c.self.invariant (owned c) (past c))

pub returns : goal.returns
returns c =
    let bytes = c.self.inside.bytes.items in
    let its = c.bytes-bytes.result.now in
    let more : c.extend_from_slice.new.self.items ≡ bytes ++ its = c.in_ok-extend_from_slice.ensures.items in
    let kept : c.push.new.self.items ≡ c.self.inside.kept.items ++ one c ∷ [] = rw c.if-is_err.ensures.negation at c.push.ensures.items in
    let is = checked_of c.args.checked.now in
    let with : Kind → Target → List ℕ → LocatedExpression =
    λ k t l. record { offset = c.args.offset; kind = k; target = t; bytes = l } in
    let new : owned_in (bytes ++ its) (one c) ≡ located_of (c.args.offset, c.args.checked.now) =
    ap (λ (l : List ℕ). with c.kind.result c.target.result l) (past c ∙ same c)
    ∙ ap (λ (k : Kind). with k c.target.result is.bytes) c.kind.ensures
    ∙ ap (λ (t : Target). with is.kind t is.bytes) (c.target.ensures ∙ c.expression-2.ensures.target) in
    rw (more, kept)
    (one-more bytes its c.self.inside.kept.items (one c) c.self.invariant.owned
    ∙ ap (λ (l : List LocatedExpression). l ++ owned_in (bytes ++ its) (one c) ∷ []) c.self.view_is
    ∙ ap (λ (x : LocatedExpression). c.args.self.now ++ x ∷ []) new)
