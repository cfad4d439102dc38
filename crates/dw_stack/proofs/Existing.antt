-- A good expression has a depth and states. Every expression is good or has a first fault, whether
-- or not the caller passes states.
use Rattle.std.proofs.Common.{◌≡◌, ◌⊎◌, ℕ, List, length, Option, Some, None, refl, inl, inr}
use Rattle.std.proofs.lemmas.Bool.{cases_eq}
use Rattle.dw_bytes.specs.declared.target.Target.{Target}
use Rattle.dw_bytes.specs.declared.fault.Fault.{Fault}
use Rattle.dw_bytes.specs.declared.fault.FaultKind.TheVariants.{CertLength}
use Rattle.dw_stack.specs.declared.state.State.{State}
use Rattle.dw_stack.specs.declared.state.Kind.{Kind}
use Rattle.dw_stack.specs.Expressions.{operations_in, reading_fault, IsGoodExpression, IsDepthOf, AreStatesOf, IsOtherCount, IsFaultOf}
use Rattle.dw_stack.specs.Expressions.{Knows}
use Rattle.dw_stack.specs.Faults.{KnowsOnly}
use Rattle.dw_stack.proofs.Deciding.{Certified, named}
use Rattle.dw_stack.proofs.Encoded.{laid_out, encoded_of, laid_if_read}
use Rattle.dw_stack.proofs.Verdicts.{good_refuses}
use Rattle.dw_stack.proofs.Whole.{states_known}

module _ (kind : Kind) (target : Target) (bytes : List ℕ) where
  certified_of : IsGoodExpression kind target bytes → Certified kind (operations_in target bytes) (length bytes) None
  certified_of good =
      let laid = laid_out target bytes (operations_in target bytes) good.encoded in
      elim (named kind (operations_in target bytes) (length bytes) laid None) [
        | inl certified ↦ certified.1
        | inr bad ↦ absurd (good_refuses kind (operations_in target bytes) (length bytes) laid None
            (λ k x s stands r. tt) good.good bad.0 bad.1 bad.3.refuses)
      ]

  pub each_has_a_depth : IsGoodExpression kind target bytes → (d : ℕ) × IsDepthOf kind target bytes d
  each_has_a_depth good = let certified = certified_of good in (certified.depth, certified.deepest)

  pub each_has_a_certificate : IsGoodExpression kind target bytes → (states : List State) × AreStatesOf kind target bytes states
  each_has_a_certificate good = let certified = certified_of good in (certified.states, certified.are)

  -- the number of states that the caller passed is the number of operations, or it is another
  -- number
  count_tells : (given : Option (List State)) → (IsOtherCount target bytes given → ⊥) ⊎ IsOtherCount target bytes given
  count_tells None = inl (λ other. other)
  count_tells (Some states) = elim (cases_eq (length states) (length (operations_in target bytes))) [
    | inl same ↦ inl (λ other. other same)
    | inr other ↦ inr other
  ]

  knows_of : (given : Option (List State)) → (IsOtherCount target bytes given → ⊥)
      → KnowsOnly kind (operations_in target bytes) (length bytes) given → Knows kind target bytes given
  knows_of None same known = tt
  knows_of (Some states) same known = elim (cases_eq (length states) (length (operations_in target bytes))) [
    | inl long ↦ states_known kind (operations_in target bytes) (length bytes) states long known
    | inr other ↦ absurd (same other)
  ]

  pub every_expression_has_a_verdict : (given : Option (List State)) → (IsGoodExpression kind target bytes × Knows kind target bytes given)
      ⊎ ((f : Fault) × IsFaultOf kind target bytes given f)
  every_expression_has_a_verdict given = by_reading (reading_fault target bytes) refl
    where
      by_reading : (o : Option Fault) → reading_fault target bytes ≡ o
          → (IsGoodExpression kind target bytes × Knows kind target bytes given) ⊎ ((f : Fault) × IsFaultOf kind target bytes given f)
      by_reading (Some f) is = inr (f, inl is)
      by_reading None is = elim (count_tells given) [
        | inr other ↦ inr (record { kind = CertLength; at = 0 }, inr (inl (is, other, refl)))
        | inl same ↦ elim (named kind (operations_in target bytes) (length bytes) (laid_if_read target bytes is) given) [
          | inl certified ↦ inl (
            record { encoded = encoded_of target bytes is; good = certified.1.good },
            knows_of given same certified.1.known,
          )
          | inr bad ↦ inr (record { kind = bad.0; at = bad.1 }, inr (inr (is, same, bad.3)))
        ]
      ]
