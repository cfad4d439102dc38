-- The code's answer to a command line, by what clap found, is one that `AsksBy` allows.
use Rattle.std.proofs.Common.{◌≡◌, ◌⊎◌, List, [], inl, inr, subst}
use Rattle.std.specs.Prelude.{Option, Some, Result, Ok, Err, IfOk, IfErr}
use Rattle.std.specs.Option.{IsSomeAnd}
use Rattle.clap.specs.Words.{HasKind, IsAmong, Kinds, Row, Text, kind_of}
use Rattle.clap.specs.declared.Error.{Error}
use Rattle.dw_requests.specs.Requests.{Asked, asked_by, AsksBy, IsUsageOf, HasBadWord}
use Rattle.dw_requests.specs.declared.requests.Usage.{Usage}
use Rattle.dw_requests.specs.declared.requests.Usage.TheVariants.{Line, BadArgument, Memory}

-- if clap found no fault, the answer may be the request that clap's matches give, `Memory`, or, if
-- an argument is malformed, `BadArgument`
pub answered : (faults : Kinds) (matches : Option (Text × List Row)) (r : Result Asked Usage) → faults ≡ []
    → IfOk r (λ q. IsSomeAnd matches (λ (name, rows). asked_by name rows ≡ Some q))
    → IfErr r (λ e. (e ≡ Memory) ⊎ ((e ≡ BadArgument) × IsSomeAnd matches (λ (name, rows). HasBadWord name rows)))
    → AsksBy faults matches r
answered faults matches (Ok q) none ok err = (none, ok)
answered faults matches (Err (Line text)) none ok (inl e) = cc
answered faults matches (Err (Line text)) none ok (inr e) = let f = e.0 in cc
answered faults matches (Err BadArgument) none ok (inl e) = cc
answered faults matches (Err BadArgument) none ok (inr e) = (none, e.1)
answered faults matches (Err Memory) none ok err = tt

-- if clap failed, the answer may be `Memory`, or clap's text unless clap failed because memory ran
-- out
pub refused : (faults : Kinds) (matches : Option (Text × List Row)) (e : Error) (u : Usage) → HasKind faults e → IsUsageOf (kind_of e) u
    → AsksBy faults matches (Err u)
refused faults matches e (Line text) (inl h) k = absurd (k h)
refused faults matches e (Line text) (inr h) k = λ none. subst (λ ks. IsAmong (kind_of e) ks) none h
refused faults matches e BadArgument h k = absurd k
refused faults matches e Memory h k = tt
