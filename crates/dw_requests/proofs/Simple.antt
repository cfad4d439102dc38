-- The command line of `dwcheck` is simple in the sense of clap's contracts, which then say exactly
-- what clap finds in the words.
use Rattle.std.proofs.Common.{◌≡◌, true, refl}
use Rattle.clap.specs.Words.{is_simple, is_simple_and_free}
use Rattle.clap.proofs.OnLiterals.{clap_on_literals}
use Rattle.dw_requests.specs.Commands.{dwcheck}

pub is_simple_dwcheck : is_simple dwcheck ≡ true
unfolding clap_on_literals
is_simple_dwcheck = refl

pub is_free_dwcheck : is_simple_and_free dwcheck ≡ true
unfolding clap_on_literals
is_free_dwcheck = refl
