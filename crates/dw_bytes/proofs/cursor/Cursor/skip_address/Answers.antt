use Rattle.std.proofs.Common.{◌≡◌, ℕ, List, Ok, refl, subst, arith}
use Rattle.std.proofs.lemmas.Grind.{common_steps}
use Rattle.dw_bytes.specs.Encoding.{number, bytes_of_address}
use Rattle.dw_bytes.specs.Reading.{ReadPosition, take_at, fixed_at}
use Rattle.dw_bytes.proofs.cursor.Cursor.skip_address.Goals as goal

-- if the next n bytes can be taken, they can also be read as a number of n bytes
passed : (n : ℕ) (r after : ReadPosition) (bytes : List ℕ) → take_at n r ≡ Ok (bytes, after)
    → fixed_at n r ≡ Ok (number r.target.order n bytes, after)
unfolding fixed_at
passed n r after bytes is = rw is refl

pub returns-in-Ok-clause-exact : goal.returns-in-Ok-clause-exact
returns-in-Ok-clause-exact c =
    let r = c.args.self.now in
    let bytes = c.in-Ok.field-0.now in
    let size : c.from-size.result ≡ bytes_of_address r.target.address_size = grind (arith, common_steps) in
    let taken : take_at (bytes_of_address r.target.address_size) r ≡ Ok (bytes, c.take.new.self) =
    subst (λ (n : ℕ). take_at n r ≡ Ok (bytes, c.take.new.self)) size c.in-Ok.ensures.exact in (
      number r.target.order (bytes_of_address r.target.address_size) bytes,
      passed (bytes_of_address r.target.address_size) r c.take.new.self bytes taken,
    )
