use Rattle.std.proofs.Common.{◌≡◌, rules, length, ◌<◌, ◌≤◌, arith}
use Rattle.std.specs.Str.Parse.{without_leading_plus}
use Rattle.dw_state.proofs.Digits.{no_plus, read_ok, read_none, digits_fit, digits_are_text, radix_small}
use Rattle.dw_state.proofs.addresses.parse_number.Goals as goal

pub returns-in_default : goal.returns-in_default
returns-in_default c =
    let ds = c.args.digits.now in
    let r = radix_small c.args.radix c.requires.radix in
    read_none c.args.radix c.args.most ds (search rules) (search rules)
    (λ all. c.in_default.ensures.cases.0 (digits_are_text c.args.radix ds r.1 all))

pub returns-in-Ok-from_str_radix : goal.returns-in-Ok-from_str_radix
returns-in-Ok-from_str_radix c =
    let ds = c.args.digits.now in
    let plain : without_leading_plus ds ≡ ds = no_plus ds (search rules) in
    let read = rw (c.in-Ok.ensures.cases.0, plain) at c.in-Ok-from_str_radix.ensures.value in
    read_ok c.args.radix c.args.most ds c.in-Ok-from_str_radix.value (search rules) (search rules) read.0.0.1 read.1

pub returns-in-Err : goal.returns-in-Err
returns-in-Err c =
    let ds = c.args.digits.now in
    let r = radix_small c.args.radix c.requires.radix in
    let plain : without_leading_plus ds ≡ ds = no_plus ds (search rules) in
    let read = rw (c.in-Ok.ensures.cases.0, plain) at c.in-Err.ensures.value in
    let some : 0 < length ds = search rules in
    let short : length ds ≤ c.args.most = search rules in
    let small : length ds ≤ 16 = omega (arith, short, c.requires.most) in
    read_none c.args.radix c.args.most ds some short (λ all. read ((some, all), digits_fit c.args.radix ds r.0 r.1 all small))
