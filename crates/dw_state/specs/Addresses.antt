-- How numbers, addresses and offsets are parsed. A text that is malformed gives None.
use Rattle.std.specs.Prelude.{◌&&◌, ℕ, nat_lt, nat_le, if◌then◌else◌, List, length, take, drop, Option, Some, None, option_and_then, codes}
use Rattle.std.specs.List.{list_all}
use Rattle.std.specs.Char.{digit_value}
use Rattle.std.specs.Str.{bytes_eq}
use Rattle.std.specs.Str.Parse.{digits_value}
use Rattle.dw_bytes.specs.declared.target.Target.{Target}
use Rattle.dw_frame.specs.Sections.{top_of}

-- the number written in 1 to `most` digits of base `radix`
abbrev pub number_of : ℕ → ℕ → List ℕ → Option ℕ
number_of radix most ds = if nat_lt 0 (length ds) && nat_le (length ds) most && list_all (λ c. nat_lt (digit_value c) radix) ds
    then Some (digits_value radix ds) else None

-- the number written in 1 to 16 hex digits of either case
abbrev pub hex_of : List ℕ → Option ℕ
hex_of ds = number_of 16 16 ds

-- n if it is at most `top`, and else None
abbrev pub at_most : ℕ → ℕ → Option ℕ
at_most top n = if nat_le n top then Some n else None

-- the number written in 1 to 5 decimal digits, if it is at most 65535
abbrev pub short_number : List ℕ → Option ℕ
short_number digits = option_and_then (at_most 65535) (number_of 10 5 digits)

-- the number written as `0x` and 1 to 16 hex digits, if it is at most `top`
abbrev pub hex_up_to : ℕ → List ℕ → Option ℕ
hex_up_to top text = if bytes_eq (take 2 text) (codes "0x") then option_and_then (at_most top) (hex_of (drop 2 text))
    else None

-- the address written as `0x` and 1 to 16 hex digits, if it is at most the target's greatest
-- address
abbrev pub address_of : Target → List ℕ → Option ℕ
address_of target text = hex_up_to (top_of target) text

-- the section offset written as `0x` and 1 to 16 hex digits, if it is at most 2^32 - 1
abbrev pub offset_of : List ℕ → Option ℕ
offset_of text = hex_up_to 0xffffffff text
