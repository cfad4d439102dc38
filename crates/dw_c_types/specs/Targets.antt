-- The byte order and address size that C's numbers stand for.
use Rattle.std.specs.Prelude.{ℕ, ◌==◌, if◌then◌else◌, Option, Some, None}
use Rattle.dw_bytes.specs.declared.target.Target.{Target}
use Rattle.dw_bytes.specs.declared.target.Order.{Order}
use Rattle.dw_bytes.specs.declared.target.Order.TheVariants.{Little, Big}
use Rattle.dw_bytes.specs.declared.target.AddressSize.{AddressSize}
use Rattle.dw_bytes.specs.declared.target.AddressSize.TheVariants.{Four, Eight}

-- the byte order that C's number stands for: 0 is little, 1 is big; None for any other number
abbrev pub order_by : ℕ → Option Order
order_by n = if n == 0 then Some Little else if n == 1 then Some Big else None

-- the address size of n bytes; None unless n is 4 or 8
abbrev pub size_by : ℕ → Option AddressSize
size_by n = if n == 4 then Some Four else if n == 8 then Some Eight else None

abbrev pub target_from : Option Order → Option AddressSize → Option Target
target_from (Some order) (Some size) = Some (record { order = order; address_size = size })
target_from _ _ = None

abbrev pub target_by : ℕ → ℕ → Option Target
target_by order size = target_from (order_by order) (size_by size)
