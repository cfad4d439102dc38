-- What the words, flags and options of a command mean. `rows` is what clap found: the names of
-- arguments, each with its values. (These aren't the rows of an unwind table.)
use Rattle.std.specs.Prelude.{◌≡◌, Bool, false, if◌then◌else◌, List, [], ℕ, Option, Some, None, option_and_then, unwrap_or, codes}
use Rattle.std.specs.Option.{option_map_or, IsSomeAnd}
use Rattle.std.specs.List.{Any}
use Rattle.std.specs.Str.{bytes_eq}
use Rattle.clap.specs.Words.{Row, Text, all_of, first_of}
use Rattle.dw_bytes.specs.declared.target.Target.{Target}
use Rattle.dw_bytes.specs.declared.target.Order.TheVariants.{Little, Big}
use Rattle.dw_bytes.specs.declared.target.AddressSize.TheVariants.{Four, Eight}
use Rattle.dw_stack.specs.declared.state.Kind.{Kind}
use Rattle.dw_stack.specs.declared.state.Kind.TheVariants.{FrameCfa, FrameRegister, Location}
use Rattle.dw_state.specs.Addresses.{address_of, offset_of, short_number}
use Rattle.dw_requests.specs.NamedModules.{NamedModule, module_of, modules_of}

-- whether a flag was given
abbrev pub flag_of : Text → List Row → Bool
flag_of name rows = option_map_or (λ text. bytes_eq text (codes "true")) (first_of name rows) false

-- the target that the flags give: big-endian if `--big` is given, else little-endian; with 4-byte
-- addresses if `--addr4` is given, else with 8-byte addresses
abbrev pub target_by_flags : List Row → Target
target_by_flags rows = record {
  order = (if flag_of (codes "big") rows then Big else Little);
  address_size = (if flag_of (codes "addr4") rows then Four else Eight);
}

-- the kind of expression that a word names; None if no kind has that name
abbrev pub kind_of : Text → Option Kind
kind_of name =
    if bytes_eq name (codes "cfa") then Some FrameCfa
    else (if bytes_eq name (codes "register") then Some FrameRegister
    else (if bytes_eq name (codes "location") then Some Location
    else None))

-- What a word or the value of an option means: the name of a file; an address of the target; an
-- offset in a section; a kind of expression; the greatest number of frames shown; or a further
-- module, which may be given several times.
pub data Word : Type 0 where
  file : Word
  address : Word
  offset : Word
  kind : Word
  limit : Word
  named_module : Word

-- `file_at` and the four definitions after it give the value of the argument called `name`, or None
-- if the argument is missing or malformed. `file_at` also gives None if the argument isn't the name
-- of a file.
abbrev pub file_at : List Row → Text × Word → Option Text
file_at rows (name, file) = first_of name rows
file_at rows (name, _) = None

abbrev pub address_at : Text → List Row → Option ℕ
address_at name rows = option_and_then (address_of (target_by_flags rows)) (first_of name rows)

abbrev pub offset_at : Text → List Row → Option ℕ
offset_at name rows = option_and_then offset_of (first_of name rows)

abbrev pub kind_at : Text → List Row → Option Kind
kind_at name rows = option_and_then kind_of (first_of name rows)

abbrev pub limit_at : Text → List Row → Option ℕ
limit_at name rows = option_and_then short_number (first_of name rows)

-- the load address of the module whose frame section is FRAME: the value of `--load`, or 0 without
-- that option; None if the value is malformed
abbrev pub load_in : List Row → Option ℕ
load_in rows = option_map_or (address_of (target_by_flags rows)) (first_of (codes "load") rows) (Some 0)

-- all values of an option, in the order of the command line; no values if the option isn't given
abbrev pub values_of : Text → List Row → List Text
values_of name rows = unwrap_or (all_of name rows) []

-- the modules that the values of `--module` give, in order; None if one of the values is malformed
abbrev pub modules_in : List Row → Option (List NamedModule)
modules_in rows = modules_of (target_by_flags rows) (values_of (codes "module") rows)

-- The argument of this name is given, and a value of it is malformed. The name of a file is never
-- malformed.
abbrev pub IsBad : List Row → Text × Word → Type 0
IsBad rows (name, file) = ⊥
IsBad rows (name, address) = IsSomeAnd (first_of name rows) (λ text. address_of (target_by_flags rows) text ≡ None)
IsBad rows (name, offset) = IsSomeAnd (first_of name rows) (λ text. offset_of text ≡ None)
IsBad rows (name, kind) = IsSomeAnd (first_of name rows) (λ text. kind_of text ≡ None)
IsBad rows (name, limit) = IsSomeAnd (first_of name rows) (λ text. short_number text ≡ None)
IsBad rows (name, named_module) = Any (λ text. module_of (target_by_flags rows) text ≡ None) (values_of name rows)
