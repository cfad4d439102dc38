-- The request that a command line makes, and the errors that it may be answered with.
use Rattle.std.specs.Prelude.{◌≡◌, ◌⊎◌, ℕ, Bool, true, false, List, [], ◌∷◌, ◌++◌, map, Option, Some, None, option_and_then, Result}
use Rattle.std.specs.Prelude.{Ok, Err, codes}
use Rattle.std.specs.Option.{IsSomeAnd, option_to_list}
use Rattle.std.specs.List.{filter_map, find}
use Rattle.std.specs.Str.{bytes_eq}
use Rattle.clap.specs.declared.error.ErrorKind.{ErrorKind}
use Rattle.clap.specs.declared.error.ErrorKind.TheVariants.{OutOfMemory}
use Rattle.clap.specs.Words.{Kinds, Row, Text, fault_of, first_of, subcommand_of}
use Rattle.dw_bytes.specs.declared.target.Target.{Target}
use Rattle.dw_requests.specs.Arguments.{Word, flag_of, target_by_flags, file_at, load_in, modules_in, IsBad}
use Rattle.dw_requests.specs.NamedModules.{NamedModule}
use Rattle.dw_requests.specs.Commands.{Command, arguments_of, commands, dwcheck}
use Rattle.dw_requests.specs.declared.requests.Task.{Task}
use Rattle.dw_requests.specs.declared.requests.Usage.{Usage}
use Rattle.dw_requests.specs.declared.requests.Usage.TheVariants.{Line, BadArgument, Memory}

-- A request: the task, the target of the files, the load address of the frame section's module, the
-- load addresses of the further modules, whether sections and expressions are hex text, and the
-- names of the files, which end with the files of the further modules.
pub record Asked : Type 0 where
  pub task : Task
  pub target : Target
  pub load : ℕ
  pub module_loads : List ℕ
  pub hex : Bool
  pub files : List Text

-- the name in `--state`; None if the command doesn't take that option or it isn't given
abbrev pub state_at : Bool → List Row → Option Text
state_at false rows = None
state_at true rows = first_of (codes "state") rows

-- the files that a command's words name, in the order of the words, and then the file of `--state`
abbrev pub files_of : Command → List Row → List Text
files_of c rows = filter_map (file_at rows) c.words ++ option_to_list (state_at c.has_state rows)

-- the load address of the module whose frame section is FRAME: 0 unless the command takes `--load`
-- and that option is given; None if its value is malformed
abbrev pub load_at : Bool → List Row → Option ℕ
load_at false rows = Some 0
load_at true rows = load_in rows

-- The modules that `--module` gives; no modules if the command doesn't take that option. None if
-- one of its values is malformed.
abbrev pub modules_at : Bool → List Row → Option (List NamedModule)
modules_at false rows = Some []
modules_at true rows = modules_in rows

-- the request for a task, with files, a load address and the modules of `--module`; None if the
-- task, the address or the modules are None
abbrev pub asked_with : List Row → List Text → Option Task → Option ℕ → Option (List NamedModule) → Option Asked
asked_with rows files (Some task) (Some load) (Some modules) = Some (record {
  task = task;
  target = target_by_flags rows;
  load = load;
  module_loads = map (λ m. m.load) modules;
  hex = flag_of (codes "hex") rows;
  files = files ++ map (λ m. m.file) modules;
})
asked_with rows files _ _ _ = None

-- the request of a command, given what clap matched
abbrev pub asked_of : Command → List Row → Option Asked
asked_of c rows = asked_with rows (files_of c rows) (c.task rows) (load_at c.has_load rows) (modules_at c.has_modules rows)

-- the command with a name; None if there is no such command
abbrev pub command_of : Text → Option Command
command_of name = find (λ c. bytes_eq name c.name) commands

abbrev pub asked_by : Text → List Row → Option Asked
asked_by name rows = option_and_then (λ c. asked_of c rows) (command_of name)

-- one of the arguments is given and malformed
abbrev pub HasBad : List Row → List (Text × Word) → Type 0
HasBad rows [] = ⊥
HasBad rows (word ∷ words) = IsBad rows word ⊎ HasBad rows words

-- a word or the value of an option of the command with this name is given and malformed
abbrev pub HasBadWord : Text → List Row → Type 0
HasBadWord name rows = IsSomeAnd (command_of name) (λ c. HasBad rows (arguments_of c))

-- ---- what an answer must be

-- What the answer to a command line must be, given the faults and the matches that clap finds in
-- its words.
abbrev pub AsksBy : Kinds → Option (Text × List Row) → Result Asked Usage → Type 0
AsksBy faults matches (Ok asked) = (faults ≡ []) × IsSomeAnd matches (λ (name, rows). asked_by name rows ≡ Some asked)
AsksBy faults matches (Err BadArgument) = (faults ≡ []) × IsSomeAnd matches (λ (name, rows). HasBadWord name rows)
AsksBy faults matches (Err (Line _)) = ¬ (faults ≡ [])
AsksBy faults matches (Err Memory) = Unit {0}

-- what the answer to a command line must be, by what clap's contract says of its words
abbrev pub AsksFor : List Text → Result Asked Usage → Type 0
AsksFor words r = AsksBy (fault_of dwcheck words) (subcommand_of dwcheck words) r

-- An error of clap may be answered with a text, unless the error is that memory ran out. Any error
-- may be answered with `Memory`.
abbrev pub IsUsageOf : ErrorKind → Usage → Type 0
IsUsageOf kind (Line _) = ¬ (kind ≡ OutOfMemory)
IsUsageOf kind BadArgument = ⊥
IsUsageOf kind Memory = Unit {0}
