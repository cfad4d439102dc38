-- The command line of `dwcheck`: a table of its commands, and what clap is told of them (`App`).
use Rattle.std.specs.Prelude.{ℕ, Bool, true, false, if◌then◌else◌, List, [], ◌∷◌, ◌++◌, Option, Some, None, option_map, option_and_then}
use Rattle.std.specs.Prelude.{codes}
use Rattle.clap.specs.declared.builder.ArgAction.TheVariants.{Append, Set, SetTrue}
use Rattle.clap.specs.Simple.{on_top}
use Rattle.clap.specs.Words.{App, Row, Rule, Text, new_app, new_rule, with_rule, with_subcommand}
use Rattle.dw_requests.specs.Arguments.{Word, file, address, offset, kind, limit, named_module, address_at, offset_at, kind_at, limit_at}
use Rattle.dw_requests.specs.declared.requests.ListLookup.{ListLookup}
use Rattle.dw_requests.specs.declared.requests.Task.{Task}
use Rattle.dw_requests.specs.declared.requests.Task.TheVariants as tasks

-- A command: its name; its words in order, each with its name and what it means; whether it takes
-- the options `--state`, `--load` and `--module`; and the task that its words give, which is None
-- if one of them is malformed.
pub record Command : Type 0 where
  pub name : Text
  pub words : List (Text × Word)
  pub has_state : Bool
  pub has_load : Bool
  pub has_modules : Bool
  pub task : List Row → Option Task

abbrev pub check_command : Command
check_command = record {
  name = codes "check";
  words = (codes "FRAME", file) ∷ (codes "LISTS", file) ∷ [];
  has_state = false;
  has_load = false;
  has_modules = false;
  task = λ rows. Some tasks.Check;
}

abbrev pub rows_command : Command
rows_command = record {
  name = codes "rows";
  words = (codes "FRAME", file) ∷ [];
  has_state = false;
  has_load = false;
  has_modules = false;
  task = λ rows. Some tasks.Rows;
}

abbrev pub row_command : Command
row_command = record {
  name = codes "row";
  words = (codes "FRAME", file) ∷ (codes "ADDRESS", address) ∷ [];
  has_state = false;
  has_load = true;
  has_modules = false;
  task = λ rows. option_map tasks.Row (address_at (codes "ADDRESS") rows);
}

-- what `locs` looks up: the offset of a list, the base address of a unit, and an address; None if
-- one of the three is missing or malformed
abbrev pub lookup_of : Option ℕ → Option ℕ → Option ℕ → Option ListLookup
lookup_of (Some l) (Some b) (Some a) = Some (record { list = l; base = b; address = a })
lookup_of _ _ _ = None

abbrev pub lookup_in : List Row → Option ListLookup
lookup_in rows = lookup_of (offset_at (codes "LIST") rows) (address_at (codes "BASE") rows) (address_at (codes "ADDRESS") rows)

abbrev pub locs_command : Command
locs_command = record {
  name = codes "locs";
  words = (codes "LISTS", file) ∷ (codes "LIST", offset) ∷ (codes "BASE", address) ∷ (codes "ADDRESS", address) ∷ [];
  has_state = true;
  has_load = false;
  has_modules = false;
  task = λ rows. option_map tasks.Locs (lookup_in rows);
}

abbrev pub eval_command : Command
eval_command = record {
  name = codes "eval";
  words = (codes "KIND", kind) ∷ (codes "EXPR", file) ∷ [];
  has_state = true;
  has_load = false;
  has_modules = false;
  task = λ rows. option_map tasks.Eval (kind_at (codes "KIND") rows);
}

abbrev pub unwind_command : Command
unwind_command = record {
  name = codes "unwind";
  words = (codes "FRAME", file) ∷ (codes "ADDRESS", address) ∷ (codes "STATE", file) ∷ [];
  has_state = false;
  has_load = true;
  has_modules = true;
  task = λ rows. option_map tasks.Unwind (address_at (codes "ADDRESS") rows);
}

-- the task of `backtrace`: a walk from an address, with the greatest number of frames; None if the
-- address or that number is malformed
abbrev pub backtrace_in : List Row → Option Task
backtrace_in rows = option_and_then (λ a. option_map (tasks.Backtrace a) (limit_at (codes "LIMIT") rows))
    (address_at (codes "ADDRESS") rows)

abbrev pub backtrace_command : Command
backtrace_command = record {
  name = codes "backtrace";
  words = (codes "FRAME", file) ∷ (codes "ADDRESS", address) ∷ (codes "STATE", file) ∷ (codes "LIMIT", limit) ∷ [];
  has_state = false;
  has_load = true;
  has_modules = true;
  task = backtrace_in;
}

-- the words of a command, and its options other than `--state`, whose value is just the name of a
-- file
abbrev pub arguments_of : Command → List (Text × Word)
arguments_of c = c.words ++ ((if c.has_load then (codes "load", address) ∷ [] else [])
    ++ (if c.has_modules then (codes "module", named_module) ∷ [] else []))

abbrev pub commands : List Command
commands = check_command ∷ rows_command ∷ row_command ∷ locs_command ∷ eval_command ∷ unwind_command ∷ backtrace_command ∷ []

-- ---- what clap is told of the commands

-- a flag by its long name
abbrev pub flag_rule : Text → Rule
flag_rule name = record (new_rule name) { long = Some name; action = Some SetTrue }

-- an option with a value, by its long name
abbrev pub option_rule : Text → Rule
option_rule name = record (new_rule name) { long = Some name; action = Some Set }

-- an option that can be given any number of times, each with a value
abbrev pub list_rule : Text → Rule
list_rule name = record (new_rule name) { long = Some name; action = Some Append }

-- a required word
abbrev pub word_rule : Text → Rule
word_rule name = record (new_rule name) { required = true }

-- the command `app`, with the flags that every command takes added
abbrev pub with_flags : App → App
with_flags app = with_rule (with_rule (with_rule app (flag_rule (codes "big"))) (flag_rule (codes "addr4"))) (flag_rule (codes "hex"))

abbrev pub with_words : App → List (Text × Word) → App
with_words app [] = app
with_words app (word ∷ words) = with_words (with_rule app (word_rule word.0)) words

-- the command `app`, with an option added if the truth value is true, else unchanged
abbrev pub with_option : App → Rule → Bool → App
with_option app rule false = app
with_option app rule true = with_rule app rule

-- `app`, with each of `--state`, `--load` and `--module` added that the command `c` takes
abbrev pub with_options : App → Command → App
with_options app c = with_option (with_option (with_option app (option_rule (codes "state")) c.has_state)
    (option_rule (codes "load")) c.has_load) (list_rule (codes "module")) c.has_modules

abbrev pub app_of_command : Command → App
app_of_command c = with_options (with_words (with_flags (new_app c.name)) c.words) c

abbrev pub with_commands : App → List Command → App
with_commands app [] = app
with_commands app (c ∷ cs) = with_commands (with_subcommand app (app_of_command c).top) cs

-- The command `dwcheck` with all its subcommands. A subcommand is required.
abbrev pub dwcheck : App
dwcheck = on_top (λ s. record s { subcommand_required = true }) (with_commands (new_app (codes "dwcheck")) commands)
