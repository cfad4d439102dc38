-- The commands that the code describes to clap (`Outline` in src/command_line.rt), as values of
-- `Command` (Commands.antt). An outline doesn't say what a word means or what a command does. So
-- each word counts as the name of a file here, and no command has a task.
use Rattle.std.specs.Prelude.{ℕ, List, map, None}
use Rattle.std.specs.Borrow.{Bor}
use Rattle.clap.specs.Words.{Text}
use Rattle.dw_requests.specs.Arguments.{Word, file}
use Rattle.dw_requests.specs.Commands.{Command}
use Rattle.dw_requests.specs.declared.command_line.Outline.{Outline}

-- words by their names, each as if it were the name of a file
abbrev pub file_words : List (Bor (List ℕ) × Bor (List ℕ)) → List (Text × Word)
file_words words = map (λ word. (word.0.now, file)) words

-- the command that an outline describes, without its task
abbrev pub command_in : Outline → Command
command_in outline = record {
  name = outline.name.now;
  words = file_words outline.words.now;
  has_state = outline.has_state;
  has_load = outline.has_load;
  has_modules = outline.has_modules;
  task = λ rows. None;
}
