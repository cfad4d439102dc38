use Rattle.std.proofs.Common.{◌≡◌, false, drop}
use Rattle.clap.specs.Words.{app_of}
use Rattle.clap.specs.declared.builder.Command.TheViews.{out-Command as fields_of}
use Rattle.dw_requests.specs.Commands.{with_words}
use Rattle.dw_requests.specs.CommandViews.{file_words}
use Rattle.dw_requests.proofs.command_line.with_words.Given as goal

-- adding the remaining words gives the app with all words
abbrev pub invariant-loop-name : goal.invariant-loop-name
invariant-loop-name l = record {
  app : with_words (app_of l.command) (file_words (drop l.name-index l.words))
      ≡ with_words (app_of l.fn.command) (file_words l.words);
  local : (fields_of l.command).has_globals ≡ false;
}
