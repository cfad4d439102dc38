use Rattle.std.proofs.Common.{◌≡◌, false, drop, map}
use Rattle.clap.specs.Words.{app_of}
use Rattle.clap.specs.declared.builder.Command.TheViews.{out-Command as fields_of}
use Rattle.dw_requests.specs.Commands.{with_commands}
use Rattle.dw_requests.specs.CommandViews.{command_in}
use Rattle.dw_requests.proofs.command_line.with_commands.Given as goal

-- adding the remaining commands gives the app with all commands
abbrev pub invariant-loop-outline : goal.invariant-loop-outline
invariant-loop-outline l = record {
  app : with_commands (app_of l.command) (map command_in (drop l.outline-index l.outlines))
      ≡ with_commands (app_of l.fn.command) (map command_in l.outlines);
  local : (fields_of l.command).has_globals ≡ false;
}
