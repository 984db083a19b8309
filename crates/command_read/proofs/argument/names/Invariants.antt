use Rattle.std.proofs.Common.{◌≡◌, ◌++◌, true, length}
use Rattle.std.specs.List.{list_all}
use Rattle.model_core.specs.Names.{is_name}
use Rattle.command_read.specs.Words.{words}
use Rattle.command_read.proofs.argument.names.Given as goal

-- those read and those behind them are all of them
abbrev pub invariant-loop-word : goal.invariant-loop-word
invariant-loop-word g l = record {
  read : l.names.items ++ words l.rest ≡ words l.fn.text;
  named : list_all is_name l.names.items ≡ true;
}

abbrev pub decreases-loop-word : goal.decreases-loop-word
decreases-loop-word g l = length l.rest
