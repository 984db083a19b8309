use Rattle.std.proofs.Common.{None}
use Rattle.model_core.specs.declared.limits.TheConstants.{CRITERIA}
use Rattle.model_core.proofs.RowLemmas.{take-replicate}
use Rattle.model_core.proofs.row.Row.new.Goals as goal

pub returns : goal.returns
returns c = take-replicate c.args.width CRITERIA None c.requires
