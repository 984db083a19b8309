use Rattle.std.proofs.Common.{subst}
use Rattle.session_edits.proofs.EveryAnswer.{every_command_has_an_answer}
use Rattle.command_read.proofs.ReadValues.{KeepsRead, line_keeps}
use Rattle.session_edits.proofs.laws.every_command_has_an_answer.Goals as goal

pub returns : goal.returns
returns c = λ s line held command e holds. every_command_has_an_answer s command (subst KeepsRead e (line_keeps line held)) holds
