use Rattle.std.proofs.Common.{subst}
use Rattle.command_read.proofs.ReadValues.{KeepsRead, line_keeps}
use Rattle.session_state.proofs.SessionLemmas.{IsSession-start}
use Rattle.session_edits.proofs.HoldLemmas.{answer_holds}
use Rattle.session_edits.proofs.laws.states_hold.Goals as goal

pub returns-clause-start : goal.returns-clause-start
returns-clause-start c = IsSession-start

pub returns-clause-kept : goal.returns-clause-kept
returns-clause-kept c = λ s next line held command reply e holds h. answer_holds s next holds command reply (subst KeepsRead e (line_keeps line held)) h
