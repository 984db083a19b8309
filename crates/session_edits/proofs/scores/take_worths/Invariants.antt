use Rattle.session_state.specs.State.{AreResults}
use Rattle.session_edits.proofs.TakeLemmas.{HasTaken}
use Rattle.session_edits.proofs.scores.take_worths.Given as goal

abbrev pub invariant-loop-criterion : goal.invariant-loop-criterion
invariant-loop-criterion l = record {
  taken : HasTaken l.model l.fn.results l.criterion l.worths.items l.results;
  are : AreResults l.model l.results;
}
