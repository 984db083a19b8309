use Rattle.std.proofs.Common.{◌≡◌, ◌++◌, drop}
use Rattle.session_state.proofs.results.each_shared.Given as goal

abbrev pub invariant-loop-place : goal.invariant-loop-place
invariant-loop-place l = l.same.items ++ drop l.place-index l.kept ≡ l.kept
