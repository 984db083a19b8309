use Rattle.std.proofs.Common.{◌≡◌, ◌≤◌, ◌++◌, List, [], ℕ, length}
use Rattle.line_io.specs.Outside.{Put}
use Rattle.line_io.proofs.put.put_all.Given as goal

abbrev pub invariant-loop-rest : goal.invariant-loop-rest
invariant-loop-rest g l = ((written : List ℕ) × (l.bytes ≡ written ++ l.rest) × Put (g.K.Sink.held l.fn.sink) (g.K.Sink.held l.sink) written)
    × (g.K.Sink.faults l.fn.sink ≤ g.K.Sink.faults l.sink)
    × (l.bytes ≡ [] → l.sink ≡ l.fn.sink)

abbrev pub decreases-loop-rest : goal.decreases-loop-rest
decreases-loop-rest g l = length l.rest
