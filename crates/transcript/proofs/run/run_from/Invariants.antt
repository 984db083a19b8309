use Rattle.std.proofs.Common.{◌+◌, ◌-◌, ◌^◌, length}
use Rattle.line_io.specs.Outside.{change}
use Rattle.transcript.proofs.ReachedLemmas.{Reached}
use Rattle.transcript.proofs.run.run_from.Given as goal

abbrev pub invariant-turns : goal.invariant-turns
invariant-turns g l =
    Reached g.V.Service.rules l.fn.service (change (g.S.Source.left l.fn.source) (g.S.Source.left l.source) (g.S.Source.faults l.fn.source)
    (g.S.Source.faults l.source))
    (change (g.K.Sink.held l.fn.sink) (g.K.Sink.held l.sink) (g.K.Sink.faults l.fn.sink) (g.K.Sink.faults l.sink)) l.reader l.service

abbrev pub decreases-turns : goal.decreases-turns
decreases-turns g l = (2 ^ 30 - l.reader.progress.taken) + length l.reader.progress.in_hand
