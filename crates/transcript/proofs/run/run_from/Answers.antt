use Rattle.std.proofs.Common.{refl}
use Rattle.line_io.specs.Outside.{change}
use Rattle.transcript.proofs.ReachedLemmas.{reached_start, reached_more, turns_smaller}
use Rattle.transcript.proofs.EndLemmas.{ends_run, never_runs}
use Rattle.transcript.proofs.run.run_from.Goals as goal

pub returns-in_default : goal.returns-in_default
returns-in_default g c = never_runs g.V.Service.rules c.args.service c.requires _ _ _ _

pub turns-init : goal.turns-init
turns-init g c = reached_start g.V.Service.rules c.args.service _ _ _ _ c.in-Ok.reader c.args.service c.in-Ok.ensures.0 c.in-Ok.ensures.1 refl c.requires

pub turns-smaller : goal.turns-smaller
turns-smaller g c = turns_smaller g.V.Service.rules c.turns.reader c.take_turn.new.reader _ c.turns.service c.take_turn.new.service _ c.in-Goes.ensures

pub turns-preserved : goal.turns-preserved
turns-preserved g c =
    reached_more g.V.Service.rules g.met.V.Service.keeps c.args.service
    (change (g.S.Source.left c.args.source.now) (g.S.Source.left c.turns.source) (g.S.Source.faults c.args.source.now) (g.S.Source.faults c.turns.source))
    (change (g.K.Sink.held c.args.sink.now) (g.K.Sink.held c.turns.sink) (g.K.Sink.faults c.args.sink.now) (g.K.Sink.faults c.turns.sink))
    c.turns.reader c.take_turn.new.reader _ _ _ _ c.turns.service c.take_turn.new.service c.turns.invariant c.in-Goes.ensures

pub returns-in-Ends : goal.returns-in-Ends
returns-in-Ends g c =
    ends_run g.V.Service.rules c.args.service g.met.V.Service.keeps g.met.V.Service.total
    (change (g.S.Source.left c.args.source.now) (g.S.Source.left c.turns.source) (g.S.Source.faults c.args.source.now) (g.S.Source.faults c.turns.source))
    (change (g.K.Sink.held c.args.sink.now) (g.K.Sink.held c.turns.sink) (g.K.Sink.faults c.args.sink.now) (g.K.Sink.faults c.turns.sink))
    c.turns.reader c.take_turn.new.reader _ _ _ _ c.turns.service c.take_turn.new.service c.turns.invariant c.in-Ends.status c.in-Ends.ensures
