use Rattle.lex_simplex.proofs.Runs.Ending.{turns_to_go_falls}
use Rattle.lex_simplex.proofs.Runs.Loop.{AreTurnsMade-none, AreTurnsMade-next, IsKept-end, IsRunMade-end}
use Rattle.lex_simplex.proofs.run.run.Goals as goal

pub loop-end-init : goal.loop-end-init
loop-end-init c = record { workable = c.requires; made = AreTurnsMade-none c.args.cells.now c.args.pivots.now c.made.ensures.in_range }

pub returns-in-Ended-clause-run : goal.returns-in-Ended-clause-run
returns-in-Ended-clause-run c = IsRunMade-end c.args.cells.now c.loop-end.cells c.turn.new.cells c.in-Ended.end c.args.pivots.now c.loop-end.pivots
    c.loop-end.invariant.made c.in-Ended.ensures

pub returns-in-Ended-clause-kept : goal.returns-in-Ended-clause-kept
returns-in-Ended-clause-kept c = IsKept-end c.loop-end.cells c.turn.new.cells c.in-Ended.end c.loop-end.invariant.workable c.in-Ended.ensures

pub loop-end-smaller : goal.loop-end-smaller
loop-end-smaller c = turns_to_go_falls c.loop-end.invariant.workable.problem c.loop-end.cells c.turn.new.cells c.loop-end.invariant.workable.is_tableau
    c.in_default.ensures.0

pub loop-end-preserved : goal.loop-end-preserved
loop-end-preserved c = record {
  workable = c.in_default.ensures.1;
  made = AreTurnsMade-next c.args.cells.now c.loop-end.cells c.turn.new.cells c.args.pivots.now c.loop-end.pivots c.add_one.new.self
      c.loop-end.invariant.made c.in_default.ensures.0 c.add_one.ensures;
}
