use Rattle.std.proofs.Common.{◌+◌, ◌-◌, ◌^◌, cond}
use Rattle.line_io.specs.Cursor.{progress}
use Rattle.line_io.proofs.CursorLemmas.{Seeking}
use Rattle.line_io.proofs.cursor.Cursor.find.Given as goal

abbrev pub invariant-loop-at : goal.invariant-loop-at
invariant-loop-at g l =
    Seeking (progress l.fn.self) (progress l.self) (g.S.Source.left l.fn.source) (g.S.Source.left l.source)
    (g.S.Source.faults l.fn.source) (g.S.Source.faults l.source) l.dropped l.searched l.held

abbrev pub decreases-loop-at : goal.decreases-loop-at
decreases-loop-at g l = (2 ^ 30 - l.self.taken) + cond l.self.ended 0 1
