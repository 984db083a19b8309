use Rattle.std.proofs.Common.{◌≡◌, ◌↔◌, ◌++◌, take, drop}
use Rattle.integers.specs.Vector.{row_step as row_stepped}
use Rattle.lex_simplex.specs.Steps.{StepFits}
use Rattle.lex_simplex.proofs.numbers.row_step.Given as goal

abbrev pub invariant-loop-i : goal.invariant-loop-i
invariant-loop-i l = record {
  so_far : l.row ≡ row_stepped l.p l.q (take l.i l.fn.row) (take l.i l.other) ++ drop l.i l.fn.row;
  fits : StepFits l.p l.q l.fn.row l.other ↔ StepFits l.p l.q (drop l.i l.fn.row) (drop l.i l.other);
}
