use Rattle.std.proofs.Common.{◌≡◌}
use Rattle.lex_simplex.specs.Turn.{comes_before as comes_before_of, ratios}
use Rattle.lex_simplex.proofs.Choices.RatioWalk.{comes_before_from}
use Rattle.lex_simplex.proofs.choice.comes_before.Given as goal

abbrev pub invariant-loop-place : goal.invariant-loop-place
invariant-loop-place l = comes_before_of (ratios l.cells l.row l.left) (ratios l.cells l.row l.right)
    ≡ comes_before_from l.cells l.row l.left l.right l.place
