use Rattle.std.proofs.Common.{◌≡◌, ◌++◌, drop}
use Rattle.lp_macbeth.specs.Rows.{cross_coefs}
use Rattle.lp_macbeth.proofs.gaps.push_cross.Given as goal

abbrev pub invariant-loop-place : goal.invariant-loop-place
invariant-loop-place l =
    l.coefs.items ++ drop l.place (cross_coefs l.n l.left.0 l.left.1 l.right.0 l.right.1) ≡ l.fn.coefs.items
    ++ cross_coefs l.n l.left.0 l.left.1 l.right.0 l.right.1
