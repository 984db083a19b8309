use Rattle.std.proofs.Common.{◌++◌, ◌∙◌, subst, sym, FitsSigned, to_z, of_z}
use Rattle.std.specs.Int.{w128}
use Rattle.std.proofs.lemmas.Int.{to_z-of_z}
use Rattle.lp_macbeth.specs.Rows.{cross_coefs}
use Rattle.lp_macbeth.proofs.CoefLemmas.{cross_next, cross_done, cross_fits}
use Rattle.lp_macbeth.proofs.gaps.push_cross.Goals as goal

pub loop-place-preserved : goal.loop-place-preserved
loop-place-preserved c =
    let a = c.args in
    let fits = subst (FitsSigned w128) (sym c.cross_coef.ensures)
    (cross_fits a.n a.left.0 a.left.1 a.right.0 a.right.1 c.loop-place.place c.requires.left c.requires.right) in
    let is = to_z-of_z w128 c.cross_coef.result fits in
    cross_next a.n a.left.0 a.left.1 a.right.0 a.right.1 c.loop-place.place c.loop-place.coefs.items
    (a.coefs.now.items ++ cross_coefs a.n a.left.0 a.left.1 a.right.0 a.right.1) c.push.new.self.items (to_z w128 (of_z w128 c.cross_coef.result))
    c.requires.left c.requires.right c.loop-place-test.true (is ∙ c.cross_coef.ensures) c.loop-place.invariant c.in_ok-push.ensures.items

pub returns : goal.returns
returns c =
    let a = c.args in
    cross_done a.n a.left.0 a.left.1 a.right.0 a.right.1 c.loop-place.place c.loop-place.coefs.items
    (a.coefs.now.items ++ cross_coefs a.n a.left.0 a.left.1 a.right.0 a.right.1)
    c.requires.left c.requires.right c.loop-place-test.false c.loop-place.invariant
