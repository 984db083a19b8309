use Rattle.std.proofs.Common.{ℕ, ◌++◌, map, get_or, refl}
use Rattle.judgement_matrix.specs.declared.tag.Tag.TheVariants.{Cross}
use Rattle.judgement_matrix.specs.declared.tag.Tag.{Tag}
use Rattle.lp_macbeth.proofs.LoopLemmas.{map_next, all_done}
use Rattle.lp_macbeth.proofs.tags.push_cross_of.Goals as goal

pub loop-right-preserved : goal.loop-right-preserved
loop-right-preserved c =
    let left = c.args.left in
    let rights = c.args.rights.now in
    let tag : ℕ × ℕ → Tag = λ right. Cross left.0 left.1 right.0 right.1 in
    map_next tag rights c.loop-right.right-index (0, 0) c.loop-right.tags.items (c.args.tags.now.items ++ map tag rights) c.push.new.self.items
    (tag (get_or rights c.loop-right.right-index (0, 0))) c.loop-right-test.true c.loop-right.invariant refl c.in_ok-push.ensures.items

pub returns : goal.returns
returns c =
    let left = c.args.left in
    let rights = c.args.rights.now in
    let tag : ℕ × ℕ → Tag = λ right. Cross left.0 left.1 right.0 right.1 in
    all_done (map tag) rights c.loop-right.right-index c.loop-right.tags.items (c.args.tags.now.items ++ map tag rights) refl c.loop-right-test.false
    c.loop-right.invariant
