use Rattle.std.proofs.Common.{◌≡◌, ◌++◌, drop, map}
use Rattle.judgement_matrix.specs.declared.tag.Tag.TheVariants.{Cross}
use Rattle.lp_macbeth.proofs.tags.push_cross_of.Given as goal

abbrev pub invariant-loop-right : goal.invariant-loop-right
invariant-loop-right l = l.tags.items ++ map (λ right. Cross l.fn.left.0 l.fn.left.1 right.0 right.1) (drop l.right-index l.rights) ≡ l.fn.tags.items ++ map
    (λ right. Cross l.fn.left.0 l.fn.left.1 right.0 right.1) l.rights
