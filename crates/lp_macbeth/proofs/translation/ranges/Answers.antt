use Rattle.std.proofs.Common.{◌∙◌, ap, sym, subst}
use Rattle.judgement_matrix.specs.Matrix.{pairs}
use Rattle.lp_macbeth.specs.Pairs.{ArePairs}
use Rattle.lp_macbeth.proofs.PairLemmas.{ArePairs-pairs}
use Rattle.lp_macbeth.proofs.translation.ranges.Goals as goal

pub ranges_of_pairs-requires : goal.ranges_of_pairs-requires
ranges_of_pairs-requires c =
    let n = c.args.matrix.now.size in
    subst (ArePairs n) (sym (c.as_slice.ensures.value ∙ c.in_ok-pairs.ensures ∙ ap pairs c.size.ensures.value)) (ArePairs-pairs n)
