use Rattle.std.proofs.Common.{◌∙◌, ap, subst, sym}
use Rattle.judgement_matrix.specs.Matrix.{pairs}
use Rattle.lp_macbeth.specs.Pairs.{ArePairs}
use Rattle.lp_macbeth.proofs.PairLemmas.{ArePairs-pairs}
use Rattle.lp_macbeth.proofs.row_tags.row_tables.Goals as goal

pub push_lower-requires : goal.push_lower-requires
push_lower-requires c =
    let n = c.args.matrix.now.size in
    subst (ArePairs n) (sym (c.as_slice.ensures.value ∙ c.in_ok-pairs.ensures ∙ ap pairs c.size.ensures.value)) (ArePairs-pairs n)

pub push_zero-requires : goal.push_zero-requires
push_zero-requires c =
    let n = c.args.matrix.now.size in
    subst (ArePairs n) (sym (c.as_slice-2.ensures.value ∙ c.in_ok-pairs.ensures ∙ ap pairs c.size.ensures.value)) (ArePairs-pairs n)

pub under_each-requires : goal.under_each-requires
under_each-requires c =
    let n = c.args.matrix.now.size in
    subst (ArePairs n) (sym (c.as_slice-3.ensures.value ∙ c.in_ok-pairs.ensures ∙ ap pairs c.size.ensures.value)) (ArePairs-pairs n)
