use Rattle.std.proofs.Common.{◌∙◌, ap, subst, sym}
use Rattle.judgement_matrix.specs.Matrix.{pairs}
use Rattle.lp_macbeth.specs.Pairs.{ArePairs}
use Rattle.lp_macbeth.proofs.PairLemmas.{ArePairs-pairs}
use Rattle.session_edits.proofs.ReplyLemmas.{of_pairs}
use Rattle.session_edits.proofs.matrices.judged_pairs.Goals as goal

pub judged_of-requires : goal.judged_of-requires
judged_of-requires c =
    let n = c.args.matrix.now.size in
    subst (ArePairs n) (sym (c.as_slice.ensures.value ∙ c.in_ok-pairs.ensures ∙ ap pairs c.size.ensures.value)) (ArePairs-pairs n)

pub returns-clause-places : goal.returns-clause-places
returns-clause-places c =
    let n = c.args.matrix.now.size in
    of_pairs c.args.matrix.now n c.as_slice.result.now c.judged_of.result
    (subst (ArePairs n) (sym (c.as_slice.ensures.value ∙ c.in_ok-pairs.ensures ∙ ap pairs c.size.ensures.value)) (ArePairs-pairs n)) c.judged_of.ensures
