use Rattle.std.proofs.Common.{◌≡◌, ◌∙◌, ◌++◌, ◌<◌, ℕ, get_or, ap, arith}
use Rattle.judgement_matrix.specs.Matrix.{range_at}
use Rattle.judgement_matrix.specs.Walk.{cross_rows_of}
use Rattle.lp_macbeth.specs.Pairs.{under}
use Rattle.lp_macbeth.proofs.TagLemmas.{rights_are, cross_next}
use Rattle.lp_macbeth.proofs.tags.push_cross.Goals as goal

pub loop-pair-preserved : goal.loop-pair-preserved
loop-pair-preserved c =
    let m = c.args.matrix.now in
    let ps = c.args.pairs.now in
    let left : ℕ × ℕ = get_or ps c.loop-pair.pair-index (0, 0) in
    let read : c.from.result ≡ c.range.result.lo = c.from.ensures ∙ ap (λ r. r.lo) c.lo.view_is in
    let below : c.from.result < 7 = omega (arith, read, c.range.ensures.range.0, c.range.ensures.range.1) in
    let lo : c.from.result ≡ (range_at m left.0 left.1).lo = read ∙ ap (λ r. r.lo) c.range.ensures.value in
    let rights = c.as_slice.ensures ∙ rights_are m ps c.in_ok-under.under.items c.from.result c.index.result.now c.in_ok-under.ensures below c.index.ensures
    ∙ ap (under m ps) lo in
    cross_next m ps c.loop-pair.pair-index c.loop-pair.tags.items (c.args.tags.now.items ++ cross_rows_of m ps ps)
    c.push_cross_of.new.tags.items c.as_slice.result.now c.loop-pair-test.true rights c.loop-pair.invariant c.in_ok-push_cross_of.ensures
