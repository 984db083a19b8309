use Rattle.std.proofs.Common.{◌≡◌, ◌∙◌, ◌<◌, ap, arith}
use Rattle.judgement_matrix.specs.Matrix.{pairs}
use Rattle.lp_macbeth.specs.Pairs.{under}
use Rattle.lp_macbeth.proofs.TagLemmas.{rights_are}
use Rattle.lp_macbeth.proofs.row_tags.pairs_below.Goals as goal

pub returns : goal.returns
returns c =
    let m = c.args.matrix.now in
    let read : c.from.result ≡ c.range.result.lo = c.from.ensures ∙ ap (λ r. r.lo) c.lo.view_is in
    let below : c.from.result < 7 = omega (arith, read, c.range.ensures.range.0, c.range.ensures.range.1) in
    c.as_slice.ensures
    ∙ rights_are m (pairs m.size) c.args.under.now c.from.result c.index-under-from.result c.requires.under below c.index-under-from.is
    ∙ ap (under m (pairs m.size)) (read ∙ ap (λ r. r.lo) c.range.ensures.value)
