use Rattle.std.proofs.Common.{◌∙◌, ◌<◌, ℕ, get_or, length, sum, ap, sym, subst, refl, List, arith}
use Rattle.judgement_matrix.specs.Matrix.{pairs}
use Rattle.lp_macbeth.specs.Pairs.{ArePairs}
use Rattle.lp_macbeth.proofs.PairLemmas.{ArePairs-pairs}
use Rattle.lp_macbeth.proofs.RowTagLemmas.{sum-cross_counts, length-cross_counts, count_at, cross_at}
use Rattle.lp_macbeth.proofs.row_tags.cross_tag.Goals as goal

pub part_at-place-requires : goal.part_at-place-requires
part_at-place-requires c =
    let m = c.args.matrix.now in
    subst (λ l. c.args.position < sum l) (sym (c.as_slice.ensures ∙ c.requires.tables.counts)) (omega (arith, sum-cross_counts m, c.requires.row))

pub pairs_below-rights-requires-clause-pair : goal.pairs_below-rights-requires-clause-pair
pairs_below-rights-requires-clause-pair c =
    let n = c.args.matrix.now.size in
    let all = c.as_slice-2.ensures ∙ c.requires.tables.pairs in
    let many = length-cross_counts c.args.matrix.now c.as_slice.result.now (c.as_slice.ensures ∙ c.requires.tables.counts) in
    subst (ArePairs n) (sym all) (ArePairs-pairs n) c.part_at-place.result.0 (0, 0) (omega (arith, many, ap length all, c.part_at-place.ensures.part))

pub prove-unreachable-requires : goal.prove-unreachable-requires
prove-unreachable-requires c =
    let m = c.args.matrix.now in
    let place = c.part_at-place.result.0 in
    let counts = c.as_slice.ensures ∙ c.requires.tables.counts in
    let inside : place < length (pairs m.size) = omega (arith, length-cross_counts m c.as_slice.result.now counts, c.part_at-place.ensures.part) in
    let first = ap (λ (l : List (ℕ × ℕ)). get_or l place (0, 0)) (c.as_slice-2.ensures ∙ c.requires.tables.pairs) in
    let many = count_at m c.as_slice.result.now place (get_or c.as_slice-2.result.now place (0, 0)) c.pairs_below-rights.result.now counts inside first
    c.pairs_below-rights.ensures in
    omega (arith, many, c.part_at-place.ensures.within)

pub returns : goal.returns
returns c =
    let m = c.args.matrix.now in
    let place = c.part_at-place.result.0 in
    let counts = c.as_slice.ensures ∙ c.requires.tables.counts in
    let inside : place < length (pairs m.size) = omega (arith, length-cross_counts m c.as_slice.result.now counts, c.part_at-place.ensures.part) in
    let first = ap (λ (l : List (ℕ × ℕ)). get_or l place (0, 0)) (c.as_slice-2.ensures ∙ c.requires.tables.pairs) in
    let within : c.part_at-place.result.1 < length c.pairs_below-rights.result.now = omega arith in
    cross_at m place c.part_at-place.result.1 c.args.position (get_or c.as_slice-2.result.now place (0, 0))
    (get_or c.pairs_below-rights.result.now c.part_at-place.result.1 (0, 0)) c.as_slice.result.now c.pairs_below-rights.result.now
    counts c.pairs_below-rights.ensures c.requires.row inside within first refl c.part_at-place.ensures.before

pub bounds-as_slice-place : goal.bounds-as_slice-place
bounds-as_slice-place c =
    let many = length-cross_counts c.args.matrix.now c.as_slice.result.now (c.as_slice.ensures ∙ c.requires.tables.counts) in
    omega (arith, many, ap length (c.as_slice-2.ensures ∙ c.requires.tables.pairs), c.part_at-place.ensures.part)
