use Rattle.std.proofs.Common.{◌≡◌, ◌∷◌, [], ◌++◌, ◌∙◌, ℕ, length, ap, sym, subst, rules}
use Rattle.lp_macbeth.specs.Pairs.{ArePairs}
use Rattle.lp_macbeth.proofs.PairLemmas.{ArePairs-pairs}
use Rattle.lp_macbeth.proofs.RowTagLemmas.{count_next}
use Rattle.std.proofs.Common.{List, map}
use Rattle.judgement_matrix.specs.Rows.{cross_rows_under}
use Rattle.lp_macbeth.proofs.LoopLemmas.{taken_all}
use Rattle.lp_macbeth.proofs.row_tags.cross_counts.Goals as goal

pub pairs_below-requires-clause-pair : goal.pairs_below-requires-clause-pair
pairs_below-requires-clause-pair c =
    let n = c.args.matrix.now.size in
    subst (ArePairs n) (sym c.requires.pairs) (ArePairs-pairs n) c.loop-pair.pair-index (0, 0) c.loop-pair-test.true

pub loop-pair-preserved : goal.loop-pair-preserved
loop-pair-preserved c =
    let items : c.push.new.self.items ≡ c.loop-pair.counts.items ++ length c.pairs_below.result.now ∷ [] = search rules in
    count_next c.args.matrix.now c.args.pairs.now c.loop-pair.pair-index c.loop-pair.counts.items c.push.new.self.items c.pairs_below.result.now
    c.requires.pairs c.loop-pair-test.true c.pairs_below.ensures c.loop-pair.invariant items

pub returns : goal.returns
returns c =
    let m = c.args.matrix.now in
    let ps = c.args.pairs.now in
    taken_all (map (λ (left : ℕ × ℕ). length (cross_rows_under m left ps))) ps c.loop-pair.pair-index c.loop-pair.counts.items c.loop-pair-test.false
    c.loop-pair.invariant
    ∙ ap (λ (l : List (ℕ × ℕ)). map (λ (left : ℕ × ℕ). length (cross_rows_under m left l)) l) c.requires.pairs
