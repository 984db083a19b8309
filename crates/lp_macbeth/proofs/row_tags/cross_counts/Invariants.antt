use Rattle.std.proofs.Common.{◌≡◌, length, take, map}
use Rattle.judgement_matrix.specs.Rows.{cross_rows_under}
use Rattle.lp_macbeth.proofs.row_tags.cross_counts.Given as goal

abbrev pub invariant-loop-pair : goal.invariant-loop-pair
invariant-loop-pair l = l.counts.items ≡ map (λ left. length (cross_rows_under l.matrix left l.pairs)) (take l.pair-index l.pairs)
