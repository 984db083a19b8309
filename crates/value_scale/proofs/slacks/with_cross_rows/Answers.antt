use Rattle.std.proofs.Common.{◌≡◌, ◌∙◌, refl}
use Rattle.judgement_matrix.specs.Matrix.{IsPair, pairs}
use Rattle.judgement_matrix.proofs.EveryLemmas.{every-pairs}
use Rattle.value_scale.proofs.slacks.with_cross_rows.Goals as goal

pub loop-pair-init : goal.loop-pair-init
loop-pair-init c =
    let n = c.args.matrix.now.size in
    let all : c.into_iter-pair-iterator.result ≡ pairs n = c.into_iter-pair-iterator.ensures.into_iter_gives ∙ c.pairs-pair-items.ensures in
    rw all (record { so_far = refl; pairs = every-pairs n (IsPair n) (λ p q in_n. in_n) })
