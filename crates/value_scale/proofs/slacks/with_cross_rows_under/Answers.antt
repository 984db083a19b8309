use Rattle.std.proofs.Common.{◌≡◌, ◌∙◌, refl}
use Rattle.judgement_matrix.specs.Matrix.{IsPair, pairs}
use Rattle.judgement_matrix.proofs.EveryLemmas.{every-pairs}
use Rattle.value_scale.proofs.slacks.with_cross_rows_under.Goals as goal

pub loop-other-init : goal.loop-other-init
loop-other-init c =
    let n = c.args.matrix.now.size in
    let all : c.into_iter-other-iterator.result ≡ pairs n = c.into_iter-other-iterator.ensures.into_iter_gives ∙ c.pairs-other-items.ensures in
    rw all (record { so_far = refl; pairs = every-pairs n (IsPair n) (λ p q in_n. in_n) })
