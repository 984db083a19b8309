use Rattle.std.proofs.Common.{◌≡◌, ◌∙◌, refl}
use Rattle.judgement_matrix.specs.Matrix.{IsPair, pairs}
use Rattle.judgement_matrix.proofs.EveryLemmas.{every-pairs}
use Rattle.model_json.proofs.values.each_judgement.Goals as goal

pub loop-p-init : goal.loop-p-init
loop-p-init c =
    let n = c.args.matrix.now.size in
    let all : c.into_iter-p-iterator.result ≡ pairs n = c.into_iter-p-iterator.ensures.into_iter_gives ∙ c.pairs-p-items.ensures in
    rw (all, c.new-values.ensures.items) (record { so_far = refl; pairs = every-pairs n (IsPair n) (λ p q in_n. in_n) })
