use Rattle.std.proofs.Common.{◌≡◌, ◌+◌, ◌∙◌, rules}
use Rattle.judgement_matrix.specs.Matrix.{IsPair, pairs}
use Rattle.judgement_matrix.proofs.EveryLemmas.{every-pairs}
use Rattle.judgement_matrix.proofs.matrix.Matrix.grown_cells.Goals as goal

pub loop-p-init : goal.loop-p-init
loop-p-init c =
    let n = c.args.self.now.size + 1 in
    let all : c.into_iter-p-iterator.result ≡ pairs n = c.into_iter-p-iterator.ensures.into_iter_gives ∙ search rules in
    rw all (record { so_far = search rules; pairs = every-pairs n (IsPair n) (λ p q in_n. in_n) })
