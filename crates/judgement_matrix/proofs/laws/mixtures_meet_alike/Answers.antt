use Rattle.judgement_matrix.proofs.MixLemmas.{IsMetInUnit-scale, IsMetInUnit-add}
use Rattle.judgement_matrix.proofs.laws.mixtures_meet_alike.Goals as goal

pub returns : goal.returns
returns c = record {
  multiple = λ k u w nonneg h. IsMetInUnit-scale c.args.matrix.now k u w nonneg h;
  sum = λ u t w v h k. IsMetInUnit-add c.args.matrix.now u t w v h k;
}
