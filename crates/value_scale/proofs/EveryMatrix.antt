-- Each matrix of at least two elements has an answer.
use Rattle.std.proofs.Common.{ℕ, ◌≤◌}
use Rattle.judgement_matrix.specs.Matrix.{Judgements, IsMatrix}
use Rattle.judgement_matrix.proofs.ScaleLemmas.{IsMetBy-same, IsSmaller-same}
use Rattle.lp_macbeth.proofs.CutLemmas.{least_scale, infeasible_iff}
use Rattle.value_scale.proofs.AnswerLemmas.{HasAnswer, ScaleLaws, has_answer}

-- the laws that the answer of a matrix rests on
scale_laws : (m : Judgements) → IsMatrix m → 2 ≤ m.size → ScaleLaws m
scale_laws m is two = record {
  alike = IsMetBy-same m;
  compare = IsSmaller-same;
  scales = λ z n h. least_scale m z n is two h;
  none = (infeasible_iff m is two).0;
}

pub every_matrix_has_an_answer : (m : Judgements) → IsMatrix m → 2 ≤ m.size → (count : ℕ) → HasAnswer m count
every_matrix_has_an_answer m is two count = has_answer m is (scale_laws m is two) two count
