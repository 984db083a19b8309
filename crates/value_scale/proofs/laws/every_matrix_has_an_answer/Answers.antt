use Rattle.value_scale.proofs.AnswerLemmas.{has_answer}
use Rattle.value_scale.proofs.laws.every_matrix_has_an_answer.Goals as goal

pub returns : goal.returns
returns c count =
    has_answer c.args.matrix.now c.size.ensures.matrix (record {
      alike = c.writings_meet_alike.ensures;
      compare = c.writings_compare_alike.ensures;
      scales = c.thresholds_are_enough.ensures.scale;
      none = c.thresholds_are_enough.ensures.nothing.0;
    }) c.requires count
