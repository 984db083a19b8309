use Rattle.value_scale.proofs.OneAnswerLemmas.{found_again}
use Rattle.value_scale.proofs.laws.one_basic_scale.Goals as goal

pub returns : goal.returns
returns c = found_again c.args.matrix.now
