use Rattle.judgement_matrix.proofs.ValueLemmas.{IsAnswer-unique}
use Rattle.judgement_matrix.proofs.laws.one_answer.Goals as goal

pub returns : goal.returns
returns c = λ fs are. IsAnswer-unique c.args.matrix.now fs c.args.first c.args.second are
