use Rattle.judgement_matrix.proofs.LawfulLemmas.{IsMatrix-shifted, IsLawfulShift-between}
use Rattle.judgement_matrix.proofs.laws.lawful_shifts.Goals as goal

pub returns-clause-matrix : goal.returns-clause-matrix
returns-clause-matrix c = λ s. IsMatrix-shifted c.args.matrix.now s c.size.ensures.matrix

pub returns-clause-between : goal.returns-clause-between
returns-clause-between c = λ s t. IsLawfulShift-between c.args.matrix.now s t c.size.ensures.matrix
