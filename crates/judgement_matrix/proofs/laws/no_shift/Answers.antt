use Rattle.judgement_matrix.proofs.ShiftLemmas.{IsLawfulShift-zeros, shifted-zeros}
use Rattle.judgement_matrix.proofs.laws.no_shift.Goals as goal

pub returns-clause-lawful : goal.returns-clause-lawful
returns-clause-lawful c = IsLawfulShift-zeros c.args.matrix.now c.size.ensures.matrix

pub returns-clause-same : goal.returns-clause-same
returns-clause-same c = shifted-zeros c.args.matrix.now
