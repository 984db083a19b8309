use Rattle.judgement_matrix.proofs.ShiftLemmas.{IsLeastRepair-total, IsNearShift-least, IsRepair-zeros, IsShiftBefore_irrefl}
use Rattle.judgement_matrix.proofs.laws.repairs.Goals as goal

pub returns-clause-totals : goal.returns-clause-totals
returns-clause-totals c = IsLeastRepair-total c.args.matrix.now

pub returns-clause-near : goal.returns-clause-near
returns-clause-near c = IsNearShift-least c.args.matrix.now

pub returns-clause-none : goal.returns-clause-none
returns-clause-none c = IsRepair-zeros c.args.matrix.now c.size.ensures.matrix

pub returns-clause-strict : goal.returns-clause-strict
returns-clause-strict c = IsShiftBefore_irrefl
