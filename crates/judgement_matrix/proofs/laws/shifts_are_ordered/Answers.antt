use Rattle.judgement_matrix.proofs.ShiftOrder.{IsShiftBefore_trans, IsShiftBefore_total, IsShiftBefore-first}
use Rattle.judgement_matrix.proofs.laws.shifts_are_ordered.Goals as goal

pub returns-clause-transitive : goal.returns-clause-transitive
returns-clause-transitive c = IsShiftBefore_trans

pub returns-clause-total : goal.returns-clause-total
returns-clause-total c = IsShiftBefore_total

pub returns-clause-first : goal.returns-clause-first
returns-clause-first c = IsShiftBefore-first
