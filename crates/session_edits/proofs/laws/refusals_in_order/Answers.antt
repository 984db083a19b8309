use Rattle.session_edits.proofs.InOrder.{in_order, accepted}
use Rattle.session_edits.proofs.laws.refusals_in_order.Goals as goal

pub returns-clause-first : goal.returns-clause-first
returns-clause-first c = λ s next command reply number h stands. (in_order s next reply command h).first number stands

pub returns-clause-later : goal.returns-clause-later
returns-clause-later c = λ s next command reply number h none. (in_order s next reply command h).others none number

pub returns-clause-accepted : goal.returns-clause-accepted
returns-clause-accepted c = λ s next command edit reply asked h none. accepted s next command edit reply asked none h
