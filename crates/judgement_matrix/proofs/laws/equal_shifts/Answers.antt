use Rattle.judgement_matrix.specs.SameShift.{same_shift-Decides}
use Rattle.judgement_matrix.proofs.laws.equal_shifts.Goals as goal

pub returns : goal.returns
returns c = same_shift-Decides c.args.first.now c.args.second.now
