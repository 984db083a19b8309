use Rattle.frac128.proofs.NearestLaw.{one_nearest}
use Rattle.frac128.proofs.laws.roundings_are_unique.Goals as goal

pub returns : goal.returns
returns c = one_nearest
