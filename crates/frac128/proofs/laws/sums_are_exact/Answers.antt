use Rattle.frac128.proofs.Checked.{checked_sum-exact}
use Rattle.frac128.proofs.laws.sums_are_exact.Goals as goal

pub returns : goal.returns
returns c = checked_sum-exact
