use Rattle.frac128.proofs.Checked.{checked_difference-exact}
use Rattle.frac128.proofs.laws.differences_are_exact.Goals as goal

pub returns : goal.returns
returns c = checked_difference-exact
