use Rattle.frac128.proofs.Checked.{checked_quotient-exact}
use Rattle.frac128.proofs.laws.quotients_are_exact.Goals as goal

pub returns : goal.returns
returns c = checked_quotient-exact
