use Rattle.frac128.proofs.Checked.{checked_product-exact}
use Rattle.frac128.proofs.laws.products_are_exact.Goals as goal

pub returns : goal.returns
returns c = checked_product-exact
