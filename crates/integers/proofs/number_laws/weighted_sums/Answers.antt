use Rattle.integers.proofs.Vector.{dot-weighted_sum}
use Rattle.integers.proofs.VectorLaws.{get_or-weighted_sum}
use Rattle.integers.proofs.number_laws.weighted_sums.Goals as goal

pub returns : goal.returns
returns c = record { products = dot-weighted_sum; places = get_or-weighted_sum }
