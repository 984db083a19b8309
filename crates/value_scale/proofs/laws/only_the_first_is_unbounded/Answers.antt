use Rattle.value_scale.proofs.UnboundedLemmas.{bounded_below_first}
use Rattle.value_scale.proofs.laws.only_the_first_is_unbounded.Goals as goal

pub returns : goal.returns
returns c = bounded_below_first
