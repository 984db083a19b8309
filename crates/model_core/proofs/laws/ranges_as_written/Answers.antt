use Rattle.model_core.proofs.GrammarLemmas.{written, read}
use Rattle.model_core.proofs.laws.ranges_as_written.Goals as goal

pub returns : goal.returns
returns c = λ bytes range. (written bytes range, read bytes range)
