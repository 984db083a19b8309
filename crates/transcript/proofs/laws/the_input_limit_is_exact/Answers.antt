use Rattle.transcript.proofs.TableLemmas.{at_limit, only_limit}
use Rattle.transcript.proofs.laws.the_input_limit_is_exact.Goals as goal

pub returns-clause-at_limit : goal.returns-clause-at_limit
returns-clause-at_limit g c = λ first status source sink told is none. at_limit g.V.Service.rules first status source sink told is none

pub returns-clause-only : goal.returns-clause-only
returns-clause-only g c = λ first status source sink told is. only_limit g.V.Service.rules first status source sink told is
