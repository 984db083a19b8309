use Rattle.frac128.proofs.TextLemmas.{one_reading}
use Rattle.frac128.proofs.laws.a_text_writes_one_pair.Goals as goal

pub returns : goal.returns
returns c = one_reading
