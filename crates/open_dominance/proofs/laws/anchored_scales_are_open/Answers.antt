use Rattle.open_dominance.proofs.LineLemmas.{anchored_is_open}
use Rattle.open_dominance.proofs.laws.anchored_scales_are_open.Goals as goal

pub returns : goal.returns
returns c = anchored_is_open
