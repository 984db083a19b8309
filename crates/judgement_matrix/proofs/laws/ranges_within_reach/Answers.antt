use Rattle.judgement_matrix.proofs.LawfulLemmas.{step_onto}
use Rattle.judgement_matrix.proofs.laws.ranges_within_reach.Goals as goal

pub returns : goal.returns
returns c = step_onto c.args.from c.args.to c.lo.ensures.range c.hi.ensures.range c.requires.as_many c.requires.above
