use Rattle.judgement_matrix.proofs.LawfulLemmas.{step_lawful_at, lo-shifted, hi-shifted, mark-shifted, positive-shifted}
use Rattle.judgement_matrix.proofs.laws.pairs_after_a_shift.Goals as goal

pub returns-clause-lo : goal.returns-clause-lo
returns-clause-lo c = λ s. lo-shifted c.args.matrix.now s c.args.p c.args.q c.size.ensures.matrix c.requires

pub returns-clause-hi : goal.returns-clause-hi
returns-clause-hi c = λ s. hi-shifted c.args.matrix.now s c.args.p c.args.q c.size.ensures.matrix c.requires

pub returns-clause-judged : goal.returns-clause-judged
returns-clause-judged c = λ s. mark-shifted c.args.matrix.now s c.args.p c.args.q c.size.ensures.matrix c.requires

pub returns-clause-unjudged : goal.returns-clause-unjudged
returns-clause-unjudged c = λ s lawful. (step_lawful_at c.args.matrix.now s c.args.p c.args.q c.size.ensures.matrix c.requires lawful).unjudged

pub returns-clause-positive : goal.returns-clause-positive
returns-clause-positive c = λ s. positive-shifted c.args.matrix.now s c.args.p c.args.q c.size.ensures.matrix c.requires
