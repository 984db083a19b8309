use Rattle.std.proofs.Common.{true}
use Rattle.judgement_matrix.proofs.JudgedLemmas.{cell_at-set_here, cell_at-set_other}
use Rattle.judgement_matrix.proofs.laws.one_pair_judged.Goals as goal

pub returns-clause-here : goal.returns-clause-here
returns-clause-here c = cell_at-set_here c.args.matrix.now c.args.p c.args.q (c.args.range, true) c.size.ensures.matrix.each c.requires

pub returns-clause-elsewhere : goal.returns-clause-elsewhere
returns-clause-elsewhere c = λ x y at_n apart. cell_at-set_other c.args.matrix.now c.args.p c.args.q x y (c.args.range, true) c.requires at_n apart
