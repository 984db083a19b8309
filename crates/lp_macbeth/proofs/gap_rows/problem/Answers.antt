use Rattle.std.proofs.Common.{All, sym, subst}
use Rattle.judgement_matrix.specs.Rows.{IsTagAmong}
use Rattle.lp_macbeth.proofs.gap_rows.problem.Goals as goal

pub problem_of_tags-requires-clause-tags : goal.problem_of_tags-requires-clause-tags
problem_of_tags-requires-clause-tags c = subst (All (IsTagAmong c.args.matrix.now.size)) (sym c.as_slice.ensures.value) c.in_ok-tags.ensures.among
