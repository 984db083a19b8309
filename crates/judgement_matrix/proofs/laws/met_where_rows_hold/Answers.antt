use Rattle.judgement_matrix.proofs.FitLemmas.{met_iff_rows}
use Rattle.judgement_matrix.proofs.laws.met_where_rows_hold.Goals as goal

pub returns : goal.returns
returns c = λ w unit at_least. met_iff_rows c.args.matrix.now w unit at_least
