use Rattle.lex_simplex.proofs.Readings.Points.{cost_den_pos}
use Rattle.lex_simplex.proofs.reading.value.Goals as goal

pub fraction-requires-clause-positive : goal.fraction-requires-clause-positive
fraction-requires-clause-positive c = cost_den_pos c.args.cells.now c.cost_row.result.now c.requires c.cost_row.ensures.value
