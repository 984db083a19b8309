use Rattle.std.proofs.Common.{sym}
use Rattle.lex_simplex.proofs.Choices.Laws.{leaving-some}
use Rattle.lex_simplex.proofs.table.Table.outcome.Goals as goal

pub empty_outcome-requires-clause-row : goal.empty_outcome-requires-clause-row
empty_outcome-requires-clause-row c = (leaving-some c.self.inside.cells c.in-Some.row).0 (sym c.in-Some.ensures)
