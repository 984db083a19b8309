use Rattle.std.proofs.Common.{arith}
use Rattle.std.proofs.lemmas.Grind.{common_steps}
use Rattle.table_csv.specs.Lines.{rows, AreLinesOf}
use Rattle.table_csv.proofs.LineLemmas.{read_again}
use Rattle.table_csv.proofs.lines.export.Goals as goal

pub returns-clause-again : goal.returns-clause-again
returns-clause-again c =
    let lines : AreLinesOf (rows c.args.table.now) c.loop-row.lines.items = grind (arith, common_steps) in
    read_again c.loop-row.lines.items (rows c.args.table.now) lines
