use Rattle.std.proofs.Common.{take}
use Rattle.table_csv.specs.Lines.{rows, AreLinesOf}
use Rattle.table_csv.proofs.lines.export.Given as goal

abbrev pub invariant-loop-row : goal.invariant-loop-row
invariant-loop-row l = AreLinesOf (rows (take l.row-index l.table)) l.lines.items
