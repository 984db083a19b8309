use Rattle.std.proofs.Common.{ap, length, arith}
use Rattle.lex_simplex.specs.Tableau.{row_of}
use Rattle.lex_simplex.proofs.Choices.BestColumn.{not_positive, is_positive, IsBest-skip, IsBest-keep, IsBest-take_over, IsBest-entering}
use Rattle.lex_simplex.proofs.choice.entering.Goals as goal
use Rattle.lex_simplex.proofs.choice.entering.Goals.{then-comes_before, else-comes_before}

pub loop-column-preserved-then-le : goal.loop-column-preserved-then-le
loop-column-preserved-then-le c =
    let n = not_positive (row_of c.args.cells.now c.args.row) c.quantity_row-pivot.result.now c.loop-column.column c.entry.result c.le.result
    c.quantity_row-pivot.ensures.value c.entry.ensures c.le.ensures c.if-le.true in
    IsBest-skip c.args.cells.now c.args.row c.loop-column.column c.loop-column.best c.loop-column.invariant n

pub loop-column-preserved : goal.loop-column-preserved
loop-column-preserved c =
    let p = is_positive (row_of c.args.cells.now c.args.row) c.quantity_row-pivot.result.now c.loop-column.column c.entry.result c.le.result
    c.quantity_row-pivot.ensures.value c.entry.ensures c.le.ensures c.if-le.false in
    elim c.if-comes_before.branch [
      | then-comes_before w ↦ IsBest-take_over c.args.cells.now c.args.row c.loop-column.column c.in-Some.held c.loop-column.best c.if-comes_before.best
          c.comes_before.result c.loop-column.invariant c.in-Some.is p c.comes_before.ensures w.if-comes_before.true w.best-is
      | else-comes_before w ↦ IsBest-keep c.args.cells.now c.args.row c.loop-column.column c.in-Some.held c.loop-column.best c.if-comes_before.best
          c.comes_before.result c.requires.tableau c.requires.row
          (omega (arith, c.loop-column-test.true, ap length c.columns-column-end.ensures)) c.loop-column.invariant c.in-Some.is p c.comes_before.ensures
          w.if-comes_before.false w.best-is
    ]

pub returns : goal.returns
returns c = IsBest-entering c.args.cells.now c.args.row c.loop-column.column c.loop-column.best
    (omega (arith, c.loop-column-test.false, c.loop-column.auto.column-end, ap length c.columns-column-end.ensures)) c.loop-column.invariant
