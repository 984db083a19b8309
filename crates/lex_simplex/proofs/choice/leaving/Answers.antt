use Rattle.std.proofs.Common.{sym, ◌∙◌, pos, length, arith}
use Rattle.integers.proofs.OrderTests.{is_lt-false, is_lt-true}
use Rattle.lex_simplex.specs.Tableau.{row_of}
use Rattle.lex_simplex.proofs.Choices.RowWalk.{constant_read, leaving_found, leaving_more, leaving_missed}
use Rattle.lex_simplex.proofs.choice.leaving.Goals as goal

pub returns-then-lt : goal.returns-then-lt
returns-then-lt c =
    let x = c.index-quantity_row-1.result in
    let is = constant_read (row_of c.args.cells.now c.loop-row.row) c.quantity_row.result.now x
    (length c.args.cells.now.columns) c.quantity_row.ensures.width c.quantity_row.ensures.value c.index-quantity_row-1.is in
    leaving_found c.args.cells.now c.loop-row.row x is (is_lt-true x (pos 0) (sym c.lt.ensures ∙ c.if-lt.true))
    (omega (arith, c.loop-row-test.true, c.quantities-row-end.ensures)) c.loop-row.invariant

pub loop-row-preserved : goal.loop-row-preserved
loop-row-preserved c =
    let x = c.index-quantity_row-1.result in
    let is = constant_read (row_of c.args.cells.now c.loop-row.row) c.quantity_row.result.now x
    (length c.args.cells.now.columns) c.quantity_row.ensures.width c.quantity_row.ensures.value c.index-quantity_row-1.is in
    leaving_more c.args.cells.now c.loop-row.row x is (is_lt-false x (pos 0) (sym c.lt.ensures ∙ c.if-lt.false)) c.loop-row.invariant

pub returns : goal.returns
returns c = leaving_missed c.args.cells.now c.loop-row.row c.quantities-row-end.result c.quantities-row-end.ensures c.loop-row-test.false
    c.loop-row.invariant
