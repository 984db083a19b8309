use Rattle.std.proofs.Common.{◌<◌, ◌+◌, length, Less, Equal, Greater, sym, ap, ◌∙◌, arith}
use Rattle.lex_simplex.specs.Cells.{row_in}
use Rattle.lex_simplex.proofs.Choices.RatioWalk.{comes_before-step, comes_before-last}
use Rattle.lex_simplex.proofs.Readings.Points.{IsWorkable-long}
use Rattle.lex_simplex.proofs.choice.comes_before.Goals as goal

pub returns-in-Less : goal.returns-in-Less
returns-in-Less c = sym (comes_before-step c.args.cells.now c.args.row c.args.left c.args.right c.loop-place.place (row_in c.quantity_row-pivot.result.now)
    (row_in c.ordering_row.result.now) c.compare_ratios.result Less (IsWorkable-long c.args.cells.now c.requires.tableau)
    (omega (arith, c.loop-place-test.true, ap length c.columns-place-end.ensures)) c.quantity_row-pivot.ensures.value c.ordering_row.ensures.value
    c.loop-place.invariant c.compare_ratios.ensures c.in-Less.is)

pub returns-in-Greater : goal.returns-in-Greater
returns-in-Greater c = sym (comes_before-step c.args.cells.now c.args.row c.args.left c.args.right c.loop-place.place
    (row_in c.quantity_row-pivot.result.now) (row_in c.ordering_row.result.now) c.compare_ratios.result Greater
    (IsWorkable-long c.args.cells.now c.requires.tableau) (omega (arith, c.loop-place-test.true, ap length c.columns-place-end.ensures))
    c.quantity_row-pivot.ensures.value c.ordering_row.ensures.value c.loop-place.invariant c.compare_ratios.ensures c.in-Greater.is)

pub loop-place-preserved : goal.loop-place-preserved
loop-place-preserved c = comes_before-step c.args.cells.now c.args.row c.args.left c.args.right c.loop-place.place (row_in c.quantity_row-pivot.result.now)
    (row_in c.ordering_row.result.now) c.compare_ratios.result Equal (IsWorkable-long c.args.cells.now c.requires.tableau)
    (omega (arith, c.loop-place-test.true, ap length c.columns-place-end.ensures)) c.quantity_row-pivot.ensures.value c.ordering_row.ensures.value
    c.loop-place.invariant c.compare_ratios.ensures c.in-Equal.is

pub returns-in-Equal : goal.returns-in-Equal
returns-in-Equal c =
    let next = comes_before-step c.args.cells.now c.args.row c.args.left c.args.right c.loop-place.place (row_in c.quantity_row-pivot.result.now)
    (row_in c.ordering_row.result.now) c.compare_ratios.result Equal (IsWorkable-long c.args.cells.now c.requires.tableau)
    (omega (arith, c.loop-place-test.true, ap length c.columns-place-end.ensures)) c.quantity_row-pivot.ensures.value c.ordering_row.ensures.value
    c.loop-place.invariant c.compare_ratios.ensures c.in-Equal.is in
    let last : length c.args.cells.now.columns < c.loop-place.place + 1 = omega (arith, ap length c.columns-place-end.ensures) in
    sym (next ∙ comes_before-last c.args.cells.now c.args.row c.args.left c.args.right (c.loop-place.place + 1)
    (IsWorkable-long c.args.cells.now c.requires.tableau) last)

pub returns : goal.returns
returns c = absurd (omega arith)
