use Rattle.std.proofs.Common.{◌<◌, length, [], arith, sym, subst, ◌∙◌}
use Rattle.integers.proofs.Loops.{map_front-done, map_front-length, map_front-was}
use Rattle.lex_simplex.specs.Steps.{exchanged_row, CanExchange}
use Rattle.lex_simplex.proofs.CellLists.FitLoops.{ExchangesFit-next}
use Rattle.lex_simplex.proofs.pivot.pivot_rows.Goals as goal

pub exchange-requires-clause-place : goal.exchange-requires-clause-place
exchange-requires-clause-place c =
    let long = map_front-length (exchanged_row c.args.number c.args.place c.args.pivot.now) c.args.grid.now c.loop-row.grid c.loop-row.row
    c.loop-row.invariant.so_far in
    omega (arith, long, c.loop-row-test.true, c.count-row-end.ensures)

pub exchange-requires-clause-can : goal.exchange-requires-clause-can
exchange-requires-clause-can c =
    let below : c.loop-row.row < length c.args.grid.now = omega (arith, c.loop-row-test.true, c.count-row-end.ensures) in
    subst (CanExchange c.args.number c.args.place c.args.pivot.now)
    (sym (map_front-was (exchanged_row c.args.number c.args.place c.args.pivot.now) c.args.grid.now c.loop-row.grid c.loop-row.row []
    c.loop-row.invariant.so_far)) (c.requires c.loop-row.row [] below)

pub loop-row-preserved : goal.loop-row-preserved
loop-row-preserved c =
    let below : c.loop-row.row < length c.args.grid.now = omega (arith, c.loop-row-test.true, c.count-row-end.ensures) in
    let next = ExchangesFit-next c.args.number c.args.place c.args.pivot.now c.args.grid.now c.loop-row.grid c.loop-row.row below
    c.loop-row.invariant.so_far in
    let done = map_front-done (exchanged_row c.args.number c.args.place c.args.pivot.now) c.args.grid.now c.loop-row.grid c.loop-row.row [] below
    c.loop-row.invariant.so_far in
    let one = c.in_ok-exchange.ensures in
    record {
      so_far = one.done.value_is ∙ done;
      fits = (λ h. (next.0 (c.loop-row.invariant.fits.0 h)).1, λ h. c.loop-row.invariant.fits.1 (next.1 (one.done.ok, h)));
      shape = one.same_shape ∙ c.loop-row.invariant.shape;
    }
