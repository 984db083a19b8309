use Rattle.std.proofs.Common.{◌≡◌, ◌∙◌, sym, ap, subst, get_or, length, [], ◌*◌, List, ℤ}
use Rattle.std.specs.Vec.{with_items}
use Rattle.std.proofs.lemmas.List.{with_items_is}
use Rattle.std.proofs.lemmas.Result.{on_ok_weaker}
use Rattle.lex_simplex.specs.Cells.{with_part}
use Rattle.lex_simplex.specs.Steps.{CanExchange, DoneIff, ExchangeFits, exchanged_row}
use Rattle.lex_simplex.proofs.CellLists.Exchange.{length-exchanged_row}
use Rattle.lex_simplex.proofs.CellLists.Grids.{IsGrid, IsGrid-within, IsGrid-row, IsGrid-set, IsGrid-shape, IsGrid-width}
use Rattle.lex_simplex.proofs.grid.Grid.exchange.Goals as goal

pub exchange_part-requires-clause-within : goal.exchange_part-requires-clause-within
exchange_part-requires-clause-within c =
    IsGrid-within c.self.inside.width c.self.inside.count c.self.inside.cells.items c.as_mut_slice.result.now c.args.self.now c.args.place
    record { is = c.self.view_is; long = c.self.invariant } c.as_mut_slice.ensures.value c.requires.place

pub exchange_part-requires-clause-can : goal.exchange_part-requires-clause-can
exchange_part-requires-clause-can c =
    let part_is =
    IsGrid-row c.self.inside.width c.self.inside.count c.self.inside.cells.items c.as_mut_slice.result.now c.args.self.now c.args.place
    record { is = c.self.view_is; long = c.self.invariant } c.as_mut_slice.ensures.value c.requires.place in
    subst (CanExchange c.args.number c.args.column c.args.pivot.now) (sym part_is) c.requires.can

pub returns-clause-done : goal.returns-clause-done
returns-clause-done c =
    let grid : IsGrid c.self.inside.width c.self.inside.count c.self.inside.cells.items c.args.self.now =
    record { is = c.self.view_is; long = c.self.invariant } in
    let after : List ℤ → List ℤ = exchanged_row c.args.number c.args.column c.args.pivot.now in
    let row : List ℤ = get_or c.args.self.now c.args.place [] in
    let part_is =
    IsGrid-row c.self.inside.width c.self.inside.count c.self.inside.cells.items c.as_mut_slice.result.now c.args.self.now c.args.place grid
    c.as_mut_slice.ensures.value c.requires.place in
    let start = c.args.place * c.self.inside.width in
    let done = subst (λ part. DoneIff c.exchange_part.result (ExchangeFits c.args.number c.args.column c.args.pivot.now part) c.exchange_part.new.cells
    (with_part c.as_mut_slice.result.now start (after part))) part_is c.exchange_part.ensures.done in
    let long : length (after row) ≡ c.self.inside.width =
    length-exchanged_row c.args.number c.args.column c.args.pivot.now row c.requires.can.same_length
    ∙ IsGrid-width c.self.inside.width c.self.inside.count c.self.inside.cells.items c.args.self.now c.args.place grid c.requires.place in
    let same = with_items_is c.self.inside.cells c.exchange_part.new.cells (c.exchange_part.ensures.same_length ∙ c.as_mut_slice.ensures.len) in
    record {
      ok = done.ok;
      too_wide = done.too_wide;
      value_is = on_ok_weaker c.exchange_part.result (λ is. IsGrid-set c.self.inside.width c.self.inside.count c.self.inside.cells.items
          c.as_mut_slice.result.now c.args.self.now c.args.place (after row)
          (with_items c.self.inside.cells c.exchange_part.new.cells).items grid c.as_mut_slice.ensures.value c.requires.place long (same ∙ is))
          done.value_is;
    }

pub returns-clause-same_shape : goal.returns-clause-same_shape
returns-clause-same_shape c =
    let grid : IsGrid c.self.inside.width c.self.inside.count c.self.inside.cells.items c.args.self.now =
    record { is = c.self.view_is; long = c.self.invariant } in
    let same = with_items_is c.self.inside.cells c.exchange_part.new.cells (c.exchange_part.ensures.same_length ∙ c.as_mut_slice.ensures.len) in
    IsGrid-shape c.self.inside.width c.self.inside.count c.self.inside.cells.items c.args.self.now
    (with_items c.self.inside.cells c.exchange_part.new.cells).items grid (ap length same ∙ c.exchange_part.ensures.same_length
    ∙ ap length c.as_mut_slice.ensures.value)
