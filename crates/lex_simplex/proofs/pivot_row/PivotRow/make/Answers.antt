use Rattle.std.proofs.Common.{◌≡◌, ◌++◌, ◌∙◌, ap, replicate, pos, length, arith}
use Rattle.lex_simplex.proofs.CellLists.EntryLoops.{AreListed-zeros}
use Rattle.lex_simplex.proofs.pivot_row.PivotRow.make.Goals as goal

pub invariant_of-result : goal.invariant_of-result
invariant_of-result c =
    let zeros = c.in_ok-push_zeros.ensures ∙ ap (λ l. l ++ replicate c.args.width (pos 0)) c.new-cells.ensures.items in
    let long : length c.loop-place.entries.items ≡ c.args.width =
    omega (arith, c.loop-place.invariant, c.loop-place-test.false, c.loop-place.auto._place-end) in
    AreListed-zeros c.push_zeros.new.cells.items c.loop-place.entries.items c.args.width zeros long
