use Rattle.std.proofs.Common.{ap, length, sym, subst, All, arith}
use Rattle.std.proofs.lemmas.List.Elements.{All-push}
use Rattle.frac128.specs.Frac.{IsReduced}
use Rattle.lex_simplex.specs.Cells.{row_in}
use Rattle.lex_simplex.proofs.Readings.Points.{quantity_den_pos, values-more}
use Rattle.lex_simplex.proofs.reading.point.Goals as goal

pub fraction-requires-clause-positive : goal.fraction-requires-clause-positive
fraction-requires-clause-positive c =
    quantity_den_pos c.args.cells.now c.loop-i.i c.quantity_row.result.now c.requires
    (omega (arith, c.loop-i-test.true, ap length c.columns-i-end.ensures)) c.quantity_row.ensures.value

pub loop-i-preserved : goal.loop-i-preserved
loop-i-preserved c =
    let items = c.in_ok-push.ensures.items in
    record {
      same = values-more c.args.cells.now c.loop-i.i (row_in c.quantity_row.result.now) c.fraction.result c.loop-i.numbers.items c.push.new.self.items
          c.requires (omega (arith, c.loop-i-test.true, ap length c.columns-i-end.ensures)) c.quantity_row.ensures.value c.fraction.ensures.value
          c.loop-i.invariant.same items;
      reduced = subst (λ fs. All IsReduced fs) (sym items) (All-push IsReduced c.loop-i.numbers.items c.fraction.result c.loop-i.invariant.reduced
          c.fraction.ensures.lowest);
    }

pub returns-clause-lowest : goal.returns-clause-lowest
returns-clause-lowest c = subst (λ fs. All IsReduced fs) (sym c.make.ensures) c.loop-i.invariant.reduced
