use Rattle.std.proofs.Common.{map, take, All}
use Rattle.frac128.specs.Frac.{IsReduced}
use Rattle.integers.specs.Fraction.{SameFractions}
use Rattle.lex_simplex.specs.Tableau.{value_of}
use Rattle.lex_simplex.proofs.reading.point.Given as goal

abbrev pub invariant-loop-i : goal.invariant-loop-i
invariant-loop-i l = record {
  same : SameFractions (map value_of (take l.i l.cells.rows)) l.numbers.items;
  reduced : All IsReduced l.numbers.items;
}
