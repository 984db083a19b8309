use Rattle.std.proofs.Common.{◌≡◌, ◌↔◌, ◌++◌, List, ℤ, length, map, take, drop}
use Rattle.lex_simplex.specs.Steps.{ExchangesFit, exchanged_row}
use Rattle.lex_simplex.proofs.pivot.pivot_rows.Given as goal

abbrev pub invariant-loop-row : goal.invariant-loop-row
invariant-loop-row l = record {
  so_far : l.grid ≡ map (exchanged_row l.number l.place l.pivot) (take l.row l.fn.grid) ++ drop l.row l.fn.grid;
  fits : ExchangesFit l.number l.place l.pivot l.fn.grid ↔ ExchangesFit l.number l.place l.pivot (drop l.row l.fn.grid);
  shape : map (λ (row : List ℤ). length row) l.grid ≡ map (λ (row : List ℤ). length row) l.fn.grid;
}
