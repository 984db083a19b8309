use Rattle.std.proofs.Common.{◌≡◌, [], ◌∷◌, take}
use Rattle.table_csv.proofs.layout.names_row.Given as goal

abbrev pub invariant-loop-name : goal.invariant-loop-name
invariant-loop-name l = l.row.items ≡ [] ∷ take l.name-index l.names
