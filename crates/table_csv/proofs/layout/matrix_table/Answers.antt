use Rattle.std.proofs.Common.{◌≡◌, [], ◌∷◌, ◌++◌, length}
use Rattle.std.proofs.lemmas.List.{map_push}
use Rattle.table_csv.specs.Layout.{matrix_row, matrix_table}
use Rattle.table_csv.specs.Lines.{rows}
use Rattle.table_csv.proofs.LayoutLemmas.{one_more}
use Rattle.table_csv.proofs.layout.matrix_table.Goals as goal

pub loop-p-preserved : goal.loop-p-preserved
loop-p-preserved c =
    let names = c.args.names.now in
    let m = c.args.matrix.now in
    let row = c.in_ok-matrix_row.field-0 in
    let pushed : rows c.push.new.self.items ≡ rows c.loop-p.table.items ++ row.items ∷ [] =
    rw c.in_ok-push.ensures.items (map_push _ c.loop-p.table.items row) in
    one_more (matrix_row names m) (rows c.loop-p.table.items) (matrix_table names m) c.loop-p.p (length names) c.loop-p.invariant (rows c.push.new.self.items)
    row.items c.loop-p-test.true c.in_ok-matrix_row.ensures pushed
