use Rattle.std.proofs.Common.{length}
use Rattle.table_csv.specs.Layout.{pair_text, matrix_row}
use Rattle.table_csv.proofs.LayoutLemmas.{one_more}
use Rattle.table_csv.proofs.layout.matrix_row.Goals as goal

pub loop-q-preserved : goal.loop-q-preserved
loop-q-preserved c =
    let names = c.args.names.now in
    let m = c.args.matrix.now in
    one_more (pair_text m c.args.p) c.loop-q.row.items (matrix_row names m c.args.p) c.loop-q.q (length names) c.loop-q.invariant c.push.new.self.items
    c.in_ok-pair_field.field-0 c.loop-q-test.true c.in_ok-pair_field.ensures c.in_ok-push.ensures.items
