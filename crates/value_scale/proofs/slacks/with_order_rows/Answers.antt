use Rattle.std.proofs.Common.{◌≡◌, ◌∙◌, ◌<◌, Ok, sym, rules}
use Rattle.judgement_matrix.specs.declared.tag.Tag.TheVariants.{Order}
use Rattle.value_scale.specs.Narrowing.{with_row}
use Rattle.value_scale.proofs.NarrowingLemmas.{order_rows_next}
use Rattle.value_scale.proofs.slacks.with_order_rows.Goals as goal

pub loop-p-preserved : goal.loop-p-preserved
loop-p-preserved c =
    let m = c.args.matrix.now in
    let fs = c.args.values.now in
    let x = c.args.element in
    let within : c.loop-p.p < c.size-size.result = search rules in
    let is : with_row m fs x (Order c.loop-p.p) c.loop-p.left ≡ Ok c.in_ok-left.left = search rules in
    sym (order_rows_next m fs x c.size-size.result c.loop-p.p c.loop-p.left c.in_ok-left.left within is) ∙ c.loop-p.invariant
