use Rattle.std.proofs.Common.{◌≡◌, ◌<◌, Ok, ap, ◌∙◌, rules}
use Rattle.frac128.specs.Checked.{checked_difference}
use Rattle.judgement_matrix.specs.Matrix.{cell_at, range_at}
use Rattle.judgement_matrix.specs.Values.{checked_gap}
use Rattle.judgement_matrix.proofs.ValueLemmas.{cross_row_by}
use Rattle.judgement_matrix.proofs.matrix.Matrix.fails_cross.Goals as goal

pub returns : goal.returns
returns c =
    let m = c.args.self.now in
    let fs = c.args.values.now in
    let left_cell : c.get-left.result ≡ cell_at m c.args.p c.args.q = rw (c.from.ensures, c.from-2.ensures) at c.get-left.ensures.cell in
    let right_cell : c.get-right.result ≡ cell_at m c.args.x c.args.y = rw (c.from-3.ensures, c.from-4.ensures) at c.get-right.ensures.cell in
    let left_is : c.left.inside.lo ≡ (range_at m c.args.p c.args.q).lo = ap (λ r. r.lo) (c.left.view_is ∙ ap (λ cell. cell.0) left_cell) in
    let right_is : c.right.inside.hi ≡ (range_at m c.args.x c.args.y).hi = ap (λ r. r.hi) (c.right.view_is ∙ ap (λ cell. cell.0) right_cell) in
    let left : checked_gap fs c.args.p c.args.q ≡ Ok c.in_ok-gap.field-0 = search rules in
    let right : checked_gap fs c.args.x c.args.y ≡ Ok c.in_ok-gap-2.field-0 = search rules in
    let both : checked_difference c.in_ok-gap.field-0 c.in_ok-gap-2.field-0 ≡ Ok c.in_ok-value.value = search rules in
    let below : c.right.inside.hi < c.left.inside.lo = search rules in
    cross_row_by m fs c.args.p c.args.q c.args.x c.args.y c.left.inside.lo c.right.inside.hi c.in_ok-gap.field-0 c.in_ok-gap-2.field-0 c.in_ok-value.value c.is_below.result
    left right both left_is right_is below c.is_below.ensures
