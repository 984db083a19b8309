use Rattle.std.proofs.Common.{◌<◌, ◌+◌, ◌-◌, drop, get_or, sum, arith}
use Rattle.std.proofs.lemmas.Grind.{common_steps}
use Rattle.lp_macbeth.proofs.RowTagLemmas.{part_inside}
use Rattle.lp_macbeth.proofs.row_tags.part_at.Goals as goal

pub loop-place-init : goal.loop-place-init
loop-place-init c = record {
  before = omega arith;
  inside = part_inside c.args.lengths.now 0 c.args.position c.requires;
  rest = c.requires;
}

pub loop-place-preserved : goal.loop-place-preserved
loop-place-preserved c =
    let xs = c.args.lengths.now in
    let here = c.loop-place in
    let left_over = here.left_over - get_or xs here.place 0 in
    let rest : left_over < sum (drop (here.place + 1) xs) = grind (arith, common_steps) in
    record { before = grind (arith, common_steps); inside = part_inside xs (here.place + 1) left_over rest; rest = rest }
