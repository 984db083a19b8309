use Rattle.std.proofs.Common.{◌≡◌, rules}
use Rattle.lp_macbeth.specs.Closed.{anchor_up, anchor_down}
use Rattle.lp_macbeth.proofs.LoopLemmas.{two_more}
use Rattle.lp_macbeth.proofs.closed.push_anchors.Goals as goal

pub returns : goal.returns
returns c =
    let up : c.in_ok-difference_row.field-0 ≡ anchor_up c.args.n c.args.good c.args.neutral = search rules in
    let down : c.in_ok-opposite_row.field-0 ≡ anchor_down c.args.n c.args.good c.args.neutral = search rules in
    two_more c.args.rows.now.items c.push.new.self.items c.push-2.new.self.items c.in_ok-difference_row.field-0 c.in_ok-opposite_row.field-0
    (anchor_up c.args.n c.args.good c.args.neutral) (anchor_down c.args.n c.args.good c.args.neutral) c.in_ok-push.ensures.items c.in_ok-push-2.ensures.items up down
