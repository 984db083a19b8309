use Rattle.std.proofs.Common.{◌≡◌, pos, negsuc, ◌∙◌, ap}
use Rattle.frac128.specs.declared.problem.Row.{Row}
use Rattle.lp_macbeth.specs.ClosedWeighting.{sum_up, sum_down}
use Rattle.lp_macbeth.proofs.LoopLemmas.{two_more}
use Rattle.lp_macbeth.proofs.weighting.push_sums.Goals as goal

pub returns : goal.returns
returns c =
    let n = c.args.count in
    let one : Row = record { coefs = c.make.result; bound = pos 1 } in
    let two : Row = record { coefs = c.make-2.result; bound = negsuc 0 } in
    let up : one ≡ sum_up n = ap (λ l. record { coefs = l; bound = pos 1 }) (c.make.ensures ∙ c.in_ok-counts.ensures) in
    let down : two ≡ sum_down n = ap (λ l. record { coefs = l; bound = negsuc 0 }) (c.make-2.ensures ∙ c.in_ok-opposite_counts.ensures) in
    two_more c.args.rows.now.items c.push.new.self.items c.push-2.new.self.items one two (sum_up n) (sum_down n) c.in_ok-push.ensures.items
    c.in_ok-push-2.ensures.items up down
