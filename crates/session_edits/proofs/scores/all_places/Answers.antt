use Rattle.std.proofs.Common.{◌<◌, length, subst}
use Rattle.session_edits.proofs.ScoreLemmas.{numbers-push, front_below}
use Rattle.session_edits.proofs.scores.all_places.Goals as goal

pub loop-criterion-preserved : goal.loop-criterion-preserved
loop-criterion-preserved c =
    let i = c.loop-criterion.criterion in
    let h = subst (λ k. i < k) c.criteria-criterion-end.ensures.each c.loop-criterion-test.true in
    numbers-push (length c.args.model.now.criteria) i c.loop-criterion.all.items c.push.new.self.items h c.loop-criterion.invariant c.in_ok-push.ensures.items

pub returns-clause-within : goal.returns-clause-within
returns-clause-within c =
    front_below (length c.args.model.now.criteria) c.loop-criterion.criterion c.loop-criterion.all.items c.loop-criterion.invariant
