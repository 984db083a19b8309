use Rattle.std.proofs.Common.{◌<◌, ◌≤◌, ◌++◌, ◌∷◌, [], length, Vec, Global, subst, ap, ◌∙◌, arith}
use Rattle.frac128.specs.declared.frac.Frac.{Frac}
use Rattle.frac128.specs.declared.list.List.{List as Items}
use Rattle.session_edits.proofs.TakeLemmas.{taken_more, taken_last, stop_taken, stop_last}
use Rattle.session_edits.proofs.scores.take_worths.Goals as goal

pub returns-in-Err-clause-takes : goal.returns-in-Err-clause-takes
returns-in-Err-clause-takes c =
    let m = c.args.model.now in
    let i = c.loop-criterion.criterion in
    let h = subst (λ k. i < k) c.criteria-criterion-end.ensures.each c.loop-criterion-test.true in
    stop_taken (λ (v : Vec Frac Global). v.items) (λ (v : Vec (Items Frac) Global). v.items) m c.args.results.now c.loop-criterion.results c.take_worth.new.results i c.loop-criterion.worths.items
    c.in-Err.stop h c.loop-criterion.invariant.taken c.in-Err.ensures.takes

pub loop-criterion-preserved : goal.loop-criterion-preserved
loop-criterion-preserved c =
    let m = c.args.model.now in
    let i = c.loop-criterion.criterion in
    let h = subst (λ k. i < k) c.criteria-criterion-end.ensures.each c.loop-criterion-test.true in
    let made = c.in_ok-push-in-Ok.ensures.items ∙ ap (λ x. c.loop-criterion.worths.items ++ x ∷ []) c.make.ensures in
    record {
      taken = taken_more m c.args.results.now c.loop-criterion.results c.take_worth.new.results i c.loop-criterion.worths.items c.push.new.self.items
          c.in-Ok.worth.items h c.loop-criterion.invariant.taken c.in-Ok.ensures.takes made;
      are = c.in-Ok.ensures.results;
    }

pub returns-in_ok-push-in-Ok-take_worth-clause-takes : goal.returns-in_ok-push-in-Ok-take_worth-clause-takes
returns-in_ok-push-in-Ok-take_worth-clause-takes c =
    let m = c.args.model.now in
    let i = c.loop-criterion.criterion in
    let past : length m.criteria ≤ i = omega (arith, c.loop-criterion-test.false, c.criteria-criterion-end.ensures.each) in
    let made = c.in_ok-push-in-Ok-take_worth.ensures.items ∙ ap (λ x. c.loop-criterion.worths.items ++ x ∷ []) c.make-in-Ok-take_worth.ensures in
    taken_last m c.args.results.now c.loop-criterion.results c.take_worth-2.new.results i c.loop-criterion.worths.items
    c.push-in-Ok-take_worth.new.self.items c.in-Ok-take_worth.weights.items past c.loop-criterion.invariant.taken c.in-Ok-take_worth.ensures.takes made

pub returns-in-Err-take_worth-clause-takes : goal.returns-in-Err-take_worth-clause-takes
returns-in-Err-take_worth-clause-takes c =
    let m = c.args.model.now in
    let i = c.loop-criterion.criterion in
    let past : length m.criteria ≤ i = omega (arith, c.loop-criterion-test.false, c.criteria-criterion-end.ensures.each) in
    stop_last (λ (v : Vec Frac Global). v.items) (λ (v : Vec (Items Frac) Global). v.items) m c.args.results.now c.loop-criterion.results c.take_worth-2.new.results i c.loop-criterion.worths.items
    c.in-Err-take_worth.stop past c.loop-criterion.invariant.taken c.in-Err-take_worth.ensures.takes
