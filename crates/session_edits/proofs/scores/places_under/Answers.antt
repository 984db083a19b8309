use Rattle.std.proofs.Common.{◌<◌, ◌-◌, length, subst}
use Rattle.std.specs.Prelude.{filter}
use Rattle.std.specs.List.{range_with_len}
use Rattle.model_core.specs.Finding.{criterion_at}
use Rattle.session_edits.specs.Scores.{is_under}
use Rattle.session_edits.proofs.ScoreLemmas.{filter-push, filter_below}
use Rattle.session_edits.proofs.scores.places_under.Goals as goal

pub loop-criterion-preserved : goal.loop-criterion-preserved
loop-criterion-preserved c =
    let m = c.args.model.now in
    let i = c.loop-criterion.criterion in
    let h = subst (λ k. i < k) c.criteria-criterion-end.ensures.each c.loop-criterion-test.true in
    filter-push (λ k. is_under m.groups (criterion_at m k).group c.args.group) (length m.criteria) i c.loop-criterion.some.items c.push_under.new.some.items h
    c.loop-criterion.invariant c.in_ok-push_under.ensures

pub returns-clause-within : goal.returns-clause-within
returns-clause-within c =
    let m = c.args.model.now in
    let i = c.loop-criterion.criterion in
    filter_below (length m.criteria) (λ k. is_under m.groups (criterion_at m k).group c.args.group)
    (filter (λ k. is_under m.groups (criterion_at m k).group c.args.group) (range_with_len i (length m.criteria - i)))
    c.loop-criterion.some.items c.loop-criterion.invariant
