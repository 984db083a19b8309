use Rattle.std.proofs.Common.{◌<◌, [], drop, length, ap, ◌∙◌, arith}
use Rattle.std.specs.Prelude.{slice_index_or}
use Rattle.serde_json.specs.Data.{object, no_members}
use Rattle.serde_json.specs.View.{members_view}
use Rattle.serde_json.proofs.Views.{view-Object}
use Rattle.model_core.specs.State.{IsRow}
use Rattle.model_json.specs.Writing.{performance_members}
use Rattle.model_json.proofs.WritingLemmas.{put_on, all_put}
use Rattle.model_json.proofs.values.performances_value.Goals as goal

pub loop-c-preserved : goal.loop-c-preserved
loop-c-preserved c =
    let m = c.args.model.now in
    let row = slice_index_or m.performances c.args.option [] in
    let k = c.loop-c.c in
    let is : IsRow m.criteria row = c.what_a_model_keeps.ensures.each_row c.args.option [] (omega (arith, c.requires, c.what_a_model_keeps.ensures.rows)) in
    let within : k < length row = omega (arith, is.each) in
    put_on m.criteria row k c.criterion.result.now c.performance.result (members_view c.loop-c.members.entries)
    (members_view c.put_performance.new.members.entries)
    (performance_members m.criteria row no_members) c.criterion.ensures.criterion
    within c.performance.ensures.value c.in_ok-put_performance.ensures c.loop-c.invariant

pub returns : goal.returns
returns c =
    let m = c.args.model.now in
    let row = slice_index_or m.performances c.args.option [] in
    view-Object c.loop-c.members ∙ ap object (all_put m.criteria (drop c.loop-c.c row) c.loop-c.c (members_view c.loop-c.members.entries)
    (performance_members m.criteria row no_members) (omega arith) c.loop-c.invariant)
