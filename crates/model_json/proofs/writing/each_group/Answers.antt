use Rattle.model_json.specs.Writing.{group_data}
use Rattle.model_json.proofs.WritingLemmas.{pushed}
use Rattle.model_json.proofs.writing.each_group.Goals as goal

pub loop-at-preserved : goal.loop-at-preserved
loop-at-preserved c =
    let m = c.args.model.now in
    pushed (group_data m) m.groups c.loop-at.at c.group.result.now c.loop-at.values.items c.push.new.self.items c.in_ok-group_value.field-0
    c.group.ensures.group c.in_ok-push.ensures.items c.in_ok-group_value.ensures c.loop-at.invariant
