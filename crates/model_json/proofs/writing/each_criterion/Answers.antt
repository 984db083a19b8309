use Rattle.model_json.specs.Writing.{criterion_data}
use Rattle.model_json.proofs.WritingLemmas.{pushed}
use Rattle.model_json.proofs.writing.each_criterion.Goals as goal

pub loop-at-preserved : goal.loop-at-preserved
loop-at-preserved c =
    let m = c.args.model.now in
    pushed (criterion_data m) m.criteria c.loop-at.at c.criterion.result.now c.loop-at.values.items c.push.new.self.items c.in_ok-criterion_value.field-0
    c.criterion.ensures.criterion c.in_ok-push.ensures.items c.in_ok-criterion_value.ensures c.loop-at.invariant
