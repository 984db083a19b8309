use Rattle.std.proofs.Common.{map, drop, arith}
use Rattle.serde_json.specs.View.{view}
use Rattle.model_json.specs.Writing.{option_data, options_with_rows}
use Rattle.model_json.proofs.WritingLemmas.{option_on, all_options}
use Rattle.model_json.proofs.writing.each_option.Goals as goal

pub loop-at-preserved : goal.loop-at-preserved
loop-at-preserved c =
    let m = c.args.model.now in
    option_on (option_data m) m.options m.performances c.loop-at.at c.loop-at.values.items c.push.new.self.items c.in_ok-option_value.field-0
    (map (option_data m) (options_with_rows m.options m.performances)) (omega arith) (omega (arith, c.what_a_model_keeps.ensures.rows))
    c.in_ok-push.ensures.items c.in_ok-option_value.ensures c.loop-at.invariant

pub returns : goal.returns
returns c =
    let m = c.args.model.now in
    all_options (option_data m) m.options (drop c.loop-at.at m.performances) c.loop-at.at (map view c.loop-at.values.items)
    (map (option_data m) (options_with_rows m.options m.performances)) (omega arith) c.loop-at.invariant
