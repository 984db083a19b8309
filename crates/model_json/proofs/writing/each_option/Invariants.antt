use Rattle.std.proofs.Common.{◌≡◌, map, ◌++◌, drop}
use Rattle.serde_json.specs.View.{view}
use Rattle.model_json.specs.Writing.{option_data, options_with_rows}
use Rattle.model_json.proofs.writing.each_option.Given as goal

abbrev pub invariant-loop-at : goal.invariant-loop-at
invariant-loop-at l =
    map view l.values.items ++ map (option_data l.model) (options_with_rows (drop l.at l.model.options) (drop l.at l.model.performances))
    ≡ map (option_data l.model) (options_with_rows l.model.options l.model.performances)
