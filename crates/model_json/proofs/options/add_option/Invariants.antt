use Rattle.std.proofs.Common.{◌≡◌}
use Rattle.model_json.specs.Reading.{with_row}
use Rattle.model_json.proofs.OptionLemmas.{first_ones}
use Rattle.model_json.proofs.options.add_option.Given as goal

abbrev pub invariant-row : goal.invariant-row
invariant-row l = l.model ≡ with_row l.fn.model l.fn.name (first_ones l.row l.criterion)
