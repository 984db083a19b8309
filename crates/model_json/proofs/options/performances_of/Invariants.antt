use Rattle.serde_json.specs.View.{view}
use Rattle.model_json.proofs.OptionLemmas.{RowLeft}
use Rattle.model_json.proofs.options.performances_of.Given as goal

abbrev pub invariant-criteria : goal.invariant-criteria
invariant-criteria l = RowLeft l.place l.model.criteria (view l.value) l.c l.row.items
