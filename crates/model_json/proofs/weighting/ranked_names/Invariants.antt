use Rattle.model_json.proofs.WeightingLemmas.{Ranked}
use Rattle.model_json.proofs.weighting.ranked_names.Given as goal

abbrev pub invariant-values : goal.invariant-values
invariant-values l = Ranked l.model l.values l.i l.names.items
