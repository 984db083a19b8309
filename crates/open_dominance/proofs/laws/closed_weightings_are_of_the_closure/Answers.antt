use Rattle.open_dominance.proofs.laws.closed_weightings_are_of_the_closure.Goals as goal

pub returns : goal.returns
returns c = λ m k n. (
  λ h. record { weights = record { scale = h.scale; nonneg = h.nonneg; sum = h.sum }; closed = h.meets },
  λ h. record { scale = h.weights.scale; nonneg = h.weights.nonneg; sum = h.weights.sum; meets = h.closed },
)
