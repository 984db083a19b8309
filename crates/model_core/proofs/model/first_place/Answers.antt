use Rattle.std.proofs.Common.{Option, ℕ, unwrap_or, length, ◌==◌, ap, ◌∙◌}
use Rattle.model_core.proofs.OrderLemmas.{first_is}
use Rattle.model_core.proofs.model.first_place.Goals as goal

pub returns : goal.returns
returns c =
    c.unwrap_or.ensures ∙ ap (λ (o : Option ℕ). unwrap_or o (length c.args.numbers.now)) c.place_in.ensures ∙ first_is (λ d. d == c.args.number) c.args.numbers.now
