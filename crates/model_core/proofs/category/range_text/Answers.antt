use Rattle.std.proofs.Common.{ap, ◌∙◌}
use Rattle.judgement_matrix.specs.Range.{bounds}
use Rattle.model_core.specs.Categories.{range_of, range_text}
use Rattle.model_core.proofs.CategoryLemmas.{range_again}
use Rattle.model_core.proofs.category.range_text.Goals as goal

pub returns-clause-again : goal.returns-clause-again
returns-clause-again c =
    ap range_of c.in_ok-text.ensures.text
    ∙ (λ i. range_of (range_text (bounds (c.lo.ensures.value i) (c.hi.ensures.value i)))) ∙ range_again c.args.range c.lo.ensures.range
