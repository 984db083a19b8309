use Rattle.std.proofs.Common.{◌≡◌, None, refl, sym, ◌∙◌}
use Rattle.model_core.specs.Finding.{find_criterion}
use Rattle.model_json.proofs.weighting.ranked.Goals as goal

pub returns-in-None-clause-place : goal.returns-in-None-clause-place
returns-in-None-clause-place c =
    let unknown : find_criterion c.args.model.now c.in_ok-name.name.now ≡ None =
    rw c.as_bytes.ensures.value at (sym c.find_criterion.ensures.place ∙ c.in-None.is) in
    rw (c.in_ok-name.ensures, unknown) refl
