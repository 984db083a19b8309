use Rattle.std.proofs.Common.{◌≡◌, None, refl, sym, ◌∙◌}
use Rattle.model_core.specs.Finding.{find_group}
use Rattle.model_json.proofs.groups.group_or_root.Goals as goal

pub returns-in-None-clause-group : goal.returns-in-None-clause-group
returns-in-None-clause-group c =
    let unknown : find_group c.args.model.now c.in_ok-name.name.now ≡ None = rw c.as_bytes.ensures.value at (sym c.find_group.ensures.place ∙ c.in-None.is) in
    rw (c.in-Some.is, c.in_ok-name.ensures, unknown) refl
