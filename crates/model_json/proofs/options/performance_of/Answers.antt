use Rattle.std.proofs.Common.{◌≡◌, Some, None, refl, sym, ◌∙◌}
use Rattle.model_core.specs.Finding.{find_element}
use Rattle.model_json.proofs.options.performance_of.Goals as goal

pub returns-in-Some-find_element : goal.returns-in-Some-find_element
returns-in-Some-find_element c =
    let known : find_element c.args.criterion.now c.in_ok-name.name.now ≡ Some c.in-Some-find_element.element =
    rw c.as_bytes.ensures.value at (sym c.find_element.ensures.place ∙ c.in-Some-find_element.is) in
    rw (c.in-Some.is, c.in_ok-name.ensures, known) refl

pub returns-in-None : goal.returns-in-None
returns-in-None c =
    let unknown : find_element c.args.criterion.now c.in_ok-name.name.now ≡ None =
    rw c.as_bytes.ensures.value at (sym c.find_element.ensures.place ∙ c.in-None.is) in
    rw (c.in-Some.is, c.in_ok-name.ensures, unknown) refl
