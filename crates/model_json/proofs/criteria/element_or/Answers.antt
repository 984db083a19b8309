use Rattle.std.proofs.Common.{◌≡◌, Some, None, refl, sym, ◌∙◌}
use Rattle.model_json.specs.Reading.{place_among}
use Rattle.model_json.proofs.criteria.element_or.Goals as goal

pub returns-in-None-clause-element : goal.returns-in-None-clause-element
returns-in-None-clause-element c =
    let unknown : place_among c.args.elements.now c.in_ok-name.name.now ≡ None =
    rw c.as_bytes.ensures.value at (sym c.place_among.ensures.place ∙ c.in-None.is) in
    rw (c.in-Some.is, c.in_ok-name.ensures, unknown) refl

pub returns-in-Some-place_among-clause-element : goal.returns-in-Some-place_among-clause-element
returns-in-Some-place_among-clause-element c =
    let known : place_among c.args.elements.now c.in_ok-name.name.now ≡ Some c.in-Some-place_among.at =
    rw c.as_bytes.ensures.value at (sym c.place_among.ensures.place ∙ c.in-Some-place_among.is) in
    rw (c.in-Some.is, c.in_ok-name.ensures, known) refl
