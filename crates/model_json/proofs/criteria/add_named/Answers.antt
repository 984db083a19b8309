use Rattle.std.proofs.Common.{◌≡◌, ◌∙◌, refl, sym, ap, subst, Some, Ok}
use Rattle.model_core.specs.Finding.{find_element}
use Rattle.model_core.specs.Edits.{edited, set_refs, set_matrix, set_reach, place, with_criterion}
use Rattle.std.specs.Option.{option_map}
use Rattle.model_core.specs.State.{ModelState}
use Rattle.model_json.proofs.AddLemmas.{fits, is_done, refs_given, matrix_given, reach_given, place_given, after_place}
use Rattle.model_json.proofs.criteria.add_named.Goals as goal

pub set_matrix-requires : goal.set_matrix-requires
set_matrix-requires c =
    let good = c.args.names.now.good in
    let neutral = c.args.names.now.neutral in
    let name : c.as_bytes-name.result.now ≡ c.parts.inside.name = c.as_bytes-name.ensures.value ∙ c.requires.name ∙ sym (ap (λ p. p.name) c.parts.view_is) in
    let refs : edited c.add_criterion.new.self (set_refs c.parts.inside.name good neutral) ≡ Ok c.set_refs.new.self =
    rw (sym name, sym c.as_bytes.ensures.value, sym c.as_bytes-2.ensures.value) c.in-Ok-set_refs.ensures in
    rw name (fits c.args.model.now c.add_criterion.new.self c.set_refs.new.self _ c.parts.invariant good neutral
    (subst (λ p. find_element p good ≡ Some p.good) (sym c.parts.view_is) c.requires.good)
    (subst (λ p. find_element p neutral ≡ Some p.neutral) (sym c.parts.view_is) c.requires.neutral) c.in-Ok.ensures refs)

pub unreachable-requires : goal.unreachable-requires
unreachable-requires c =
    let own = c.parts.inside.name in
    let good = c.args.names.now.good in
    let neutral = c.args.names.now.neutral in
    let name : c.as_bytes-name.result.now ≡ own = c.as_bytes-name.ensures.value ∙ c.requires.name ∙ sym (ap (λ p. p.name) c.parts.view_is) in
    let at_good = subst (λ p. find_element p good ≡ Some p.good) (sym c.parts.view_is) c.requires.good in
    let at_neutral = subst (λ p. find_element p neutral ≡ Some p.neutral) (sym c.parts.view_is) c.requires.neutral in
    let gives : (n : ModelState) × (edited c.add_criterion.new.self (set_refs c.as_bytes-name.result.now c.as_bytes.result.now c.as_bytes-2.result.now) ≡ Ok n) =
    rw (name, c.as_bytes.ensures.value, c.as_bytes-2.ensures.value)
    (refs_given c.args.model.now c.add_criterion.new.self _ c.parts.invariant good neutral at_good at_neutral c.in-Ok.ensures) in
    c.in_default-set_refs.not-Ok tt (is_done c.add_criterion.new.self c.set_refs.new.self (set_refs c.as_bytes-name.result.now c.as_bytes.result.now c.as_bytes-2.result.now) c.set_refs.result refl gives c.set_refs.ensures)

pub unreachable-requires-in_default-set_matrix : goal.unreachable-requires-in_default-set_matrix
unreachable-requires-in_default-set_matrix c =
    let own = c.parts.inside.name in
    let good = c.args.names.now.good in
    let neutral = c.args.names.now.neutral in
    let name : c.as_bytes-name.result.now ≡ own = c.as_bytes-name.ensures.value ∙ c.requires.name ∙ sym (ap (λ p. p.name) c.parts.view_is) in
    let at_good = subst (λ p. find_element p good ≡ Some p.good) (sym c.parts.view_is) c.requires.good in
    let at_neutral = subst (λ p. find_element p neutral ≡ Some p.neutral) (sym c.parts.view_is) c.requires.neutral in
    let refs : edited c.add_criterion.new.self (set_refs own good neutral) ≡ Ok c.set_refs.new.self =
    rw (sym name, sym c.as_bytes.ensures.value, sym c.as_bytes-2.ensures.value) c.in-Ok-set_refs.ensures in
    let gives : (n : ModelState) × (edited c.set_refs.new.self (set_matrix c.as_bytes-name.result.now c.parts.inside.matrix) ≡ Ok n) =
    rw name (matrix_given c.args.model.now c.add_criterion.new.self c.set_refs.new.self _ c.parts.invariant good neutral at_good at_neutral c.in-Ok.ensures refs) in
    c.in_default-set_matrix.not-Ok tt (is_done c.set_refs.new.self c.set_matrix.new.self (set_matrix c.as_bytes-name.result.now c.parts.inside.matrix) c.set_matrix.result refl gives c.set_matrix.ensures)

pub unreachable-requires-in_default-set_reach : goal.unreachable-requires-in_default-set_reach
unreachable-requires-in_default-set_reach c =
    let own = c.parts.inside.name in
    let good = c.args.names.now.good in
    let neutral = c.args.names.now.neutral in
    let name : c.as_bytes-name.result.now ≡ own = c.as_bytes-name.ensures.value ∙ c.requires.name ∙ sym (ap (λ p. p.name) c.parts.view_is) in
    let at_good = subst (λ p. find_element p good ≡ Some p.good) (sym c.parts.view_is) c.requires.good in
    let at_neutral = subst (λ p. find_element p neutral ≡ Some p.neutral) (sym c.parts.view_is) c.requires.neutral in
    let refs : edited c.add_criterion.new.self (set_refs own good neutral) ≡ Ok c.set_refs.new.self =
    rw (sym name, sym c.as_bytes.ensures.value, sym c.as_bytes-2.ensures.value) c.in-Ok-set_refs.ensures in
    let matrix : edited c.set_refs.new.self (set_matrix own c.parts.inside.matrix) ≡ Ok c.set_matrix.new.self = rw (sym name) c.in-Ok-set_matrix.ensures in
    let gives : (n : ModelState) × (edited c.set_matrix.new.self (set_reach c.as_bytes-name.result.now c.parts.inside.reach) ≡ Ok n) =
    rw name (reach_given c.args.model.now c.add_criterion.new.self c.set_refs.new.self _ c.parts.invariant good neutral at_good at_neutral c.in-Ok.ensures refs
    c.set_matrix.new.self matrix) in
    c.in_default-set_reach.not-Ok tt (is_done c.set_matrix.new.self c.set_reach.new.self (set_reach c.as_bytes-name.result.now c.parts.inside.reach) c.set_reach.result refl gives c.set_reach.ensures)

pub unreachable-requires-in_default-place : goal.unreachable-requires-in_default-place
unreachable-requires-in_default-place c =
    let own = c.parts.inside.name in
    let good = c.args.names.now.good in
    let neutral = c.args.names.now.neutral in
    let name : c.as_bytes-name.result.now ≡ own = c.as_bytes-name.ensures.value ∙ c.requires.name ∙ sym (ap (λ p. p.name) c.parts.view_is) in
    let at_good = subst (λ p. find_element p good ≡ Some p.good) (sym c.parts.view_is) c.requires.good in
    let at_neutral = subst (λ p. find_element p neutral ≡ Some p.neutral) (sym c.parts.view_is) c.requires.neutral in
    let refs : edited c.add_criterion.new.self (set_refs own good neutral) ≡ Ok c.set_refs.new.self =
    rw (sym name, sym c.as_bytes.ensures.value, sym c.as_bytes-2.ensures.value) c.in-Ok-set_refs.ensures in
    let matrix : edited c.set_refs.new.self (set_matrix own c.parts.inside.matrix) ≡ Ok c.set_matrix.new.self = rw (sym name) c.in-Ok-set_matrix.ensures in
    let reach : edited c.set_matrix.new.self (set_reach own c.parts.inside.reach) ≡ Ok c.set_reach.new.self = rw (sym name) c.in-Ok-set_reach.ensures in
    let gives : (n : ModelState) × (edited c.set_reach.new.self (place c.as_bytes-name.result.now (option_map (λ bytes. bytes.now) c.bytes_of.result)) ≡ Ok n) =
    rw (name, c.bytes_of.ensures) (place_given c.args.model.now c.add_criterion.new.self c.set_refs.new.self _ c.parts.invariant good neutral at_good at_neutral
    c.in-Ok.ensures refs c.set_matrix.new.self c.set_reach.new.self matrix reach c.args.names.now.group
    (c.requires.group ∙ ap (λ p. Ok p.group) (sym c.parts.view_is))) in
    c.in_default-place.not-Ok tt (is_done c.set_reach.new.self c.place.new.self (place c.as_bytes-name.result.now (option_map (λ bytes. bytes.now) c.bytes_of.result)) c.place.result refl gives c.place.ensures)

pub returns : goal.returns
returns c =
    let own = c.parts.inside.name in
    let good = c.args.names.now.good in
    let neutral = c.args.names.now.neutral in
    let above = c.args.names.now.group in
    let name : c.as_bytes-name.result.now ≡ own = c.as_bytes-name.ensures.value ∙ c.requires.name ∙ sym (ap (λ p. p.name) c.parts.view_is) in
    let refs : edited c.add_criterion.new.self (set_refs own good neutral) ≡ Ok c.set_refs.new.self =
    rw (sym name, sym c.as_bytes.ensures.value, sym c.as_bytes-2.ensures.value) c.in-Ok-set_refs.ensures in
    let matrix : edited c.set_refs.new.self (set_matrix own c.parts.inside.matrix) ≡ Ok c.set_matrix.new.self = rw (sym name) c.in-Ok-set_matrix.ensures in
    let reach : edited c.set_matrix.new.self (set_reach own c.parts.inside.reach) ≡ Ok c.set_reach.new.self = rw (sym name) c.in-Ok-set_reach.ensures in
    let group : edited c.set_reach.new.self (place own above) ≡ Ok c.place.new.self = rw (sym name, sym c.bytes_of.ensures) c.in-Ok-place.ensures in
    ap Ok (ap (with_criterion c.args.model.now) (sym c.parts.view_is)
    ∙ sym (after_place c.args.model.now c.add_criterion.new.self c.set_refs.new.self _ c.parts.invariant good neutral
    (subst (λ p. find_element p good ≡ Some p.good) (sym c.parts.view_is) c.requires.good)
    (subst (λ p. find_element p neutral ≡ Some p.neutral) (sym c.parts.view_is) c.requires.neutral) c.in-Ok.ensures refs
    c.set_matrix.new.self c.set_reach.new.self matrix reach c.place.new.self above
    (c.requires.group ∙ ap (λ p. Ok p.group) (sym c.parts.view_is)) group))
