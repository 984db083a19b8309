use Rattle.std.proofs.Common.{◌≡◌, Ok, ap}
use Rattle.model_core.specs.Edits.{edited, perform}
use Rattle.model_json.proofs.OptionLemmas.{performs}
use Rattle.model_json.proofs.options.perform.Goals as goal

pub returns-in-Ok : goal.returns-in-Ok
returns-in-Ok c =
    let edit : edited c.args.model.now (perform c.in_ok-name.name c.in_ok-on.on c.in_ok-best.best) ≡ Ok c.perform.new.self =
    rw (c.as_bytes.ensures.value, c.as_bytes-2.ensures.value, c.as_bytes-3.ensures.value) at c.in-Ok.ensures in
    let done =
    performs c.args.model.now c.perform.new.self c.in_ok-name.name c.in_ok-on.on c.in_ok-best.best c.args.option c.args.criterion c.args.element in
    ap Ok (done c.criterion.result.now
    c.in_ok-name.ensures c.in_ok-on.ensures c.criterion.ensures.criterion c.in_ok-best.ensures edit)
