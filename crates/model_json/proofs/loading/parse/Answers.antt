use Rattle.std.proofs.Common.{rules}
use Rattle.serde_json.specs.View.{view}
use Rattle.serde_json.specs.Errors.{IsMemory}
use Rattle.model_json.proofs.DumpText.{json_some}
use Rattle.model_json.proofs.TextLemmas.{json_none}
use Rattle.model_json.proofs.loading.parse.Goals as goal

pub returns-in-Ok : goal.returns-in-Ok
returns-in-Ok c = json_some c.args.bytes.now (view c.in-Ok.value) c.in-Ok.ensures.ok.0 c.in-Ok.ensures.ok.1

pub returns-else-is_memory : goal.returns-else-is_memory
returns-else-is_memory c =
    let other : IsMemory c.in-Err.fault → ⊥ = search rules in
    json_none c.args.bytes.now (c.in-Err.ensures.err other)
