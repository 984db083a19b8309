use Rattle.model_json.proofs.OptionLemmas.{row_is}
use Rattle.model_json.proofs.options.read_option.Goals as goal

pub add_option-requires : goal.add_option-requires
add_option-requires c = rw c.deref.ensures.value (row_is _ c.args.model.now.criteria _ c.in_ok-row.row.items c.in_ok-row.ensures)
