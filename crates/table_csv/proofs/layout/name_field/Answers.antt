use Rattle.table_csv.proofs.TextLemmas.{name_is_text}
use Rattle.table_csv.proofs.layout.name_field.Goals as goal

pub text_of-requires : goal.text_of-requires
text_of-requires c = rw c.as_bytes.ensures.value (name_is_text c.args.name.now c.as_bytes.ensures.name)
