use Rattle.table_csv.proofs.TextLemmas.{text_from}
use Rattle.table_csv.proofs.fields.text_from.Goals as goal

pub text_of-requires : goal.text_of-requires
text_of-requires c = rw c.as_bytes.ensures.value (text_from c.args.line.now (rw c.as_bytes.ensures.value at c.as_bytes.ensures.utf8) c.requires)
