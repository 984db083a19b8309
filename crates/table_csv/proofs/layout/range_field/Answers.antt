use Rattle.table_csv.proofs.TextLemmas.{range_line}
use Rattle.table_csv.proofs.layout.range_field.Goals as goal

pub text_from-requires : goal.text_from-requires
text_from-requires c = rw (c.as_str.ensures.value, c.in_ok-text.ensures.text) (range_line c.args.range c.requires)
