use Rattle.table_csv.proofs.TextLemmas.{name_is_text, fraction_line, rounded_line}
use Rattle.table_csv.proofs.values.value_row.Goals as goal

pub text_of-requires : goal.text_of-requires
text_of-requires c = rw c.as_bytes.ensures.value (name_is_text c.args.name.now c.as_bytes.ensures.name)

pub text_from-requires : goal.text_from-requires
text_from-requires c = rw (c.as_str.ensures.value, c.in_ok-fraction.ensures.text) (fraction_line c.args.value.now)

pub text_from-requires-2 : goal.text_from-requires-2
text_from-requires-2 c = rw (c.as_str-2.ensures.value, c.in_ok-rounded.ensures.text) (rounded_line c.args.value.now 2)
