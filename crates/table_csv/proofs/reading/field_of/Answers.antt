use Rattle.std.proofs.Common.{◌≡◌, Some, None, option_map, sym, ap, ◌∙◌}
use Rattle.csv.specs.Records.{fields_of, field_at}
use Rattle.table_csv.proofs.RecordLemmas.{field_found, field_wanting}
use Rattle.table_csv.proofs.reading.field_of.Goals as goal

pub returns-in_default : goal.returns-in_default
returns-in_default c =
    let r = c.index-records-row.result in
    let none : field_at (fields_of r) c.args.column ≡ None = sym c.get.ensures.value ∙ ap (option_map (λ s. s.now)) c.in_default.is in
    field_wanting c.args.records.now c.args.row c.args.column r c.if-records-row.false c.index-records-row.is none

pub returns : goal.returns
returns c =
    let r = c.index-records-row.result in
    let found : field_at (fields_of r) c.args.column ≡ Some c.in-Some.field.now = sym c.get.ensures.value ∙ ap (option_map (λ s. s.now)) c.in-Some.is in
    field_found c.args.records.now c.args.row c.args.column r c.in-Some.field.now c.if-records-row.false c.index-records-row.is found
