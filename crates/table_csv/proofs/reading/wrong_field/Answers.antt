use Rattle.std.proofs.Common.{◌≡◌, ◌≢◌, ◌+◌, ◌<◌, [], length, get_or, option_map, Some, sym, ap, ◌∙◌, arith}
use Rattle.std.proofs.lemmas.List.{drop_more}
use Rattle.csv.specs.Records.{fields_of, field_at}
use Rattle.table_csv.proofs.FaultLemmas.{field_too_much, field_wrong, field_right, fields_all, fields_few}
use Rattle.table_csv.proofs.RecordLemmas.{is_there, field_here}
use Rattle.table_csv.proofs.reading.wrong_field.Goals as goal

pub returns-then-names-column : goal.returns-then-names-column
returns-then-names-column c =
    let fs = fields_of c.args.fields.now in
    let k = c.loop-column.column in
    let lt : k < length fs = omega (arith, c.len-column-end.ensures) in
    field_too_much c.args.names.now c.args.row k fs _ c.loop-column.invariant.rest (get_or fs k []) (drop_more fs k [] lt)
    c.if-names-column.true

pub unwrap-field-requires : goal.unwrap-field-requires
unwrap-field-requires c =
    is_there (fields_of c.args.fields.now) c.loop-column.column c.get.result (omega (arith, c.len-column-end.ensures)) c.get.ensures.value

pub returns-then-not-may_stand : goal.returns-then-not-may_stand
returns-then-not-may_stand c =
    let fs = fields_of c.args.fields.now in
    let k = c.loop-column.column in
    let f = c.unwrap-field.result.now in
    let found : field_at fs k ≡ Some f = sym c.get.ensures.value ∙ ap (option_map (λ s. s.now)) c.unwrap-field.ensures in
    field_wrong c.args.names.now c.args.row k fs _ c.loop-column.invariant.rest f (field_here fs k f found)
    c.if-names-column.false (sym c.may_stand.ensures ∙ c.if-not-may_stand.true)

pub loop-column-preserved : goal.loop-column-preserved
loop-column-preserved c =
    let fs = fields_of c.args.fields.now in
    let k = c.loop-column.column in
    let f = c.unwrap-field.result.now in
    let found : field_at fs k ≡ Some f = sym c.get.ensures.value ∙ ap (option_map (λ s. s.now)) c.unwrap-field.ensures in
    record {
      room = omega (arith, c.if-names-column.false);
      rest = field_right c.args.names.now c.args.row k fs _ c.loop-column.invariant.rest f (field_here fs k f found)
          c.if-names-column.false (sym c.may_stand.ensures ∙ c.if-not-may_stand.false);
    }

pub returns-then-len-names : goal.returns-then-len-names
returns-then-len-names c =
    let fs = fields_of c.args.fields.now in
    let k = c.loop-column.column in
    let all : k ≡ length c.args.names.now + 1 = omega (arith, c.len.ensures, c.len-column-end.ensures, c.if-len-names.true) in
    fields_all c.args.names.now c.args.row k fs _ c.loop-column.invariant.rest (omega (arith, c.len-column-end.ensures)) all

pub returns-else-len-names : goal.returns-else-len-names
returns-else-len-names c =
    let fs = fields_of c.args.fields.now in
    let k = c.loop-column.column in
    let other : k ≢ length c.args.names.now + 1 = λ e. absurd (omega (arith, c.len.ensures, c.len-column-end.ensures, e)) in
    let at : c.len-else-len-names.result ≡ k = omega (arith, c.len-else-len-names.ensures, c.len-column-end.ensures) in
    ap (λ n. Some (n + 1)) at
    ∙ fields_few c.args.names.now c.args.row k fs _ c.loop-column.invariant.rest (omega (arith, c.len-column-end.ensures)) other
