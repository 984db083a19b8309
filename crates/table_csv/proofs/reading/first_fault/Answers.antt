use Rattle.std.proofs.Common.{◌≡◌, ◌≢◌, ◌+◌, ◌<◌, [], length, map, get_or, Some, sym, ap, ◌∙◌, arith}
use Rattle.std.proofs.lemmas.List.{drop_more, length-map}
use Rattle.csv.specs.Records.{fields_of}
use Rattle.table_csv.specs.Table.{fault_of}
use Rattle.table_csv.proofs.FaultLemmas.{record_too_much, record_wrong, record_right, records_all, records_few}
use Rattle.table_csv.proofs.RecordLemmas.{record_here}
use Rattle.table_csv.proofs.reading.first_fault.Goals as goal

pub returns-then-names-row : goal.returns-then-names-row
returns-then-names-row c =
    let rs = map fields_of c.args.records.now in
    let i = c.loop-row.row in
    let lt : i < length rs = omega (arith, length-map c.args.records.now fields_of) in
    record_too_much c.args.names.now i rs (fault_of c.args.names.now rs) c.loop-row.invariant.rest (get_or rs i []) (drop_more rs i [] lt) c.if-names-row.true

pub returns-in-Some : goal.returns-in-Some
returns-in-Some c =
    let rs = map fields_of c.args.records.now in
    let i = c.loop-row.row in
    let r = c.index-records-row.result in
    record_wrong c.args.names.now i rs (fault_of c.args.names.now rs) c.loop-row.invariant.rest (fields_of r) c.in-Some.field
    (record_here c.args.records.now i r c.loop-row-test.true c.index-records-row.is) c.if-names-row.false (sym c.in-Some.is ∙ c.wrong_field.ensures)

pub loop-row-preserved : goal.loop-row-preserved
loop-row-preserved c =
    let rs = map fields_of c.args.records.now in
    let i = c.loop-row.row in
    let r = c.index-records-row.result in
    record {
      room = omega (arith, c.if-names-row.false);
      rest = record_right c.args.names.now i rs (fault_of c.args.names.now rs) c.loop-row.invariant.rest (fields_of r)
          (record_here c.args.records.now i r c.loop-row-test.true c.index-records-row.is) c.if-names-row.false (sym c.in_default.is ∙ c.wrong_field.ensures);
    }

pub returns-then-records-names : goal.returns-then-records-names
returns-then-records-names c =
    let rs = map fields_of c.args.records.now in
    let i = c.loop-row.row in
    let size = length-map c.args.records.now fields_of in
    let all : i ≡ length c.args.names.now + 1 = omega (arith, c.if-records-names.true) in
    records_all c.args.names.now i rs (fault_of c.args.names.now rs) c.loop-row.invariant.rest (omega (arith, size)) all

pub returns-else-records-names : goal.returns-else-records-names
returns-else-records-names c =
    let rs = map fields_of c.args.records.now in
    let i = c.loop-row.row in
    let size = length-map c.args.records.now fields_of in
    let other : i ≢ length c.args.names.now + 1 = λ e. absurd (omega (arith, e)) in
    let at : length c.args.records.now ≡ i = omega arith in
    ap (λ n. Some (n + 1, 1)) at ∙ records_few c.args.names.now i rs (fault_of c.args.names.now rs) c.loop-row.invariant.rest (omega (arith, size)) other
