use Rattle.std.proofs.Common.{◌≡◌, length, map, subst}
use Rattle.std.specs.Prelude.{OnOk, string_bytes}
use Rattle.std.proofs.lemmas.List.{length-map}
use Rattle.report_text.specs.Matrices.{shift_line, repairs_heading}
use Rattle.report_text.proofs.LineLemmas.{under_heading, numbered}
use Rattle.report_text.proofs.matrices.push_repairs.Goals as goal

pub returns : goal.returns
returns c =
    let line = shift_line c.args.names.now in
    let old = string_bytes c.args.out.now in
    let middle = string_bytes c.push_count.new.out in
    let heading = repairs_heading c.args.total in
    let count = length c.args.shifts.now in
    subst (λ bytes. OnOk c.push_shifts.result (string_bytes c.push_shifts.new.out ≡ bytes))
    (under_heading old middle heading count (map line c.args.shifts.now) (length-map c.args.shifts.now line)
    (numbered old (string_bytes c.push_total.new.out) middle heading count c.in_ok-push_total.ensures c.in_ok-push_count.ensures))
    c.push_shifts.ensures
