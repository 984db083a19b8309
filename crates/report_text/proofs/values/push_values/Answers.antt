use Rattle.std.proofs.Common.{◌≡◌, length, map, subst}
use Rattle.std.specs.Prelude.{OnOk, string_bytes}
use Rattle.std.specs.List.{zip}
use Rattle.report_text.specs.Values.{value_line}
use Rattle.report_text.proofs.LineLemmas.{under_heading}
use Rattle.report_text.proofs.PairLemmas.{length_beside}
use Rattle.report_text.proofs.values.push_values.Goals as goal

pub returns : goal.returns
returns c =
    let names = c.args.names.now in
    let values = c.args.values.now in
    subst (λ bytes. OnOk c.push_value_lines.result (string_bytes c.push_value_lines.new.out ≡ bytes))
    (under_heading (string_bytes c.args.out.now) (string_bytes c.push_heading.new.out) c.args.heading.now (length names) (map value_line (zip names values))
    (length_beside value_line names values c.requires) c.in_ok-push_heading.ensures)
    c.push_value_lines.ensures
