use Rattle.std.proofs.Common.{◌≤◌, ◌==◌, All, length, string_bytes, sym, subst}
use Rattle.std.specs.List.{slice_split}
use Rattle.model_json.specs.Writing.{model_data}
use Rattle.model_json.specs.declared.writing.TheConstants.{DUMP_TEXT}
use Rattle.model_json.proofs.DumpText.{json_some, shallow_model, text_from_order}
use Rattle.model_json.proofs.DumpLines.{lines_of_dump}
use Rattle.model_json.proofs.DumpSize.{size_of_dump}
use Rattle.model_json.proofs.ModelAgain.{load_again}
use Rattle.model_json.proofs.writing.dump.Goals as goal

pub returns-clause-text : goal.returns-clause-text
returns-clause-text c =
    let written = rw c.in_ok-value.ensures at c.in_ok-text.ensures in
    text_from_order (string_bytes c.in_ok-text.text) c.args.model.now written.layout written.order

pub returns-clause-again : goal.returns-clause-again
returns-clause-again c =
    let text = string_bytes c.in_ok-text.text in
    let m = c.args.model.now in
    let written = rw c.in_ok-value.ensures at c.in_ok-text.ensures in
    load_again text m (json_some text (model_data m) written.text (written.reads_back (shallow_model m))) c.model_is_named.ensures

pub returns-clause-lines : goal.returns-clause-lines
returns-clause-lines c =
    let written = rw c.in_ok-value.ensures at c.in_ok-text.ensures in
    let m = c.args.model.now in
    subst (λ text. All (λ line. length line ≤ 300) (slice_split (λ byte. byte == 10) text))
    (sym (text_from_order (string_bytes c.in_ok-text.text) m written.layout written.order))
    (lines_of_dump m c.model_is_named.ensures)

pub returns-clause-size : goal.returns-clause-size
returns-clause-size c =
    let written = rw c.in_ok-value.ensures at c.in_ok-text.ensures in
    let m = c.args.model.now in
    subst (λ text. length text ≤ DUMP_TEXT)
    (sym (text_from_order (string_bytes c.in_ok-text.text) m written.layout written.order))
    (size_of_dump m c.model_is_named.ensures)
