use Rattle.std.proofs.Common.{◌≡◌, ◌-◌, true, length, take, ◌∙◌, ap, sym, subst, arith}
use Rattle.std.proofs.lemmas.Result.{IfOk-weaker}
use Rattle.model_core.specs.Names.{is_text}
use Rattle.csv.specs.Writing.{default_writer, row_text}
use Rattle.table_csv.specs.Lines.{ended}
use Rattle.table_csv.proofs.TextLemmas.{row_line, row_line-ended, row_is_text}
use Rattle.table_csv.proofs.LineLemmas.{line_taken}
use Rattle.table_csv.proofs.lines.line.Goals as goal

pub text_of-requires : goal.text_of-requires
text_of-requires c =
    let fields = c.args.row.now in
    let text : c.in-Ok.text.items ≡ row_text default_writer fields = c.in-Ok.ensures ∙ ap (row_text default_writer) c.in_ok-record.ensures.fields in
    let size : c.len.result - 1 ≡ length c.in-Ok.text.items - 1 = omega (arith, c.len.ensures) in
    let taken : take (c.len.result - 1) c.deref.result.now ≡ row_line fields =
    ap (take (c.len.result - 1)) c.deref.ensures.value ∙ line_taken fields c.in-Ok.text.items (c.len.result - 1) text size in
    subst (λ bytes. is_text bytes ≡ true) (sym taken) (row_is_text fields c.in_ok-record.ensures.texts)

pub returns : goal.returns
returns c =
    let fields = c.args.row.now in
    let text : c.in-Ok.text.items ≡ row_text default_writer fields = c.in-Ok.ensures ∙ ap (row_text default_writer) c.in_ok-record.ensures.fields in
    let size : c.len.result - 1 ≡ length c.in-Ok.text.items - 1 = omega (arith, c.len.ensures) in
    let taken : take (c.len.result - 1) c.deref.result.now ≡ row_line fields =
    ap (take (c.len.result - 1)) c.deref.ensures.value ∙ line_taken fields c.in-Ok.text.items (c.len.result - 1) text size in
    IfOk-weaker c.text_of.result (λ line. line ≡ take (c.len.result - 1) c.deref.result.now) (λ line. ended line ≡ row_text default_writer fields)
    (λ line is. ap ended (is ∙ taken) ∙ sym (row_line-ended fields)) c.text_of.ensures
