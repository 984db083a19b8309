use Rattle.std.proofs.Common.{ap, ◌∙◌}
use Rattle.table_csv.specs.Lines.{rows}
use Rattle.table_csv.proofs.LineOfRow.{lines_are}
use Rattle.report_text.specs.declared.reply.Reply.TheVariants as reply
use Rattle.session_edits.proofs.texts.csv_reply.Goals as goal

pub returns-clause-value : goal.returns-clause-value
returns-clause-value c =
    ap reply.Csv (c.make.ensures ∙ lines_are (rows c.args.table.now) c.in_ok-export.field-0.items c.in_ok-export.ensures.lines)
