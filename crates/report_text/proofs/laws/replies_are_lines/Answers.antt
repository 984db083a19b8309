use Rattle.report_text.proofs.ReplyLines.{all_lines, some_line}
use Rattle.report_text.proofs.laws.replies_are_lines.Goals as goal

pub returns : goal.returns
returns c = record { some = some_line; lines = all_lines }
