use Rattle.table_csv.proofs.LineOfRow.{lines_are}
use Rattle.table_csv.proofs.laws.one_list_of_lines.Goals as goal

pub returns : goal.returns
returns c = lines_are
