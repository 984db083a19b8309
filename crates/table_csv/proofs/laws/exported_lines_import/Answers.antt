use Rattle.table_csv.proofs.ImportLemmas.{lines_import}
use Rattle.table_csv.proofs.laws.exported_lines_import.Goals as goal

pub returns : goal.returns
returns c = lines_import
