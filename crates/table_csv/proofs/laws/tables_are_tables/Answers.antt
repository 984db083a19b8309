use Rattle.table_csv.proofs.TableLemmas.{matrix_is_table, values_are_table}
use Rattle.table_csv.proofs.laws.tables_are_tables.Goals as goal

pub returns : goal.returns
returns c = record { matrices = matrix_is_table; values = values_are_table }
