use Rattle.table_csv.proofs.TableLemmas.{no_fault, matrix_back}
use Rattle.table_csv.proofs.laws.exported_matrices_import.Goals as goal

pub returns : goal.returns
returns c = λ names m is size. (no_fault names m is size, matrix_back names m is size)
