-- The lines of the table of a matrix import as the matrix.
use Rattle.std.proofs.Common.{◌≡◌, ◌⊎◌, ℕ, List, length, Some, None, Result, Ok, Err, inl, inr, refl, sym, ap, subst, ◌∙◌}
use Rattle.judgement_matrix.specs.Matrix.{Judgements, IsMatrix, IsSize}
use Rattle.table_csv.specs.declared.fault.TableFault.{TableFault}
use Rattle.table_csv.specs.declared.fault.TableFault.TheVariants.{BadTable, NoMemory}
use Rattle.table_csv.specs.Table.{AreRecordsOf, fault_of, table_matrix, Imports}
use Rattle.table_csv.specs.Layout.{matrix_table}
use Rattle.table_csv.specs.Lines.{lines_text, AreLinesOf}
use Rattle.table_csv.proofs.RecordLemmas.{one_reading}
use Rattle.table_csv.proofs.LineLemmas.{read_again}
use Rattle.table_csv.proofs.TableLemmas.{no_fault, matrix_back, matrix_is_table}

faulty : (place : ℕ × ℕ) → Some place ≡ None → ⊥
faulty place e = cc e

pub lines_import : (names : List (List ℕ)) (m : Judgements) (lines : List (List ℕ)) (answer : Result Judgements TableFault) → IsMatrix m → m.size ≡ length names
    → AreLinesOf (matrix_table names m) lines → Imports names (lines_text lines) answer → (answer ≡ Ok m) ⊎ (answer ≡ Err NoMemory)
lines_import names m lines (Ok matrix) is size e imports = inl (ap (λ x. Ok x) (imports.2.1 ∙ ap (table_matrix names) same ∙ matrix_back names m is size))
  where
    same : imports.0 ≡ matrix_table names m
    same =
        one_reading (lines_text lines) imports.0 (matrix_table names m) imports.1
        (read_again lines (matrix_table names m) e (matrix_is_table names m (subst IsSize size (is.least, is.most))))
lines_import names m lines (Err (BadTable line field)) is size e imports =
    let again : AreRecordsOf (lines_text lines) (matrix_table names m) =
    read_again lines (matrix_table names m) e (matrix_is_table names m (subst IsSize size (is.least, is.most))) in
    let same : imports.0 ≡ matrix_table names m = one_reading (lines_text lines) imports.0 (matrix_table names m) imports.1 again in
    absurd (faulty (line, field) (sym imports.2 ∙ ap (fault_of names) same ∙ no_fault names m is size))
lines_import names m lines (Err NoMemory) is size e imports = inr refl
