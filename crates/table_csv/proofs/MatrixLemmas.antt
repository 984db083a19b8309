-- What a table of judgements holds is a matrix.
use Rattle.std.proofs.Common.{◌≡◌, ℕ, true, false, List, Option, Some, None, length, get_or, refl}
use Rattle.std.specs.Option.{option_map_or}
use Rattle.std.proofs.lemmas.List.{length-map}
use Rattle.std.proofs.lemmas.List.Elements.{All-map}
use Rattle.judgement_matrix.specs.Range.{Bounds, IsRange, full}
use Rattle.judgement_matrix.specs.Matrix.{IsSize, IsCell, IsMatrix, pairs}
use Rattle.judgement_matrix.proofs.ChangeLemmas.{IsCell-full}
use Rattle.model_core.specs.Categories.{range_of}
use Rattle.model_core.proofs.GrammarLemmas.{range_of-IsRange}
use Rattle.table_csv.specs.Table.{cell_of, cell_in, field_of, matrix_in, table_matrix}

IsCell-of : (field : List ℕ) → IsCell (cell_of field)
IsCell-of field = by_range (range_of field) (λ range is. range_of-IsRange field range is)
  where
    by_range : (o : Option Bounds) → ((range : Bounds) → o ≡ Some range → IsRange range) → IsCell (option_map_or (λ range. (range, true)) o (full, false))
    by_range None is = IsCell-full
    by_range (Some range) is = (is range refl, λ e. cc)

IsCell-in : (records : List (List (List ℕ))) (pair : ℕ × ℕ) → IsCell (cell_in records pair)
IsCell-in records pair = IsCell-of (field_of records pair.0 pair.1)

pub IsMatrix-in : (size : ℕ) (records : List (List (List ℕ))) → IsSize size → IsMatrix (matrix_in size records)
IsMatrix-in size records is = record {
  least = is.0;
  most = is.1;
  each = length-map (pairs size) (cell_in records);
  cells_are = All-map IsCell (cell_in records) (pairs size) (λ k d _. IsCell-in records (get_or (pairs size) k d));
}

pub IsMatrix_of_table : (names : List (List ℕ)) (records : List (List (List ℕ))) → IsSize (length names) → IsMatrix (table_matrix names records)
IsMatrix_of_table names records is = IsMatrix-in (length names) records is
