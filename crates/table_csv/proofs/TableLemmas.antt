-- The table of a matrix has no fault, and holds the matrix.
use Rattle.std.proofs.Common.{◌≡◌, ℕ, zero, suc, ◌+◌, ◌-◌, ◌==◌, ◌<◌, ◌≤◌, nat_lt, nat_le, Bool, true, false, ◌||◌, List, [], ◌∷◌, length, map, get_or, None, inl, inr, refl, sym, ap, subst, ◌∙◌, arith}
use Rattle.std.specs.Prelude.{is_some, codes, zip}
use Rattle.std.specs.List.{range_with_len, AllByRecursion}
use Rattle.std.specs.Option.{option_map_or}
use Rattle.std.specs.Str.{bytes_eq}
use Rattle.std.specs.Cmp.Lexicographic.{nat_list_eq_equiv}
use Rattle.std.proofs.lemmas.Bool.{cases_eq, cases_lt}
use Rattle.std.proofs.lemmas.Bool.Decides.{nat_tests}
use Rattle.std.proofs.lemmas.List.{ext_get_or, get_or-map, length-map}
use Rattle.std.proofs.lemmas.List.FromFn.{length-map-range_with_len, get_or-map-range_with_len}
use Rattle.csv.specs.Reading.{strip_bom}
use Rattle.integers.specs.Fraction.{Fraction}
use Rattle.judgement_matrix.specs.Range.{Bounds, full}
use Rattle.judgement_matrix.specs.Matrix.{Judgements, IsCell, IsMatrix, IsPair, IsSize, pairs, cell_at}
use Rattle.judgement_matrix.proofs.PlaceLemmas.{place-at}
use Rattle.judgement_matrix.proofs.EveryLemmas.{every-map, every-pairs, every-range}
use Rattle.judgement_matrix.proofs.ChangeLemmas.{IsCell-cell_at}
use Rattle.model_core.specs.Categories.{range_of, range_text}
use Rattle.model_core.proofs.CategoryLemmas.{range_again}
use Rattle.table_csv.specs.Table.{is_empty, may_stand, wrong_field, fault_from, fault_of, cell_of, cell_in, field_of, table_matrix}
use Rattle.table_csv.specs.Layout.{cell_text, pair_text, matrix_row, matrix_table, value_row, value_table}
use Rattle.table_csv.specs.Lines.{IsTable}

-- ---- where each field may stand there is no fault

pub none_wrong : (names : List (List ℕ)) (row column : ℕ) (fields : List (List ℕ)) → column + length fields ≡ length names + 1
    → ((k : ℕ) → k < length fields → may_stand names row (column + k) (get_or fields k []) ≡ true) → wrong_field names row column fields ≡ None
unfolding wrong_field
none_wrong names row column [] all each =
    let done : (column == length names + 1) ≡ true = grind (arith, nat_tests) in
    rw done refl
none_wrong names row column (f ∷ fs) all each =
    let within : nat_le column (length names) ≡ true = grind (arith, nat_tests) in
    let here : may_stand names row column f ≡ true = subst (λ c. may_stand names row c f ≡ true) (omega arith) (each 0 (omega arith)) in
    let behind : wrong_field names row (column + 1) fs ≡ None =
    none_wrong names row (column + 1) fs (omega arith)
    (λ k below. subst (λ c. may_stand names row c (get_or fs k []) ≡ true) (omega arith) (each (suc k) (omega arith))) in
    rw (within, here) behind

pub none_faulty : (names : List (List ℕ)) (row : ℕ) (records : List (List (List ℕ))) → row + length records ≡ length names + 1
    → ((k : ℕ) → k < length records → wrong_field names (row + k) 0 (get_or records k []) ≡ None) → fault_from names row records ≡ None
unfolding fault_from
none_faulty names row [] all each =
    let done : (row == length names + 1) ≡ true = grind (arith, nat_tests) in
    rw done refl
none_faulty names row (r ∷ rs) all each =
    let within : nat_le row (length names) ≡ true = grind (arith, nat_tests) in
    let here : wrong_field names row 0 r ≡ None = subst (λ j. wrong_field names j 0 r ≡ None) (omega arith) (each 0 (omega arith)) in
    let behind : fault_from names (row + 1) rs ≡ None =
    none_faulty names (row + 1) rs (omega arith)
    (λ k below. subst (λ j. wrong_field names j 0 (get_or rs k []) ≡ None) (omega arith) (each (suc k) (omega arith))) in
    rw (within, here) behind

-- ---- the fields of the table of a matrix

or-last : (a b : Bool) → (a || (b || true)) ≡ true
or-last true b = refl
or-last false true = refl
or-last false false = refl

-- the text of a cell may stand above the diagonal, and writes the cell
text_stands : (cell : Bounds × Bool) → IsCell cell
    → (is_empty (cell_text cell) || (bytes_eq (cell_text cell) (codes "?") || is_some (range_of (cell_text cell)))) ≡ true
text_stands (range, false) is = refl
text_stands (range, true) is =
    ap (λ found. is_empty (range_text range) || (bytes_eq (range_text range) (codes "?") || is_some found)) (range_again range is.0)
    ∙ or-last (is_empty (range_text range)) (bytes_eq (range_text range) (codes "?"))

text_writes : (cell : Bounds × Bool) → IsCell cell → cell_of (cell_text cell) ≡ cell
text_writes (range, false) is = ap (λ r. (r, false)) (sym (is.1 refl))
text_writes (range, true) is = ap (λ found. option_map_or (λ r. (r, true)) found (full, false)) (range_again range is.0)

module _ (names : List (List ℕ)) (m : Judgements) (is : IsMatrix m) (size : m.size ≡ length names) where
  -- the field of row p and column q
  row_field : (p i : ℕ) → i < length names → get_or (matrix_row names m p) (suc i) [] ≡ pair_text m p (suc i)
  row_field p i below = get_or-map-range_with_len (pair_text m p) 1 (length names) i (suc i) [] below (omega arith)

  pair_stands : (j i : ℕ) → may_stand names (suc j) (suc i) (pair_text m (suc j) (suc i)) ≡ true
  pair_stands j i =
      let row : (suc j == 0) ≡ false = grind (arith, nat_tests) in
      let column : (suc i == 0) ≡ false = grind (arith, nat_tests) in
      elim (cases_eq (suc j) (suc i)) [
        | inl same ↦
            let diagonal : (suc j == suc i) ≡ true = grind (arith, nat_tests) in
            let above : nat_lt (suc j) (suc i) ≡ false = grind (arith, nat_tests) in
            rw (above, row, column, diagonal) (refl {a = true})
        | inr other ↦
            let diagonal : (suc j == suc i) ≡ false = grind (arith, nat_tests) in
            elim (cases_lt (suc i) (suc j)) [
              | inl lower ↦
                  let above : nat_lt (suc j) (suc i) ≡ false = grind (arith, nat_tests) in
                  let below : nat_lt (suc i) (suc j) ≡ true = grind (arith, nat_tests) in
                  rw (above, row, column, diagonal, below) (refl {a = true})
              | inr upper ↦
                  let above : nat_lt (suc j) (suc i) ≡ true = grind (arith, nat_tests) in
                  let below : nat_lt (suc i) (suc j) ≡ false = grind (arith, nat_tests) in
                  rw (above, row, column, diagonal, below) (text_stands (cell_at m (suc j) (suc i)) (IsCell-cell_at m (suc j) (suc i) is.cells_are))
            ]
      ]

  row_stands : (j k : ℕ) → j < length names → k < length (matrix_row names m (suc j))
      → may_stand names (suc j) k (get_or (matrix_row names m (suc j)) k []) ≡ true
  row_stands j zero within below =
      let one_less : suc j - 1 ≡ j = omega arith in
      let row : (suc j == 0) ≡ false = grind (arith, nat_tests) in
      rw (one_less, row) (nat_list_eq_equiv.refl (get_or names j []))
  row_stands j (suc i) within below =
      let short : i < length names = omega (arith, length-map-range_with_len (pair_text m (suc j)) 1 (length names)) in
      subst (λ field. may_stand names (suc j) (suc i) field ≡ true) (sym (row_field (suc j) i short)) (pair_stands j i)

  record_field : (j : ℕ) → j < length names → get_or (matrix_table names m) (suc j) [] ≡ matrix_row names m (suc j)
  record_field j below = get_or-map-range_with_len (matrix_row names m) 1 (length names) j (suc j) [] below (omega arith)

  record_right : (k : ℕ) → k < length (matrix_table names m) → wrong_field names k 0 (get_or (matrix_table names m) k []) ≡ None
  record_right zero below = none_wrong names 0 0 ([] ∷ names) (omega arith)
      (λ k within. subst (λ c. may_stand names 0 c (get_or ([] ∷ names) k []) ≡ true) (omega arith) (nat_list_eq_equiv.refl (get_or ([] ∷ names) k [])))
  record_right (suc j) below =
      let short : j < length names = omega (arith, length-map-range_with_len (matrix_row names m) 1 (length names)) in
      let all : 0 + length (matrix_row names m (suc j)) ≡ length names + 1 = omega (arith, length-map-range_with_len (pair_text m (suc j)) 1 (length names)) in
      subst (λ fields. wrong_field names (suc j) 0 fields ≡ None) (sym (record_field j short))
      (none_wrong names (suc j) 0 (matrix_row names m (suc j)) all
      (λ k within. subst (λ c. may_stand names (suc j) c (get_or (matrix_row names m (suc j)) k []) ≡ true) (omega arith) (row_stands j k short within)))

  pub no_fault : fault_of names (matrix_table names m) ≡ None
  no_fault =
      let all : 0 + length (matrix_table names m) ≡ length names + 1 = omega (arith, length-map-range_with_len (matrix_row names m) 1 (length names)) in
      none_faulty names 0 (matrix_table names m) all
      (λ k below. subst (λ row. wrong_field names row 0 (get_or (matrix_table names m) k []) ≡ None) (omega arith) (record_right k below))

  -- ---- its cells

  cell_back : (p q : ℕ) → IsPair (length names) p q → cell_in (matrix_table names m) (p, q) ≡ cell_at m p q
  cell_back zero q pair = absurd (omega (arith, pair.0))
  cell_back (suc j) zero pair = absurd (omega (arith, pair.1))
  cell_back (suc j) (suc i) pair =
      let row : j < length names = omega (arith, pair.1, pair.2) in
      let column : i < length names = omega (arith, pair.2) in
      let above : nat_lt (suc j) (suc i) ≡ true = let lt = pair.1 in grind (arith, nat_tests) in
      let field : field_of (matrix_table names m) (suc j) (suc i) ≡ cell_text (cell_at m (suc j) (suc i)) =
      ap (λ fields. get_or fields (suc i) []) (record_field j row) ∙ row_field (suc j) i column ∙ rw above refl in
      ap cell_of field ∙ text_writes (cell_at m (suc j) (suc i)) (IsCell-cell_at m (suc j) (suc i) is.cells_are)

  map_same : (f g : ℕ × ℕ → Bounds × Bool) (ps : List (ℕ × ℕ)) → AllByRecursion (λ pair. f pair ≡ g pair) ps → map f ps ≡ map g ps
  map_same f g [] h = refl
  map_same f g (pair ∷ ps) h = ap (λ x. x ∷ map f ps) h.0 ∙ ap (λ xs. g pair ∷ xs) (map_same f g ps h.1)

  -- the cells of a matrix are those of its pairs
  cells_of : map (λ pair. cell_at m pair.0 pair.1) (pairs m.size) ≡ m.cells
  cells_of =
      let f : ℕ × ℕ → Bounds × Bool = λ pair. cell_at m pair.0 pair.1 in
      let long : length (map f (pairs m.size)) ≡ length m.cells = length-map (pairs m.size) f ∙ sym is.each in
      ext_get_or (full, false) (map f (pairs m.size)) m.cells long
      (λ k below.
      let within : k < length (pairs m.size) = omega (arith, length-map (pairs m.size) f) in
      get_or-map f (pairs m.size) k (0, 0) (full, false) within
      ∙ ap (λ i. get_or m.cells i (full, false)) (place-at m.size k (get_or (pairs m.size) k (0, 0)).0 (get_or (pairs m.size) k (0, 0)).1 within refl))

  pub matrix_back : table_matrix names (matrix_table names m) ≡ m
  matrix_back =
      let same : map (cell_in (matrix_table names m)) (pairs (length names)) ≡ map (λ pair. cell_at m pair.0 pair.1) (pairs (length names)) =
      map_same (cell_in (matrix_table names m)) (λ pair. cell_at m pair.0 pair.1) (pairs (length names))
      (every-pairs (length names) (λ p q. cell_in (matrix_table names m) (p, q) ≡ cell_at m p q) cell_back) in
      let cells : map (cell_in (matrix_table names m)) (pairs (length names)) ≡ m.cells =
      same ∙ ap (λ n. map (λ pair. cell_at m pair.0 pair.1) (pairs n)) (sym size) ∙ cells_of in
      λ i. record { size = sym size i; cells = cells i }

-- ---- tables that are read back from their lines

pub matrix_is_table : (names : List (List ℕ)) (m : Judgements) → IsSize (length names) → IsTable (matrix_table names m)
unfolding strip_bom
matrix_is_table names m is = record {
  each = (
    omega (arith, is.0),
    every-map (λ row. 2 ≤ length row) (matrix_row names m) (range_with_len 1 (length names))
        (every-range (λ p. 2 ≤ length (matrix_row names m p)) 1 (length names)
        (λ p low high. omega (arith, is.0, length-map-range_with_len (pair_text m p) 1 (length names)))),
  );
  plain = refl;
}

three : (entries : List (List ℕ × Fraction)) → AllByRecursion (λ row. 2 ≤ length row) (map value_row entries)
three [] = tt
three (entry ∷ entries) = (omega arith, three entries)

pub values_are_table : (head : List ℕ) (names : List (List ℕ)) (values : List Fraction) → strip_bom head ≡ head → IsTable (value_table head names values)
values_are_table head names values h = record { each = (omega arith, three (zip names values)); plain = h }
