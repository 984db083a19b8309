-- The first fault, field by field and record by record.
use Rattle.std.proofs.Common.{◌≡◌, ◌≢◌, ℕ, ◌+◌, ◌<◌, ◌≤◌, ◌==◌, nat_le, true, false, List, ◌∷◌, length, drop, Option, Some, None, refl, sym, ◌∙◌, arith}
use Rattle.std.proofs.lemmas.Bool.Decides.{nat_tests}
use Rattle.std.proofs.lemmas.List.{drop_all}
use Rattle.table_csv.specs.Table.{may_stand, wrong_field, fault_from}

module _ (names : List (List ℕ)) (row column : ℕ) (fields : List (List ℕ)) (total : Option ℕ)
    (so_far : wrong_field names row column (drop column fields) ≡ total) where
  pub field_too_much : (f : List ℕ) → drop column fields ≡ f ∷ drop (column + 1) fields → length names < column → Some (column + 1) ≡ total
  unfolding wrong_field
  field_too_much f here past =
      let within : nat_le column (length names) ≡ false = grind (arith, nat_tests) in
      let one : wrong_field names row column (drop column fields) ≡ Some (column + 1) = rw (here, within) refl in
      sym one ∙ so_far

  pub field_wrong : (f : List ℕ) → drop column fields ≡ f ∷ drop (column + 1) fields → column ≤ length names → may_stand names row column f ≡ false
      → Some (column + 1) ≡ total
  unfolding wrong_field
  field_wrong f here room test =
      let within : nat_le column (length names) ≡ true = grind (arith, nat_tests) in
      let one : wrong_field names row column (drop column fields) ≡ Some (column + 1) = rw (here, within, test) refl in
      sym one ∙ so_far

  pub field_right : (f : List ℕ) → drop column fields ≡ f ∷ drop (column + 1) fields → column ≤ length names → may_stand names row column f ≡ true
      → wrong_field names row (column + 1) (drop (column + 1) fields) ≡ total
  unfolding wrong_field
  field_right f here room test =
      let within : nat_le column (length names) ≡ true = grind (arith, nat_tests) in
      let one : wrong_field names row column (drop column fields) ≡ wrong_field names row (column + 1) (drop (column + 1) fields) =
      rw (here, within, test) refl in
      sym one ∙ so_far

  pub fields_all : length fields ≤ column → column ≡ length names + 1 → None ≡ total
  unfolding wrong_field
  fields_all past all =
      let done : (column == length names + 1) ≡ true = grind (arith, nat_tests) in
      let one : wrong_field names row column (drop column fields) ≡ None = rw (drop_all column fields past, done) refl in
      sym one ∙ so_far

  pub fields_few : length fields ≤ column → column ≢ length names + 1 → Some (column + 1) ≡ total
  unfolding wrong_field
  fields_few past other =
      let done : (column == length names + 1) ≡ false = grind (arith, nat_tests) in
      let one : wrong_field names row column (drop column fields) ≡ Some (column + 1) = rw (drop_all column fields past, done) refl in
      sym one ∙ so_far

module _ (names : List (List ℕ)) (row : ℕ) (records : List (List (List ℕ))) (total : Option (ℕ × ℕ))
    (so_far : fault_from names row (drop row records) ≡ total) where
  pub record_too_much : (r : List (List ℕ)) → drop row records ≡ r ∷ drop (row + 1) records → length names < row → Some (row + 1, 1) ≡ total
  unfolding fault_from
  record_too_much r here past =
      let within : nat_le row (length names) ≡ false = grind (arith, nat_tests) in
      let one : fault_from names row (drop row records) ≡ Some (row + 1, 1) = rw (here, within) refl in
      sym one ∙ so_far

  pub record_wrong : (r : List (List ℕ)) (field : ℕ) → drop row records ≡ r ∷ drop (row + 1) records → row ≤ length names
      → Some field ≡ wrong_field names row 0 r → Some (row + 1, field) ≡ total
  unfolding fault_from
  record_wrong r field here room test =
      let within : nat_le row (length names) ≡ true = grind (arith, nat_tests) in
      let found : wrong_field names row 0 r ≡ Some field = sym test in
      let one : fault_from names row (drop row records) ≡ Some (row + 1, field) = rw (here, within, found) refl in
      sym one ∙ so_far

  pub record_right : (r : List (List ℕ)) → drop row records ≡ r ∷ drop (row + 1) records → row ≤ length names → None ≡ wrong_field names row 0 r
      → fault_from names (row + 1) (drop (row + 1) records) ≡ total
  unfolding fault_from
  record_right r here room test =
      let within : nat_le row (length names) ≡ true = grind (arith, nat_tests) in
      let found : wrong_field names row 0 r ≡ None = sym test in
      let one : fault_from names row (drop row records) ≡ fault_from names (row + 1) (drop (row + 1) records) = rw (here, within, found) refl in
      sym one ∙ so_far

  pub records_all : length records ≤ row → row ≡ length names + 1 → None ≡ total
  unfolding fault_from
  records_all past all =
      let done : (row == length names + 1) ≡ true = grind (arith, nat_tests) in
      let one : fault_from names row (drop row records) ≡ None = rw (drop_all row records past, done) refl in
      sym one ∙ so_far

  pub records_few : length records ≤ row → row ≢ length names + 1 → Some (row + 1, 1) ≡ total
  unfolding fault_from
  records_few past other =
      let done : (row == length names + 1) ≡ false = grind (arith, nat_tests) in
      let one : fault_from names row (drop row records) ≡ Some (row + 1, 1) = rw (drop_all row records past, done) refl in
      sym one ∙ so_far
