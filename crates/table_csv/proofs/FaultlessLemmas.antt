-- Records without a fault are the table's.
use Rattle.std.proofs.Common.{◌≡◌, ℕ, zero, suc, ◌+◌, ◌<◌, ◌≤◌, ◌==◌, ◌&&◌, nat_le, true, false, List, [], ◌∷◌, length, get_or, Option, Some, None, inl, inr, subst, arith}
use Rattle.std.proofs.lemmas.Bool.{and_parts, cases_Bool, cases_eq}
use Rattle.std.proofs.lemmas.Bool.Decides.{nat_tests}
use Rattle.table_csv.specs.Table.{may_stand, wrong_field, fault_from, fault_in, fault_of, field_of, IsFaultless}
use Rattle.table_csv.proofs.TableLemmas.{none_wrong, none_faulty}

-- what holds of the first element, and of those behind it
each_next : {A : Type 0} (P : ℕ → A → Type 0) (n : ℕ) (x : A) (xs : List A) (d : A) → P n x
    → ((k : ℕ) → k < length xs → P (n + 1 + k) (get_or xs k d)) → (k : ℕ) → k < length (x ∷ xs) → P (n + k) (get_or (x ∷ xs) k d)
each_next P n x xs d here behind zero below = subst (λ m. P m x) (omega arith) here
each_next P n x xs d here behind (suc k) below = subst (λ m. P m (get_or xs k d)) (omega arith) (behind k (omega arith))

some_not_none : {A : Type 0} (x : A) → Some x ≡ None → ⊥
some_not_none x e = cc e

fields_stand : (names : List (List ℕ)) (row column : ℕ) (fields : List (List ℕ)) → wrong_field names row column fields ≡ None
    → (column + length fields ≡ length names + 1) × ((k : ℕ) → k < length fields → may_stand names row (column + k) (get_or fields k []) ≡ true)
unfolding wrong_field
fields_stand names row column [] h = elim (cases_eq column (length names + 1)) [
  | inl same ↦ (omega arith, λ k below. absurd (omega arith))
  | inr other ↦
      let test : (column == length names + 1) ≡ false = grind (arith, nat_tests) in
      absurd (some_not_none (column + 1) (rw test at h))
]
fields_stand names row column (f ∷ fs) h = elim (cases_Bool (nat_le column (length names) && may_stand names row column f)) [
  | inl so ↦
      let parts = and_parts (nat_le column (length names)) (may_stand names row column f) so in
      let behind = fields_stand names row (column + 1) fs (rw so at h) in
      (omega (arith, behind.0), each_next (λ c field. may_stand names row c field ≡ true) column f fs [] parts.1 behind.1)
  | inr other ↦ absurd (some_not_none (column + 1) (rw other at h))
]

none_of : (row : ℕ) (found : Option ℕ) (behind : Option (ℕ × ℕ)) → fault_in row found behind ≡ None → (found ≡ None) × (behind ≡ None)
none_of row None behind h = (λ i. None, h)
none_of row (Some field) behind h = absurd (some_not_none (row + 1, field) h)

records_stand : (names : List (List ℕ)) (row : ℕ) (records : List (List (List ℕ))) → fault_from names row records ≡ None
    → (row + length records ≡ length names + 1) × ((k : ℕ) → k < length records → wrong_field names (row + k) 0 (get_or records k []) ≡ None)
unfolding fault_from
records_stand names row [] h = elim (cases_eq row (length names + 1)) [
  | inl same ↦ (omega arith, λ k below. absurd (omega arith))
  | inr other ↦
      let test : (row == length names + 1) ≡ false = grind (arith, nat_tests) in
      absurd (some_not_none (row + 1, 1) (rw test at h))
]
records_stand names row (r ∷ rs) h = elim (cases_Bool (nat_le row (length names))) [
  | inl so ↦
      let parts = none_of row (wrong_field names row 0 r) (fault_from names (row + 1) rs) (rw so at h) in
      let behind = records_stand names (row + 1) rs parts.1 in
      (omega (arith, behind.0), each_next (λ i fields. wrong_field names i 0 fields ≡ None) row r rs [] parts.0 behind.1)
  | inr other ↦ absurd (some_not_none (row + 1, 1) (rw other at h))
]

pub faultless_stand : (names : List (List ℕ)) (records : List (List (List ℕ))) → fault_of names records ≡ None → IsFaultless names records
faultless_stand names records h =
    let so = records_stand names 0 records h in
    let row_so : (row : ℕ) → row ≤ length names → wrong_field names row 0 (get_or records row []) ≡ None = λ row within.
    subst (λ i. wrong_field names i 0 (get_or records row []) ≡ None) (omega arith) (so.1 row (omega (arith, so.0))) in
    record {
      size = omega (arith, so.0);
      each = λ row within. omega (arith, (fields_stand names row 0 (get_or records row []) (row_so row within)).0);
      stand = λ row column within room.
          let fields = fields_stand names row 0 (get_or records row []) (row_so row within) in
          subst (λ c. may_stand names row c (field_of records row column) ≡ true) (omega arith) (fields.1 column (omega (arith, fields.0)));
    }

pub stand_faultless : (names : List (List ℕ)) (records : List (List (List ℕ))) → IsFaultless names records → fault_of names records ≡ None
stand_faultless names records is =
    none_faulty names 0 records (omega (arith, is.size)) (λ k below.
    let within : k ≤ length names = omega (arith, is.size) in
    subst (λ row. wrong_field names row 0 (get_or records k []) ≡ None) (omega arith)
    (none_wrong names k 0 (get_or records k []) (omega (arith, is.each k within)) (λ j room.
    subst (λ c. may_stand names k c (get_or (get_or records k []) j []) ≡ true) (omega arith)
    (is.stand k j within (omega (arith, is.each k within))))))
