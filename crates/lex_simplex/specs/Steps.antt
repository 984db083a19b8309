-- What a pivot makes of the cells of a row, and where each product and difference is in the range.
use Rattle.std.specs.Prelude.{◌≡◌, ℕ, ◌<◌, ◌<ℤ◌, length, List, [], ◌∷◌, set, get_or, Result, IfOk, OnErr, OnOk, ℤ, pos, int_div, All, ◌*ℤ◌, ◌-ℤ◌, ⊤}
use Rattle.frac128.specs.Range.{IsInRange}
use Rattle.integers.specs.Divisibility.{IsGcdOfAll, quotients, divisor_of_all}
use Rattle.integers.specs.Vector.{row_step}
use Rattle.lex_simplex.specs.Turn.{shared_divisor}

-- work in place is done exactly where it fits, and then leaves the value
pub record DoneIff {A E B : Type 0} (result : Result A E) (fits : Type 0) (now value : B) : Type 0 where
  pub ok : OnOk result fits
  pub too_wide : OnErr result (¬ fits)
  pub value_is : IfOk result (λ _. now ≡ value)

-- the products and the difference of one number of a row step are in the range
abbrev pub CellFits : ℤ → ℤ → ℤ → ℤ → Type 0
CellFits p q x y = IsInRange (p *ℤ x) × IsInRange (q *ℤ y) × IsInRange (p *ℤ x -ℤ q *ℤ y)

-- those of each number are
abbrev pub StepFits : ℤ → ℤ → List ℤ → List ℤ → Type 0
StepFits p q [] ys = ⊤
StepFits p q (x ∷ xs) [] = ⊤
StepFits p q (x ∷ xs) (y ∷ ys) = CellFits p q x y × StepFits p q xs ys

-- the row less q times the entries, each at its place
abbrev pub row_less : ℤ → List (ℕ × ℤ) → List ℤ → List ℤ
row_less q [] row = row
row_less q (e ∷ on) row = row_less q on (set row e.0 (get_or row e.0 (pos 0) -ℤ q *ℤ e.1))

-- the products and differences that this forms are in the range
abbrev pub LessFits : ℤ → List (ℕ × ℤ) → List ℤ → Type 0
LessFits q [] row = ⊤
LessFits q (e ∷ on) row =
    IsInRange (q *ℤ e.1)
    × IsInRange (get_or row e.0 (pos 0) -ℤ q *ℤ e.1)
    × LessFits q on (set row e.0 (get_or row e.0 (pos 0) -ℤ q *ℤ e.1))

-- the numbers divided by their greatest common divisor
abbrev pub reduced_list : List ℤ → List ℤ
reduced_list xs = quotients xs (pos (divisor_of_all xs))

-- what a pivot makes of a row, for the pivot row's cells (see `prepared`) and its number in the pivot column, whose
-- cells stand at the place
abbrev pub exchanged_row_by : ℤ → ℤ → ℕ → List ℤ → List ℤ → List ℤ
exchanged_row_by p q place pivot row = reduced_list (row_step p q (set row place (pos 0)) pivot)

abbrev pub exchanged_row : ℤ → ℕ → List ℤ → List ℤ → List ℤ
exchanged_row number place pivot row =
    let own = get_or row place (pos 0) in
    exchanged_row_by (int_div number (shared_divisor number own))
    (int_div own (shared_divisor number own)) place pivot row

-- each product and difference that this forms is in the range
abbrev pub ExchangeFitsBy : ℤ → ℤ → ℕ → List ℤ → List ℤ → Type 0
ExchangeFitsBy p q place pivot row = StepFits p q (set row place (pos 0)) pivot

abbrev pub ExchangeFits : ℤ → ℕ → List ℤ → List ℤ → Type 0
ExchangeFits number place pivot row =
    let own = get_or row place (pos 0) in
    ExchangeFitsBy (int_div number (shared_divisor number own))
    (int_div own (shared_divisor number own)) place pivot row

-- a row's cells, or the cells that are made of them: in range, and with no common divisor
pub record IsReducedRow (cells : List ℤ) : Type 0 where
  pub in_range : All IsInRange cells
  pub no_divisor : IsGcdOfAll cells 1

-- the row and the pivot row's cells are of one length, the pivot column stands behind the denominator, and the
-- numbers that have to be are positive
pub record CanExchange (number : ℤ) (place : ℕ) (pivot row : List ℤ) : Type 0 where
  pub same_length : length row ≡ length pivot
  pub behind_den : 0 < place
  pub within : place < length row
  pub number_pos : pos 0 <ℤ number
  pub den_pos : pos 0 <ℤ get_or row 0 (pos 0)
  pub none_of_den : get_or pivot 0 (pos 0) ≡ pos 0
  pub reduced : IsReducedRow row

-- what a pivot makes of each row fits
abbrev pub ExchangesFit : ℤ → ℕ → List ℤ → List (List ℤ) → Type 0
ExchangesFit number place pivot [] = ⊤
ExchangesFit number place pivot (row ∷ rows) = ExchangeFits number place pivot row
    × ExchangesFit number place pivot rows
