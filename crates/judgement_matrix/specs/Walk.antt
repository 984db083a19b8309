-- A walk over the pairs, and the rows that a scale fails.
use Rattle.std.specs.Prelude.{ℕ, ◌+◌, ◌-◌, ◌<◌, ◌≤◌, pos, ◌-ℤ◌, ◌*ℤ◌, int_lt, Bool, true, false, if◌then◌else◌, List, [], ◌∷◌, ◌++◌, map, Option, Some, None, Result, Ok, Err}
use Rattle.std.specs.List.{flat_map, range_with_len}
use Rattle.integers.specs.Fraction.{Fraction}
use Rattle.frac128.specs.Chain.{◌>>=◌}
use Rattle.frac128.specs.declared.number.TooWide.{TooWide}
use Rattle.judgement_matrix.specs.Matrix.{Judgements, range_at}
use Rattle.judgement_matrix.specs.Values.{constraint_value}
pub use Rattle.judgement_matrix.specs.Rows.{lower_rows_of, zero_rows_of, cross_rows_under, cross_rows_of}
use Rattle.judgement_matrix.specs.declared.matrix.TheConstants.{LIMIT}
use Rattle.judgement_matrix.specs.declared.tag.Tag.{Tag}
use Rattle.judgement_matrix.specs.declared.tag.Tag.TheVariants.{Lower, Zero, Cross, Order}

-- the pairs of n elements from (p, q) on
abbrev pub pairs_from : ℕ → ℕ → ℕ → List (ℕ × ℕ)
pairs_from n p q = map (λ b. (p, b)) (range_with_len q (n + 1 - q))
    ++ flat_map (λ a. map (λ b. (a, b)) (range_with_len (a + 1) (n - a))) (range_with_len (p + 1) (n - 1 - p))

-- where a walk can stand: at a pair, or past the last one
pub record IsCursor (n p q : ℕ) : Type 0 where
  pub least : 1 ≤ p
  pub above : p < q
  pub most : n ≤ LIMIT
  pub within : q ≤ n + 1
  pub past : n < q → n ≤ p

-- whether the value that a constraint compares fails it
abbrev pub fails_at : Judgements → Tag → Fraction → Bool
fails_at m (Lower p q) v = int_lt v.num (pos (range_at m p q).lo *ℤ v.den)
fails_at m (Zero p q) v = int_lt (pos 0) v.num
fails_at m (Cross p q x y) v = int_lt v.num ((pos (range_at m p q).lo -ℤ pos (range_at m x y).hi) *ℤ v.den)
fails_at m (Order p) v = int_lt v.num (pos 0)

-- whether the values fail a row, where it isn't too wide
abbrev pub row_fails : Judgements → List Fraction → Tag → Result Bool TooWide
row_fails m fs tag = constraint_value fs tag >>= (λ v. Ok (fails_at m tag v))

-- so for a row that there is only where a test passes
abbrev pub fails_where : Bool → Result Bool TooWide → Result Bool TooWide
fails_where there fails = if there then fails else Ok false

-- a search that comes to a row, given what a search behind it finds
abbrev pub from_row : Tag → Result (Option Tag) TooWide → Result Bool TooWide → Result (Option Tag) TooWide
from_row tag behind (Ok true) = Ok (Some tag)
from_row tag behind (Ok false) = behind
from_row tag behind (Err wide) = Err wide

-- the first row that fails, or the refusal of one before it
abbrev pub first_stop : (Tag → Result Bool TooWide) → List Tag → Result (Option Tag) TooWide
first_stop fails [] = Ok None
first_stop fails (tag ∷ tags) = from_row tag (first_stop fails tags) (fails tag)
