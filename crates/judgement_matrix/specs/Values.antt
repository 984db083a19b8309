-- What the values of a scale make of each constraint, worked in fractions that refuse numbers out of the range, and what is to be
-- answered for them.
use Rattle.std.specs.Prelude.{◌≡◌, ◌⊎◌, ℕ, ◌+◌, ◌-◌, ℤ, pos, List, [], ◌∷◌, length, slice_index_or, Result, Ok, Err}
use Rattle.integers.specs.Fraction.{Fraction, IsWriting}
use Rattle.frac128.specs.Chain.{◌>>=◌}
use Rattle.frac128.specs.Checked.{checked_difference}
use Rattle.frac128.specs.declared.number.TooWide.{TooWide}
use Rattle.judgement_matrix.specs.Matrix.{Judgements}
use Rattle.judgement_matrix.specs.Rows.{rows, RowHolds, IsFit}
use Rattle.judgement_matrix.specs.declared.tag.Tag.{Tag}
use Rattle.judgement_matrix.specs.declared.tag.Tag.TheVariants.{Lower, Zero, Cross, Order}
use Rattle.judgement_matrix.specs.declared.tag.Fit.{Fit}

-- the value of element p, counted from 1
abbrev pub fraction_at : List Fraction → ℕ → Fraction
fraction_at fs p = slice_index_or fs (p - 1) (record { num = pos 0; den = pos 1 })

-- a value for each element, the last one 0
pub record AreValues (m : Judgements) (fs : List Fraction) : Type 0 where
  pub each : length fs ≡ m.size
  pub last : (fraction_at fs m.size).num ≡ pos 0

-- how far p stands above q
abbrev pub checked_gap : List Fraction → ℕ → ℕ → Result Fraction TooWide
checked_gap fs p q = checked_difference (fraction_at fs p) (fraction_at fs q)

-- what a constraint compares with its bound
abbrev pub constraint_value : List Fraction → Tag → Result Fraction TooWide
constraint_value fs (Lower p q) = checked_gap fs p q
constraint_value fs (Zero p q) = checked_gap fs p q
constraint_value fs (Cross p q x y) = checked_gap fs p q >>= (λ left. checked_gap fs x y >>= (λ right. checked_difference left right))
constraint_value fs (Order p) = checked_gap fs p (p + 1)

-- of these rows, one up to the first that fails is too wide to be worked: the first, or the first holds and one behind it is
abbrev pub HasTooWide : Judgements → List ℤ → ℤ → List Fraction → List Tag → Type 0
HasTooWide m w n fs [] = ⊥
HasTooWide m w n fs (tag ∷ tags) = (constraint_value fs tag ≡ Err (record {})) ⊎ RowHolds m w n tag × HasTooWide m w n fs tags

-- what is to be answered for the values of the scale w over n
abbrev pub IsAnswerOver : Judgements → List ℤ → ℤ → List Fraction → Result Fit TooWide → Type 0
IsAnswerOver m w n fs (Ok fit) = IsFit m w n fit × ¬ HasTooWide m w n fs (rows m)
IsAnswerOver m w n fs (Err wide) = HasTooWide m w n fs (rows m)

-- what is to be answered for values, whichever way they are written as a scale
abbrev pub IsAnswer : Judgements → List Fraction → Result Fit TooWide → Type 0
IsAnswer m fs answer = (w : List ℤ) (n : ℤ) → IsWriting fs w n → IsAnswerOver m w n fs answer
