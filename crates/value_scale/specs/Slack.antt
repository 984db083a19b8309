-- The room of one element: the values that it may have while the others stay.
use Rattle.std.specs.Prelude.{◌≡◌, ◌≢◌, ◌⊎◌, ◌↔◌, ℕ, ◌-◌, ◌+◌, ◌<◌, ℤ, pos, ◌-ℤ◌, ◌*ℤ◌, ◌<ℤ◌, List, [], ◌∷◌, set, Option, None, Some, if◌then◌else◌, nat_eq, Result, Err}
use Rattle.integers.specs.Fraction.{Fraction, FractionAtMost, IsWriting, fraction_of}
use Rattle.integers.specs.Vector.{scale}
use Rattle.frac128.specs.Chain.{◌>>=◌}
use Rattle.frac128.specs.Checked.{checked_difference, checked_quotient}
use Rattle.frac128.specs.declared.number.TooWide.{TooWide}
use Rattle.judgement_matrix.specs.Matrix.{Judgements, range_at}
use Rattle.judgement_matrix.specs.Rows.{rows}
use Rattle.judgement_matrix.specs.Scale.{IsMetBy}
use Rattle.judgement_matrix.specs.Values.{constraint_value}
use Rattle.judgement_matrix.specs.declared.tag.Tag.{Tag}
use Rattle.judgement_matrix.specs.declared.tag.Tag.TheVariants.{Lower, Zero, Cross, Order}
use Rattle.value_scale.specs.declared.slacks.Interval.{Interval}

-- the scale w over n with the fraction t in place of the value of element x, over n times the denominator of t
abbrev pub replaced : List ℤ → ℤ → ℕ → Fraction → List ℤ
replaced w n x t = set (scale t.den w) (x - 1) (t.num *ℤ n)

-- with t in place of the value of element x the scale meets the judgements
abbrev pub IsAllowed : Judgements → List ℤ → ℤ → ℕ → Fraction → Type 0
IsAllowed m w n x t = IsMetBy m (replaced w n x t) (n *ℤ t.den)

-- at most the upper end, where there is one
abbrev pub IsUpTo : Fraction → Option Fraction → Type 0
IsUpTo t None = Unit {0}
IsUpTo t (Some high) = FractionAtMost t high

-- t lies in the interval
abbrev pub IsIn : Interval → Fraction → Type 0
IsIn interval t = FractionAtMost interval.low t × IsUpTo t interval.high

-- the interval has exactly the values that element x may have
abbrev pub IsSlack : Judgements → List ℤ → ℤ → ℕ → Interval → Type 0
IsSlack m w n x interval = (t : Fraction) → pos 0 <ℤ t.den → IsAllowed m w n x t ↔ IsIn interval t

-- so for the scale of these values, however it is written
abbrev pub IsSlackOf : Judgements → List Fraction → ℕ → Interval → Type 0
IsSlackOf m values x interval = (w : List ℤ) (n : ℤ) → IsWriting values w n → IsSlack m w n x interval

-- the values are those of a scale that meets the judgements
abbrev pub MeetValues : Judgements → List Fraction → Type 0
MeetValues m values = (w : List ℤ) (n : ℤ) → IsWriting values w n → IsMetBy m w n

-- ---- how an end is worked

-- how often element x stands at p
abbrev pub presence : ℕ → ℕ → ℤ
presence x p = if nat_eq p x then pos 1 else pos 0

-- the coefficient of the value of x in how far p is above q
abbrev pub gap_coefficient : ℕ → ℕ → ℕ → ℤ
gap_coefficient x p q = presence x p -ℤ presence x q

-- the coefficient of the value of x in the left side of a constraint
abbrev pub coefficient : ℕ → Tag → ℤ
coefficient x (Lower p q) = gap_coefficient x p q
coefficient x (Zero p q) = gap_coefficient x q p
coefficient x (Cross p q y z) = gap_coefficient x p q -ℤ gap_coefficient x y z
coefficient x (Order p) = gap_coefficient x p (p + 1)

-- what the left side has to reach
abbrev pub bound : Judgements → Tag → ℤ
bound m (Lower p q) = pos (range_at m p q).lo
bound m (Zero p q) = pos 0
bound m (Cross p q y z) = pos (range_at m p q).lo -ℤ pos (range_at m y z).hi
bound m (Order p) = pos 0

-- the values with 0 in place of that of x
abbrev pub vacated : List Fraction → ℕ → List Fraction
vacated values x = set values (x - 1) (fraction_of (pos 0))

-- the left side of a constraint; that of an equality is 0 less how far p is above q
abbrev pub checked_side : List Fraction → Tag → Result Fraction TooWide
checked_side values (Lower p q) = constraint_value values (Lower p q)
checked_side values (Zero p q) =
    (constraint_value values (Zero p q)) >>= (λ gap. checked_difference (fraction_of (pos 0)) gap)
checked_side values (Cross p q y z) = constraint_value values (Cross p q y z)
checked_side values (Order p) = constraint_value values (Order p)

-- the value of x at which a constraint is just met
abbrev pub checked_end : Judgements → List Fraction → ℕ → Tag → Result Fraction TooWide
checked_end m values x tag = do
  rest ← checked_side (vacated values x) tag
  room ← checked_difference (fraction_of (bound m tag)) rest
  checked_quotient room (fraction_of (coefficient x tag))

-- of these rows one has the value of x in it, and its end is too wide to be worked
abbrev pub HasWideEnd : Judgements → List Fraction → ℕ → List Tag → Type 0
HasWideEnd m values x [] = ⊥
HasWideEnd m values x (tag ∷ tags) =
    ((coefficient x tag ≢ pos 0) × (checked_end m values x tag ≡ Err (record {}))) ⊎ HasWideEnd m values x tags

-- the last element has its place; for each other one all rows are worked
abbrev pub IsTooWideToWork : Judgements → List Fraction → ℕ → Type 0
IsTooWideToWork m values x = (x < m.size) × HasWideEnd m values x (rows m)
