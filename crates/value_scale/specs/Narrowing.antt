-- How the interval of an element narrows, row by row.
use Rattle.std.specs.Prelude.{ℕ, pos, ◌*ℤ◌, ◌==◌, get_or, int_lt, Bool, List, [], ◌∷◌, Option, None, Some, if◌then◌else◌, Result, Ok}
use Rattle.integers.specs.Fraction.{Fraction, fraction_of}
use Rattle.frac128.specs.Chain.{◌>>=◌}
use Rattle.frac128.specs.declared.number.TooWide.{TooWide}
use Rattle.judgement_matrix.specs.Matrix.{Judgements}
use Rattle.judgement_matrix.specs.Rows.{rows}
use Rattle.judgement_matrix.specs.declared.tag.Tag.{Tag}
use Rattle.value_scale.specs.Slack.{coefficient, checked_end}
use Rattle.value_scale.specs.declared.slacks.Interval.{Interval}

-- the first is below the second
abbrev pub is_below : Fraction → Fraction → Bool
is_below f g = int_lt (f.num *ℤ g.den) (g.num *ℤ f.den)

-- from the value of the next element on
abbrev pub from_next : Fraction → Interval
from_next next = record { low = next; high = None }

-- from an end on, if not from further up
abbrev pub from_end : Fraction → Interval → Interval
from_end end interval = record { low = if is_below interval.low end then end else interval.low; high = interval.high }

-- the less of an end and an upper end that is there
abbrev pub lesser : Fraction → Option Fraction → Fraction
lesser end None = end
lesser end (Some high) = if is_below end high then end else high

-- up to an end, if not less far
abbrev pub up_to_end : Fraction → Interval → Interval
up_to_end end interval = record { low = interval.low; high = Some (lesser end interval.high) }

-- what is left of the interval by one row
abbrev pub with_row : Judgements → List Fraction → ℕ → Tag → Interval → Result Interval TooWide
with_row m values x tag interval =
    if int_lt (pos 0) (coefficient x tag)
    then ((checked_end m values x tag) >>= (λ end. Ok (from_end end interval)))
    else (if int_lt (coefficient x tag) (pos 0)
    then ((checked_end m values x tag) >>= (λ end. Ok (up_to_end end interval)))
    else Ok interval)

-- so where there is such a row
abbrev pub with_row_where : Bool → Judgements → List Fraction → ℕ → Tag → Interval → Result Interval TooWide
with_row_where there m values x tag interval = if there then with_row m values x tag interval else Ok interval

-- by these rows, one after another
abbrev pub with_rows : Judgements → List Fraction → ℕ → List Tag → Interval → Result Interval TooWide
with_rows m values x [] interval = Ok interval
with_rows m values x (tag ∷ tags) interval =
    (with_row m values x tag interval) >>= (λ narrowed. with_rows m values x tags narrowed)

-- 0 alone
abbrev pub only_zero : Interval
only_zero = record { low = fraction_of (pos 0); high = Some (fraction_of (pos 0)) }

-- the interval of an element: the last one stays at 0, and all rows narrow that of another one, from the value of the next on
abbrev pub checked_slack : Judgements → List Fraction → ℕ → Result Interval TooWide
checked_slack m values x =
    if x == m.size then Ok only_zero else with_rows m values x (rows m) (from_next (get_or values x (fraction_of (pos 0))))
