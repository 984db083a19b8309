-- The problem that asks for the least weighted sum of the criteria's least gaps over the closure of the open
-- weightings: lists of weights, none below 0, of sum 1, that meet the weighting matrix in some unit of at least 0.
-- Costs are whole numbers: each least gap less the least of all, over one denominator.
use Rattle.std.specs.Prelude.{◌≡◌, ℕ, zero, suc, ◌-◌, true, false, ℤ, pos, ◌+ℤ◌, ◌*ℤ◌, int_div, neg_ℤ, List, [], ◌∷◌, ◌++◌, length, map, reverse, slice_index_or, All, Contains, Result, Ok, Err}
use Rattle.std.specs.Ordering.{int_cmp}
use Rattle.std.specs.declared.cmp.Ordering.TheVariants.{Less, Equal, Greater}
use Rattle.frac128.specs.Chain.{◌>>=◌}
use Rattle.frac128.specs.Checked.{checked_difference}
use Rattle.frac128.specs.Problem.{ProblemData}
use Rattle.frac128.specs.Range.{is_in_range}
use Rattle.frac128.specs.declared.number.TooWide.{TooWide}
use Rattle.frac128.specs.declared.problem.Row.{Row}
use Rattle.integers.specs.Divisibility.{gcd_of}
use Rattle.integers.specs.Fraction.{Fraction, FractionAtMost, SameFractions, fraction_of, fraction_sum, fraction_difference, fraction_quotient, over}
use Rattle.integers.specs.Vector.{dot, int_sum, running_sums, AreNonNegative}
use Rattle.judgement_matrix.specs.Matrix.{Judgements}
use Rattle.judgement_matrix.specs.Scale.{IsScale, IsMetInUnit}
use Rattle.judgement_matrix.specs.declared.tag.Tag.{Tag}
use Rattle.lp_macbeth.specs.Closed.{closed_tags}
use Rattle.lp_macbeth.specs.Gaps.{opposite}
use Rattle.lp_macbeth.specs.Rows.{row_of}
use Rattle.lp_macbeth.specs.declared.weighting.ClosedWeighting.{ClosedWeighting}
use Rattle.lp_macbeth.specs.declared.weighting.WeightingFault.{WeightingFault}
use Rattle.lp_macbeth.specs.declared.weighting.WeightingFault.TheVariants as fault

-- what belongs to each criterion, from the first of the order to the last
abbrev pub in_order : {A : Type 0} → A → List ℕ → List A → List A
in_order none order xs = map (λ c. slice_index_or xs c none) order

-- ---- the problem

-- a tag's constraint in unit 0, over the gaps
abbrev pub weighting_row_of : Judgements → Tag → Row
weighting_row_of m tag = record { coefs = (row_of m tag).coefs; bound = pos 0 }

-- n, n - 1, and so on down to 1
abbrev pub falling : ℕ → List ℤ
falling zero = []
falling (suc n) = pos (suc n) ∷ falling n

-- the weights sum to 1, as two rows: each gap counts once for every weight that it lies under
abbrev pub sum_up : ℕ → Row
sum_up k = record { coefs = falling k; bound = pos 1 }

abbrev pub sum_down : ℕ → Row
sum_down k = record { coefs = opposite (falling k); bound = neg_ℤ (pos 1) }

abbrev pub sum_rows : ℕ → List Row
sum_rows k = sum_up k ∷ sum_down k ∷ []

-- the variables are the gaps, bottom first
abbrev pub weighting_problem_of : Judgements → List ℤ → ProblemData
weighting_problem_of m cost = record {
  vars = m.size - 1;
  cost = cost;
  rows = map (weighting_row_of m) (closed_tags m) ++ sum_rows (m.size - 1);
}

-- ---- its costs: what each step forms, up to the first that leaves the range

-- the whole number, where it is in range
abbrev pub checked_whole : ℤ → Result ℤ TooWide
checked_whole z = elim (is_in_range z) [ true ↦ Ok z | false ↦ Err (record {}) ]

-- the lesser of two fractions, the first where they are equal
abbrev pub lesser : Fraction → Fraction → Fraction
lesser f g = elim (int_cmp (g.num *ℤ f.den) (f.num *ℤ g.den)) [ Less ↦ g | Equal ↦ f | Greater ↦ f ]

-- the least of f and the fractions
abbrev pub least_from : Fraction → List Fraction → Fraction
least_from f [] = f
least_from f (g ∷ gs) = least_from (lesser f g) gs

-- the least of the fractions
abbrev pub least_of : List Fraction → Fraction
least_of [] = fraction_of (pos 0)
least_of (f ∷ fs) = least_from f fs

-- each fraction less the least one
unfoldable pub checked_excesses : Fraction → List Fraction → Result (List Fraction) TooWide
checked_excesses least [] = Ok []
checked_excesses least (gap ∷ gaps) = do
  excess ← checked_difference gap least
  others ← checked_excesses least gaps
  Ok (excess ∷ others)

-- a common multiple of the number and the denominators, one after the other: the number over its common divisor with
-- the denominator, times the denominator
unfoldable pub checked_multiple : ℤ → List Fraction → Result ℤ TooWide
checked_multiple l [] = Ok l
checked_multiple l (e ∷ es) = do
  next ← checked_whole (int_div l (gcd_of l e.den) *ℤ e.den)
  checked_multiple next es

-- each fraction's numerator over the common denominator l
unfoldable pub checked_numerators : ℤ → List Fraction → Result (List ℤ) TooWide
checked_numerators l [] = Ok []
checked_numerators l (e ∷ es) = do
  numerator ← checked_whole (e.num *ℤ int_div l e.den)
  others ← checked_numerators l es
  Ok (numerator ∷ others)

-- s and then one number more at each step: the sums, without s
unfoldable pub checked_sums : ℤ → List ℤ → Result (List ℤ) TooWide
checked_sums s [] = Ok []
checked_sums s (x ∷ xs) = do
  sum ← checked_whole (s +ℤ x)
  others ← checked_sums sum xs
  Ok (sum ∷ others)

-- the costs of the gaps, bottom first: the numbers of all criteria that the gap lies under, added from the first
unfoldable pub checked_costs : List ℤ → Result (List ℤ) TooWide
checked_costs numbers = do
  sums ← checked_sums (pos 0) numbers
  Ok (reverse sums)

-- the problem, with the common denominator of its costs and the least of the gaps
unfoldable pub checked_weighting : Judgements → List ℕ → List Fraction → Result ClosedWeighting TooWide
checked_weighting m order gaps = do
  excesses ← checked_excesses (least_of gaps) gaps
  l ← checked_multiple (pos 1) excesses
  numerators ← checked_numerators l excesses
  cost ← checked_costs (in_order (pos 0) order numerators)
  Ok (record { problem = weighting_problem_of m cost; scale = l; least = least_of gaps })

-- of a formula a fault says that it is too wide, or nothing as memory is wanted
abbrev pub FaultSays : WeightingFault → Type 0 → Type 0
FaultSays fault.TooWide wide = wide
FaultSays fault.NoMemory wide = Unit {0}

-- ---- what they mean

-- the fraction is one of the fractions, and none of them is below it
pub record IsLeastOf (fs : List Fraction) (least : Fraction) : Type 0 where
  pub among : Contains fs least
  pub none_below : All (FractionAtMost least) fs

-- each fraction less this one
abbrev pub differences_from : Fraction → List Fraction → List Fraction
differences_from least fs = map (λ f. fraction_difference f least) fs

-- the weights that gaps make, the first criterion's first: the sums of gaps from the bottom, without the bottom's 0
abbrev pub weights_of : List ℤ → List ℤ
weights_of gaps = reverse (running_sums (pos 0) gaps)

-- numbers of at least 0, which over the scale are each gap less the least one; a point costs their sum, each times its
-- weight
pub record AreCostNumbers (order : List ℕ) (gaps : List Fraction) (closed : ClosedWeighting) (numbers : List ℤ)
    : Type 0 where
  pub nonneg : AreNonNegative numbers
  pub same : SameFractions (over numbers closed.scale) (differences_from closed.least gaps)
  pub cost : (x : List ℤ) → length x ≡ length gaps
      → dot closed.problem.cost x ≡ dot (in_order (pos 0) order numbers) (weights_of x)

-- what a cost says of the gaps: the cost over the scale, and the least gap
abbrev pub weighted_gap : ClosedWeighting → Fraction → Fraction
weighted_gap closed cost = fraction_sum (fraction_quotient cost (fraction_of closed.scale)) closed.least

-- k over n are weights of the closure: none is below 0, their sum is 1, and with 0 added last they meet the judgements
-- in unit 0
pub record IsClosedWeighting (m : Judgements) (k : List ℤ) (n : ℤ) : Type 0 where
  pub scale : IsScale m (k ++ pos 0 ∷ []) n
  pub nonneg : AreNonNegative k
  pub sum : int_sum k ≡ n
  pub meets : IsMetInUnit m (pos 0) (k ++ pos 0 ∷ [])
