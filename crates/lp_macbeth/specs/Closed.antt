-- The problem that asks for the least difference of two elements over the closure of a criterion's open scales: lists
-- that meet the matrix in some unit of at least 0, with good and neutral 100 apart and a span of at most the reach.
use Rattle.std.specs.Prelude.{◌≡◌, ◌≢◌, ℕ, ◌≤◌, ◌-◌, ℤ, pos, neg_ℤ, negsuc, ◌+ℤ◌, ◌*ℤ◌, ◌≤ℤ◌, List, [], ◌∷◌, ◌++◌, map, replicate, cond, nat_lt}
use Rattle.frac128.specs.Problem.{ProblemData}
use Rattle.frac128.specs.declared.problem.Row.{Row}
use Rattle.judgement_matrix.specs.Matrix.{Judgements}
use Rattle.judgement_matrix.specs.Scale.{difference, IsScale, IsMetInUnit}
use Rattle.judgement_matrix.specs.Rows.{zero_rows, cross_rows}
use Rattle.judgement_matrix.specs.declared.tag.Tag.{Tag}
use Rattle.lp_macbeth.specs.Gaps.{gap_coefs, opposite}
use Rattle.lp_macbeth.specs.Rows.{row_of}

-- the rows of Zero and Cross
abbrev pub closed_tags : Judgements → List Tag
closed_tags m = zero_rows m ++ cross_rows m

-- the constraint of a tag in unit 0, over the gaps and the room
abbrev pub closed_row_of : Judgements → Tag → Row
closed_row_of m tag = record { coefs = (row_of m tag).coefs ++ pos 0 ∷ []; bound = pos 0 }

-- d(good, neutral) is 100, as two rows
abbrev pub anchor_up : ℕ → ℕ → ℕ → Row
anchor_up n good neutral = record { coefs = gap_coefs n good neutral ++ pos 0 ∷ []; bound = pos 100 }

abbrev pub anchor_down : ℕ → ℕ → ℕ → Row
anchor_down n good neutral = record {
  coefs = opposite (gap_coefs n good neutral) ++ pos 0 ∷ [];
  bound =
      neg_ℤ (pos 100);
}

-- the span and the room are the reach, as two rows
abbrev pub reach_up : ℕ → ℕ → Row
reach_up n reach = record { coefs = gap_coefs n 1 n ++ pos 1 ∷ []; bound = pos reach }

abbrev pub reach_down : ℕ → ℕ → Row
reach_down n reach = record { coefs = opposite (gap_coefs n 1 n) ++ negsuc 0 ∷ []; bound = neg_ℤ (pos reach) }

-- two of n elements, one above the other
pub record AreApart (n a b : ℕ) : Type 0 where
  pub first : (1 ≤ a) × (a ≤ n)
  pub second : (1 ≤ b) × (b ≤ n)
  pub apart : a ≢ b

-- 1 for the gaps that are not between p and q and 0 for those that are
abbrev pub outer_coefs : ℕ → ℕ → ℕ → List ℤ
outer_coefs n p q = replicate (n - q) (pos 1) ++ replicate (q - p) (pos 0) ++ replicate (p - 1) (pos 1)

-- where a is listed above b the difference costs, and else what the difference leaves of the reach
abbrev pub closed_cost : ℕ → ℕ → ℕ → List ℤ
closed_cost n a b = cond (nat_lt a b) (gap_coefs n a b ++ pos 0 ∷ []) (outer_coefs n b a ++ pos 1 ∷ [])

-- the rows beside those of Zero and Cross
abbrev pub anchored_rows : ℕ → ℕ → ℕ → ℕ → List Row
anchored_rows n good neutral reach = anchor_up n good neutral ∷ anchor_down n good neutral ∷ reach_up n reach
    ∷ reach_down n reach ∷ []

-- the variables are the gaps, bottom first, and the room; they have these costs
abbrev pub closed_problem_with : Judgements → ℕ → ℕ → ℕ → List ℤ → ProblemData
closed_problem_with m good neutral reach cost = record {
  vars = m.size;
  cost = cost;
  rows = map (closed_row_of m) (closed_tags m) ++ anchored_rows m.size good neutral reach;
}

-- what costs is the difference of a over b
abbrev pub closed_problem_of : Judgements → ℕ → ℕ → ℕ → ℕ → ℕ → ProblemData
closed_problem_of m good neutral reach a b = closed_problem_with m good neutral reach (closed_cost m.size a b)

-- w over n is a scale that meets the judgements in unit 0, good stands 100 above neutral, and the span leaves the room
-- r of the reach
pub record IsClosedScale (m : Judgements) (good neutral reach : ℕ) (w : List ℤ) (r n : ℤ) : Type 0 where
  pub scale : IsScale m w n
  pub meets : IsMetInUnit m (pos 0) w
  pub anchored : difference w good neutral ≡ n *ℤ pos 100
  pub room : pos 0 ≤ℤ r
  pub reached : difference w 1 m.size +ℤ r ≡ n *ℤ pos reach
