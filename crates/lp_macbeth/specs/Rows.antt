-- The constraints of a matrix as rows over the gaps, and the problem whose points are the scales that meet it.
use Rattle.std.specs.Prelude.{ℕ, ◌+◌, ◌-◌, ℤ, pos, ◌-ℤ◌, List, ◌++◌, map, replicate}
use Rattle.frac128.specs.Problem.{ProblemData}
use Rattle.frac128.specs.declared.problem.Row.{Row}
use Rattle.integers.specs.Vector.{add}
use Rattle.judgement_matrix.specs.Matrix.{Judgements, range_at}
use Rattle.judgement_matrix.specs.Rows.{lower_rows, zero_rows, cross_rows, rows}
use Rattle.judgement_matrix.specs.declared.tag.Tag.{Tag}
use Rattle.judgement_matrix.specs.declared.tag.Tag.TheVariants.{Lower, Zero, Cross, Order}
use Rattle.lp_macbeth.specs.Gaps.{gap_coefs, opposite}

-- d(p, q) - d(x, y) as a sum of gaps
abbrev pub cross_coefs : ℕ → ℕ → ℕ → ℕ → ℕ → List ℤ
cross_coefs n p q x y = add (gap_coefs n p q) (opposite (gap_coefs n x y))

-- the constraint of a tag: d(p, q) ≥ lo, -d(p, q) ≥ 0, d(p, q) - d(x, y) ≥ lo(p, q) - hi(x, y), d(p, p + 1) ≥ 0
abbrev pub row_of : Judgements → Tag → Row
row_of m (Lower p q) = record { coefs = gap_coefs m.size p q; bound = pos (range_at m p q).lo }
row_of m (Zero p q) = record { coefs = opposite (gap_coefs m.size p q); bound = pos 0 }
row_of m (Cross p q x y) = record {
  coefs = cross_coefs m.size p q x y;
  bound =
      pos (range_at m p q).lo -ℤ pos (range_at m x y).hi;
}
row_of m (Order p) = record { coefs = gap_coefs m.size p (p + 1); bound = pos 0 }

-- each row with its tag, in row order
abbrev pub tagged_rows : Judgements → List (Tag × Row)
tagged_rows m = map (λ tag. (tag, row_of m tag)) (rows m)

-- the rows but for those of Order, which a problem has by itself: no variable is below 0
abbrev pub judged_rows : Judgements → List Tag
judged_rows m = lower_rows m ++ zero_rows m ++ cross_rows m

-- the least span: a variable for each gap, bottom first, each of cost 1
abbrev pub problem_of : Judgements → ProblemData
problem_of m = record {
  vars = m.size - 1;
  cost = replicate (m.size - 1) (pos 1);
  rows = map (row_of m) (judged_rows m);
}

-- the same with only the rows of these tags
abbrev pub problem_on : Judgements → List Tag → ProblemData
problem_on m tags = record { vars = m.size - 1; cost = replicate (m.size - 1) (pos 1); rows = map (row_of m) tags }
