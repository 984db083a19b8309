-- Equality of rows and problems as a test, which is an equivalence.
use Rattle.std.specs.Prelude.{Bool, nat_eq}
use Rattle.std.specs.Cmp.{IsEquivalence, and_equiv, on_equiv, nat_eq_equiv, int_eq_equiv}
use Rattle.std.specs.Cmp.Lexicographic.{pointwise, lists_equiv}
use Rattle.std.specs.Ordering.{eq_of_both, int_eq, on}
use Rattle.frac128.specs.Problem.{ProblemData}
use Rattle.frac128.specs.declared.problem.Row.{Row}

-- the same coefficients and the same bound
abbrev pub is_same_row : Row → Row → Bool
is_same_row = eq_of_both (on (λ (r : Row). r.coefs) (pointwise int_eq)) (on (λ (r : Row). r.bound) int_eq)

pub is_same_row-laws : IsEquivalence is_same_row
is_same_row-laws = and_equiv
    (on_equiv (λ (r : Row). r.coefs) (lists_equiv int_eq_equiv))
    (on_equiv (λ (r : Row). r.bound) int_eq_equiv)

-- the same number of variables, the same costs and the same rows
abbrev pub is_same_problem : ProblemData → ProblemData → Bool
is_same_problem = eq_of_both
    (on (λ (p : ProblemData). p.vars) nat_eq)
    (eq_of_both
    (on (λ (p : ProblemData). p.cost) (pointwise int_eq))
    (on (λ (p : ProblemData). p.rows) (pointwise is_same_row)))

pub is_same_problem-laws : IsEquivalence is_same_problem
is_same_problem-laws = and_equiv
    (on_equiv (λ (p : ProblemData). p.vars) nat_eq_equiv)
    (and_equiv
    (on_equiv (λ (p : ProblemData). p.cost) (lists_equiv int_eq_equiv))
    (on_equiv (λ (p : ProblemData). p.rows) (lists_equiv is_same_row-laws)))
