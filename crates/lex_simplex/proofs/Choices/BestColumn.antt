-- The scan of the columns for the pivot column, as the code keeps it: the best column so far, if there is one.
use Rattle.std.specs.Ordering.{int_cmp, is_le}
use Rattle.std.proofs.lemmas.Bool.{false≢true}
use Rattle.std.proofs.Common.{◌≡◌, ◌⊎◌, inl, inr, ℕ, ◌+◌, ◌<◌, length, List, Bool, true, false, ℤ, pos, ◌≤ℤ◌, ◌<ℤ◌, Option, Some, None, sym, ap, subst, ◌∙◌, arith}
use Rattle.integers.specs.Fraction.{SameFractions}
use Rattle.integers.specs.Lexicographic.{LexLess}
use Rattle.integers.proofs.LexOrder.{LexLess-cases}
use Rattle.integers.proofs.OrderTests.{is_le-false, is_le-true}
use Rattle.lex_simplex.specs.Cells.{row_in}
use Rattle.lex_simplex.specs.State.{IsWorkable}
use Rattle.lex_simplex.specs.Tableau.{Tableau, TableRow, row_of, entry}
use Rattle.lex_simplex.specs.Turn.{ratios, comes_before, entering}
use Rattle.lex_simplex.proofs.Choices.Laws.{comes_before-LexLess, entering-is, entering-none}
use Rattle.lex_simplex.proofs.Choices.Ratios.{ratios_differ}
use Rattle.lex_simplex.proofs.Choices.Scan.{IsNonePositive, IsNonePositive-more, IsLeastSoFar, IsLeastSoFar-skip, IsLeastSoFar-keep, IsLeastSoFar-take_over, IsEntering-from_least}

-- ---- the number of a column

-- the number read is not positive
pub not_positive : (row : TableRow) (cells : List ℤ) (k : ℕ) (x : ℤ) (b : Bool) → row_in cells ≡ row → x ≡ entry (row_in cells) k
    → b ≡ is_le (int_cmp x (pos 0)) → b ≡ true → entry row k ≤ℤ pos 0
not_positive row cells k x b is read tested e = subst (λ z. z ≤ℤ pos 0) (read ∙ ap (λ (r : TableRow). entry r k) is) (is_le-true x (pos 0) (sym tested ∙ e))

-- the number read is positive
pub is_positive : (row : TableRow) (cells : List ℤ) (k : ℕ) (x : ℤ) (b : Bool) → row_in cells ≡ row → x ≡ entry (row_in cells) k
    → b ≡ is_le (int_cmp x (pos 0)) → b ≡ false → pos 0 <ℤ entry row k
is_positive row cells k x b is read tested e = subst (λ z. pos 0 <ℤ z) (read ∙ ap (λ (r : TableRow). entry r k) is) (is_le-false x (pos 0) (sym tested ∙ e))

-- ---- the best column so far

-- of the first k columns the best is the one with a positive number in the row r whose ratios come before those of each other such column
abbrev pub IsBest : Tableau → ℕ → ℕ → Option ℕ → Type 0
IsBest t r k None = IsNonePositive t r k
IsBest t r k (Some e) = IsLeastSoFar t r k e

-- a column whose number is not positive changes nothing
pub IsBest-skip : (t : Tableau) (r k : ℕ) (best : Option ℕ) → IsBest t r k best → entry (row_of t r) k ≤ℤ pos 0 → IsBest t r (k + 1) best
IsBest-skip t r k None h n = IsNonePositive-more t r k h n
IsBest-skip t r k (Some e) h n = IsLeastSoFar-skip t r k e h n

-- a column takes over where it comes before the best one
pub IsBest-take_over : (t : Tableau) (r k e : ℕ) (best now : Option ℕ) (before : Bool) → IsBest t r k best → best ≡ Some e → pos 0 <ℤ entry (row_of t r) k
    → before ≡ comes_before (ratios t r k) (ratios t r e) → before ≡ true → now ≡ Some k → IsBest t r (k + 1) now
IsBest-take_over t r k e best now before h was p compared is done =
    subst (IsBest t r (k + 1)) (sym done) (IsLeastSoFar-take_over t r k e (subst (IsBest t r k) was h) p
    ((comes_before-LexLess (ratios t r k) (ratios t r e)).0 (sym compared ∙ is)))

-- a column changes nothing where it does not come before the best one, since no two columns have the same ratios
pub IsBest-keep : (t : Tableau) (r k e : ℕ) (best now : Option ℕ) (before : Bool) → IsWorkable t → r < length t.rows → k < length t.columns
    → IsBest t r k best → best ≡ Some e → pos 0 <ℤ entry (row_of t r) k → before ≡ comes_before (ratios t r k) (ratios t r e) → before ≡ false
    → now ≡ Some e → IsBest t r (k + 1) now
IsBest-keep t r k e best now before workable below l h was p compared is done =
    subst (IsBest t r (k + 1)) (sym done) (step (subst (IsBest t r k) was h) (LexLess-cases (ratios t r e) (ratios t r k)))
  where
    step : IsLeastSoFar t r k e → LexLess (ratios t r e) (ratios t r k) ⊎ SameFractions (ratios t r e) (ratios t r k) ⊎ LexLess (ratios t r k)
        (ratios t r e) → IsLeastSoFar t r (k + 1) e
    step least (inl first) = IsLeastSoFar-keep t r k e least first
    step least (inr (inl same)) = absurd (ratios_differ workable.problem t r e k workable.is_tableau below (omega (arith, least.below)) l
        (λ s. omega (arith, least.below)) least.positive p same)
    step least (inr (inr after)) = absurd (false≢true (sym is ∙ compared ∙ (comes_before-LexLess (ratios t r k) (ratios t r e)).1 after))

-- the best of all columns is the pivot column
pub IsBest-entering : (t : Tableau) (r k : ℕ) (best : Option ℕ) → k ≡ length t.columns → IsBest t r k best → best ≡ entering t r
IsBest-entering t r k None e h = sym (entering-none t r (λ f below. h f (omega arith)))
IsBest-entering t r k (Some b) e h = sym (entering-is t r b (IsEntering-from_least t r b (subst (λ n. IsLeastSoFar t r n b) e h)))
