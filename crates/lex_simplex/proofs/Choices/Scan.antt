-- A scan of the columns for the pivot column: the least column with a positive number among the first k.
use Rattle.std.proofs.lemmas.Bool.{cases_eq}
use Rattle.std.proofs.lemmas.Int.{ints, by_lt_z}
use Rattle.std.proofs.Common.{◌≡◌, ◌≢◌, ◌⊎◌, inl, inr, ℕ, zero, suc, ◌+◌, ◌<◌, ◌≤◌, length, pos, ◌≤ℤ◌, ◌<ℤ◌, subst, sym, arith, below_more}
use Rattle.std.proofs.Math.Nat.{eq-or-lt_of_le}
use Rattle.integers.specs.Fraction.{SameFractions}
use Rattle.integers.specs.Lexicographic.{LexLess}
use Rattle.integers.proofs.LexOrder.{LexLess-cases, LexLess-trans}
use Rattle.frac128.specs.Problem.{ProblemData}
use Rattle.lex_simplex.specs.Equations.{IsTableauOf}
use Rattle.lex_simplex.specs.Pivot.{IsEntering}
use Rattle.lex_simplex.specs.Tableau.{Tableau, row_of, entry}
use Rattle.lex_simplex.specs.Turn.{ratios}
use Rattle.lex_simplex.proofs.Choices.Laws.{AreFractions-ratios}
use Rattle.lex_simplex.proofs.Choices.Ratios.{ratios_differ}

-- none of the first k columns has a positive number in the row r
abbrev pub IsNonePositive : Tableau → ℕ → ℕ → Type 0
IsNonePositive t r k = (f : ℕ) → f < k → entry (row_of t r) f ≤ℤ pos 0

-- of the first k columns e is the one with a positive number in the row r whose ratios come before those of each other such column
pub record IsLeastSoFar (t : Tableau) (r k e : ℕ) : Type 0 where
  pub below : e < k
  pub positive : pos 0 <ℤ entry (row_of t r) e
  pub least : (f : ℕ) → f < k → f ≢ e → pos 0 <ℤ entry (row_of t r) f → LexLess (ratios t r e) (ratios t r f)

-- ---- a step

-- a column whose number is not positive, after such columns
pub IsNonePositive-more : (t : Tableau) (r k : ℕ) → IsNonePositive t r k → entry (row_of t r) k ≤ℤ pos 0 → IsNonePositive t r (k + 1)
IsNonePositive-more t r k h n = below_more (λ f. entry (row_of t r) f ≤ℤ pos 0) k h n

-- the first column with a positive number is the least so far
pub IsLeastSoFar-first : (t : Tableau) (r k : ℕ) → IsNonePositive t r k → pos 0 <ℤ entry (row_of t r) k → IsLeastSoFar t r (k + 1) k
IsLeastSoFar-first t r k h p = record {
  below = omega arith;
  positive = p;
  least = λ f below apart q. let n = h f (omega arith) in absurd (omega (arith, ints));
}

-- a column whose number is not positive changes nothing
pub IsLeastSoFar-skip : (t : Tableau) (r k e : ℕ) → IsLeastSoFar t r k e → entry (row_of t r) k ≤ℤ pos 0 → IsLeastSoFar t r (k + 1) e
IsLeastSoFar-skip t r k e h n = record {
  below = omega (arith, h.below);
  positive = h.positive;
  least =
      λ f below apart q. step f apart q (eq-or-lt_of_le (omega arith));
}
  where
    step : (f : ℕ) → f ≢ e → pos 0 <ℤ entry (row_of t r) f → (f ≡ k) ⊎ (f < k) → LexLess (ratios t r e) (ratios t r f)
    step f apart q (inl s) = let n' = subst (λ m. entry (row_of t r) m ≤ℤ pos 0) (sym s) n in absurd (omega (arith, ints))
    step f apart q (inr l) = h.least f l apart q

-- a column whose ratios come after those of the least so far changes nothing
pub IsLeastSoFar-keep : (t : Tableau) (r k e : ℕ) → IsLeastSoFar t r k e → LexLess (ratios t r e) (ratios t r k) → IsLeastSoFar t r (k + 1) e
IsLeastSoFar-keep t r k e h before = record {
  below = omega (arith, h.below);
  positive = h.positive;
  least =
      λ f below apart q. step f apart q (eq-or-lt_of_le (omega arith));
}
  where
    step : (f : ℕ) → f ≢ e → pos 0 <ℤ entry (row_of t r) f → (f ≡ k) ⊎ (f < k) → LexLess (ratios t r e) (ratios t r f)
    step f apart q (inl s) = subst (λ m. LexLess (ratios t r e) (ratios t r m)) (sym s) before
    step f apart q (inr l) = h.least f l apart q

-- a column whose ratios come before those of the least so far takes over
pub IsLeastSoFar-take_over : (t : Tableau) (r k e : ℕ) → IsLeastSoFar t r k e → pos 0 <ℤ entry (row_of t r) k → LexLess (ratios t r k) (ratios t r e)
    → IsLeastSoFar t r (k + 1) k
IsLeastSoFar-take_over t r k e h p before = record { below = omega arith; positive = p; least = λ f below apart q. step f q (cases_eq f e) (omega arith) }
  where
    step : (f : ℕ) → pos 0 <ℤ entry (row_of t r) f → (f ≡ e) ⊎ (f ≢ e) → f < k → LexLess (ratios t r k) (ratios t r f)
    step f q (inl s) l = subst (λ m. LexLess (ratios t r k) (ratios t r m)) (sym s) before
    step f q (inr n) l = LexLess-trans (ratios t r k) (ratios t r e) (ratios t r f) (AreFractions-ratios t r k p) (AreFractions-ratios t r e h.positive)
        (AreFractions-ratios t r f q) before (h.least f l n q)

-- the least of all columns is the pivot column
pub IsEntering-from_least : (t : Tableau) (r e : ℕ) → IsLeastSoFar t r (length t.columns) e → IsEntering t r e
IsEntering-from_least t r e h = record { below = h.below; positive = h.positive; least = h.least }

-- ---- a whole scan

-- among the first k columns of a tableau one is the least, or none has a positive number
pub least_or_none : (p : ProblemData) (t : Tableau) (r k : ℕ) → IsTableauOf p t → r < length t.rows → k ≤ length t.columns
    → ((e : ℕ) × IsLeastSoFar t r k e) ⊎ IsNonePositive t r k
least_or_none p t r zero ok rb l = inr (λ f below. absurd (omega arith))
least_or_none p t r (suc k) ok rb l = subst (λ m. ((e : ℕ) × IsLeastSoFar t r m e) ⊎ IsNonePositive t r m) more
    (step (least_or_none p t r k ok rb (omega arith)))
  where
    more : k + 1 ≡ suc k
    more = omega arith

    compare : (e : ℕ) → IsLeastSoFar t r k e → pos 0 <ℤ entry (row_of t r) k
        → LexLess (ratios t r e) (ratios t r k) ⊎ SameFractions (ratios t r e) (ratios t r k) ⊎ LexLess (ratios t r k) (ratios t r e)
        → (e : ℕ) × IsLeastSoFar t r (k + 1) e
    compare e h q (inl before) = (e, IsLeastSoFar-keep t r k e h before)
    compare e h q (inr (inl same)) = absurd (ratios_differ p t r e k ok rb (omega (arith, h.below)) (omega arith)
        (λ s. omega (arith, h.below)) h.positive q same)
    compare e h q (inr (inr after)) = (k, IsLeastSoFar-take_over t r k e h q after)

    step : ((e : ℕ) × IsLeastSoFar t r k e) ⊎ IsNonePositive t r k → ((e : ℕ) × IsLeastSoFar t r (k + 1) e) ⊎ IsNonePositive t r (k + 1)
    step (inl s) = inl (by_lt_z (pos 0) (entry (row_of t r) k) (λ q. compare s.0 s.1 q (LexLess-cases (ratios t r s.0) (ratios t r k)))
        (λ n. (s.0, IsLeastSoFar-skip t r k s.0 s.1 n)))
    step (inr none) = by_lt_z (pos 0) (entry (row_of t r) k) (λ q. inl (k, IsLeastSoFar-first t r k none q)) (λ n. inr (IsNonePositive-more t r k none n))
