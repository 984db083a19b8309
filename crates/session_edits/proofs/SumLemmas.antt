-- What is read of fractions, and what a formula gives for each thing.
use Rattle.std.proofs.Common.{◌≡◌, ℕ, ◌-◌, pos, List, [], ◌∷◌, get_or, All, Result, Ok, Err, refl, subst}
use Rattle.std.proofs.lemmas.List.Elements.{All-nil}
use Rattle.integers.specs.Fraction.{Fraction, IsFraction, AreFractions}
use Rattle.integers.proofs.FractionSums.{IsFraction-whole}
use Rattle.integers.proofs.Lists.{All-get_or_else}
use Rattle.frac128.specs.Chain.{◌>>=◌, checked_each}
use Rattle.frac128.specs.declared.number.TooWide.{TooWide}
use Rattle.judgement_matrix.specs.Values.{fraction_at}
use Rattle.session_edits.specs.Meaning.{AreEach}

pub read_fraction : (fs : List Fraction) → AreFractions fs → (p : ℕ) → IsFraction (fraction_at fs p)
read_fraction fs h p = All-get_or_else IsFraction fs (p - 1) (record { num = pos 0; den = pos 1 }) (IsFraction-whole (pos 0)) h

pub read_worth : (worths : List (List Fraction)) → All AreFractions worths → (k : ℕ) → AreFractions (get_or worths k [])
read_worth worths h k = All-get_or_else AreFractions worths k [] (All-nil IsFraction) h

abbrev worked_so : {A : Type 0} → A → Result A TooWide
worked_so a = Ok a

same_ok : {A : Type 0} (a b : A) → worked_so a ≡ Ok b → a ≡ b
same_ok a b k = cc

-- what a formula gives for each thing is so for each thing
pub each_worked : {A : Type 0} (R : A → Fraction → Type 0) (step : A → Result Fraction TooWide) → ((x : A) (y : Fraction) → step x ≡ Ok y → R x y)
    → (xs : List A) (ys : List Fraction) → checked_each step xs ≡ Ok ys → AreEach R xs ys
each_worked R step h [] ys e = subst (AreEach R []) (same_ok [] ys e) tt
each_worked R step h (x ∷ xs) ys e = by_first (step x) (h x) (checked_each step xs) (each_worked R step h xs) e
  where
    by_rest : (y : Fraction) → R x y → (rest : Result (List Fraction) TooWide) → ((zs : List Fraction) → rest ≡ Ok zs → AreEach R xs zs)
        → (rest >>= λ zs. Ok (y ∷ zs)) ≡ Ok ys → AreEach R (x ∷ xs) ys
    by_rest y is (Ok zs) more k = subst (AreEach R (x ∷ xs)) (same_ok (y ∷ zs) ys k) (is, more zs refl)
    by_rest y is (Err wide) more k = cc

    by_first : (first : Result Fraction TooWide) → ((y : Fraction) → first ≡ Ok y → R x y) → (rest : Result (List Fraction) TooWide)
        → ((zs : List Fraction) → rest ≡ Ok zs → AreEach R xs zs) → (first >>= λ y. rest >>= λ zs. Ok (y ∷ zs)) ≡ Ok ys → AreEach R (x ∷ xs) ys
    by_first (Ok y) is rest more k = by_rest y (is y refl) rest more k
    by_first (Err wide) is rest more k = cc
