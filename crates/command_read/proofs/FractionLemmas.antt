-- Fractions read one after the other.
use Rattle.std.proofs.Common.{◌≡◌, ℕ, List, [], ◌∷◌, ◌++◌, Result, Ok, Err, refl, sym, ap, ◌∙◌, append_assoc}
use Rattle.integers.specs.Fraction.{Fraction}
use Rattle.command_read.specs.Parts.{fraction, fractions}
use Rattle.frac128.specs.Chain.{◌>>=◌}
use Rattle.command_read.specs.declared.refusal.Refusal.{Refusal}

same_front : (front : List Fraction) (value : Fraction) (others : Result (List Fraction) Refusal)
    → (others >>= (λ (fs : List Fraction). Ok ((front ++ value ∷ []) ++ fs)))
    ≡ ((others >>= (λ (fs : List Fraction). Ok (value ∷ fs))) >>= (λ (fs : List Fraction). Ok (front ++ fs)))
same_front front value (Ok fs) = ap (λ (t : List Fraction). Ok t) (append_assoc front (value ∷ []) fs)
same_front front value (Err refusal) = refl

-- one number more in front of those that are still to be read
pub fractions_more : (front : List Fraction) (word : List ℕ) (others : List (List ℕ)) (value : Fraction) (all : Result (List Fraction) Refusal)
    → fraction word ≡ Ok value
    → (fractions (word ∷ others) >>= (λ (fs : List Fraction). Ok (front ++ fs))) ≡ all
    → (fractions others >>= (λ (fs : List Fraction). Ok ((front ++ value ∷ []) ++ fs))) ≡ all
unfolding fractions
fractions_more front word others value all is so_far = same_front front value (fractions others) ∙ (rw is at so_far)
