-- Lines cut into words.
use Rattle.std.proofs.Common.{◌≡◌, ◌≢◌, ℕ, ◌==◌, length, List, [], ◌∷◌, ◌++◌, true, false, refl, ap, subst, ◌∙◌, arith}
use Rattle.std.specs.Prelude.{All, Option, Some, None, MatchOption, is_some}
use Rattle.std.specs.Borrow.{Bor}
use Rattle.std.proofs.lemmas.Bool.Decides.{nat_tests}
use Rattle.std.proofs.lemmas.List.Splits.{slice_split_none, slice_split_at, length-slice_split}
use Rattle.cert_check.specs.Reading.{words, Found}

-- ---- what a step found

-- the thing that was found
pub Found-some : {A : Type 0} (Is : A → Type 0) (found : Option A) (x : A) → Found Is found → found ≡ Some x → Is x
Found-some Is found x h is = subst (Found Is) is h

-- nothing was found
pub Found-none : {A : Type 0} (Is : A → Type 0) (found : Option A) → Found Is found → found ≡ None → (x : A) → ¬ Is x
Found-none Is found h is = subst (Found Is) is h

-- ---- words

-- a byte that is no space is none by the test
no_space : (line : List ℕ) → All (λ b. b ≢ 32) line → All (λ b. (b == 32) ≡ false) line
no_space line h k d below = let other = h k d below in grind (arith, nat_tests)

-- a line with a word at least
pub words-filled : (line : List ℕ) → words line ≢ []
words-filled line none = omega (arith, length-slice_split (λ (b : ℕ). b == 32) line, ap length none)

-- the words of a line that was cut at its first space
pub words-from_cut : (line : List ℕ) (r : Option (Bor (List ℕ) × Bor (List ℕ)))
    → MatchOption r (All (λ b. b ≢ 32) line) (λ parts. (line ≡ parts.0.now ++ 32 ∷ parts.1.now) × All (λ b. b ≢ 32) parts.0.now)
    → MatchOption r (words line ≡ line ∷ []) (λ parts. words line ≡ parts.0.now ∷ words parts.1.now)
words-from_cut line None h = slice_split_none (λ (b : ℕ). b == 32) line (no_space line h)
words-from_cut line (Some parts) h = ap words h.0 ∙ slice_split_at (λ (b : ℕ). b == 32) parts.0.now 32 parts.1.now (no_space parts.0.now h.1) refl

-- a line whose second part has two words or more has not two
pub more_than_two : (line first rest : List ℕ) (r : Option (Bor (List ℕ) × Bor (List ℕ))) → words line ≡ first ∷ words rest
    → MatchOption r (words rest ≡ rest ∷ []) (λ parts. words rest ≡ parts.0.now ∷ words parts.1.now) → is_some r ≡ true
    → (a b : List ℕ) → words line ≢ a ∷ b ∷ []
more_than_two line first rest None is h some a b two = absurd (cc)
more_than_two line first rest (Some parts) is h some a b two =
    let tail : parts.0.now ∷ words parts.1.now ≡ b ∷ [] = cc in
    words-filled parts.1.now (cc)
