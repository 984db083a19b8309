-- Lists of pairs: each of them, and a loop's step.
use Rattle.std.specs.Prelude.{nat_lt}
use Rattle.std.specs.List.{AllByRecursion, range_with_len}
use Rattle.std.proofs.Common.{◌≡◌, ℕ, suc, ◌+◌, ◌-◌, ◌<◌, List, [], ◌∷◌, ◌++◌, All, sym, ap, ◌∙◌, arith, add-one}
use Rattle.std.proofs.lemmas.List.Elements.{All-nil, All-cons, All-head, All-tail, filter-append}
use Rattle.integers.specs.Counting.{numbers_from}
use Rattle.judgement_matrix.specs.Matrix.{Judgements, IsPair, pairs, range_at}
use Rattle.judgement_matrix.proofs.EveryLemmas.{every-pairs}
use Rattle.lp_macbeth.specs.Pairs.{ArePairs, under}

-- ---- what holds of each

-- by recursion, and by places
pub All-from_every : {X : Type 0} (P : X → Type 0) (xs : List X) → AllByRecursion P xs → All P xs
All-from_every P [] h = All-nil P
All-from_every P (x ∷ xs) h = All-cons P x xs h.0 (All-from_every P xs h.1)

pub every_from_All : {X : Type 0} (P : X → Type 0) (xs : List X) → All P xs → AllByRecursion P xs
every_from_All P [] h = tt
every_from_All P (x ∷ xs) h = (All-head P x xs h, every_from_All P xs (All-tail P x xs h))

-- the pairs of n elements are pairs
pub ArePairs-pairs : (n : ℕ) → ArePairs n (pairs n)
ArePairs-pairs n = All-from_every (λ (pair : ℕ × ℕ). IsPair n pair.0 pair.1) (pairs n) (every-pairs n (IsPair n) (λ p q in_n. in_n))

-- ---- numbers in a row

-- the numbers that are left begin with the next one
pub range_with_len-next : (a n : ℕ) → a < n → range_with_len a (n - a) ≡ a ∷ range_with_len (a + 1) (n - (a + 1))
range_with_len-next a n h =
    let size : n - a ≡ suc (n - (a + 1)) = omega arith in
    ap (range_with_len a) size

-- ---- the pairs below a category

pub under-append : (m : Judgements) (category : ℕ) (ps qs : List (ℕ × ℕ)) → under m (ps ++ qs) category ≡ under m ps category ++ under m qs category
under-append m category ps qs = filter-append (λ (pair : ℕ × ℕ). nat_lt (range_at m pair.0 pair.1).hi category) ps qs

pub numbers_from-next : (a n : ℕ) → a < n → numbers_from a (n - a) ≡ a ∷ numbers_from (a + 1) (n - (a + 1))
numbers_from-next a n h =
    let size : n - a ≡ suc (n - (a + 1)) = omega arith in
    ap (numbers_from a) size ∙ ap (λ b. a ∷ numbers_from b (n - (a + 1))) (sym (add-one a))
