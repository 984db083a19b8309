-- The tags of a threshold problem: lists of them joined, and that each is one of the matrix's elements.
use Rattle.std.specs.Prelude.{nat_le, ◌==◌, ◌&&◌}
use Rattle.std.specs.List.{AllByRecursion, filter, range_with_len}
use Rattle.std.proofs.Common.{◌≡◌, ℕ, ◌≤◌, ◌++◌, Bool, true, List, map, All, ap, ◌∙◌, arith}
use Rattle.std.proofs.lemmas.List.{map-append}
use Rattle.std.proofs.lemmas.List.Elements.{filter-append}
use Rattle.std.proofs.lemmas.Grind.{common_steps}
use Rattle.judgement_matrix.specs.Matrix.{Judgements, IsPair, pairs, range_at}
use Rattle.judgement_matrix.proofs.EveryLemmas.{every-append, every-map, every-filter, every-pairs, every-range}
use Rattle.lp_macbeth.specs.declared.threshold_tags.ThresholdTag.{ThresholdTag}
use Rattle.lp_macbeth.specs.declared.threshold_tags.ThresholdTag.TheVariants.{At, Zero, Below, Step}
use Rattle.lp_macbeth.specs.Threshold.{at_rows_of, equal_rows_of, below_rows_of, step_rows, threshold_rows, IsThresholdTagOf}
use Rattle.lp_macbeth.proofs.PairLemmas.{All-from_every}

-- the tests of a range
abbrev pub starts : Judgements → ℕ × ℕ → Bool
starts m pair = nat_le 1 (range_at m pair.0 pair.1).lo

abbrev pub equals : Judgements → ℕ × ℕ → Bool
equals m pair = (range_at m pair.0 pair.1).hi == 0

abbrev pub ends : Judgements → ℕ × ℕ → Bool
ends m pair = nat_le 1 (range_at m pair.0 pair.1).hi && nat_le (range_at m pair.0 pair.1).hi 5

pub at_rows_of-append : (m : Judgements) (ps qs : List (ℕ × ℕ)) → at_rows_of m (ps ++ qs) ≡ at_rows_of m ps ++ at_rows_of m qs
at_rows_of-append m ps qs = ap (map (λ (pair : ℕ × ℕ). At pair.0 pair.1)) (filter-append (starts m) ps qs)
    ∙ map-append (λ (pair : ℕ × ℕ). At pair.0 pair.1) (filter (starts m) ps) (filter (starts m) qs)

pub equal_rows_of-append : (m : Judgements) (ps qs : List (ℕ × ℕ)) → equal_rows_of m (ps ++ qs) ≡ equal_rows_of m ps ++ equal_rows_of m qs
equal_rows_of-append m ps qs = ap (map (λ (pair : ℕ × ℕ). Zero pair.0 pair.1)) (filter-append (equals m) ps qs)
    ∙ map-append (λ (pair : ℕ × ℕ). Zero pair.0 pair.1) (filter (equals m) ps) (filter (equals m) qs)

pub below_rows_of-append : (m : Judgements) (ps qs : List (ℕ × ℕ)) → below_rows_of m (ps ++ qs) ≡ below_rows_of m ps ++ below_rows_of m qs
below_rows_of-append m ps qs = ap (map (λ (pair : ℕ × ℕ). Below pair.0 pair.1)) (filter-append (ends m) ps qs)
    ∙ map-append (λ (pair : ℕ × ℕ). Below pair.0 pair.1) (filter (ends m) ps) (filter (ends m) qs)

-- ---- each tag is one of the matrix's

-- the tests, read
pub starts_from : (lo : ℕ) → nat_le 1 lo ≡ true → 1 ≤ lo
starts_from lo h = grind (arith, common_steps)

pub ends_from : (hi : ℕ) → (nat_le 1 hi && nat_le hi 5) ≡ true → (1 ≤ hi) × (hi ≤ 5)
ends_from hi h = grind (arith, common_steps)

-- what holds of each pair that passes a test
passing_pairs : (n : ℕ) (P : ℕ × ℕ → Type 0) (test : ℕ × ℕ → Bool) → ((p q : ℕ) → IsPair n p q → test (p, q) ≡ true → P (p, q))
    → AllByRecursion P (filter test (pairs n))
passing_pairs n P test h = every-filter P test (pairs n) (every-pairs n (λ p q. test (p, q) ≡ true → P (p, q)) h)

every-threshold_rows : (m : Judgements) → AllByRecursion (IsThresholdTagOf m) (threshold_rows m)
every-threshold_rows m =
    let Of : ThresholdTag → Type 0 = IsThresholdTagOf m in
    let at : AllByRecursion Of (at_rows_of m (pairs m.size)) =
    every-map Of (λ (pair : ℕ × ℕ). At pair.0 pair.1) _
    (passing_pairs m.size (λ pair. Of (At pair.0 pair.1)) (starts m) (λ p q h e. (h, starts_from (range_at m p q).lo e))) in
    let equal : AllByRecursion Of (equal_rows_of m (pairs m.size)) =
    every-map Of (λ (pair : ℕ × ℕ). Zero pair.0 pair.1) _ (passing_pairs m.size (λ pair. Of (Zero pair.0 pair.1)) (equals m) (λ p q h e. h)) in
    let below : AllByRecursion Of (below_rows_of m (pairs m.size)) =
    every-map Of (λ (pair : ℕ × ℕ). Below pair.0 pair.1) _
    (passing_pairs m.size (λ pair. Of (Below pair.0 pair.1)) (ends m) (λ p q h e. (h, (ends_from (range_at m p q).hi e).1))) in
    let steps : AllByRecursion Of step_rows = every-map Of (λ k. Step k) (range_with_len 2 4)
    (every-range (λ k. Of (Step k)) 2 4 (λ k low high. (low, omega arith))) in
    every-append Of _ _ (every-append Of _ _ (every-append Of _ _ at equal) below) steps

pub All-threshold_rows : (m : Judgements) → All (IsThresholdTagOf m) (threshold_rows m)
All-threshold_rows m = All-from_every (IsThresholdTagOf m) (threshold_rows m) (every-threshold_rows m)
