-- The rows of a matrix are rows of its elements.
use Rattle.std.proofs.Common.{◌≡◌, ℕ, ◌-◌, Bool, true, map, filter, arith}
use Rattle.std.specs.Prelude.{nat_lt}
use Rattle.std.specs.List.{AllByRecursion, range_with_len}
use Rattle.judgement_matrix.specs.Matrix.{Judgements, IsPair, pairs, range_at}
use Rattle.judgement_matrix.specs.Rows.{lower_rows, zero_rows, cross_rows, order_rows, rows, IsTagAmong}
use Rattle.judgement_matrix.specs.declared.tag.Tag.{Tag}
use Rattle.judgement_matrix.specs.declared.tag.Tag.TheVariants.{Lower, Zero, Cross, Order}
use Rattle.judgement_matrix.proofs.EveryLemmas.{every-append, every-map, every-filter, every-flat_map, every-pairs, every-range, every_weaker}

-- what holds of each pair holds of those that pass a test
every-some_pairs : (n : ℕ) (P : ℕ × ℕ → Type 0) (test : ℕ × ℕ → Bool) → ((p q : ℕ) → IsPair n p q → P (p, q)) → AllByRecursion P (filter test (pairs n))
every-some_pairs n P test h =
    every-filter P test (pairs n) (every_weaker P (λ pair. test pair ≡ true → P pair) (λ pair k e. k) (pairs n) (every-pairs n (λ p q. P (p, q)) h))

-- each row is
pub every-rows : (m : Judgements) → AllByRecursion (IsTagAmong m.size) (rows m)
every-rows m =
    let Among : Tag → Type 0 = IsTagAmong m.size in
    let lower : AllByRecursion Among (lower_rows m) =
    every-map Among (λ (pair : ℕ × ℕ). Lower pair.0 pair.1) _ (every-some_pairs m.size (λ pair. Among (Lower pair.0 pair.1)) _ (λ p q h. h)) in
    let zero : AllByRecursion Among (zero_rows m) =
    every-map Among (λ (pair : ℕ × ℕ). Zero pair.0 pair.1) _ (every-some_pairs m.size (λ pair. Among (Zero pair.0 pair.1)) _ (λ p q h. h)) in
    let cross : AllByRecursion Among (cross_rows m) =
    every-flat_map Among _ (pairs m.size)
    (every-pairs m.size (λ p q. AllByRecursion Among (map (λ (right : ℕ × ℕ). Cross p q right.0 right.1) (filter (λ (right : ℕ × ℕ). nat_lt (range_at m right.0 right.1).hi (range_at m p q).lo) (pairs m.size))))
    (λ p q h. every-map Among (λ (right : ℕ × ℕ). Cross p q right.0 right.1) _ (every-some_pairs m.size (λ right. Among (Cross p q right.0 right.1)) _ (λ x y k. (h, k))))) in
    let order : AllByRecursion Among (order_rows m) =
    every-map Among (λ p. Order p) (range_with_len 1 (m.size - 1)) (every-range (λ p. Among (Order p)) 1 (m.size - 1) (λ k low high. (low, omega arith))) in
    every-append Among _ _ (every-append Among _ _ (every-append Among _ _ lower zero) cross) order
