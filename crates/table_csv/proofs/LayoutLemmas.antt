-- Rows and fields pushed one after the other.
use Rattle.std.proofs.Common.{◌≡◌, ℕ, suc, ◌+◌, ◌-◌, ◌<◌, List, [], ◌∷◌, ◌++◌, map, sym, ap, ◌∙◌, arith}
use Rattle.std.specs.List.{range_with_len}
use Rattle.integers.proofs.Loops.{push_next}

module _ {A : Type 0} (f : ℕ → A) (items all : List A) (q n : ℕ) (so_far : items ++ map f (range_with_len (q + 1) (n - q)) ≡ all) where
  -- one more, of those from 1 on
  pub one_more : (now : List A) (x : A) → q < n → x ≡ f (q + 1) → now ≡ items ++ x ∷ [] → now ++ map f (range_with_len (q + 1 + 1) (n - (q + 1))) ≡ all
  one_more now x within is pushed =
      let left : n - q ≡ suc (n - (q + 1)) = omega arith in
      let next : map f (range_with_len (q + 1) (n - q)) ≡ x ∷ map f (range_with_len (q + 1 + 1) (n - (q + 1))) =
      ap (λ k. map f (range_with_len (q + 1) k)) left ∙ ap (λ y. y ∷ map f (range_with_len (q + 1 + 1) (n - (q + 1)))) (sym is) in
      push_next items all (map f (range_with_len (q + 1) (n - q))) (map f (range_with_len (q + 1 + 1) (n - (q + 1)))) now x so_far next pushed
