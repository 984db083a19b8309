-- What holds of all things that a loop has read.
use Rattle.std.proofs.Common.{◌≡◌, ℕ, ◌+◌, ◌≤◌, List, length, take, slice_get, Some, All, sym, subst}
use Rattle.std.proofs.lemmas.List.{take_all}
use Rattle.std.proofs.lemmas.List.Elements.{All-push}
use Rattle.model_core.proofs.RosterLemmas.{take-more}

module _ {X : Type 0} (P : X → Type 0) (xs : List X) (i : ℕ) where
  pub one_more : (x : X) → slice_get xs i ≡ Some x → All P (take i xs) → P x → All P (take (i + 1) xs)
  one_more x here so_far is = subst (All P) (sym (take-more xs i x here)) (All-push P (take i xs) x so_far is)

  pub all_read : length xs ≤ i → All P (take i xs) → All P xs
  all_read end so_far = subst (All P) (take_all i xs end) so_far
