-- Entries one by one, and all of them.
use Rattle.std.proofs.Common.{◌≡◌, ℕ, ◌+◌, ◌<◌, length, map, get_or, List, ℤ, pos, ◌≤ℤ◌, refl, sym, subst, arith}
use Rattle.std.proofs.lemmas.List.{get_or_default, length-map}
use Rattle.std.proofs.Math.ListN.{get_or-map}
use Rattle.frac128.specs.Problem.{AreRowMultipliers}
use Rattle.cert_check.specs.Entries.{IsEntry, entry_at}

-- the position of the entry at a place
position_is : (on : List (ℕ × ℤ)) (k : ℕ) → get_or (map (λ (e : ℕ × ℤ). e.0) on) k 0 ≡ (entry_at on k).0
position_is on k = get_or-map (λ (e : ℕ × ℤ). e.0) on k (0, pos 0)

-- entries that are each as they should be
pub AreRowMultipliers-from_entries : (count : ℕ) (on : List (ℕ × ℤ)) → ((k : ℕ) → k < length on → IsEntry count on k) → AreRowMultipliers count on
AreRowMultipliers-from_entries count on each = record {
  positions_rise = λ k below.
      let inside : k + 1 < length on = subst (λ n. k + 1 < n) (length-map on (λ (e : ℕ × ℤ). e.0)) below in
      let rises : (entry_at on k).0 < (entry_at on (k + 1)).0 = (each (k + 1) inside).after_last k refl in
      omega (arith, position_is on k, position_is on (k + 1));
  positions_below = λ k d below. subst (λ (e : ℕ × ℤ). e.0 < count) (get_or_default on k (0, pos 0) d below) (each k below).names_row;
  nonneg = λ k d below. subst (λ (e : ℕ × ℤ). pos 0 ≤ℤ e.1) (get_or_default on k (0, pos 0) d below) (each k below).nonneg;
}

-- each of them
pub IsEntry-at : (count : ℕ) (on : List (ℕ × ℤ)) → AreRowMultipliers count on → (k : ℕ) → k < length on → IsEntry count on k
IsEntry-at count on all k below = record {
  names_row = all.positions_below k (0, pos 0) below;
  after_last = λ i next.
      let inside : i + 1 < length (map (λ (e : ℕ × ℤ). e.0) on) = omega (arith, length-map on (λ (e : ℕ × ℤ). e.0)) in
      let rises = all.positions_rise i inside in
      let here : get_or (map (λ (e : ℕ × ℤ). e.0) on) (i + 1) 0 ≡ (entry_at on k).0 =
      subst (λ n. get_or (map (λ (e : ℕ × ℤ). e.0) on) n 0 ≡ (entry_at on k).0) (sym next) (position_is on k) in
      omega (arith, position_is on i);
  nonneg = all.nonneg k (0, pos 0) below;
}
