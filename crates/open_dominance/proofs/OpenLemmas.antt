-- The two wordings of open, and the closure.
use lib.IntN.{zero-*ℤ}
use Rattle.std.proofs.Common.{◌≡◌, ◌⊎◌, inl, inr, ℕ, ◌<◌, ◌≤◌, ℤ, pos, ◌-ℤ◌, ◌*ℤ◌, ◌≤ℤ◌, ◌<ℤ◌, List, refl, sym, subst, arith}
use Rattle.std.proofs.lemmas.Bool.{cases_lt}
use Rattle.std.specs.Int.Signed.{lt_z_yes}
use Rattle.integers.specs.Vector.{scale}
use Rattle.integers.proofs.Laws.{lin}
use Rattle.integers.proofs.Order.{mul_nonneg, mul_pos, pos_of_mul, nonneg_of_mul, cancel_le}
use Rattle.integers.proofs.Ring.{con, ◌⊕◌, ◌⊖◌, ◌⊗◌, ◌≗◌, ring3}
use Rattle.judgement_matrix.specs.Matrix.{Judgements, IsMatrix, IsPair, range_at}
use Rattle.judgement_matrix.specs.Scale.{difference}
use Rattle.judgement_matrix.proofs.MixLemmas.{difference-scale}
use Rattle.lp_macbeth.proofs.ThresholdLemmas.{IsRange-range_at}
use Rattle.open_dominance.specs.Open.{IsMetOpenly, AreOpenDifferences, IsMetInClosure}

-- a bound above 0 that a multiple keeps
above_bound : (u b c d : ℤ) → pos 0 <ℤ u → pos 0 <ℤ c → pos 0 <ℤ b → (u *ℤ b) ≤ℤ (c *ℤ d) → pos 0 <ℤ d
above_bound u b c d pu pc pb h =
    let up : pos 0 <ℤ (u *ℤ b) = mul_pos u b pu pb in
    let same : c *ℤ d ≡ d *ℤ c = ring3 (λ c d u. c ⊗ d ≗ d ⊗ c) refl c d u in
    pos_of_mul d c pc (omega (arith, lin, up, h, same))

-- and a bound of at least 0
least_bound : (u b c d : ℤ) → pos 0 <ℤ u → pos 0 <ℤ c → pos 0 ≤ℤ b → (u *ℤ b) ≤ℤ (c *ℤ d) → pos 0 ≤ℤ d
least_bound u b c d pu pc pb h =
    let up : pos 0 ≤ℤ (u *ℤ b) = mul_nonneg u b (omega (arith, lin, pu)) pb in
    let same : c *ℤ d ≡ d *ℤ c = ring3 (λ c d u. c ⊗ d ≗ d ⊗ c) refl c d u in
    nonneg_of_mul d c pc (omega (arith, lin, up, h, same))

-- and a difference that isn't above 0
zero_bound : (c d : ℤ) → pos 0 <ℤ c → (c *ℤ d) ≤ℤ pos 0 → d ≤ℤ pos 0
zero_bound c d pc h =
    let same : c *ℤ d ≡ d *ℤ c = ring3 (λ c d u. c ⊗ d ≗ d ⊗ c) refl c d c in
    cancel_le d (pos 0) c pc (omega (arith, lin, h, same, zero-*ℤ c))

-- a unit above 0 makes each difference with a bound above 0 be above 0
pub differences_of_open : (m : Judgements) (v : List ℤ) → IsMetOpenly m v → AreOpenDifferences m v
differences_of_open m v h = record {
  zero = λ p q in_n e. zero_bound h.factor (difference v p q) h.factor_pos (subst (λ z. z ≤ℤ pos 0) (difference-scale h.factor v p q) (h.meets.zero p q in_n e));
  above = λ p q in_n low.
      above_bound h.unit (pos (range_at m p q).lo) h.factor (difference v p q) h.unit_pos h.factor_pos (omega (arith, lin, low))
      (subst (λ z. (h.unit *ℤ pos (range_at m p q).lo) ≤ℤ z) (difference-scale h.factor v p q) (h.meets.lower p q in_n));
  none_below = λ p q in_n.
      least_bound h.unit (pos (range_at m p q).lo) h.factor (difference v p q) h.unit_pos h.factor_pos (omega (arith, lin))
      (subst (λ z. (h.unit *ℤ pos (range_at m p q).lo) ≤ℤ z) (difference-scale h.factor v p q) (h.meets.lower p q in_n));
  cross = λ p q x y left right below.
      above_bound h.unit (pos (range_at m p q).lo -ℤ pos (range_at m x y).hi) h.factor (difference v p q -ℤ difference v x y) h.unit_pos h.factor_pos
      (omega (arith, lin, below)) (crossed p q x y (h.meets.cross p q x y left right below));
}
  where
    crossed : (p q x y : ℕ) → (h.unit *ℤ (pos (range_at m p q).lo -ℤ pos (range_at m x y).hi)) ≤ℤ (difference (scale h.factor v) p q -ℤ difference (scale h.factor v) x y)
        → (h.unit *ℤ (pos (range_at m p q).lo -ℤ pos (range_at m x y).hi)) ≤ℤ (h.factor *ℤ (difference v p q -ℤ difference v x y))
    crossed p q x y k =
        omega (
          arith,
          lin,
          k,
          difference-scale h.factor v p q,
          difference-scale h.factor v x y,
          ring3 (λ c a b. c ⊗ (a ⊖ b) ≗ c ⊗ a ⊖ c ⊗ b) refl h.factor (difference v p q) (difference v x y),
        )

-- no bound is above 6, so six times whole numbers above 0 keep it in unit 1
six_times : (b d : ℤ) → b ≤ℤ pos 6 → pos 0 <ℤ d → (pos 1 *ℤ b) ≤ℤ (pos 6 *ℤ d)
six_times b d most above = omega (arith, lin, most, above, ring3 (λ b d u. con (pos 1) ⊗ b ≗ b) refl b d d, ring3 (λ b d u. con (pos 6) ⊗ d ≗ d ⊕ d ⊕ d ⊕ d ⊕ d ⊕ d) refl b d d)

six_none : (b d : ℤ) → b ≤ℤ pos 0 → pos 0 ≤ℤ d → (pos 1 *ℤ b) ≤ℤ (pos 6 *ℤ d)
six_none b d most above = omega (arith, lin, most, above, ring3 (λ b d u. con (pos 1) ⊗ b ≗ b) refl b d d, ring3 (λ b d u. con (pos 6) ⊗ d ≗ d ⊕ d ⊕ d ⊕ d ⊕ d ⊕ d) refl b d d)

six_zero : (d : ℤ) → d ≤ℤ pos 0 → (pos 6 *ℤ d) ≤ℤ pos 0
six_zero d h = omega (arith, lin, h, ring3 (λ b d u. con (pos 6) ⊗ d ≗ d ⊕ d ⊕ d ⊕ d ⊕ d ⊕ d) refl d d d)

-- and the other way round
pub open_of_differences : (m : Judgements) → IsMatrix m → (v : List ℤ) → AreOpenDifferences m v → IsMetOpenly m v
open_of_differences m matrix v h = record {
  factor = pos 6;
  unit = pos 1;
  factor_pos = lt_z_yes tt;
  unit_pos = lt_z_yes tt;
  meets = record {
    lower = λ p q in_n. subst (λ z. (pos 1 *ℤ pos (range_at m p q).lo) ≤ℤ z) (sym (difference-scale (pos 6) v p q)) (lower p q in_n (cases_lt 0 (range_at m p q).lo));
    zero = λ p q in_n e. subst (λ z. z ≤ℤ pos 0) (sym (difference-scale (pos 6) v p q)) (six_zero (difference v p q) (h.zero p q in_n e));
    cross = λ p q x y left right below. crossed p q x y
        (six_times (pos (range_at m p q).lo -ℤ pos (range_at m x y).hi) (difference v p q -ℤ difference v x y)
        (let r = IsRange-range_at m matrix p q in let r1 = r.0 in let r2 = r.1 in omega (arith, lin, r1, r2)) (h.cross p q x y left right below));
  };
}
  where
    lower : (p q : ℕ) → IsPair m.size p q → (0 < (range_at m p q).lo) ⊎ ((range_at m p q).lo ≤ 0) → (pos 1 *ℤ pos (range_at m p q).lo) ≤ℤ (pos 6 *ℤ difference v p q)
    lower p q in_n (inl low) =
        let r = IsRange-range_at m matrix p q in
        let r1 = r.0 in
        let r2 = r.1 in
        six_times (pos (range_at m p q).lo) (difference v p q) (omega (arith, lin, r1, r2)) (h.above p q in_n (omega (arith, low)))
    lower p q in_n (inr none) = six_none (pos (range_at m p q).lo) (difference v p q) (omega (arith, lin, none)) (h.none_below p q in_n)

    crossed : (p q x y : ℕ) → (pos 1 *ℤ (pos (range_at m p q).lo -ℤ pos (range_at m x y).hi)) ≤ℤ (pos 6 *ℤ (difference v p q -ℤ difference v x y))
        → (pos 1 *ℤ (pos (range_at m p q).lo -ℤ pos (range_at m x y).hi)) ≤ℤ (difference (scale (pos 6) v) p q -ℤ difference (scale (pos 6) v) x y)
    crossed p q x y k =
        omega (
          arith,
          lin,
          k,
          difference-scale (pos 6) v p q,
          difference-scale (pos 6) v x y,
          ring3 (λ c a b. c ⊗ (a ⊖ b) ≗ c ⊗ a ⊖ c ⊗ b) refl (pos 6) (difference v p q) (difference v x y),
        )

-- ---- the closure

-- what unit 0 asks for
pub record AreClosedDifferences (m : Judgements) (v : List ℤ) : Type 0 where
  pub zero : (p q : ℕ) → IsPair m.size p q → (range_at m p q).hi ≡ 0 → difference v p q ≤ℤ pos 0
  pub none_below : (p q : ℕ) → IsPair m.size p q → pos 0 ≤ℤ difference v p q
  pub cross : (p q x y : ℕ) → IsPair m.size p q → IsPair m.size x y
      → (range_at m x y).hi < (range_at m p q).lo → pos 0 ≤ℤ (difference v p q -ℤ difference v x y)

pub differences_of_closed : (m : Judgements) (v : List ℤ) → IsMetInClosure m v → AreClosedDifferences m v
differences_of_closed m v h = record {
  zero = h.zero;
  none_below = λ p q in_n. let b = h.lower p q in_n in subst (λ z. z ≤ℤ difference v p q) (zero-*ℤ (pos (range_at m p q).lo)) b;
  cross = λ p q x y left right below.
      let b = h.cross p q x y left right below in
      subst (λ z. z ≤ℤ (difference v p q -ℤ difference v x y)) (zero-*ℤ (pos (range_at m p q).lo -ℤ pos (range_at m x y).hi)) b;
}

pub closed_of_differences : (m : Judgements) (v : List ℤ) → AreClosedDifferences m v → IsMetInClosure m v
closed_of_differences m v h = record {
  zero = h.zero;
  lower = λ p q in_n. subst (λ z. z ≤ℤ difference v p q) (sym (zero-*ℤ (pos (range_at m p q).lo))) (h.none_below p q in_n);
  cross = λ p q x y left right below.
      subst (λ z. z ≤ℤ (difference v p q -ℤ difference v x y)) (sym (zero-*ℤ (pos (range_at m p q).lo -ℤ pos (range_at m x y).hi)))
      (h.cross p q x y left right below);
}

-- what is open is in the closure
pub open_is_closed : (m : Judgements) (v : List ℤ) → IsMetOpenly m v → IsMetInClosure m v
open_is_closed m v h =
    let d = differences_of_open m v h in
    closed_of_differences m v (record {
      zero = d.zero;
      none_below = d.none_below;
      cross = λ p q x y left right below. let up = d.cross p q x y left right below in omega (arith, lin, up);
    })
