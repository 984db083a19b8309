-- Scales that a straight line makes of a scale: the anchored scale, and a scale moved so that an element stands at 0.
use lib.IntN.{*ℤ-zero}
use Rattle.std.proofs.Common.{◌≡◌, ℕ, ◌-◌, ◌≤◌, ℤ, pos, ◌+ℤ◌, ◌-ℤ◌, ◌*ℤ◌, ◌≤ℤ◌, List, [], ◌∷◌, map, length, refl, sym, ap₂, subst, ◌∙◌, arith}
use Rattle.std.proofs.lemmas.List.{length-map, get_or-map}
use Rattle.integers.proofs.Laws.{lin}
use Rattle.integers.proofs.Order.{mul_pos, le_of_lt}
use Rattle.integers.proofs.Ring.{con, ◌⊕◌, ◌⊖◌, ◌⊗◌, ◌≗◌, ◌≼◌, ◌✶◌, ◌⇐◌, ring1, ring2, ring3, ring4, combine5}
use Rattle.judgement_matrix.specs.Matrix.{Judgements, IsPair, range_at}
use Rattle.judgement_matrix.specs.Scale.{value_at, difference, IsMetInUnit, IsMetBy}
use Rattle.judgement_matrix.proofs.MixLemmas.{IsMetInUnit-scale}
use Rattle.lp_macbeth.specs.Closed.{IsClosedScale}
use Rattle.value_scale.specs.Anchor.{IsAnchoredScale}
use Rattle.value_scale.proofs.AnchorLaws.{anchored_each}
use Rattle.open_dominance.specs.Open.{References, IsMetInClosure, IsOpenScale, IsClosureScale, lowered}

-- ---- lines

-- each number times s, and t more
abbrev on_line : ℤ → ℤ → List ℤ → List ℤ
on_line s t w = map (λ x. s *ℤ x +ℤ t) w

value_at-line : (s t : ℤ) (w : List ℤ) (p : ℕ) → 1 ≤ p → p ≤ length w → value_at (on_line s t w) p ≡ s *ℤ value_at w p +ℤ t
value_at-line s t w p low within = get_or-map (λ x. s *ℤ x +ℤ t) w (p - 1) (pos 0) (pos 0) (omega arith)

difference-line : (s t : ℤ) (w : List ℤ) (p q : ℕ) → IsPair (length w) p q → difference (on_line s t w) p q ≡ s *ℤ difference w p q
difference-line s t w p q pair =
    ap₂ (λ x y. x -ℤ y) (value_at-line s t w p (omega arith) (omega arith)) (value_at-line s t w q (omega arith) (omega arith))
    ∙ ring4 (λ s t x y. (s ⊗ x ⊕ t) ⊖ (s ⊗ y ⊕ t) ≗ s ⊗ (x ⊖ y)) refl s t (value_at w p) (value_at w q)

-- what a line makes of a scale meets the judgements in as many units
low_on_line : (s u b d : ℤ) → pos 0 ≤ℤ s → (u *ℤ b) ≤ℤ d → ((s *ℤ u) *ℤ b) ≤ℤ (s *ℤ d)
low_on_line s u b d = combine5 (λ s u b d z. (s ⊗ u) ⊗ b ≼ s ⊗ d ⇐ s ✶ (u ⊗ b ≼ d) ∷ []) refl s u b d s

zero_on_line : (s d : ℤ) → pos 0 ≤ℤ s → d ≤ℤ pos 0 → (s *ℤ d) ≤ℤ pos 0
zero_on_line s d = combine5 (λ s d x y z. s ⊗ d ≼ con (pos 0) ⇐ s ✶ (d ≼ con (pos 0)) ∷ []) refl s d s s s

IsMetInUnit-line : (m : Judgements) (u s t : ℤ) (w : List ℤ) → length w ≡ m.size → pos 0 ≤ℤ s → IsMetInUnit m u w → IsMetInUnit m (s *ℤ u) (on_line s t w)
IsMetInUnit-line m u s t w each nonneg h = record {
  lower = λ p q in_n. subst (λ z. ((s *ℤ u) *ℤ pos (range_at m p q).lo) ≤ℤ z) (sym (at p q in_n))
      (low_on_line s u (pos (range_at m p q).lo) (difference w p q) nonneg (h.lower p q in_n));
  zero = λ p q in_n e. subst (λ z. z ≤ℤ pos 0) (sym (at p q in_n)) (zero_on_line s (difference w p q) nonneg (h.zero p q in_n e));
  cross = λ p q x y left right below. subst (λ z. ((s *ℤ u) *ℤ (pos (range_at m p q).lo -ℤ pos (range_at m x y).hi)) ≤ℤ z) (sym (apart p q x y left right))
      (low_on_line s u (pos (range_at m p q).lo -ℤ pos (range_at m x y).hi) (difference w p q -ℤ difference w x y) nonneg (h.cross p q x y left right below));
}
  where
    at : (p q : ℕ) → IsPair m.size p q → difference (on_line s t w) p q ≡ s *ℤ difference w p q
    at p q in_n = difference-line s t w p q (subst (λ n. IsPair n p q) (sym each) in_n)

    apart : (p q x y : ℕ) → IsPair m.size p q → IsPair m.size x y
        → difference (on_line s t w) p q -ℤ difference (on_line s t w) x y ≡ s *ℤ (difference w p q -ℤ difference w x y)
    apart p q x y left right =
        ap₂ (λ a b. a -ℤ b) (at p q left) (at x y right)
        ∙ ring3 (λ s a b. s ⊗ a ⊖ s ⊗ b ≗ s ⊗ (a ⊖ b)) refl s (difference w p q) (difference w x y)

-- ---- the anchored scale

pub anchored_is_open : (m : Judgements) (refs : References) (w : List ℤ) (n : ℤ) (v : List ℤ) (k : ℤ) → IsMetBy m w n
    → IsAnchoredScale w n refs.good refs.neutral v k → difference v 1 m.size ≤ℤ (pos refs.reach *ℤ k) → IsOpenScale m refs v k
anchored_is_open m refs w n v k met h reached =
    let line = h.line in
    let slope_pos = line.rises in
    let unit_pos = mul_pos k (line.slope *ℤ n) h.den_pos (mul_pos line.slope n slope_pos met.scale.den_pos) in
    record {
      within = record {
        den_pos = h.den_pos;
        each = anchored_each w n refs.good refs.neutral v k h ∙ met.scale.each;
        good_is = h.good_is;
        neutral_is = h.neutral_is;
        reached = reached;
      };
      opened = record {
        factor = line.base *ℤ n;
        unit = k *ℤ (line.slope *ℤ n);
        factor_pos = mul_pos line.base n line.base_pos met.scale.den_pos;
        unit_pos = unit_pos;
        meets = subst (λ z. IsMetInUnit m (k *ℤ (line.slope *ℤ n)) z) (sym h.takes)
            (IsMetInUnit-scale m k (line.slope *ℤ n) (on_line line.slope (line.shift *ℤ n) w) (le_of_lt (pos 0) k h.den_pos)
            (IsMetInUnit-line m n line.slope (line.shift *ℤ n) w met.scale.each (le_of_lt (pos 0) line.slope slope_pos) met.meets));
      };
    }

-- ---- moved scales

length-lowered : (w : List ℤ) (e : ℕ) → length (lowered w e) ≡ length w
length-lowered w e = length-map w (λ x. x -ℤ value_at w e)

less_is_line : (z : ℤ) (w : List ℤ) → map (λ x. x -ℤ z) w ≡ on_line (pos 1) (pos 0 -ℤ z) w
less_is_line z [] = refl
less_is_line z (x ∷ w) = ap₂ (λ y ys. y ∷ ys) (ring2 (λ x z. x ⊖ z ≗ con (pos 1) ⊗ x ⊕ (con (pos 0) ⊖ z)) refl x z) (less_is_line z w)

value_at-lowered : (w : List ℤ) (e p : ℕ) → 1 ≤ p → p ≤ length w → value_at (lowered w e) p ≡ value_at w p -ℤ value_at w e
value_at-lowered w e p low within = get_or-map (λ x. x -ℤ value_at w e) w (p - 1) (pos 0) (pos 0) (omega arith)

pub difference-lowered : (w : List ℤ) (e p q : ℕ) → (1 ≤ p) × (p ≤ length w) → (1 ≤ q) × (q ≤ length w)
    → difference (lowered w e) p q ≡ difference w p q
difference-lowered w e p q hp hq =
    ap₂ (λ x y. x -ℤ y) (value_at-lowered w e p hp.0 hp.1) (value_at-lowered w e q hq.0 hq.1)
    ∙ ring3 (λ x y z. (x ⊖ z) ⊖ (y ⊖ z) ≗ x ⊖ y) refl (value_at w p) (value_at w q) (value_at w e)

IsMetInClosure-lowered : (m : Judgements) (w : List ℤ) (e : ℕ) → length w ≡ m.size → IsMetInClosure m w → IsMetInClosure m (lowered w e)
IsMetInClosure-lowered m w e each h =
    subst (λ z. IsMetInUnit m (pos 0) z) (sym (less_is_line (value_at w e) w))
    (subst (λ u. IsMetInUnit m u (on_line (pos 1) (pos 0 -ℤ value_at w e) w)) (*ℤ-zero (pos 1))
    (IsMetInUnit-line m (pos 0) (pos 1) (pos 0 -ℤ value_at w e) w each (omega (arith, lin)) h))

pub closure_of_closed : (m : Judgements) (refs : References) (w : List ℤ) (r n : ℤ) → IsPair m.size refs.good refs.neutral
    → IsClosedScale m refs.good refs.neutral refs.reach w r n → IsClosureScale m refs (lowered w refs.neutral) n
closure_of_closed m refs w r n pair h =
    let each = h.scale.each in
    let room = h.room in
    let reached = h.reached in
    record {
      within = record {
        den_pos = h.scale.den_pos;
        each = length-lowered w refs.neutral ∙ each;
        good_is = value_at-lowered w refs.neutral refs.good (omega arith) (omega (arith, each)) ∙ h.anchored ∙ ring1 (λ n. n ⊗ con (pos 100) ≗ con (pos 100) ⊗ n) refl n;
        neutral_is = value_at-lowered w refs.neutral refs.neutral (omega arith) (omega (arith, each)) ∙ ring1 (λ z. z ⊖ z ≗ con (pos 0)) refl (value_at w refs.neutral);
        reached = subst (λ z. z ≤ℤ (pos refs.reach *ℤ n)) (sym (difference-lowered w refs.neutral 1 m.size (omega (arith, each)) (omega (arith, each))))
            (omega (arith, lin, room, reached, ring2 (λ n r. n ⊗ r ≗ r ⊗ n) refl n (pos refs.reach)));
      };
      closed = IsMetInClosure-lowered m w refs.neutral each h.meets;
    }

pub closed_of_closure : (m : Judgements) (refs : References) (v : List ℤ) (n : ℤ) → IsPair m.size refs.good refs.neutral → IsClosureScale m refs v n
    → IsClosedScale m refs.good refs.neutral refs.reach (lowered v m.size) (n *ℤ pos refs.reach -ℤ difference v 1 m.size) n
closed_of_closure m refs v n pair h =
    let each = h.within.each in
    let good_is = h.within.good_is in
    let neutral_is = h.within.neutral_is in
    let reached = h.within.reached in
    let across = difference-lowered v m.size 1 m.size (omega (arith, each)) (omega (arith, each)) in
    let turned = ring2 (λ n r. n ⊗ r ≗ r ⊗ n) refl n (pos refs.reach) in
    record {
      scale = record {
        den_pos = h.within.den_pos;
        each = length-lowered v m.size ∙ each;
        last = value_at-lowered v m.size m.size (omega arith) (omega (arith, each)) ∙ ring1 (λ z. z ⊖ z ≗ con (pos 0)) refl (value_at v m.size);
      };
      meets = IsMetInClosure-lowered m v m.size each h.closed;
      anchored = difference-lowered v m.size refs.good refs.neutral (omega (arith, each)) (omega (arith, each))
          ∙ ap₂ (λ x y. x -ℤ y) good_is neutral_is ∙ ring1 (λ n. con (pos 100) ⊗ n ⊖ con (pos 0) ≗ n ⊗ con (pos 100)) refl n;
      room = omega (arith, lin, reached, turned);
      reached = omega (arith, lin, across);
    }
