-- What the rows of a threshold problem say of each pair, and that with thresholds between the categories all judgements are met.
use lib.IntN.{*ℤ_comm, +ℤ_idl, +ℤ_idr, zero-*ℤ}
use Rattle.std.specs.Prelude.{nat_le, ◌==◌, ◌&&◌}
use Rattle.std.specs.List.{AllByRecursion, filter, range_with_len}
use Rattle.std.proofs.Common.{◌≡◌, ◌⊎◌, inl, inr, ◌↔◌, ℕ, zero, suc, ◌-◌, ◌<◌, ◌≤◌, Bool, true, ℤ, pos, negsuc, neg_ℤ, ◌+ℤ◌, ◌-ℤ◌, ◌*ℤ◌, ◌≤ℤ◌, List, [], ◌∷◌, ◌++◌, length, get_or, map, set, replicate, All, refl, sym, ap, ap₂, ◌∙◌, arith}
use Rattle.std.proofs.lemmas.Bool.{cases_lt}
use Rattle.std.proofs.lemmas.Grind.{common_steps}
use Rattle.frac128.specs.Problem.{IsRowMetBy}
use Rattle.integers.specs.Vector.{dot}
use Rattle.integers.proofs.Laws.{lin, one-*ℤ, minus_one-*ℤ, neg_ℤ-*ℤ}
use Rattle.integers.proofs.Vector.{dot-add, dot-append, dot-set, dot-zeros, dot_comm}
use Rattle.judgement_matrix.specs.Matrix.{Judgements, IsPair, pairs, range_at}
use Rattle.judgement_matrix.specs.Scale.{difference}
use Rattle.judgement_matrix.proofs.EveryLemmas.{every-append, every-append_left, every-append_right, every-map, every_from_map, every-filter, every_from_filter, every-pairs, every_at_pair, every-range, every_in_range}
use Rattle.lp_macbeth.specs.Gaps.{gap_coefs, opposite, scale_of}
use Rattle.lp_macbeth.specs.declared.threshold_tags.ThresholdTag.{ThresholdTag}
use Rattle.lp_macbeth.specs.declared.threshold_tags.ThresholdTag.TheVariants.{At, Zero, Below, Step}
use Rattle.lp_macbeth.specs.Threshold.{threshold, threshold_step, at_rows_of, equal_rows_of, below_rows_of, step_rows, threshold_rows, threshold_row_of, IsThresholdTagOf}
use Rattle.lp_macbeth.proofs.CoefLemmas.{length-gap_coefs, length-opposite}
use Rattle.lp_macbeth.proofs.GapLemmas.{dot-gap_coefs}
use Rattle.lp_macbeth.proofs.PairLemmas.{All-from_every, every_from_All}
use Rattle.lp_macbeth.proofs.ScaleLemmas.{every_both, dot-opposite}
use Rattle.lp_macbeth.proofs.ThresholdTagLemmas.{starts, equals, ends, starts_from, ends_from, All-threshold_rows}
use lib.IntN.{*ℤ-zero}
use Rattle.std.proofs.lemmas.List.{get_or-replicate, get_or_past, length-replicate}

-- the number of the threshold k; that of threshold 0 is 0
abbrev pub threshold_at : List ℤ → ℕ → ℤ
threshold_at t zero = pos 0
threshold_at t (suc k) = get_or t k (pos 0)

-- a change past the end changes nothing
set_past : (xs : List ℤ) (k : ℕ) (c : ℤ) → length xs ≤ k → set xs k c ≡ xs
set_past [] k c h = refl
set_past (x ∷ xs) zero c h = absurd (omega arith)
set_past (x ∷ xs) (suc k) c h = ap (λ l. x ∷ l) (set_past xs k c (omega arith))

-- a multiple of a threshold, as a product
dot-threshold : (k : ℕ) (c : ℤ) (t : List ℤ) → length t ≡ 5 → dot (threshold k c) t ≡ c *ℤ threshold_at t k
dot-threshold zero c t each = dot_comm (replicate 5 (pos 0)) t ∙ dot-zeros t 5 ∙ sym (*ℤ-zero c)
dot-threshold (suc k) c t each = by_place (cases_lt k 5)
  where
    by_place : (k < 5) ⊎ (5 ≤ k) → dot (threshold (suc k) c) t ≡ c *ℤ threshold_at t (suc k)
    by_place (inl h) =
        dot-set (replicate 5 (pos 0)) t k c h
        ∙ ap₂ (λ a b. a +ℤ (c -ℤ b) *ℤ get_or t k (pos 0)) (dot_comm (replicate 5 (pos 0)) t ∙ dot-zeros t 5) (get_or-replicate 5 k (pos 0) (pos 0) h)
        ∙ +ℤ_idl ((c -ℤ pos 0) *ℤ get_or t k (pos 0)) ∙ ap (λ a. a *ℤ get_or t k (pos 0)) (+ℤ_idr c)
    by_place (inr h) =
        ap (λ l. dot l t) (set_past (replicate 5 (pos 0)) k c h) ∙ dot_comm (replicate 5 (pos 0)) t ∙ dot-zeros t 5
        ∙ sym (ap (λ z. c *ℤ z) (get_or_past t k (pos 0) (omega (arith, each))) ∙ *ℤ-zero c)

-- what the constraint of a tag says of the scale and the thresholds
abbrev pub TagHolds : Judgements → List ℤ → List ℤ → ℤ → ThresholdTag → Type 0
TagHolds m w t n (At p q) = (n *ℤ pos (range_at m p q).lo +ℤ threshold_at t ((range_at m p q).lo - 1)) ≤ℤ difference w p q
TagHolds m w t n (Zero p q) = difference w p q ≤ℤ pos 0
TagHolds m w t n (Below p q) = difference w p q ≤ℤ (n *ℤ pos (range_at m p q).hi +ℤ threshold_at t (range_at m p q).hi)
TagHolds m w t n (Step k) = threshold_at t (k - 1) ≤ℤ threshold_at t k

-- a row of two parts
dot-both : (xs ts x t : List ℤ) (a b : ℤ) → length xs ≡ length x → dot xs x ≡ a → dot ts t ≡ b → dot (xs ++ ts) (x ++ t) ≡ a +ℤ b
dot-both xs ts x t a b each first second = dot-append xs ts x t each ∙ ap₂ (λ u v. u +ℤ v) first second

-- a row holds at gaps and thresholds exactly where its constraint holds of the scale and the thresholds
pub met_tag : (m : Judgements) (x t : List ℤ) (n : ℤ) (tag : ThresholdTag) → suc (length x) ≡ m.size → length t ≡ 5 → IsThresholdTagOf m tag
    → IsRowMetBy (x ++ t) n (threshold_row_of m tag) ↔ TagHolds m (scale_of x) t n tag
met_tag m x t n (At p q) each five of =
    let lo : ℕ = (range_at m p q).lo in
    let d = dot-both (gap_coefs m.size p q) (threshold (lo - 1) (negsuc 0)) x t _ _ (length-gap_coefs m.size p q of.0 ∙ omega (arith, each))
    (dot-gap_coefs m.size x p q each of.0) (dot-threshold (lo - 1) (negsuc 0) t five ∙ minus_one-*ℤ (threshold_at t (lo - 1))) in
    let b = *ℤ_comm (pos lo) n in
    (λ h. omega (arith, lin, d, b, h), λ h. omega (arith, lin, d, b, h))
met_tag m x t n (Zero p q) each five of =
    let d = dot-both (opposite (gap_coefs m.size p q)) (threshold 0 (pos 0)) x t _ _
    (length-opposite (gap_coefs m.size p q) ∙ length-gap_coefs m.size p q of ∙ omega (arith, each))
    (dot-opposite (gap_coefs m.size p q) x ∙ ap neg_ℤ (dot-gap_coefs m.size x p q each of)) (dot-threshold 0 (pos 0) t five) in
    let b : pos 0 *ℤ n ≡ pos 0 = zero-*ℤ n in
    (λ h. omega (arith, lin, d, b, h), λ h. omega (arith, lin, d, b, h))
met_tag m x t n (Below p q) each five of =
    let hi : ℕ = (range_at m p q).hi in
    let d = dot-both (opposite (gap_coefs m.size p q)) (threshold hi (pos 1)) x t _ _
    (length-opposite (gap_coefs m.size p q) ∙ length-gap_coefs m.size p q of.0 ∙ omega (arith, each))
    (dot-opposite (gap_coefs m.size p q) x ∙ ap neg_ℤ (dot-gap_coefs m.size x p q each of.0))
    (dot-threshold hi (pos 1) t five ∙ one-*ℤ (threshold_at t hi)) in
    let b : neg_ℤ (pos hi) *ℤ n ≡ neg_ℤ (n *ℤ pos hi) = neg_ℤ-*ℤ (pos hi) n ∙ ap neg_ℤ (*ℤ_comm (pos hi) n) in
    (λ h. omega (arith, lin, d, b, h), λ h. omega (arith, lin, d, b, h))
met_tag m x t n (Step k) each five of =
    let d = dot-both (replicate (m.size - 1) (pos 0)) (threshold_step k) x t _ _ (length-replicate (m.size - 1) (pos 0) ∙ omega (arith, each))
    (dot_comm (replicate (m.size - 1) (pos 0)) x ∙ dot-zeros x (m.size - 1))
    (dot-add (threshold k (pos 1)) (threshold (k - 1) (negsuc 0)) t
    ∙ ap₂ (λ u v. u +ℤ v) (dot-threshold k (pos 1) t five ∙ one-*ℤ (threshold_at t k))
    (dot-threshold (k - 1) (negsuc 0) t five ∙ minus_one-*ℤ (threshold_at t (k - 1)))) in
    let b : pos 0 *ℤ n ≡ pos 0 = zero-*ℤ n in
    (λ h. omega (arith, lin, d, b, h), λ h. omega (arith, lin, d, b, h))

-- ---- all rows

-- what holds of the tags of the pairs that pass a test
pub every_tag : (n : ℕ) (P : ThresholdTag → Type 0) (f : ℕ × ℕ → ThresholdTag) (test : ℕ × ℕ → Bool)
    → AllByRecursion P (map f (filter test (pairs n))) ↔ ((p q : ℕ) → IsPair n p q → test (p, q) ≡ true → P (f (p, q)))
every_tag n P f test = (
  λ h. every_at_pair n (λ p q. test (p, q) ≡ true → P (f (p, q)))
      (every_from_filter (λ pair. P (f pair)) test (pairs n) (every_from_map P f (filter test (pairs n)) h)),
  λ h. every-map P f (filter test (pairs n)) (every-filter (λ pair. P (f pair)) test (pairs n) (every-pairs n (λ p q. test (p, q) ≡ true → P (f (p, q))) h)),
)

-- the scale and the thresholds keep each pair's constraints
pub record Separates (m : Judgements) (w t : List ℤ) (n : ℤ) : Type 0 where
  pub at : (p q : ℕ) → IsPair m.size p q → 1 ≤ (range_at m p q).lo → TagHolds m w t n (At p q)
  pub equal : (p q : ℕ) → IsPair m.size p q → (range_at m p q).hi ≡ 0 → TagHolds m w t n (Zero p q)
  pub below : (p q : ℕ) → IsPair m.size p q → 1 ≤ (range_at m p q).hi → (range_at m p q).hi ≤ 5 → TagHolds m w t n (Below p q)
  pub step : (k : ℕ) → 2 ≤ k → k ≤ 5 → threshold_at t (k - 1) ≤ℤ threshold_at t k

-- the tests, read and written
at_test : (lo : ℕ) → 1 ≤ lo → nat_le 1 lo ≡ true
at_test lo h = grind (arith, common_steps)

equal_test : (hi : ℕ) → hi ≡ 0 → (hi == 0) ≡ true
equal_test hi h = rw h refl

equal_from : (hi : ℕ) → (hi == 0) ≡ true → hi ≡ 0
equal_from zero h = refl
equal_from (suc hi) h = grind (arith, common_steps)

below_test : (hi : ℕ) → 1 ≤ hi → hi ≤ 5 → (nat_le 1 hi && nat_le hi 5) ≡ true
below_test hi low high = grind (arith, common_steps)

-- all rows hold exactly where the pairs are separated
pub separates_iff : (m : Judgements) (w t : List ℤ) (n : ℤ) → AllByRecursion (TagHolds m w t n) (threshold_rows m) ↔ Separates m w t n
separates_iff m w t n = (to, from)
  where
    to : AllByRecursion (TagHolds m w t n) (threshold_rows m) → Separates m w t n
    to h =
        let P : ThresholdTag → Type 0 = TagHolds m w t n in
        let ps : List (ℕ × ℕ) = pairs m.size in
        let front = every-append_left P (at_rows_of m ps ++ equal_rows_of m ps ++ below_rows_of m ps) step_rows h in
        let two = every-append_left P (at_rows_of m ps ++ equal_rows_of m ps) (below_rows_of m ps) front in
        let at = (every_tag m.size P (λ pair. At pair.0 pair.1) (starts m)).0 (every-append_left P (at_rows_of m ps) (equal_rows_of m ps) two) in
        let equal = (every_tag m.size P (λ pair. Zero pair.0 pair.1) (equals m)).0 (every-append_right P (at_rows_of m ps) (equal_rows_of m ps) two) in
        let below = (every_tag m.size P (λ pair. Below pair.0 pair.1) (ends m)).0
        (every-append_right P (at_rows_of m ps ++ equal_rows_of m ps) (below_rows_of m ps) front) in
        let steps = every-append_right P (at_rows_of m ps ++ equal_rows_of m ps ++ below_rows_of m ps) step_rows h in
        record {
          at = λ p q in_n low. at p q in_n (at_test (range_at m p q).lo low);
          equal = λ p q in_n e. equal p q in_n (equal_test (range_at m p q).hi e);
          below = λ p q in_n low high. below p q in_n (below_test (range_at m p q).hi low high);
          step = λ k low high. every_in_range (λ k. P (Step k)) 2 4 k (every_from_map P (λ k. Step k) (range_with_len 2 4) steps) low (omega arith);
        }

    from : Separates m w t n → AllByRecursion (TagHolds m w t n) (threshold_rows m)
    from h =
        let P : ThresholdTag → Type 0 = TagHolds m w t n in
        let ps : List (ℕ × ℕ) = pairs m.size in
        let at = (every_tag m.size P (λ pair. At pair.0 pair.1) (starts m)).1 (λ p q in_n e. h.at p q in_n (starts_from (range_at m p q).lo e)) in
        let equal = (every_tag m.size P (λ pair. Zero pair.0 pair.1) (equals m)).1 (λ p q in_n e. h.equal p q in_n (equal_from (range_at m p q).hi e)) in
        let below = (every_tag m.size P (λ pair. Below pair.0 pair.1) (ends m)).1
        (λ p q in_n e. (let r = ends_from (range_at m p q).hi e in h.below p q in_n r.0 r.1)) in
        let steps : AllByRecursion P step_rows = every-map P (λ k. Step k) (range_with_len 2 4)
        (every-range (λ k. P (Step k)) 2 4 (λ k low high. h.step k low (omega arith))) in
        every-append P (at_rows_of m ps ++ equal_rows_of m ps ++ below_rows_of m ps) step_rows
        (every-append P (at_rows_of m ps ++ equal_rows_of m ps) (below_rows_of m ps) (every-append P (at_rows_of m ps) (equal_rows_of m ps) at equal) below)
        steps

-- the rows at gaps and thresholds
pub met_iff_separates : (m : Judgements) (x t : List ℤ) (n : ℤ) → suc (length x) ≡ m.size → length t ≡ 5
    → All (IsRowMetBy (x ++ t) n) (map (threshold_row_of m) (threshold_rows m)) ↔ Separates m (scale_of x) t n
met_iff_separates m x t n each five =
    let P : ThresholdTag → Type 0 = λ tag. IsRowMetBy (x ++ t) n (threshold_row_of m tag) in
    let of : AllByRecursion (IsThresholdTagOf m) (threshold_rows m) = every_from_All (IsThresholdTagOf m) (threshold_rows m) (All-threshold_rows m) in
    let there = every_both (IsThresholdTagOf m) P (TagHolds m (scale_of x) t n) (λ tag among met. (met_tag m x t n tag each five among).0 met)
    (threshold_rows m) of in
    let back = every_both (IsThresholdTagOf m) (TagHolds m (scale_of x) t n) P (λ tag among met. (met_tag m x t n tag each five among).1 met) (threshold_rows m)
    of in (
      λ h. (separates_iff m (scale_of x) t n).0 (there (every_from_map (IsRowMetBy (x ++ t) n) (threshold_row_of m) (threshold_rows m)
          (every_from_All (IsRowMetBy (x ++ t) n) (map (threshold_row_of m) (threshold_rows m)) h))),
      λ h. All-from_every (IsRowMetBy (x ++ t) n) (map (threshold_row_of m) (threshold_rows m))
          (every-map (IsRowMetBy (x ++ t) n) (threshold_row_of m) (threshold_rows m) (back ((separates_iff m (scale_of x) t n).1 h))),
    )
