-- The left side of a constraint in the value of one element: what it is with 0 there, what it is with t there, and where it is just met.
use Rattle.std.specs.Result.{IfOk}
use Rattle.std.specs.Int.Signed.{lt_z_yes}
use Rattle.std.proofs.Common.{◌≡◌, ◌≢◌, ◌↔◌, ℕ, zero, suc, ◌+◌, ◌-◌, ◌≤◌, ℤ, pos, ◌+ℤ◌, ◌-ℤ◌, ◌*ℤ◌, ◌≤ℤ◌, ◌<ℤ◌, Bool, true, false, List, [], ◌∷◌, length, get_or, set, nat_eq, refl, sym, subst, ◌∙◌, arith}
use Rattle.std.proofs.lemmas.Bool.Decides.{nat_tests}
use Rattle.std.proofs.lemmas.List.{get_or-set_same, get_or-set_other}
use Rattle.std.proofs.lemmas.List.Elements.{All-head, All-tail, All-set}
use Rattle.std.proofs.lemmas.Result.{IfOk-weaker}
use Rattle.integers.specs.Fraction.{Fraction, IsFraction, AreFractions, SameFraction, FractionAtMost, SameFractions, over, fraction_of, fraction_difference, fraction_quotient}
use Rattle.integers.specs.Vector.{scale}
use Rattle.integers.proofs.Laws.{lin}
use Rattle.integers.proofs.Order.{mul_pos, le_of_lt, cancel_eq, cancel_le}
use Rattle.integers.proofs.Ring.{con, neg, ◌⊕◌, ◌⊖◌, ◌⊗◌, ◌≗◌, ◌≼◌, ◌✶◌, ◌⇐◌, ring1, ring2, ring3, ring6, combine7, combine8}
use Rattle.integers.proofs.FractionSums.{IsFraction-whole}
use Rattle.integers.proofs.VectorLaws.{length-scale, get_or-scale}
use Rattle.frac128.specs.Chain.{◌>>=◌}
use Rattle.frac128.specs.Checked.{checked_difference, checked_quotient}
use Rattle.frac128.proofs.FormulaLemmas.{IfOk-bind, IsValued, checked_difference-value, checked_quotient-value}
use Rattle.judgement_matrix.specs.Matrix.{Judgements}
use Rattle.judgement_matrix.specs.Scale.{value_at, difference}
use Rattle.judgement_matrix.specs.Rows.{RowHolds, IsTagAmong}
use Rattle.judgement_matrix.specs.Values.{fraction_at, checked_gap}
use Rattle.judgement_matrix.specs.declared.tag.Tag.{Tag}
use Rattle.judgement_matrix.specs.declared.tag.Tag.TheVariants.{Lower, Zero, Cross, Order}
use Rattle.value_scale.specs.Slack.{replaced, presence, gap_coefficient, coefficient, bound, vacated, checked_side, checked_end}
use Rattle.value_scale.proofs.AnchorLemmas.{Is, difference_over}

-- ---- values at a place

-- the number there, over n
at_any : (w : List ℤ) (fs : List Fraction) (n : ℤ) (i : ℕ) → SameFractions (over w n) fs
    → SameFraction (record { num = get_or w i (pos 0); den = n }) (get_or fs i (fraction_of (pos 0)))
at_any [] [] n i h = ring1 (λ n. con (pos 0) ⊗ con (pos 1) ≗ con (pos 0) ⊗ n) refl n
at_any [] (f ∷ fs) n i h = absurd h
at_any (x ∷ w) [] n i h = absurd h
at_any (x ∷ w) (f ∷ fs) n zero h = h.0
at_any (x ∷ w) (f ∷ fs) n (suc i) h = at_any w fs n i h.1

pos_at : (fs : List Fraction) (i : ℕ) → AreFractions fs → IsFraction (get_or fs i (fraction_of (pos 0)))
pos_at [] i h = lt_z_yes tt
pos_at (f ∷ fs) zero h = All-head IsFraction f fs h
pos_at (f ∷ fs) (suc i) h = pos_at fs i (All-tail IsFraction f fs h)

-- with 0 at a place
pub vacated_same : (w : List ℤ) (fs : List Fraction) (n : ℤ) (i : ℕ) → SameFractions (over w n) fs
    → SameFractions (over (set w i (pos 0)) n) (set fs i (fraction_of (pos 0)))
vacated_same [] [] n i h = tt
vacated_same [] (f ∷ fs) n i h = absurd h
vacated_same (x ∷ w) [] n i h = absurd h
vacated_same (x ∷ w) (f ∷ fs) n zero h = (ring1 (λ n. con (pos 0) ⊗ con (pos 1) ≗ con (pos 0) ⊗ n) refl n, h.1)
vacated_same (x ∷ w) (f ∷ fs) n (suc i) h = (h.0, vacated_same w fs n i h.1)

pub vacated_pos : (fs : List Fraction) (x : ℕ) → AreFractions fs → AreFractions (vacated fs x)
vacated_pos fs x h = All-set IsFraction fs (x - 1) (fraction_of (pos 0)) (IsFraction-whole (pos 0)) h

-- ---- the value of element x, and of another one

present : (x p : ℕ) → p ≡ x → presence x p ≡ pos 1
present x p e = let test : nat_eq p x ≡ true = grind (arith, nat_tests) in rw test refl

elsewhere : (x p : ℕ) → p ≢ x → presence x p ≡ pos 0
elsewhere x p e = let test : nat_eq p x ≡ false = grind (arith, nat_tests) in rw test refl

-- another number in place of that of x, and each other number d times
put_at : (w : List ℤ) (d z : ℤ) (x p : ℕ) → 1 ≤ x → x ≤ length w → 1 ≤ p → value_at (set (scale d w) (x - 1) z) p
    ≡ d *ℤ value_at (set w (x - 1) (pos 0)) p +ℤ presence x p *ℤ z
put_at w d z x p low within from =
    let G : Bool → Type 0 = λ b. nat_eq p x ≡ b → value_at (set (scale d w) (x - 1) z) p ≡ d *ℤ value_at (set w (x - 1) (pos 0)) p +ℤ presence x p *ℤ z in
    let by_test : G (nat_eq p x) = elim (nat_eq p x) as G [ true ↦ λ b. here b | false ↦ λ b. there b ] in
    by_test refl
  where
    here : nat_eq p x ≡ true → value_at (set (scale d w) (x - 1) z) p ≡ d *ℤ value_at (set w (x - 1) (pos 0)) p +ℤ presence x p *ℤ z
    here b =
        let e : p ≡ x = grind (arith, nat_tests) in
        let new : get_or (set (scale d w) (x - 1) z) (x - 1) (pos 0) ≡ z = get_or-set_same (scale d w) (x - 1) z (pos 0) (omega (arith, length-scale d w)) in
        let none : get_or (set w (x - 1) (pos 0)) (x - 1) (pos 0) ≡ pos 0 = get_or-set_same w (x - 1) (pos 0) (pos 0) (omega arith) in
        rw (present x p e, e, new, none) (ring2 (λ d z. z ≗ d ⊗ con (pos 0) ⊕ con (pos 1) ⊗ z) refl d z)

    there : nat_eq p x ≡ false → value_at (set (scale d w) (x - 1) z) p ≡ d *ℤ value_at (set w (x - 1) (pos 0)) p +ℤ presence x p *ℤ z
    there b =
        let e : p ≢ x = grind (arith, nat_tests) in
        let apart : p - 1 ≢ x - 1 = λ h. e (omega arith) in
        let new : get_or (set (scale d w) (x - 1) z) (p - 1) (pos 0) ≡ d *ℤ get_or w (p - 1) (pos 0) = get_or-set_other (scale d w) (x - 1) (p - 1) z
        (pos 0) apart ∙ get_or-scale d w (p - 1) in
        let old : get_or (set w (x - 1) (pos 0)) (p - 1) (pos 0) ≡ get_or w (p - 1) (pos 0) = get_or-set_other w (x - 1) (p - 1) (pos 0) (pos 0) apart in
        rw (elsewhere x p e, new, old) (ring3 (λ d y z. d ⊗ y ≗ d ⊗ y ⊕ con (pos 0) ⊗ z) refl d (get_or w (p - 1) (pos 0)) z)

-- its own number in its place
own_at : (w : List ℤ) (x p : ℕ) → 1 ≤ x → x ≤ length w → 1 ≤ p → value_at w p ≡ pos 1 *ℤ value_at (set w (x - 1) (pos 0)) p +ℤ presence x p *ℤ value_at w x
own_at w x p low within from =
    let G : Bool → Type 0 = λ b. nat_eq p x ≡ b → value_at w p ≡ pos 1 *ℤ value_at (set w (x - 1) (pos 0)) p +ℤ presence x p *ℤ value_at w x in
    let by_test : G (nat_eq p x) = elim (nat_eq p x) as G [ true ↦ λ b. here b | false ↦ λ b. there b ] in
    by_test refl
  where
    here : nat_eq p x ≡ true → value_at w p ≡ pos 1 *ℤ value_at (set w (x - 1) (pos 0)) p +ℤ presence x p *ℤ value_at w x
    here b =
        let e : p ≡ x = grind (arith, nat_tests) in
        let none : get_or (set w (x - 1) (pos 0)) (x - 1) (pos 0) ≡ pos 0 = get_or-set_same w (x - 1) (pos 0) (pos 0) (omega arith) in
        rw (present x p e, e, none) (ring1 (λ z. z ≗ con (pos 1) ⊗ con (pos 0) ⊕ con (pos 1) ⊗ z) refl (value_at w x))

    there : nat_eq p x ≡ false → value_at w p ≡ pos 1 *ℤ value_at (set w (x - 1) (pos 0)) p +ℤ presence x p *ℤ value_at w x
    there b =
        let e : p ≢ x = grind (arith, nat_tests) in
        let apart : p - 1 ≢ x - 1 = λ h. e (omega arith) in
        let old : get_or (set w (x - 1) (pos 0)) (p - 1) (pos 0) ≡ get_or w (p - 1) (pos 0) = get_or-set_other w (x - 1) (p - 1) (pos 0) (pos 0) apart in
        rw (elsewhere x p e, old) (ring2 (λ y z. y ≗ con (pos 1) ⊗ y ⊕ con (pos 0) ⊗ z) refl (get_or w (p - 1) (pos 0)) (value_at w x))

-- ---- the left side of a row

abbrev pub side : List ℤ → Tag → ℤ
side v (Lower p q) = difference v p q
side v (Zero p q) = difference v q p
side v (Cross p q y z) = difference v p q -ℤ difference v y z
side v (Order p) = difference v p (p + 1)

-- a row holds where its left side reaches its bound
pub row_by_side : (m : Judgements) (v : List ℤ) (n : ℤ) (tag : Tag) → RowHolds m v n tag ↔ (n *ℤ bound m tag) ≤ℤ side v tag
row_by_side m v n (Lower p q) = (λ h. h, λ h. h)
row_by_side m v n (Zero p q) =
    let none : n *ℤ pos 0 ≡ pos 0 = ring1 (λ n. n ⊗ con (pos 0) ≗ con (pos 0)) refl n in
    (λ h. rw none (omega (arith, lin, h)), λ h. let k = rw none at h in omega (arith, lin, k))
row_by_side m v n (Cross p q y z) = (λ h. h, λ h. h)
row_by_side m v n (Order p) =
    let none : n *ℤ pos 0 ≡ pos 0 = ring1 (λ n. n ⊗ con (pos 0) ≗ con (pos 0)) refl n in
    (λ h. rw none h, λ h. rw none at h)

-- v is d times rest, and z at the place of x
module _ (v rest : List ℤ) (d z : ℤ) (x : ℕ) (at : (p : ℕ) → 1 ≤ p → value_at v p ≡ d *ℤ value_at rest p +ℤ presence x p *ℤ z) where
  gap_with : (p q : ℕ) → 1 ≤ p → 1 ≤ q → difference v p q ≡ d *ℤ difference rest p q +ℤ gap_coefficient x p q *ℤ z
  gap_with p q from_p from_q =
      rw (at p from_p, at q from_q)
      (ring6 (λ d a b k l z. (d ⊗ a ⊕ k ⊗ z) ⊖ (d ⊗ b ⊕ l ⊗ z) ≗ d ⊗ (a ⊖ b) ⊕ (k ⊖ l) ⊗ z) refl d (value_at rest p) (value_at rest q) (presence x p)
      (presence x q) z)

  pub side_with : (size : ℕ) (tag : Tag) → IsTagAmong size tag → side v tag ≡ d *ℤ side rest tag +ℤ coefficient x tag *ℤ z
  side_with size (Lower p q) h = gap_with p q (omega arith) (omega arith)
  side_with size (Zero p q) h = gap_with q p (omega arith) (omega arith)
  side_with size (Cross p q y u) h =
      rw (gap_with p q (omega arith) (omega arith), gap_with y u (omega arith) (omega arith))
      (ring6 (λ d a b k l z. (d ⊗ a ⊕ k ⊗ z) ⊖ (d ⊗ b ⊕ l ⊗ z) ≗ d ⊗ (a ⊖ b) ⊕ (k ⊖ l) ⊗ z) refl d (difference rest p q) (difference rest y u)
      (gap_coefficient x p q) (gap_coefficient x y u) z)
  side_with size (Order p) h = gap_with p (p + 1) (omega arith) (omega arith)

-- t in place of the value of x
pub side_replaced : (w : List ℤ) (n : ℤ) (x : ℕ) (t : Fraction) (size : ℕ) (tag : Tag) → 1 ≤ x → x ≤ length w → IsTagAmong size tag
    → side (replaced w n x t) tag ≡ t.den *ℤ side (set w (x - 1) (pos 0)) tag +ℤ coefficient x tag *ℤ (t.num *ℤ n)
side_replaced w n x t size tag low within h = side_with (replaced w n x t) (set w (x - 1) (pos 0)) t.den (t.num *ℤ n) x
    (λ p from. put_at w t.den (t.num *ℤ n) x p low within from) size tag h

-- its own value there
pub side_own : (w : List ℤ) (x : ℕ) (size : ℕ) (tag : Tag) → 1 ≤ x → x ≤ length w → IsTagAmong size tag → side w tag
    ≡ pos 1 *ℤ side (set w (x - 1) (pos 0)) tag +ℤ coefficient x tag *ℤ value_at w x
side_own w x size tag low within h = side_with w (set w (x - 1) (pos 0)) (pos 1) (value_at w x) x (λ p from. own_at w x p low within from) size tag h

-- ---- the formula

-- a difference of numbers over n
difference_is : (f g : Fraction) (a b n : ℤ) → Is a n f → Is b n g → IfOk (checked_difference f g) (Is (a -ℤ b) n)
difference_is f g a b n hf hg =
    IfOk-weaker (checked_difference f g) (IsValued (fraction_difference f g)) (Is (a -ℤ b) n)
    (λ r hr. (hr.0, difference_over a b n f g r hf.0 hg.0 (sym hf.1) (sym hg.1) hr.1)) (checked_difference-value f g hf.0 hg.0)

-- a whole number
whole_is : (b n : ℤ) → Is (n *ℤ b) n (fraction_of b)
whole_is b n = (IsFraction-whole b, ring2 (λ b n. b ⊗ n ≗ n ⊗ b ⊗ con (pos 1)) refl b n)

module _ (fs : List Fraction) (w : List ℤ) (n : ℤ) (are : AreFractions fs) (same : SameFractions (over w n) fs) where
  value_is : (p : ℕ) → Is (value_at w p) n (fraction_at fs p)
  value_is p = (pos_at fs (p - 1) are, sym (at_any w fs n (p - 1) same))

  gap_is : (p q : ℕ) → IfOk (checked_gap fs p q) (Is (difference w p q) n)
  gap_is p q = difference_is (fraction_at fs p) (fraction_at fs q) (value_at w p) (value_at w q) n (value_is p) (value_is q)

  pub side_is : (tag : Tag) → IfOk (checked_side fs tag) (Is (side w tag) n)
  side_is (Lower p q) = gap_is p q
  side_is (Zero p q) =
      IfOk-bind (checked_gap fs p q) (λ gap. checked_difference (fraction_of (pos 0)) gap) (Is (difference w p q) n) (Is (difference w q p) n) (gap_is p q)
      (λ gap h.
      subst (λ z. IfOk (checked_difference (fraction_of (pos 0)) gap) (Is z n))
      (ring3 (λ a b n. n ⊗ con (pos 0) ⊖ (a ⊖ b) ≗ b ⊖ a) refl (value_at w p) (value_at w q) n)
      (difference_is (fraction_of (pos 0)) gap (n *ℤ pos 0) (difference w p q) n (whole_is (pos 0) n) h))
  side_is (Cross p q y z) =
      IfOk-bind (checked_gap fs p q) (λ l. (checked_gap fs y z) >>= (λ r. checked_difference l r)) (Is (difference w p q) n) (Is (side w (Cross p q y z)) n)
      (gap_is p q) (λ l hl.
      IfOk-bind (checked_gap fs y z) (λ r. checked_difference l r) (Is (difference w y z) n) (Is (side w (Cross p q y z)) n) (gap_is y z) (λ r hr.
      difference_is l r (difference w p q) (difference w y z) n hl hr))
  side_is (Order p) = gap_is p (p + 1)

-- k times an end is what is left of the bound
pub record IsEnd (k left n : ℤ) (end : Fraction) : Type 0 where
  pub den_pos : IsFraction end
  pub meets : k *ℤ end.num *ℤ n ≡ left *ℤ end.den

-- a quotient of what is left by k
quotient_is : (room : Fraction) (k left n : ℤ) → k ≢ pos 0 → Is left n room → IfOk (checked_quotient room (fraction_of k)) (IsEnd k left n)
quotient_is room k left n apart h =
    IfOk-weaker (checked_quotient room (fraction_of k)) (IsValued (fraction_quotient room (fraction_of k))) (IsEnd k left n)
    (λ e he. record {
      den_pos = he.0;
      meets = cancel_eq (k *ℤ e.num *ℤ n) (left *ℤ e.den) room.den h.0
          (combine7 (λ k l n a b p q. k ⊗ p ⊗ n ⊗ b ≗ l ⊗ q ⊗ b ⇐ n ✶ (p ⊗ (b ⊗ k) ≗ a ⊗ con (pos 1) ⊗ q) ∷ q ✶ (a ⊗ n ≗ l ⊗ b) ∷ []) refl k left n room.num
          room.den e.num e.den he.1 h.1);
    })
    (checked_quotient-value room (fraction_of k) h.0 apart)

pub end_is : (m : Judgements) (fs : List Fraction) (w : List ℤ) (n : ℤ) (x : ℕ) (tag : Tag) → AreFractions fs → SameFractions (over w n) fs
    → coefficient x tag ≢ pos 0
    → IfOk (checked_end m fs x tag) (IsEnd (coefficient x tag) (n *ℤ bound m tag -ℤ side (set w (x - 1) (pos 0)) tag) n)
end_is m fs w n x tag are same apart =
    let l = side (set w (x - 1) (pos 0)) tag in
    let k = coefficient x tag in
    let b = bound m tag in
    IfOk-bind (checked_side (vacated fs x) tag) (λ rest. (checked_difference (fraction_of b) rest) >>= (λ room. checked_quotient room (fraction_of k)))
    (Is l n) (IsEnd k (n *ℤ b -ℤ l) n)
    (side_is (vacated fs x) (set w (x - 1) (pos 0)) n (vacated_pos fs x are) (vacated_same w fs n (x - 1) same) tag) (λ rest hr.
    IfOk-bind (checked_difference (fraction_of b) rest) (λ room. checked_quotient room (fraction_of k)) (Is (n *ℤ b -ℤ l) n) (IsEnd k (n *ℤ b -ℤ l) n)
    (difference_is (fraction_of b) rest (n *ℤ b) l n (whole_is b n) hr) (λ room hm. quotient_is room k (n *ℤ b -ℤ l) n apart hm))

-- ---- where the row holds

-- from the end on, for a positive coefficient
pub holds_from : (k b l n : ℤ) (e t : Fraction) → pos 0 <ℤ n → pos 0 <ℤ k → IsEnd k (n *ℤ b -ℤ l) n e → (n *ℤ t.den *ℤ b) ≤ℤ (t.den *ℤ l +ℤ k *ℤ (t.num *ℤ n))
    ↔ FractionAtMost e t
holds_from k b l n e t pn pk h = (
  λ s. cancel_le (e.num *ℤ t.den) (t.num *ℤ e.den) (k *ℤ n) (mul_pos k n pk pn)
      (combine8 (λ k b l n a c p d. a ⊗ d ⊗ (k ⊗ n) ≼ p ⊗ c ⊗ (k ⊗ n) ⇐ c ✶ (n ⊗ d ⊗ b ≼ d ⊗ l ⊕ k ⊗ (p ⊗ n)) ∷ d ✶ (k ⊗ a ⊗ n ≗ (n ⊗ b ⊖ l) ⊗ c) ∷ []) refl
      k b l n e.num e.den t.num t.den (le_of_lt (pos 0) e.den h.den_pos) s h.meets),
  λ s. cancel_le (n *ℤ t.den *ℤ b) (t.den *ℤ l +ℤ k *ℤ (t.num *ℤ n)) e.den h.den_pos
      (combine8 (λ k b l n a c p d. n ⊗ d ⊗ b ⊗ c ≼ (d ⊗ l ⊕ k ⊗ (p ⊗ n)) ⊗ c ⇐ (k ⊗ n) ✶ (a ⊗ d ≼ p ⊗ c) ∷ neg d ✶ (k ⊗ a ⊗ n ≗ (n ⊗ b ⊖ l) ⊗ c) ∷ []) refl
      k b l n e.num e.den t.num t.den (le_of_lt (pos 0) (k *ℤ n) (mul_pos k n pk pn)) s h.meets),
)

-- up to the end, for a negative one
pub holds_up_to : (k b l n : ℤ) (e t : Fraction) → pos 0 <ℤ n → k <ℤ pos 0 → IsEnd k (n *ℤ b -ℤ l) n e
    → (n *ℤ t.den *ℤ b) ≤ℤ (t.den *ℤ l +ℤ k *ℤ (t.num *ℤ n)) ↔ FractionAtMost t e
holds_up_to k b l n e t pn pk h =
    let minus : pos 0 <ℤ (pos 0 -ℤ k) = omega (arith, lin) in (
      λ s. cancel_le (t.num *ℤ e.den) (e.num *ℤ t.den) ((pos 0 -ℤ k) *ℤ n) (mul_pos (pos 0 -ℤ k) n minus pn)
          (combine8 (λ k b l n a c p d. p ⊗ c ⊗ ((con (pos 0) ⊖ k) ⊗ n) ≼ a ⊗ d ⊗ ((con (pos 0) ⊖ k) ⊗ n) ⇐ c ✶ (n ⊗ d ⊗ b ≼ d ⊗ l ⊕ k ⊗ (p ⊗ n))
          ∷ d ✶ (k ⊗ a ⊗ n ≗ (n ⊗ b ⊖ l) ⊗ c) ∷ []) refl
          k b l n e.num e.den t.num t.den (le_of_lt (pos 0) e.den h.den_pos) s h.meets),
      λ s. cancel_le (n *ℤ t.den *ℤ b) (t.den *ℤ l +ℤ k *ℤ (t.num *ℤ n)) e.den h.den_pos
          (combine8 (λ k b l n a c p d. n ⊗ d ⊗ b ⊗ c ≼ (d ⊗ l ⊕ k ⊗ (p ⊗ n)) ⊗ c ⇐ ((con (pos 0) ⊖ k) ⊗ n) ✶ (p ⊗ c ≼ a ⊗ d)
          ∷ neg d ✶ (k ⊗ a ⊗ n ≗ (n ⊗ b ⊖ l) ⊗ c) ∷ []) refl
          k b l n e.num e.den t.num t.den (le_of_lt (pos 0) ((pos 0 -ℤ k) *ℤ n) (mul_pos (pos 0 -ℤ k) n minus pn)) s h.meets),
    )

-- everywhere, where the value of x is not in it and it holds
pub holds_everywhere : (k b l n z : ℤ) (t : Fraction) → IsFraction t → k ≡ pos 0 → (n *ℤ b) ≤ℤ (pos 1 *ℤ l +ℤ k *ℤ z)
    → (n *ℤ t.den *ℤ b) ≤ℤ (t.den *ℤ l +ℤ k *ℤ (t.num *ℤ n))
holds_everywhere k b l n z t p none s =
    combine7 (λ k b l n z p d. n ⊗ d ⊗ b ≼ d ⊗ l ⊕ k ⊗ (p ⊗ n) ⇐ d ✶ (n ⊗ b ≼ con (pos 1) ⊗ l ⊕ k ⊗ z) ∷ (d ⊗ z ⊖ p ⊗ n) ✶ (k ≗ con (pos 0)) ∷ []) refl k b l
    n z t.num t.den (le_of_lt (pos 0) t.den p) s none
