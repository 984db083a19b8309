-- Lists of fractions as whole numbers over one denominator: there is a writing, and what holds doesn't depend on which.
use lib.IntN.{*ℤ_comm, zero-*ℤ}
use Rattle.std.proofs.lemmas.List.Elements.{All-head, All-tail}
use Rattle.std.proofs.Common.{◌≡◌, ◌↔◌, ℕ, zero, suc, ◌<◌, length, get_or, List, [], ◌∷◌, ◌++◌, ℤ, pos, ◌+ℤ◌, ◌*ℤ◌, ◌<ℤ◌, refl, sym, subst₂, ◌∙◌, arith}
use Rattle.integers.specs.Fraction.{Fraction, IsFraction, SameFraction, AreFractions, over, SameFractions, IsWriting, common_den, common_nums, fraction_sum, sum_of_fractions, running_fraction_sums}
use Rattle.integers.specs.Vector.{scale, int_sum, running_sums}
use Rattle.integers.proofs.Laws.{lin}
use Rattle.integers.proofs.Order.{mul_pos}
use Rattle.integers.proofs.Ring.{◌⊕◌, ◌⊗◌, ◌≗◌, ◌✶◌, ◌⇐◌, ring3, combine7}
use Rattle.integers.proofs.Fractions.{SameFractions-sym, SameFractions-trans, SameFractions-length, length-over, AreFractions-over, SameFractions-over, SameFractions-over_scale}

-- ---- each list of fractions has a writing

-- the product of positive denominators is positive
pub common_den_pos : (fs : List Fraction) → AreFractions fs → pos 0 <ℤ common_den fs
common_den_pos [] h = omega (arith, lin)
common_den_pos (f ∷ fs) h = mul_pos f.den (common_den fs) (All-head IsFraction f fs h) (common_den_pos fs (All-tail IsFraction f fs h))

-- over it stand the numbers of the fractions
common-same : (fs : List Fraction) → AreFractions fs → SameFractions (over (common_nums fs) (common_den fs)) fs
common-same [] h = tt
common-same (f ∷ fs) h =
    let rest = All-tail IsFraction f fs h in
    let first = All-head IsFraction f fs h in
    let p = common_den_pos fs rest in
    let wide =
    SameFractions-sym (over (common_nums fs) (common_den fs)) (over (scale f.den (common_nums fs)) (f.den *ℤ common_den fs))
    (SameFractions-over_scale f.den (common_nums fs) (common_den fs)) in (
      ring3 (λ a b d. a ⊗ d ⊗ b ≗ a ⊗ (b ⊗ d)) refl f.num f.den (common_den fs),
      SameFractions-trans (over (scale f.den (common_nums fs)) (f.den *ℤ common_den fs)) (over (common_nums fs) (common_den fs)) fs
          (AreFractions-over (scale f.den (common_nums fs)) (f.den *ℤ common_den fs) (mul_pos f.den (common_den fs) first p))
          (AreFractions-over (common_nums fs) (common_den fs) p) rest wide (common-same fs rest),
    )

-- the numerators over the product of the denominators
pub common_writing : (fs : List Fraction) → AreFractions fs → IsWriting fs (common_nums fs) (common_den fs)
common_writing fs h = record { den_pos = common_den_pos fs h; same = common-same fs h }

-- ---- two writings of one list

-- they name the same numbers
pub IsWriting-same : (fs : List Fraction) (w : List ℤ) (n : ℤ) (v : List ℤ) (m : ℤ) → AreFractions fs → IsWriting fs w n → IsWriting fs v m
    → SameFractions (over w n) (over v m)
IsWriting-same fs w n v m p h k =
    SameFractions-trans (over w n) fs (over v m) (AreFractions-over w n h.den_pos) p (AreFractions-over v m k.den_pos) h.same
    (SameFractions-sym (over v m) fs k.same)

-- the cross multiples are one list
pub IsWriting-cross : (fs : List Fraction) (w : List ℤ) (n : ℤ) (v : List ℤ) (m : ℤ) → AreFractions fs → IsWriting fs w n → IsWriting fs v m
    → scale m w ≡ scale n v
IsWriting-cross fs w n v m p h k = (SameFractions-over w v n m).0 (IsWriting-same fs w n v m p h k)

-- what positive multiples keep holds of each writing where it holds of one
pub any_writing : (P : List ℤ → ℤ → Type 0) → ((c : ℤ) (w : List ℤ) (n : ℤ) → pos 0 <ℤ c → pos 0 <ℤ n → P w n ↔ P (scale c w) (c *ℤ n))
    → (fs : List Fraction) (w : List ℤ) (n : ℤ) (v : List ℤ) (m : ℤ) → AreFractions fs → IsWriting fs w n → IsWriting fs v m → P w n ↔ P v m
any_writing P keeps fs w n v m p h k = (step w n v m h.den_pos k.den_pos cross, step v m w n k.den_pos h.den_pos (sym cross))
  where
    cross : scale m w ≡ scale n v
    cross = IsWriting-cross fs w n v m p h k

    step : (w : List ℤ) (n : ℤ) (v : List ℤ) (m : ℤ) → pos 0 <ℤ n → pos 0 <ℤ m → scale m w ≡ scale n v → P w n → P v m
    step w n v m pn pm e holds = (keeps n v m pn pm).1 (subst₂ P e (*ℤ_comm m n) ((keeps m w n pm pn).0 holds))

-- ---- writings of other lists

-- as many numbers as fractions
pub IsWriting-length : (fs : List Fraction) (w : List ℤ) (n : ℤ) → IsWriting fs w n → length w ≡ length fs
IsWriting-length fs w n h = sym (length-over w n) ∙ SameFractions-length (over w n) fs h.same

-- two lists, one after the other, over one denominator
pub IsWriting-append : (fs gs : List Fraction) (w v : List ℤ) (n : ℤ) → IsWriting fs w n → IsWriting gs v n → IsWriting (fs ++ gs) (w ++ v) n
IsWriting-append fs gs w v n h k = record { den_pos = h.den_pos; same = both fs w h.same }
  where
    both : (fs : List Fraction) (w : List ℤ) → SameFractions (over w n) fs → SameFractions (over (w ++ v) n) (fs ++ gs)
    both [] [] s = k.same
    both [] (x ∷ w) s = absurd s
    both (f ∷ fs) [] s = absurd s
    both (f ∷ fs) (x ∷ w) s = (s.0, both fs w s.1)

-- the number at a place
pub IsWriting-at : (fs : List Fraction) (w : List ℤ) (n : ℤ) (i : ℕ) (x : ℤ) (d : Fraction) → i < length fs → IsWriting fs w n
    → SameFraction (record { num = get_or w i x; den = n }) (get_or fs i d)
IsWriting-at fs w n i x d l h = at fs w i l h.same
  where
    at : (fs : List Fraction) (w : List ℤ) (i : ℕ) → i < length fs → SameFractions (over w n) fs
        → SameFraction (record { num = get_or w i x; den = n }) (get_or fs i d)
    at [] w i l s = absurd (omega arith)
    at (f ∷ fs) [] i l s = absurd s
    at (f ∷ fs) (y ∷ w) zero l s = s.0
    at (f ∷ fs) (y ∷ w) (suc i) l s = at fs w i (omega arith) s.1

-- ---- sums

-- two numbers over one denominator
sum_over : (x y n : ℤ) (f g : Fraction) → SameFraction (record { num = x; den = n }) f → SameFraction (record { num = y; den = n }) g
    → SameFraction (record { num = x +ℤ y; den = n }) (fraction_sum f g)
sum_over x y n f g = λ s t. by_parts x y n f.num f.den g.num g.den s t
  where
    by_parts : (x y n a b c d : ℤ) → x *ℤ b ≡ a *ℤ n → y *ℤ d ≡ c *ℤ n → (x +ℤ y) *ℤ (b *ℤ d) ≡ (a *ℤ d +ℤ c *ℤ b) *ℤ n
    by_parts = combine7 (λ x y n a b c d. (x ⊕ y) ⊗ (b ⊗ d) ≗ (a ⊗ d ⊕ c ⊗ b) ⊗ n ⇐ d ✶ (x ⊗ b ≗ a ⊗ n) ∷ b ✶ (y ⊗ d ≗ c ⊗ n) ∷ []) refl

-- the sum of the list
pub IsWriting-sum : (fs : List Fraction) (w : List ℤ) (n : ℤ) → IsWriting fs w n → SameFraction (record { num = int_sum w; den = n }) (sum_of_fractions fs)
IsWriting-sum fs w n h = sum fs w h.same
  where
    sum : (fs : List Fraction) (w : List ℤ) → SameFractions (over w n) fs → SameFraction (record { num = int_sum w; den = n }) (sum_of_fractions fs)
    sum [] [] s = sym (zero-*ℤ n)
    sum [] (x ∷ w) s = absurd s
    sum (f ∷ fs) [] s = absurd s
    sum (f ∷ fs) (x ∷ w) s = sum_over x (int_sum w) n f (sum_of_fractions fs) s.0 (sum fs w s.1)

-- the running sums
pub IsWriting-running : (a : Fraction) (z : ℤ) (fs : List Fraction) (w : List ℤ) (n : ℤ) → SameFraction (record { num = z; den = n }) a → IsWriting fs w n
    → IsWriting (running_fraction_sums a fs) (running_sums z w) n
IsWriting-running a z fs w n s h = record { den_pos = h.den_pos; same = run a z fs w s h.same }
  where
    run : (a : Fraction) (z : ℤ) (fs : List Fraction) (w : List ℤ) → SameFraction (record { num = z; den = n }) a → SameFractions (over w n) fs
        → SameFractions (over (running_sums z w) n) (running_fraction_sums a fs)
    run a z [] [] s t = tt
    run a z [] (x ∷ w) s t = absurd t
    run a z (f ∷ fs) [] s t = absurd t
    run a z (f ∷ fs) (x ∷ w) s t = let more = sum_over z x n a f s t.0 in (more, run (fraction_sum a f) (z +ℤ x) fs w more t.1)
