-- Sums, differences and products of fractions a/b and c/d by their divided parts.
use Prim.Native.Nat.{◌∣◌}
use Rattle.std.proofs.lemmas.Int.{unsigned_abs-mul}
use Rattle.std.proofs.lemmas.Nat.Gcd.{dvd_trans}
use Rattle.std.proofs.Common.{◌≡◌, ℕ, ◌*◌, ℤ, pos, negsuc, neg_ℤ, ◌+ℤ◌, ◌-ℤ◌, ◌*ℤ◌, ◌<ℤ◌, int_div, unsigned_abs, [], ◌∷◌, refl, sym, subst, subst₂}
use Rattle.integers.specs.Divisibility.{AreCoprime, IsLowest, IsGcdOf, gcd_of}
use Rattle.integers.specs.Fraction.{Fraction, SameFraction, fraction_product}
use Rattle.integers.proofs.Divisibility.{IsGcdOf-gcd_of, unsigned_abs-neg, quotient_whole, quotient_positive, quotient_divides}
use Rattle.integers.proofs.Gcd.{AreCoprime_comm, dvd_of_coprime}
use Rattle.integers.proofs.Order.{le_of_lt, mul_pos}
use Rattle.integers.proofs.Ring.{con, neg, ◌⊕◌, ◌⊖◌, ◌⊗◌, ◌≗◌, ◌✶◌, ◌⇐◌, combine6, combine9, combine10}
use Rattle.frac128.specs.Frac.{IsReduced, opposite, reciprocal}
use Rattle.frac128.proofs.Numbers.{lowest_parts}

-- ---- the values

-- a sum n/m of a/b and c/d, where l and r are b and d divided by g
pub sum_value : (a b c d g l r n m : ℤ) → b ≡ l *ℤ g → d ≡ r *ℤ g → n *ℤ (b *ℤ r) ≡ (a *ℤ r +ℤ c *ℤ l) *ℤ m → n *ℤ (b *ℤ d) ≡ (a *ℤ d +ℤ c *ℤ b) *ℤ m
sum_value =
    combine9 (λ a b c d g l r n m. n ⊗ (b ⊗ d) ≗ (a ⊗ d ⊕ c ⊗ b) ⊗ m
    ⇐ neg (c ⊗ m) ✶ (b ≗ l ⊗ g) ∷ (n ⊗ b ⊖ a ⊗ m) ✶ (d ≗ r ⊗ g) ∷ g ✶ (n ⊗ (b ⊗ r) ≗ (a ⊗ r ⊕ c ⊗ l) ⊗ m) ∷ []) refl

-- a sum with the opposite of c/d is the difference
pub difference_value : (a b c d n m : ℤ) → n *ℤ (b *ℤ d) ≡ (a *ℤ d +ℤ neg_ℤ c *ℤ b) *ℤ m → n *ℤ (b *ℤ d) ≡ (a *ℤ d -ℤ c *ℤ b) *ℤ m
difference_value = combine6 (λ a b c d n m. n ⊗ (b ⊗ d) ≗ (a ⊗ d ⊖ c ⊗ b) ⊗ m ⇐ con (pos 1) ✶ (n ⊗ (b ⊗ d) ≗ (a ⊗ d ⊕ neg c ⊗ b) ⊗ m) ∷ []) refl

-- a product of a/b and c/d, where p and s are a and d divided by k, and q and r are c and b divided by l
pub product_value : (a b c d k l p q r s : ℤ) → a ≡ p *ℤ k → b ≡ r *ℤ l → c ≡ q *ℤ l → d ≡ s *ℤ k → p *ℤ q *ℤ (b *ℤ d) ≡ a *ℤ c *ℤ (r *ℤ s)
product_value =
    combine10 (λ a b c d k l p q r s. p ⊗ q ⊗ (b ⊗ d) ≗ a ⊗ c ⊗ (r ⊗ s)
    ⇐ neg (c ⊗ r ⊗ s) ✶ (a ≗ p ⊗ k) ∷ (p ⊗ q ⊗ d) ✶ (b ≗ r ⊗ l) ∷ neg (p ⊗ k ⊗ r ⊗ s) ✶ (c ≗ q ⊗ l) ∷ (p ⊗ q ⊗ r ⊗ l) ✶ (d ≗ s ⊗ k) ∷ []) refl

-- ---- lowest terms of a product

-- divisors of coprime numbers are coprime
AreCoprime-divisors : (m n x y : ℕ) → x ∣ m → y ∣ n → AreCoprime m n → AreCoprime x y
AreCoprime-divisors m n x y p q h d u v = h d (dvd_trans d u p) (dvd_trans d v q)

-- a product of two numbers that are coprime to a third
AreCoprime-mul : (a c m : ℕ) → AreCoprime a m → AreCoprime c m → AreCoprime (a * c) m
AreCoprime-mul a c m h k d u v = k d (dvd_of_coprime a d c (λ e x y. h e x (dvd_trans e y v)) u) v

-- four quotients crosswise coprime make a product in lowest terms
product_lowest : (p q r s : ℤ) → IsLowest p r → IsLowest p s → IsLowest q r → IsLowest q s → IsLowest (p *ℤ q) (r *ℤ s)
product_lowest p q r s pr ps qr qs =
    let x : ℕ = unsigned_abs p in
    let y : ℕ = unsigned_abs q in
    let m : ℕ = unsigned_abs r in
    let n : ℕ = unsigned_abs s in
    let left : AreCoprime m (x * y) = AreCoprime_comm (x * y) m (AreCoprime-mul x y m pr qr) in
    let right : AreCoprime n (x * y) = AreCoprime_comm (x * y) n (AreCoprime-mul x y n ps qs) in
    subst₂ (λ i j. AreCoprime i j) (sym (unsigned_abs-mul p q)) (sym (unsigned_abs-mul r s))
    (AreCoprime_comm (m * n) (x * y) (AreCoprime-mul m n (x * y) left right))

-- a product of reduced fractions, divided crosswise by the greatest common divisors, is reduced
pub product_reduced : (a b c d k l : ℤ) → pos 0 <ℤ b → pos 0 <ℤ d → IsLowest a b → IsLowest c d → pos 0 <ℤ k → pos 0 <ℤ l → IsGcdOf a d (unsigned_abs k)
    → IsGcdOf c b (unsigned_abs l) → (pos 0 <ℤ (int_div b l *ℤ int_div d k)) × IsLowest (int_div a k *ℤ int_div c l) (int_div b l *ℤ int_div d k)
product_reduced a b c d k l pb pd low low' pk pl hk hl = (
  mul_pos (int_div b l) (int_div d k) (quotient_positive b l pb pl hl.1) (quotient_positive d k pd pk hk.1),
  product_lowest (int_div a k) (int_div c l) (int_div b l) (int_div d k)
      (AreCoprime-divisors (unsigned_abs a) (unsigned_abs b) (unsigned_abs (int_div a k)) (unsigned_abs (int_div b l)) (quotient_divides a k pk hk.0)
      (quotient_divides b l pl hl.1) low)
      (lowest_parts a d k pd hk (le_of_lt (pos 0) k pk)).0
      (lowest_parts c b l pb hl (le_of_lt (pos 0) l pl)).0
      (AreCoprime-divisors (unsigned_abs c) (unsigned_abs d) (unsigned_abs (int_div c l)) (unsigned_abs (int_div d k)) (quotient_divides c l pl hl.0)
      (quotient_divides d k pk hk.1) low'),
)

-- the product of the divided parts is reduced, and the product's value
pub product_is : (f g : Fraction) (k l n m : ℤ) → IsReduced f → IsReduced g → pos 0 <ℤ k → pos 0 <ℤ l → k ≡ gcd_of f.num g.den → l ≡ gcd_of g.num f.den
    → n ≡ int_div f.num k *ℤ int_div g.num l → m ≡ int_div f.den l *ℤ int_div g.den k → IsReduced (record { num = n; den = m })
    × SameFraction (record { num = n; den = m }) (fraction_product f g)
product_is f g k l n m low low' pk pl k_is l_is n_is m_is =
    let hk : IsGcdOf f.num g.den (unsigned_abs k) = rw k_is (IsGcdOf-gcd_of f.num g.den) in
    let hl : IsGcdOf g.num f.den (unsigned_abs l) = rw l_is (IsGcdOf-gcd_of g.num f.den) in
    rw (n_is, m_is) (
      product_reduced f.num f.den g.num g.den k l low.0 low'.0 low.1 low'.1 pk pl hk hl,
      product_value f.num f.den g.num g.den k l (int_div f.num k) (int_div g.num l) (int_div f.den l) (int_div g.den k) (quotient_whole f.num k pk hk.0)
          (quotient_whole f.den l pl hl.1) (quotient_whole g.num l pl hl.0) (quotient_whole g.den k pk hk.1),
    )

-- ---- the reciprocal

-- lowest terms turned over
pub IsLowest-comm : (a b : ℤ) → IsLowest a b → IsLowest b a
IsLowest-comm a b h = AreCoprime_comm (unsigned_abs a) (unsigned_abs b) h

-- with the other sign a reduced fraction is reduced
pub IsReduced-opposite : (f : Fraction) → IsReduced f → IsReduced (opposite f)
IsReduced-opposite f h = (h.0, subst (λ n. AreCoprime n (unsigned_abs f.den)) (sym (unsigned_abs-neg f.num)) h.1)

-- the same with both signs changed
pub IsLowest-neg_comm : (a b : ℤ) → IsLowest a b → IsLowest (neg_ℤ b) (neg_ℤ a)
IsLowest-neg_comm a b h = subst₂ (λ m n. AreCoprime m n) (sym (unsigned_abs-neg b)) (sym (unsigned_abs-neg a)) (IsLowest-comm a b h)

-- a product with the fraction c/d turned over is the quotient
pub quotient_value : (a b c d n m : ℤ) → n *ℤ (b *ℤ (reciprocal c d).den) ≡ a *ℤ (reciprocal c d).num *ℤ m → n *ℤ (b *ℤ c) ≡ a *ℤ d *ℤ m
quotient_value a b (pos c) d n m h = h
quotient_value a b (negsuc c) d n m h =
    combine6 (λ a b c d n m. n ⊗ (b ⊗ c) ≗ a ⊗ d ⊗ m ⇐ neg (con (pos 1)) ✶ (n ⊗ (b ⊗ neg c) ≗ a ⊗ neg d ⊗ m) ∷ []) refl a b (negsuc c) d n m h
