-- The greatest common divisor of two naturals exists and goes with products; what follows for coprime numbers.
use Prim.Native.Nat.{◌∣◌}
use borrow.Author.Tests.{eqb-true}
use Rattle.std.specs.Int.{IsGcd}
use Rattle.std.proofs.Math.Nat.{dvd-mul_right, mul-dvd-mul_right, dvd_of_mul-dvd-mul_right, mul-add-mod_self_right, mod-eq_of_lt, mod-lt, div-add-mod', mul-lt-mul_of_pos_right, one-mul, eq-zero-or-pos}
use Rattle.std.proofs.lemmas.Nat.Gcd.{dvd-zero, dvd_antisymm, IsGcd-from_zero, IsGcd-from_mod, same_from_IsGcd}
use Rattle.std.proofs.Common.{◌≡◌, ◌⊎◌, inl, inr, ◌↔◌, ℕ, zero, suc, ◌+◌, ◌*◌, ◌/◌, ◌%◌, ◌<◌, Bool, true, false, IsTrue, nat_eq, refl, sym, ap, subst, ◌∙◌, arith}
use mathlib.Core.Bool.{true≢false}
use Rattle.integers.specs.Divisibility.{AreCoprime, divisor_within, common_divisor}

-- a factor comes out of a remainder
mul-mod-mul : (a b k : ℕ) → 0 < b → 0 < k → (a * k) % (b * k) ≡ (a % b) * k
mul-mod-mul a b k pb pk =
    let small : a % b * k < b * k = mul-lt-mul_of_pos_right (mod-lt a pb) pk in
    let split : a * k ≡ a / b * (b * k) + a % b * k = omega (arith, ap (λ n. n * k) (div-add-mod' a b)) in
    ap (λ n. n % (b * k)) split ∙ mul-add-mod_self_right (a / b) (b * k) (a % b * k) ∙ mod-eq_of_lt small

-- a common factor 0
IsGcd-zeros : (a b g k : ℕ) → k ≡ 0 → IsGcd (a * k) (b * k) (g * k)
IsGcd-zeros a b g k e = (
  subst (λ n. g * k ∣ n) (sym (zero_at a)) (dvd-zero (g * k)),
  subst (λ n. g * k ∣ n) (sym (zero_at b)) (dvd-zero (g * k)),
  λ d p q. subst (λ n. d ∣ n)
      (sym (zero_at g)) (dvd-zero d),
)
  where
    zero_at : (n : ℕ) → n * k ≡ 0
    zero_at n = ap (λ m. n * m) e ∙ omega arith

-- Euclid's algorithm with `fuel` steps: the divisor, and what it is after both numbers took a factor
euclid : (fuel a b : ℕ) → b < fuel → (g : ℕ) × IsGcd a b g × ((k : ℕ) → IsGcd (a * k) (b * k) (g * k))
euclid zero a b h = absurd (omega arith)
euclid (suc fuel) a b h = step (eq-zero-or-pos b) (λ p. euclid fuel b (a % b) (let less = mod-lt a p in omega arith))
  where
    scaled : (g k : ℕ) → 0 < b → IsGcd (b * k) (a % b * k) (g * k) → IsGcd (a * k) (b * k) (g * k)
    scaled g k p q = more (eq-zero-or-pos k)
      where
        more : (k ≡ 0) ⊎ 0 < k → IsGcd (a * k) (b * k) (g * k)
        more (inl e) = IsGcd-zeros a b g k e
        more (inr pk) = IsGcd-from_mod (a * k) (b * k) (g * k) (subst (λ n. IsGcd (b * k) n (g * k)) (sym (mul-mod-mul a b k p pk)) q)

    step : (b ≡ 0) ⊎ 0 < b → (0 < b → (g : ℕ) × IsGcd b (a % b) g × ((k : ℕ) → IsGcd (b * k) (a % b * k) (g * k))) → (g : ℕ) × IsGcd a b g
        × ((k : ℕ) → IsGcd (a * k) (b * k) (g * k))
    step (inl e) rec = (a, IsGcd-from_zero a b e, λ k. IsGcd-from_zero (a * k) (b * k) (ap (λ n. n * k) e ∙ omega arith))
    step (inr p) rec = let r = rec p in (r.0, IsGcd-from_mod a b r.0 r.1, λ k. scaled r.0 k p (r.2 k))

-- two numbers have a greatest common divisor
pub IsGcd-exists : (a b : ℕ) → (g : ℕ) × IsGcd a b g
IsGcd-exists a b = let r = euclid (suc b) a b (omega arith) in (r.0, r.1)

-- a common factor is one of the greatest common divisor
pub IsGcd-mul : (a b g k : ℕ) → IsGcd a b g → IsGcd (a * k) (b * k) (g * k)
IsGcd-mul a b g k h = let r = euclid (suc b) a b (omega arith) in subst (λ n. IsGcd (a * k) (b * k) (n * k)) (same_from_IsGcd a b r.0 g r.1 h) (r.2 k)

-- coprime numbers are those whose greatest common divisor is 1
pub AreCoprime-IsGcd : (a b : ℕ) → AreCoprime a b ↔ IsGcd a b 1
AreCoprime-IsGcd a b = (
  λ h. let r = IsGcd-exists a b in subst (λ n. IsGcd a b n) (h r.0 r.1.0 r.1.1) r.1,
  λ h d p q. dvd_antisymm (h.2 d p q) (subst (λ n. 1 ∣ n) (one-mul d) (dvd-mul_right 1 d)),
)

-- coprime, the other way
pub AreCoprime_comm : (a b : ℕ) → AreCoprime a b → AreCoprime b a
AreCoprime_comm a b h d p q = h d q p

-- what divides a product and is coprime to one factor divides the other
pub dvd_of_coprime : (a b d : ℕ) → AreCoprime a b → b ∣ a * d → b ∣ d
dvd_of_coprime a b d h p =
    let g = IsGcd-mul a b 1 d ((AreCoprime-IsGcd a b).0 h) in
    subst (λ n. b ∣ n) (one-mul d) (g.2 b p (dvd-mul_right b d))

-- divided by their greatest common divisor two numbers are coprime
pub AreCoprime-divided : (a b g : ℕ) → 0 < g → IsGcd (a * g) (b * g) g → AreCoprime a b
AreCoprime-divided a b g p h d u v =
    dvd_antisymm (dvd_of_mul-dvd-mul_right d p (subst (λ n. d * g ∣ n) (sym (one-mul g)) (h.2 (d * g) (mul-dvd-mul_right d u g) (mul-dvd-mul_right d v g))))
    (subst (λ n. 1 ∣ n) (one-mul d) (dvd-mul_right 1 d))

-- a test of the greatest common divisor is one of being coprime
pub AreCoprime-test : (a b g : ℕ) → IsGcd a b g → IsTrue (nat_eq g 1) ↔ AreCoprime a b
AreCoprime-test a b g h = (
  λ t. (AreCoprime-IsGcd a b).1 (subst (λ n. IsGcd a b n) (eqb-true g 1 t) h),
  λ p. subst (λ n. IsTrue (nat_eq n 1)) (sym (p g h.0 h.1)) refl,
)

-- with steps enough Euclid's algorithm gives the greatest common divisor
IsGcd-divisor_within : (steps a b : ℕ) → b < steps → IsGcd a b (divisor_within steps a b)
IsGcd-divisor_within zero a b h = absurd (omega arith)
IsGcd-divisor_within (suc steps) a b h = step (nat_eq b 0) refl (λ p. IsGcd-divisor_within steps b (a % b) (let less = mod-lt a p in omega arith))
  where
    step : (t : Bool) → nat_eq b 0 ≡ t → (0 < b → IsGcd b (a % b) (divisor_within steps b (a % b)))
        → IsGcd a b (elim t [ true ↦ a | false ↦ divisor_within steps b (a % b) ])
    step true e rest = IsGcd-from_zero a b (eqb-true b 0 e)
    step false e rest = positive (eq-zero-or-pos b)
      where
        positive : (b ≡ 0) ⊎ 0 < b → IsGcd a b (divisor_within steps b (a % b))
        positive (inl z) = absurd (true≢false (sym (ap (λ n. nat_eq n 0) z) ∙ e))
        positive (inr p) = IsGcd-from_mod a b (divisor_within steps b (a % b)) (rest p)

-- the greatest common divisor is one
pub IsGcd-common_divisor : (a b : ℕ) → IsGcd a b (common_divisor a b)
IsGcd-common_divisor a b = IsGcd-divisor_within (suc b) a b (omega arith)
