-- Divisors of whole numbers and of lists of them: fractions in lowest terms, and what a division by a common divisor keeps.
use Prim.Native.Nat.{◌∣◌}
use lib.IntN.{*ℤ_comm}
use Rattle.std.specs.Int.{IsGcd}
use Rattle.std.proofs.Math.Nat.{dvd-mul_left, dvd-mul_right, mul-dvd-mul_right, dvd_of_mul-dvd-mul_right, div-mul_cancel, mul_comm, one-dvd, one-mul, pos_of_dvd_of_pos}
use Rattle.std.proofs.lemmas.Int.{unsigned_abs-mul}
use Rattle.std.proofs.lemmas.List.Elements.{All-nil, All-cons, All-head, All-tail}
use Rattle.std.proofs.lemmas.Nat.Gcd.{dvd_refl, dvd-zero, dvd_trans, dvd_antisymm, same_from_IsGcd}
use Rattle.std.proofs.Common.{◌≡◌, ◌↔◌, ℕ, zero, suc, ◌+◌, ◌*◌, ◌/◌, ◌<◌, length, get_or, drop, List, [], ◌∷◌, ℤ, pos, negsuc, ◌*ℤ◌, neg_ℤ, ◌≤ℤ◌, ◌<ℤ◌, unsigned_abs, int_div, refl, sym, ap, ap₂, subst, subst₂, ◌∙◌, arith, add-one, drop-cons}
use Rattle.integers.specs.Divisibility.{IsLowest, IsGcdOf, DividesAll, IsGcdOfAll, quotients, common_divisor, gcd_of, divisor_of_all}
use Rattle.integers.specs.Vector.{dot, scale}
use Rattle.integers.proofs.Gcd.{IsGcd-exists, IsGcd-common_divisor, dvd_of_coprime, AreCoprime-divided}
use Rattle.integers.proofs.Laws.{*ℤ-neg_ℤ, lin, one-*ℤ}
use Rattle.integers.proofs.Order.{cancel_eq, divided_pos, divided_same, le_of_lt}
use Rattle.integers.proofs.Vector.{dot-scale}

-- ---- absolute values

-- a number that is not negative is its absolute value
pub pos-unsigned_abs : (a : ℤ) → pos 0 ≤ℤ a → pos (unsigned_abs a) ≡ a
pos-unsigned_abs (pos n) p = refl
pos-unsigned_abs (negsuc n) p = absurd p.le

-- a positive number has a positive absolute value
pub unsigned_abs_pos : (a : ℤ) → pos 0 <ℤ a → 0 < unsigned_abs a
unsigned_abs_pos (pos n) p = omega (arith, lin)
unsigned_abs_pos (negsuc n) p = absurd p.lt

-- the sign does not show in the absolute value
pub unsigned_abs-neg : (a : ℤ) → unsigned_abs (neg_ℤ a) ≡ unsigned_abs a
unsigned_abs-neg (pos zero) = refl
unsigned_abs-neg (pos (suc n)) = refl
unsigned_abs-neg (negsuc n) = refl

-- a divisor of a positive number is positive
pub positive_divisor : (a z : ℤ) → pos 0 <ℤ a → unsigned_abs z ∣ unsigned_abs a → pos 0 ≤ℤ z → pos 0 <ℤ z
positive_divisor a (pos n) p h s = let some : 0 < n = pos_of_dvd_of_pos h (unsigned_abs_pos a p) in omega (arith, lin)
positive_divisor a (negsuc n) p h s = absurd s.le

-- ---- fractions in lowest terms

-- two fractions in lowest terms that are one number have the same parts
pub same_parts : (a b c d : ℤ) → IsLowest a b → IsLowest c d → pos 0 <ℤ b → pos 0 <ℤ d → a *ℤ d ≡ c *ℤ b → (a ≡ c) × (b ≡ d)
same_parts a b c d low low' pb pd e =
    let sizes : unsigned_abs a * unsigned_abs d ≡ unsigned_abs c * unsigned_abs b = sym (unsigned_abs-mul a d) ∙ ap unsigned_abs e ∙ unsigned_abs-mul c b in
    let one_way : unsigned_abs b ∣ unsigned_abs d =
    dvd_of_coprime (unsigned_abs a) (unsigned_abs b) (unsigned_abs d) low
    (subst (λ n. unsigned_abs b ∣ n) (sym sizes) (dvd-mul_left (unsigned_abs b) (unsigned_abs c))) in
    let other_way : unsigned_abs d ∣ unsigned_abs b =
    dvd_of_coprime (unsigned_abs c) (unsigned_abs d) (unsigned_abs b) low'
    (subst (λ n. unsigned_abs d ∣ n) sizes (dvd-mul_left (unsigned_abs d) (unsigned_abs a))) in
    let dens : b ≡ d =
    sym (pos-unsigned_abs b (le_of_lt (pos 0) b pb)) ∙ ap pos (dvd_antisymm one_way other_way) ∙ pos-unsigned_abs d (le_of_lt (pos 0) d pd) in
    (cancel_eq a c b pb (ap (λ z. a *ℤ z) dens ∙ e), dens)

-- a numerator and a denominator divided by their greatest common divisor are in lowest terms
pub IsLowest-divided : (a b : ℤ) (g : ℕ) → 0 < g → IsGcdOf (a *ℤ pos g) (b *ℤ pos g) g → IsLowest a b
IsLowest-divided a b g p h =
    AreCoprime-divided (unsigned_abs a) (unsigned_abs b) g p (subst₂ (λ m n. IsGcd m n g) (unsigned_abs-mul a (pos g)) (unsigned_abs-mul b (pos g)) h)

-- a whole number over 1 is in lowest terms
pub IsLowest-whole : (a : ℤ) → IsLowest a (pos 1)
IsLowest-whole a d p q = dvd_antisymm q (one-dvd d)

-- ---- a common divisor of a list

-- the empty list has every divisor
pub DividesAll-nil : (d : ℕ) → DividesAll d []
DividesAll-nil d = All-nil (λ x. d ∣ unsigned_abs x)

-- every list is divided by 1
pub DividesAll-one : (xs : List ℤ) → DividesAll 1 xs
DividesAll-one xs k d h = one-dvd (unsigned_abs (get_or xs k d))

-- a divisor of one number more
pub DividesAll-cons : (d : ℕ) (x : ℤ) (xs : List ℤ) → DividesAll d (x ∷ xs) ↔ (d ∣ unsigned_abs x) × DividesAll d xs
DividesAll-cons d x xs =
    (λ h. (All-head (λ x. d ∣ unsigned_abs x) x xs h, All-tail (λ x. d ∣ unsigned_abs x) x xs h), λ h. All-cons (λ x. d ∣ unsigned_abs x) x xs h.0 h.1)

-- a divisor of a divisor
pub DividesAll-trans : (d e : ℕ) (xs : List ℤ) → d ∣ e → DividesAll e xs → DividesAll d xs
DividesAll-trans d e [] p h = DividesAll-nil d
DividesAll-trans d e (x ∷ xs) p h =
    (DividesAll-cons d x xs).1 (dvd_trans d p ((DividesAll-cons e x xs).0 h).0, DividesAll-trans d e xs p ((DividesAll-cons e x xs).0 h).1)

-- all multiples of k are divided by what a divisor takes k times, and the converse
pub DividesAll-scale : (d k : ℕ) (xs : List ℤ) → 0 < k → DividesAll d xs ↔ DividesAll (d * k) (scale (pos k) xs)
DividesAll-scale d k xs p = (to xs, from xs)
  where
    size : (x : ℤ) → unsigned_abs (pos k *ℤ x) ≡ unsigned_abs x * k
    size x = unsigned_abs-mul (pos k) x ∙ mul_comm k (unsigned_abs x)

    to : (xs : List ℤ) → DividesAll d xs → DividesAll (d * k) (scale (pos k) xs)
    to [] h = DividesAll-nil (d * k)
    to (x ∷ xs) h =
        (DividesAll-cons (d * k) (pos k *ℤ x) (scale (pos k) xs)).1
        (subst (λ n. d * k ∣ n) (sym (size x)) (mul-dvd-mul_right d ((DividesAll-cons d x xs).0 h).0 k), to xs ((DividesAll-cons d x xs).0 h).1)

    from : (xs : List ℤ) → DividesAll (d * k) (scale (pos k) xs) → DividesAll d xs
    from [] h = DividesAll-nil d
    from (x ∷ xs) h =
        let parts = (DividesAll-cons (d * k) (pos k *ℤ x) (scale (pos k) xs)).0 h in
        (DividesAll-cons d x xs).1 (dvd_of_mul-dvd-mul_right d p (subst (λ n. d * k ∣ n) (size x) parts.0), from xs parts.1)

-- ---- the greatest common divisor of a list

-- of no numbers
pub IsGcdOfAll-nil : IsGcdOfAll [] 0
IsGcdOfAll-nil = (DividesAll-nil 0, λ d h. dvd-zero d)

-- one number more
pub IsGcdOfAll-cons : (x : ℤ) (xs : List ℤ) (g h : ℕ) → IsGcdOfAll xs g → IsGcd (unsigned_abs x) g h → IsGcdOfAll (x ∷ xs) h
IsGcdOfAll-cons x xs g h p q = (
  (DividesAll-cons h x xs).1 (q.0, DividesAll-trans h g xs q.1 p.0),
  λ d r. q.2 d ((DividesAll-cons d x xs).0 r).0 (p.1 d ((DividesAll-cons d x xs).0 r).1),
)

-- every list has a greatest common divisor
pub IsGcdOfAll-exists : (xs : List ℤ) → (g : ℕ) × IsGcdOfAll xs g
IsGcdOfAll-exists [] = (0, IsGcdOfAll-nil)
IsGcdOfAll-exists (x ∷ xs) =
    let rest = IsGcdOfAll-exists xs in
    let both = IsGcd-exists (unsigned_abs x) rest.0 in
    (both.0, IsGcdOfAll-cons x xs rest.0 both.0 rest.1 both.1)

-- and only one
pub same_from_IsGcdOfAll : (xs : List ℤ) (g h : ℕ) → IsGcdOfAll xs g → IsGcdOfAll xs h → g ≡ h
same_from_IsGcdOfAll xs g h p q = dvd_antisymm (q.1 g p.0) (p.1 h q.0)

-- numbers divided by their greatest common divisor have 1 as theirs, and the converse
pub IsGcdOfAll-divided : (g : ℕ) (xs : List ℤ) → 0 < g → IsGcdOfAll (scale (pos g) xs) g ↔ IsGcdOfAll xs 1
IsGcdOfAll-divided g xs p = (
  λ h. (DividesAll-one xs, λ d q. dvd_of_mul-dvd-mul_right d p (subst (λ n. d * g ∣ n) (sym (one-mul g)) (h.1 (d * g) ((DividesAll-scale d g xs p).0 q)))),
  λ h. back (IsGcdOfAll-exists (scale (pos g) xs)) h,
)
  where
    back : (f : ℕ) × IsGcdOfAll (scale (pos g) xs) f → IsGcdOfAll xs 1 → IsGcdOfAll (scale (pos g) xs) g
    back r h =
        let all : DividesAll g (scale (pos g) xs) = subst (λ n. DividesAll n (scale (pos g) xs)) (one-mul g) ((DividesAll-scale 1 g xs p).0 h.0) in
        let quotient : ℕ = r.0 / g in
        let is : quotient * g ≡ r.0 = div-mul_cancel g (r.1.1 g all) in
        let divides : quotient ∣ 1 = h.1 quotient ((DividesAll-scale quotient g xs p).1 (subst (λ n. DividesAll n (scale (pos g) xs)) (sym is) r.1.0)) in
        let most : r.0 ∣ g = subst₂ (λ m n. m ∣ n) is (one-mul g) (mul-dvd-mul_right quotient divides g) in
        (all, λ d q. dvd_trans d (r.1.1 d q) most)

-- ---- the numbers divided

-- a multiple of d divided by d, and taken d times again
pub int_div-mul_cancel : (x : ℤ) (d : ℕ) → d ∣ unsigned_abs x → pos d *ℤ int_div x (pos d) ≡ x
int_div-mul_cancel (pos n) d h = ap pos (mul_comm d (n / d) ∙ div-mul_cancel d h)
int_div-mul_cancel (negsuc n) d h =
    let size : suc n / d * d ≡ suc n = div-mul_cancel d h in
    *ℤ-neg_ℤ (pos d) (pos (suc n / d)) ∙ ap neg_ℤ (ap pos (mul_comm d (suc n / d) ∙ size))

-- the numbers divided by a common divisor, and taken as often again
pub scale-quotients : (d : ℕ) (xs : List ℤ) → DividesAll d xs → scale (pos d) (quotients xs (pos d)) ≡ xs
scale-quotients d [] h = refl
scale-quotients d (x ∷ xs) h = let parts = (DividesAll-cons d x xs).0 h in ap₂ (λ a b. a ∷ b) (int_div-mul_cancel x d parts.0) (scale-quotients d xs parts.1)

-- the dot product is that of the divided numbers, taken d times
pub dot-quotients : (d : ℕ) (xs us : List ℤ) → DividesAll d xs → pos d *ℤ dot (quotients xs (pos d)) us ≡ dot xs us
dot-quotients d xs us h = sym (dot-scale (pos d) (quotients xs (pos d)) us) ∙ ap (λ zs. dot zs us) (scale-quotients d xs h)

-- divided by their greatest common divisor the numbers have 1 as theirs
pub IsGcdOfAll-quotients : (g : ℕ) (xs : List ℤ) → 0 < g → IsGcdOfAll xs g → IsGcdOfAll (quotients xs (pos g)) 1
IsGcdOfAll-quotients g xs p h = (IsGcdOfAll-divided g (quotients xs (pos g)) p).0 (subst (λ zs. IsGcdOfAll zs g) (sym (scale-quotients g xs h.0)) h)

-- d times a number divided by d
pub int_div-mul : (x : ℤ) (d : ℕ) → 0 < d → int_div (pos d *ℤ x) (pos d) ≡ x
int_div-mul x d p =
    let positive : pos 0 <ℤ pos d = omega (arith, lin) in
    let divides : d ∣ unsigned_abs (pos d *ℤ x) = subst (λ n. d ∣ n) (sym (unsigned_abs-mul (pos d) x)) (dvd-mul_right d (unsigned_abs x)) in
    let q : ℤ = int_div (pos d *ℤ x) (pos d) in
    cancel_eq q x (pos d) positive (*ℤ_comm q (pos d) ∙ int_div-mul_cancel (pos d *ℤ x) d divides ∙ *ℤ_comm (pos d) x)

-- d times each number, divided by d
pub quotients-scale : (d : ℕ) (xs : List ℤ) → 0 < d → quotients (scale (pos d) xs) (pos d) ≡ xs
quotients-scale d [] p = refl
quotients-scale d (x ∷ xs) p = ap₂ (λ a b. a ∷ b) (int_div-mul x d p) (quotients-scale d xs p)

-- the absolute value of a quotient
pub unsigned_abs-int_div : (x : ℤ) (d : ℕ) → unsigned_abs (int_div x (pos d)) ≡ unsigned_abs x / d
unsigned_abs-int_div (pos n) d = refl
unsigned_abs-int_div (negsuc n) d = unsigned_abs-neg (pos (suc n / d))

-- the quotient times the divisor
pub quotient_whole : (b z : ℤ) → pos 0 <ℤ z → unsigned_abs z ∣ unsigned_abs b → b ≡ int_div b z *ℤ z
quotient_whole b (pos n) p h = sym (*ℤ_comm (int_div b (pos n)) (pos n) ∙ int_div-mul_cancel b n h)
quotient_whole b (negsuc n) p h = absurd p.lt

-- the quotient of a positive number
pub quotient_positive : (b z : ℤ) → pos 0 <ℤ b → pos 0 <ℤ z → unsigned_abs z ∣ unsigned_abs b → pos 0 <ℤ int_div b z
quotient_positive b z pb p h = (divided_pos b (int_div b z) z p (quotient_whole b z p h)).0 pb

-- the quotient divides too
pub quotient_divides : (b z : ℤ) → pos 0 <ℤ z → unsigned_abs z ∣ unsigned_abs b → unsigned_abs (int_div b z) ∣ unsigned_abs b
quotient_divides b z p h =
    subst (λ n. unsigned_abs (int_div b z) ∣ n) (sym (unsigned_abs-mul (int_div b z) z) ∙ ap unsigned_abs (sym (quotient_whole b z p h)))
    (dvd-mul_right (unsigned_abs (int_div b z)) (unsigned_abs z))

-- divided by 1 a number is itself
pub int_div-one : (x : ℤ) → int_div x (pos 1) ≡ x
int_div-one x = sym (one-*ℤ (int_div x (pos 1))) ∙ int_div-mul_cancel x 1 (one-dvd (unsigned_abs x))

-- and so is a list
pub quotients-one : (xs : List ℤ) → quotients xs (pos 1) ≡ xs
quotients-one [] = refl
quotients-one (x ∷ xs) = ap₂ (λ a b. a ∷ b) (int_div-one x) (quotients-one xs)

-- each fraction can be written in lowest terms, with the parts divided by their greatest common divisor
pub lowest_terms : (a b : ℤ) (g : ℕ) → pos 0 <ℤ b → IsGcdOf a b g → IsLowest (int_div a (pos g)) (int_div b (pos g)) × (pos 0 <ℤ int_div b (pos g))
    × (a *ℤ int_div b (pos g) ≡ int_div a (pos g) *ℤ b)
lowest_terms a b g p h =
    let c : ℤ = int_div a (pos g) in
    let d : ℤ = int_div b (pos g) in
    let size : 0 < unsigned_abs b = unsigned_abs_pos b p in
    let some : 0 < g = pos_of_dvd_of_pos h.1 size in
    let positive : pos 0 <ℤ pos g = omega (arith, lin) in
    let a_is : a ≡ c *ℤ pos g = sym (*ℤ_comm c (pos g) ∙ int_div-mul_cancel a g h.0) in
    let b_is : b ≡ d *ℤ pos g = sym (*ℤ_comm d (pos g) ∙ int_div-mul_cancel b g h.1) in (
      IsLowest-divided c d g some (subst₂ (λ x y. IsGcdOf x y g) a_is b_is h),
      (divided_pos b d (pos g) positive b_is).0 p,
      divided_same a b c d
          (pos g) a_is b_is,
    )

-- ---- the greatest common divisor of two numbers, as a number

-- it is one
pub IsGcdOf-gcd_of : (a b : ℤ) → IsGcdOf a b (unsigned_abs (gcd_of a b))
unfolding gcd_of
IsGcdOf-gcd_of a b = IsGcd-common_divisor (unsigned_abs a) (unsigned_abs b)

-- it is not negative
pub gcd_of_nonneg : (a b : ℤ) → pos 0 ≤ℤ gcd_of a b
unfolding gcd_of
gcd_of_nonneg a b = omega (arith, lin)

-- with a positive number it is positive
pub gcd_of_pos : (a b : ℤ) → pos 0 <ℤ b → pos 0 <ℤ gcd_of a b
gcd_of_pos a b p = positive_divisor b (gcd_of a b) p (IsGcdOf-gcd_of a b).1 (gcd_of_nonneg a b)

-- the greatest common divisor that code finds is this one
pub gcd_of-is : (a b z : ℤ) → IsGcdOf a b (unsigned_abs z) → pos 0 ≤ℤ z → z ≡ gcd_of a b
unfolding gcd_of
gcd_of-is a b z h s =
    sym (pos-unsigned_abs z s) ∙ ap pos (same_from_IsGcd (unsigned_abs a) (unsigned_abs b) (unsigned_abs z) (common_divisor (unsigned_abs a) (unsigned_abs b)) h
    (IsGcd-common_divisor (unsigned_abs a) (unsigned_abs b)))

-- ---- the greatest common divisor of a list, as a number

-- a common divisor divides each dot product
pub dvd-dot : (d : ℕ) (xs us : List ℤ) → DividesAll d xs → d ∣ unsigned_abs (dot xs us)
dvd-dot d xs us h =
    subst (λ n. d ∣ n) (sym (unsigned_abs-mul (pos d) (dot (quotients xs (pos d)) us)) ∙ ap unsigned_abs (dot-quotients d xs us h))
    (dvd-mul_right d (unsigned_abs (dot (quotients xs (pos d)) us)))

-- `divisor_of_all` is the greatest common divisor
pub IsGcdOfAll-divisor_of_all : (xs : List ℤ) → IsGcdOfAll xs (divisor_of_all xs)
IsGcdOfAll-divisor_of_all [] = IsGcdOfAll-nil
IsGcdOfAll-divisor_of_all (x ∷ xs) =
    IsGcdOfAll-cons x xs (divisor_of_all xs) (divisor_of_all (x ∷ xs)) (IsGcdOfAll-divisor_of_all xs)
    (IsGcd-common_divisor (unsigned_abs x) (divisor_of_all xs))

-- the greatest common divisor that code finds
pub divisor-is : (xs : List ℤ) (z : ℤ) → IsGcdOfAll xs (unsigned_abs z) → pos 0 ≤ℤ z → z ≡ pos (divisor_of_all xs)
divisor-is xs z h s = sym (pos-unsigned_abs z s) ∙ ap pos (same_from_IsGcdOfAll xs (unsigned_abs z) (divisor_of_all xs) h (IsGcdOfAll-divisor_of_all xs))

-- the divisor of a list that begins with a positive number is positive
pub divisor_of_first : (xs : List ℤ) (z : ℤ) → pos 0 <ℤ get_or xs 0 (pos 0) → IsGcdOfAll xs (unsigned_abs z) → pos 0 ≤ℤ z → pos 0 <ℤ z
divisor_of_first [] z p h s = absurd (omega (arith, lin, p))
divisor_of_first (x ∷ xs) z p h s = positive_divisor x z p ((DividesAll-cons (unsigned_abs z) x xs).0 h.0).0 s

-- ---- for loops

-- the divisors of what is left from the place i on
pub DividesAll-drop_more : (d i : ℕ) (xs : List ℤ) → i < length xs → DividesAll d (drop i xs) ↔ (d ∣ unsigned_abs (get_or xs i (pos 0)))
    × DividesAll d (drop (i + 1) xs)
DividesAll-drop_more d i xs h =
    subst (λ zs. DividesAll d zs ↔ (d ∣ unsigned_abs (get_or xs i (pos 0))) × DividesAll d (drop (i + 1) xs)) (sym is)
    (DividesAll-cons d (get_or xs i (pos 0)) (drop (i + 1) xs))
  where
    is : drop i xs ≡ get_or xs i (pos 0) ∷ drop (i + 1) xs
    is = rw (add-one, drop-cons xs i (pos 0))

-- the greatest common divisor is the number whose divisors are the common ones
pub IsGcdOfAll-divisors : (xs : List ℤ) (g : ℕ) → IsGcdOfAll xs g ↔ ((d : ℕ) → DividesAll d xs ↔ (d ∣ g))
IsGcdOfAll-divisors xs g = (λ h d. (h.1 d, λ p. DividesAll-trans d g xs p h.0), λ h. ((h g).1 (dvd_refl g), λ d. (h d).0))
