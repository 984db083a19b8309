-- Common divisors of whole numbers, by their absolute values.
use Prim.Native.Nat.{◌∣◌}
use Rattle.std.specs.Int.{IsGcd}
use Rattle.std.specs.Prelude.{◌≡◌, ℕ, zero, suc, ◌%◌, true, false, nat_eq, List, [], ◌∷◌, ℤ, pos, map, All, unsigned_abs, int_div}

-- no number but 1 divides both
abbrev pub AreCoprime : ℕ → ℕ → Type 0
AreCoprime a b = (d : ℕ) → d ∣ a → d ∣ b → d ≡ 1

-- the fraction num/den is in lowest terms
abbrev pub IsLowest : ℤ → ℤ → Type 0
IsLowest num den = AreCoprime (unsigned_abs num) (unsigned_abs den)

-- g is the greatest common divisor of two whole numbers
abbrev pub IsGcdOf : ℤ → ℤ → ℕ → Type 0
IsGcdOf a b g = IsGcd (unsigned_abs a) (unsigned_abs b) g

-- d divides each number
abbrev pub DividesAll : ℕ → List ℤ → Type 0
DividesAll d xs = All (λ x. d ∣ unsigned_abs x) xs

-- g is the greatest common divisor of the numbers, 0 where all are 0
abbrev pub IsGcdOfAll : List ℤ → ℕ → Type 0
IsGcdOfAll xs g = DividesAll g xs × ((d : ℕ) → DividesAll d xs → d ∣ g)

-- each number divided by d, rounded toward 0
abbrev pub quotients : List ℤ → ℤ → List ℤ
quotients xs d = map (λ x. int_div x d) xs

-- Euclid's algorithm, with at most so many steps
abbrev pub divisor_within : ℕ → ℕ → ℕ → ℕ
divisor_within zero a b = a
divisor_within (suc steps) a b = elim (nat_eq b 0) [ true ↦ a | false ↦ divisor_within steps b (a % b) ]

-- the greatest common divisor of two naturals, 0 where both are 0
abbrev pub common_divisor : ℕ → ℕ → ℕ
common_divisor a b = divisor_within (suc b) a b

-- the greatest common divisor of two whole numbers, 0 where both are 0
unfoldable pub gcd_of : ℤ → ℤ → ℤ
gcd_of a b = pos (common_divisor (unsigned_abs a) (unsigned_abs b))

-- the greatest common divisor of the numbers, 0 where all are 0
abbrev pub divisor_of_all : List ℤ → ℕ
divisor_of_all [] = 0
divisor_of_all (x ∷ xs) = common_divisor (unsigned_abs x) (divisor_of_all xs)
