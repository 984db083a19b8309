-- Anchored scales: 100 at the element good and 0 at the element neutral, the two references of the method
-- (Bana e Costa, De Corte and Vansnick 2005).
use Rattle.std.specs.Prelude.{◌≡◌, ℕ, ℤ, pos, ◌+ℤ◌, ◌*ℤ◌, ◌<ℤ◌, List, map, length, Result}
use Rattle.integers.specs.Fraction.{Fraction, FractionAtMost, SameFraction, IsWriting, fraction_of}
use Rattle.integers.specs.Vector.{scale}
use Rattle.frac128.specs.Chain.{◌>>=◌, checked_each}
use Rattle.frac128.specs.Checked.{checked_difference, checked_product, checked_quotient}
use Rattle.frac128.specs.declared.number.TooWide.{TooWide}
use Rattle.judgement_matrix.specs.Matrix.{IsPair}
use Rattle.judgement_matrix.specs.Scale.{value_at}
use Rattle.judgement_matrix.specs.Values.{fraction_at}
use Rattle.value_scale.specs.declared.anchored_scale.AnchorFault.{AnchorFault}
use Rattle.value_scale.specs.declared.anchored_scale.AnchorFault.TheVariants as fault

-- a straight line that rises: it takes x to (slope x + shift) / base
pub record RisingLine : Type 0 where
  pub slope : ℤ
  pub shift : ℤ
  pub base : ℤ
  pub rises : pos 0 <ℤ slope
  pub base_pos : pos 0 <ℤ base

-- the line takes each number of w over n to the number at its place of v over k
abbrev pub Takes : RisingLine → List ℤ → ℤ → List ℤ → ℤ → Type 0
Takes line w n v k = scale (line.base *ℤ n) v ≡ scale k (map (λ x. line.slope *ℤ x +ℤ line.shift *ℤ n) w)

-- v over k is the scale w over n, mapped by a rising line that sends good to 100 and neutral to 0
pub record IsAnchoredScale (w : List ℤ) (n : ℤ) (good neutral : ℕ) (v : List ℤ) (k : ℤ) : Type 0 where
  pub den_pos : pos 0 <ℤ k
  pub line : RisingLine
  pub takes : Takes line w n v k
  pub good_is : value_at v good ≡ pos 100 *ℤ k
  pub neutral_is : value_at v neutral ≡ pos 0

-- so for values of both, however they are written
abbrev pub AreAnchored : List Fraction → ℕ → ℕ → List Fraction → Type 0
AreAnchored values good neutral anchored = (w : List ℤ) (n : ℤ) (v : List ℤ) (k : ℤ)
    → IsWriting values w n → IsWriting anchored v k → IsAnchoredScale w n good neutral v k

-- no element has a greater value than one listed above it
abbrev pub NeverRise : List Fraction → Type 0
NeverRise values = (p q : ℕ) → IsPair (length values) p q → FractionAtMost (fraction_at values q) (fraction_at values p)

-- two of n elements, good listed above neutral
abbrev pub AreReferences : ℕ → ℕ → ℕ → Type 0
AreReferences n good neutral = IsPair n good neutral

-- both have one value, so no line sends one to 100 and the other to 0
abbrev pub IsFlat : List Fraction → ℕ → ℕ → Type 0
IsFlat values good neutral = SameFraction (fraction_at values good) (fraction_at values neutral)

-- ---- how it is worked

-- 100 for each unit by which the first is above the second
abbrev pub checked_factor : Fraction → Fraction → Result Fraction TooWide
checked_factor top zero = do
  span ← checked_difference top zero
  checked_quotient (fraction_of (pos 100)) span

-- how far a value is above the one at 0, times the factor
abbrev pub checked_point : Fraction → Fraction → Fraction → Result Fraction TooWide
checked_point zero factor value = do
  above ← checked_difference value zero
  checked_product above factor

-- so for each value, from the first on
abbrev pub checked_line : Fraction → Fraction → List Fraction → Result (List Fraction) TooWide
checked_line zero factor values = checked_each (checked_point zero factor) values

-- the anchored values
abbrev pub checked_anchor : List Fraction → ℕ → ℕ → Result (List Fraction) TooWide
checked_anchor values good neutral = do
  factor ← checked_factor (fraction_at values good) (fraction_at values neutral)
  checked_line (fraction_at values neutral) factor values

-- of a formula a fault says that it is too wide, or nothing as memory is wanted; no formula is flat
abbrev pub FaultSays : AnchorFault → Type 0 → Type 0
FaultSays fault.TooWide wide = wide
FaultSays fault.NoMemory wide = Unit {0}
FaultSays fault.Flat wide = ⊥
