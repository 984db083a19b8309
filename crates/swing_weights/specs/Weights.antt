-- Weights of criteria: the swings from neutral to good, as values of the least scale of the weighting matrix, over their sum.
use Rattle.std.specs.Prelude.{◌≡◌, ◌≢◌, ◌-◌, ◌≤◌, ℤ, pos, ◌<ℤ◌, List, [], ◌∷◌, All, take, length, Result, Ok, Err, IsTrue}
use Rattle.std.specs.Result.{is_err, IfOk}
use Rattle.integers.specs.Fraction.{Fraction, IsWriting, fraction_of}
use Rattle.integers.specs.Vector.{scale, int_sum}
use Rattle.frac128.specs.Chain.{◌>>=◌}
use Rattle.frac128.specs.Checked.{checked_sum, checked_quotient}
use Rattle.frac128.specs.declared.number.TooWide.{TooWide}
use Rattle.judgement_matrix.specs.Values.{fraction_at}
use Rattle.value_scale.specs.Anchor.{NeverRise}
use Rattle.value_scale.specs.declared.basic.Basic.{Basic}
use Rattle.value_scale.specs.declared.basic.Basic.TheVariants.{Scale, Inconsistent}
use Rattle.swing_weights.specs.declared.weighing.WeightFault.{WeightFault}
use Rattle.swing_weights.specs.declared.weighing.WeightFault.TheVariants as fault

-- the values of a weighting's scale but for the last, that of the profile which is neutral on all criteria
abbrev pub swings : {A : Type 0} → List A → List A
swings values = take (length values - 1) values

-- k over d is the swings of w, each over their sum, which is above 0
pub record AreShares (w : List ℤ) (k : List ℤ) (d : ℤ) : Type 0 where
  pub sum_pos : pos 0 <ℤ int_sum (swings w)
  pub each : scale (int_sum (swings w)) k ≡ scale d (swings w)

-- so for weights and values as fractions, however they are written
abbrev pub AreWeights : List Fraction → List Fraction → Type 0
AreWeights values weights = (w : List ℤ) (n : ℤ) → IsWriting values w n → (k : List ℤ) (d : ℤ) → IsWriting weights k d → AreShares w k d

-- values of a scale: two at least, no element has a greater one than an element above it, and the last has 0
pub record AreFalling (values : List Fraction) : Type 0 where
  pub some : 2 ≤ length values
  pub falling : NeverRise values
  pub ends : (fraction_at values (length values)).num ≡ pos 0

-- every value is 0
abbrev pub AreAllZero : List Fraction → Type 0
AreAllZero values = All (λ (f : Fraction). f.num ≡ pos 0) values

-- ---- how they are worked

-- s and then each fraction, added one after another
unfoldable pub checked_total_from : Fraction → List Fraction → Result Fraction TooWide
checked_total_from s [] = Ok s
checked_total_from s (f ∷ fs) = do
  sum ← checked_sum s f
  checked_total_from sum fs

-- each fraction divided by the total
unfoldable pub checked_shares : Fraction → List Fraction → Result (List Fraction) TooWide
checked_shares total [] = Ok []
checked_shares total (f ∷ fs) = do
  share ← checked_quotient f total
  others ← checked_shares total fs
  Ok (share ∷ others)

-- each swing divided by the sum of the swings, worked from the first on
unfoldable pub checked_weights : List Fraction → Result (List Fraction) TooWide
checked_weights values = do
  total ← checked_total_from (fraction_of (pos 0)) (swings values)
  checked_shares total (swings values)

-- of a formula a fault says that it is too wide, or nothing as memory is wanted; no formula is inconsistent or flat
abbrev pub FaultSays : WeightFault → Type 0 → Type 0
FaultSays fault.TooWide wide = wide
FaultSays fault.NoMemory wide = Unit {0}
FaultSays fault.Inconsistent wide = ⊥
FaultSays fault.Flat wide = ⊥

-- what is answered for the values of a scale: that they are flat exactly where every one is 0, and else what the formula gives
abbrev pub AnswersValues : {V : Type 0} → (V → List Fraction) → List Fraction → Result V WeightFault → Type 0
AnswersValues items values (Ok given) = (¬ AreAllZero values) × (checked_weights values ≡ Ok (items given)) × AreWeights values (items given)
AnswersValues items values (Err fault.TooWide) = (¬ AreAllZero values) × IsTrue (is_err (checked_weights values))
AnswersValues items values (Err fault.NoMemory) = ¬ AreAllZero values
AnswersValues items values (Err fault.Inconsistent) = ⊥
AnswersValues items values (Err fault.Flat) = AreAllZero values

-- what is answered for a basic scale
abbrev pub AnswersBasic : {V : Type 0} → (V → List Fraction) → Basic → Result V WeightFault → Type 0
AnswersBasic items (Scale values cert) answer = AnswersValues items values answer
AnswersBasic items (Inconsistent cert) answer = answer ≡ Err fault.Inconsistent

-- the values of a scale, as the least scale of a matrix of two elements or more has them
abbrev pub AreSwingValues : Basic → Type 0
AreSwingValues (Scale values cert) = AreFalling values
AreSwingValues (Inconsistent cert) = Unit {0}

-- where the swings can be added up, their sum isn't 0
abbrev pub TotalIsNotZero : List Fraction → Type 0
TotalIsNotZero values = IfOk (checked_total_from (fraction_of (pos 0)) (swings values)) (λ total. total.num ≢ pos 0)
