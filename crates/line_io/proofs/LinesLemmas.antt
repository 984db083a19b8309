-- What follows from a call for the next line.
use Rattle.std.proofs.Common.{◌≡◌, ◌≢◌, ℕ, ◌+◌, ◌-◌, ◌^◌, ◌<◌, ◌≤◌, Bool, List, [], ◌∷◌, ◌++◌, length, refl, ap, inl, inr, arith, length-append}
use Rattle.line_io.specs.Outside.{Change}
use Rattle.line_io.specs.Lines.{Progress, Splits, Gives, Takes}

-- a list that isn't empty has a length
nonempty : (xs : List ℕ) → xs ≢ [] → 0 < length xs
nonempty [] h = absurd (h refl)
nonempty (x ∷ xs) h = omega arith

-- what is left after the first line is shorter
pub Splits-shorter : (ended : Bool) (stream piece rest : List ℕ) → Splits ended stream piece rest → length rest < length stream
Splits-shorter ended stream piece rest (no_line, inl is) = omega (arith, ap length is, length-append piece (10 ∷ rest))
Splits-shorter ended stream piece rest (no_line, inr (seen, is, some, none)) =
    omega (arith, ap length is, ap length none, nonempty piece some)
