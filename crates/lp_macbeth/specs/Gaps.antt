-- The gaps between neighbouring elements, the bottom one first, and the scale that they make.
use Rattle.std.specs.Prelude.{ℕ, ◌-◌, ◌++◌, ℤ, pos, negsuc, ◌+ℤ◌, ◌-ℤ◌, List, [], ◌∷◌, replicate, reverse}
use Rattle.integers.specs.Vector.{scale}

-- d(p, q) as a sum of gaps: the coefficients of the n - 1 gaps, 1 for those between p and q and 0 for the others
abbrev pub gap_coefs : ℕ → ℕ → ℕ → List ℤ
gap_coefs n p q = replicate (n - q) (pos 0) ++ replicate (q - p) (pos 1) ++ replicate (p - 1) (pos 0)

-- the list with each sign turned
abbrev pub opposite : List ℤ → List ℤ
opposite xs = scale (negsuc 0) xs

-- how high the elements stand over the bottom one, which stands at a: each by its gap above the one below it
abbrev pub heights : ℤ → List ℤ → List ℤ
heights a [] = a ∷ []
heights a (x ∷ xs) = a ∷ heights (a +ℤ x) xs

-- the scale that gaps make: the sums of gaps from the bottom, the top element's first and the bottom element's 0 last
abbrev pub scale_of : List ℤ → List ℤ
scale_of gaps = reverse (heights (pos 0) gaps)

-- how far each number is above the one before it
abbrev pub steps : List ℤ → List ℤ
steps [] = []
steps (x ∷ []) = []
steps (x ∷ y ∷ ys) = (y -ℤ x) ∷ steps (y ∷ ys)

-- the gaps of a scale
abbrev pub gaps_of : List ℤ → List ℤ
gaps_of w = steps (reverse w)
