-- Lists of whole numbers as vectors.
use Rattle.std.specs.Prelude.{◌≡◌, ℕ, ◌≤ℤ◌, List, [], ◌∷◌, ℤ, pos, ◌+ℤ◌, ◌-ℤ◌, ◌*ℤ◌, neg_ℤ, get_or, set, replicate, All, ⊤}

-- the sum of the products of numbers that stand at the same place, up to the end of the shorter list
abbrev pub dot : List ℤ → List ℤ → ℤ
dot [] ys = pos 0
dot (x ∷ xs) [] = pos 0
dot (x ∷ xs) (y ∷ ys) = x *ℤ y +ℤ dot xs ys

-- each number times c
abbrev pub scale : ℤ → List ℤ → List ℤ
scale c [] = []
scale c (x ∷ xs) = (c *ℤ x) ∷ scale c xs

-- the sums of numbers that stand at the same place; the shorter list counts as filled up with 0
abbrev pub add : List ℤ → List ℤ → List ℤ
add [] ys = ys
add (x ∷ xs) [] = x ∷ xs
add (x ∷ xs) (y ∷ ys) = (x +ℤ y) ∷ add xs ys

-- p times one row less q times another; the shorter row counts as filled up with 0
abbrev pub row_step : ℤ → ℤ → List ℤ → List ℤ → List ℤ
row_step p q [] ys = scale (neg_ℤ q) ys
row_step p q (x ∷ xs) [] = (p *ℤ x) ∷ scale p xs
row_step p q (x ∷ xs) (y ∷ ys) = (p *ℤ x -ℤ q *ℤ y) ∷ row_step p q xs ys

-- the sum of the rows, each times its number
abbrev pub weighted_sum : List ℤ → List (List ℤ) → List ℤ
weighted_sum [] rows = []
weighted_sum (y ∷ ys) [] = []
weighted_sum (y ∷ ys) (row ∷ rows) = add (scale y row) (weighted_sum ys rows)

-- the number at place j of each row, 0 past a row's end
abbrev pub column_of : ℕ → List (List ℤ) → List ℤ
column_of j [] = []
column_of j (row ∷ rows) = get_or row j (pos 0) ∷ column_of j rows

-- the product of a list with each row
abbrev pub dot_each : List (List ℤ) → List ℤ → List ℤ
dot_each [] us = []
dot_each (row ∷ rows) us = dot row us ∷ dot_each rows us

-- the products of numbers that stand at the same place, up to the end of the shorter list
abbrev pub products : List ℤ → List ℤ → List ℤ
products [] ys = []
products (x ∷ xs) [] = []
products (x ∷ xs) (y ∷ ys) = (x *ℤ y) ∷ products xs ys

-- the sum of the numbers
abbrev pub int_sum : List ℤ → ℤ
int_sum [] = pos 0
int_sum (x ∷ xs) = x +ℤ int_sum xs

-- a first number and then one more at each step: the sums, without the first
abbrev pub running_sums : ℤ → List ℤ → List ℤ
running_sums a [] = []
running_sums a (x ∷ xs) = (a +ℤ x) ∷ running_sums (a +ℤ x) xs

-- n numbers, 1 at the place j and 0 elsewhere
abbrev pub unit_vector : ℕ → ℕ → List ℤ
unit_vector n j = set (replicate n (pos 0)) j (pos 1)

-- each number is at least 0
abbrev pub AreNonNegative : List ℤ → Type 0
AreNonNegative xs = All (λ x. pos 0 ≤ℤ x) xs

-- each number is 0
abbrev pub AreZero : List ℤ → Type 0
AreZero xs = All (λ x. x ≡ pos 0) xs

-- each number is at most the one at its place; the shorter list counts as filled up with 0
abbrev pub AreAtMost : List ℤ → List ℤ → Type 0
AreAtMost [] [] = ⊤
AreAtMost [] (y ∷ ys) = (pos 0 ≤ℤ y) × AreAtMost [] ys
AreAtMost (x ∷ xs) [] = (x ≤ℤ pos 0) × AreAtMost xs []
AreAtMost (x ∷ xs) (y ∷ ys) = (x ≤ℤ y) × AreAtMost xs ys
