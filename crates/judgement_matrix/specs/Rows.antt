-- The constraints of a matrix as tagged rows, in row order, and the first of them that a scale fails.
use Rattle.std.specs.Prelude.{◌≡◌, ℕ, ◌+◌, ◌-◌, ◌<◌, ◌≤◌, ℤ, pos, ◌-ℤ◌, ◌*ℤ◌, ◌≤ℤ◌, List, ◌∷◌, ◌++◌, map, filter, nat_lt, nat_le, ◌==◌}
use Rattle.std.specs.List.{flat_map, range_with_len, AllByRecursion}
use Rattle.judgement_matrix.specs.Matrix.{Judgements, IsPair, pairs, range_at}
use Rattle.judgement_matrix.specs.Scale.{difference, IsMetBy}
use Rattle.judgement_matrix.specs.declared.tag.Tag.{Tag}
use Rattle.judgement_matrix.specs.declared.tag.Tag.TheVariants.{Lower, Zero, Cross, Order}
use Rattle.judgement_matrix.specs.declared.tag.Fit.{Fit}
use Rattle.judgement_matrix.specs.declared.tag.Fit.TheVariants.{Meets, Fails}

-- of these pairs, each whose range begins at 1 or above
abbrev pub lower_rows_of : Judgements → List (ℕ × ℕ) → List Tag
lower_rows_of m ps = map (λ pair. Lower pair.0 pair.1) (filter (λ pair. nat_le 1 (range_at m pair.0 pair.1).lo) ps)

-- of these pairs, each whose range is 0 alone
abbrev pub zero_rows_of : Judgements → List (ℕ × ℕ) → List Tag
zero_rows_of m ps = map (λ pair. Zero pair.0 pair.1) (filter (λ pair. (range_at m pair.0 pair.1).hi == 0) ps)

-- for one pair, each of these whose range lies wholly below its own
abbrev pub cross_rows_under : Judgements → ℕ × ℕ → List (ℕ × ℕ) → List Tag
cross_rows_under m left ps = map (λ right. Cross left.0 left.1 right.0 right.1)
    (filter (λ right. nat_lt (range_at m right.0 right.1).hi (range_at m left.0 left.1).lo) ps)

-- the same for each of these pairs
abbrev pub cross_rows_of : Judgements → List (ℕ × ℕ) → List (ℕ × ℕ) → List Tag
cross_rows_of m lefts rights = flat_map (λ left. cross_rows_under m left rights) lefts

-- the lower rows of all pairs
abbrev pub lower_rows : Judgements → List Tag
lower_rows m = lower_rows_of m (pairs m.size)

-- the zero rows of all pairs
abbrev pub zero_rows : Judgements → List Tag
zero_rows m = zero_rows_of m (pairs m.size)

-- the cross rows of all pairs
abbrev pub cross_rows : Judgements → List Tag
cross_rows m = cross_rows_of m (pairs m.size) (pairs m.size)

-- each element but the last, against the next one
abbrev pub order_rows : Judgements → List Tag
order_rows m = map (λ p. Order p) (range_with_len 1 (m.size - 1))

-- all rows, in row order
abbrev pub rows : Judgements → List Tag
rows m = lower_rows m ++ zero_rows m ++ cross_rows m ++ order_rows m

-- the scale w over n satisfies the constraint of a row
abbrev pub RowHolds : Judgements → List ℤ → ℤ → Tag → Type 0
RowHolds m w n (Lower p q) = (n *ℤ pos (range_at m p q).lo) ≤ℤ difference w p q
RowHolds m w n (Zero p q) = difference w p q ≤ℤ pos 0
RowHolds m w n (Cross p q x y) = (n *ℤ (pos (range_at m p q).lo -ℤ pos (range_at m x y).hi)) ≤ℤ (difference w p q -ℤ difference w x y)
RowHolds m w n (Order p) = pos 0 ≤ℤ difference w p (p + 1)

-- tag is the first row in row order that the scale fails
pub record IsFirstFailing (m : Judgements) (w : List ℤ) (n : ℤ) (tag : Tag) : Type 0 where
  pub before : List Tag
  pub after : List Tag
  pub stands : rows m ≡ before ++ tag ∷ after
  pub hold : AllByRecursion (RowHolds m w n) before
  pub fails : ¬ RowHolds m w n tag

-- what is to be answered for a scale
abbrev pub IsFit : Judgements → List ℤ → ℤ → Fit → Type 0
IsFit m w n Meets = IsMetBy m w n
IsFit m w n (Fails tag) = IsFirstFailing m w n tag

-- the positions of a tag are those of n elements
abbrev pub IsTagAmong : ℕ → Tag → Type 0
IsTagAmong n (Lower p q) = IsPair n p q
IsTagAmong n (Zero p q) = IsPair n p q
IsTagAmong n (Cross p q x y) = IsPair n p q × IsPair n x y
IsTagAmong n (Order p) = (1 ≤ p) × (p < n)

-- and so are those of the row that is named
abbrev pub IsFitAmong : ℕ → Fit → Type 0
IsFitAmong n Meets = Unit {0}
IsFitAmong n (Fails tag) = IsTagAmong n tag
