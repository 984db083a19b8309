-- Weights of pairs of elements, each a category with a number, and how the pairs that begin at a category take weight
-- off those that end below it.
use Rattle.std.specs.Prelude.{ℕ, zero, suc, ◌-◌, ◌==◌, Bool, cond, nat_le, nat_lt, ◌&&◌, unsigned_abs, ℤ, List, [], ◌∷◌, ◌++◌, map, filter, get_or, set, drop}
use Rattle.judgement_matrix.specs.Range.{Bounds}
use Rattle.judgement_matrix.specs.Matrix.{Judgements, pairs, range_at}
use Rattle.lp_macbeth.specs.declared.kinds.Kind.{Kind}
use Rattle.lp_macbeth.specs.declared.kinds.Kind.TheVariants.{At, High, Zero, Below}

-- ---- the weights of rows

-- each of these entries put at its place
abbrev pub with_entries : List ℕ → List (ℕ × ℤ) → List ℕ
with_entries weights [] = weights
with_entries weights (e ∷ on) = with_entries (set weights e.0 (unsigned_abs e.1)) on

-- whether a pair with this range has a row of the kind
abbrev pub has_row : Kind → Bounds → Bool
has_row At range = nat_le 1 range.lo
has_row High range = nat_le 2 range.lo
has_row Zero range = range.hi == 0
has_row Below range = nat_le 1 range.hi && nat_le range.hi 5

-- the category that such a row speaks of
abbrev pub category_of : Kind → Bounds → ℕ
category_of At range = range.lo
category_of High range = range.lo
category_of Zero range = range.hi
category_of Below range = range.hi

-- the next weight for each range that has a row of the kind, and 0 for each other
abbrev pub spread : Kind → List Bounds → List ℕ → List (ℕ × ℕ)
spread kind [] weights = []
spread kind (range ∷ ranges) weights = (category_of kind range, cond (has_row kind range) (get_or weights 0 0) 0)
    ∷ spread kind ranges (cond (has_row kind range) (drop 1 weights) weights)

-- the weights that are left then
abbrev pub after_spread : Kind → List Bounds → List ℕ → List ℕ
after_spread kind [] weights = weights
after_spread kind (range ∷ ranges) weights =
    after_spread kind ranges (cond (has_row kind range) (drop 1 weights) weights)

-- ---- passing

-- what an amount comes to when each weight of a category is taken off it in order, as far as it goes
abbrev pub left_after : ℕ → ℕ → List (ℕ × ℕ) → ℕ
left_after category amount [] = amount
left_after category amount (x ∷ xs) = left_after category (cond (x.0 == category) (amount - x.1) amount) xs

-- what these weights come to then
abbrev pub rests_after : ℕ → ℕ → List (ℕ × ℕ) → List (ℕ × ℕ)
rests_after category amount [] = []
rests_after category amount (x ∷ xs) = (x.0, cond (x.0 == category) (x.1 - amount) x.1)
    ∷ rests_after category (cond (x.0 == category) (amount - x.1) amount) xs

-- an amount and weights, when all categories below one had their turns, the highest first
abbrev pub passed : ℕ → ℕ × List (ℕ × ℕ) → ℕ × List (ℕ × ℕ)
passed zero state = state
passed (suc category) state =
    passed category (left_after category state.0 state.1, rests_after category state.0 state.1)

-- what the weights below a category lost
abbrev pub lost : ℕ → List (ℕ × ℕ) → List (ℕ × ℕ) → List ℕ
lost category [] ys = []
lost category (x ∷ xs) [] = []
lost category (x ∷ xs) (y ∷ ys) = cond (nat_lt x.0 category) ((x.1 - y.1) ∷ lost category xs ys) (lost category xs ys)

-- each amount in its turn: what is left of those at 1 or above
abbrev pub lefts : List (ℕ × ℕ) → List (ℕ × ℕ) → List ℕ
lefts [] xs = []
lefts (at ∷ ats) xs = cond (nat_le 1 at.0) ((passed at.0 (at.1, xs)).0 ∷ lefts ats (passed at.0 (at.1, xs)).1)
    (lefts ats (passed at.0 (at.1, xs)).1)

-- and what it took off the weights below its category
abbrev pub takings : List (ℕ × ℕ) → List (ℕ × ℕ) → List ℕ
takings [] xs = []
takings (at ∷ ats) xs = lost at.0 xs (passed at.0 (at.1, xs)).1 ++ takings ats (passed at.0 (at.1, xs)).1

-- the weights at category 0
abbrev pub at_zero : List (ℕ × ℕ) → List ℕ
at_zero xs = map (λ x. x.1) (filter (λ x. x.0 == 0) xs)

-- ---- a certificate's weights, carried

-- the range of each pair
abbrev pub ranges : Judgements → List Bounds
ranges m = map (λ pair. range_at m pair.0 pair.1) (pairs m.size)

-- the weights of the matrix's own rows, given those of the threshold problem
abbrev pub own_weights : List Bounds → List ℕ → List ℕ
own_weights ranges weights =
    let after_at : List ℕ = after_spread At ranges weights in
    let ats : List (ℕ × ℕ) = spread At ranges weights in
    let belows : List (ℕ × ℕ) = spread Below ranges (after_spread Zero ranges after_at) in
    lefts ats belows ++ at_zero (spread Zero ranges after_at) ++ takings ats belows

-- ---- the same for a closed problem

-- so many weights from the front, 0 where there are no more
abbrev pub first_weights : ℕ → List ℕ → List ℕ
first_weights zero weights = []
first_weights (suc n) weights = get_or weights 0 0 ∷ first_weights n (drop 1 weights)

-- the weights of a closed problem's rows, given those of its threshold form: what is left of the pairs that begin at a
-- category is dropped, and so are the steps; the weights of so many rows behind them stay
abbrev pub closed_weights : List Bounds → ℕ → List ℕ → List ℕ
closed_weights ranges named weights =
    let after_high : List ℕ = after_spread High ranges weights in
    let after_zero : List ℕ = after_spread Zero ranges after_high in
    at_zero (spread Zero ranges after_high) ++ takings (spread High ranges weights) (spread Below ranges after_zero)
    ++ first_weights named (drop 4 (after_spread Below ranges after_zero))
