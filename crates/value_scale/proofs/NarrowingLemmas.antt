-- Rows one after another.
use Rattle.std.proofs.Common.{◌≡◌, ℕ, suc, ◌+◌, ◌-◌, ◌<◌, map, arith, List, [], ◌∷◌, ◌++◌, refl, ap, ◌∙◌, Result, Ok, Err}
use Rattle.frac128.specs.Chain.{◌>>=◌}
use Rattle.integers.specs.Fraction.{Fraction}
use Rattle.judgement_matrix.specs.Matrix.{Judgements}
use Rattle.judgement_matrix.specs.Rows.{lower_rows, zero_rows, cross_rows, order_rows, rows}
use Rattle.judgement_matrix.specs.declared.tag.Tag.{Tag}
use Rattle.judgement_matrix.specs.declared.tag.Tag.TheVariants.{Order}
use Rattle.std.specs.List.{range_with_len}
use Rattle.value_scale.specs.Narrowing.{with_row, with_rows}
use Rattle.value_scale.specs.declared.slacks.Interval.{Interval}

bind_assoc : {A B C E : Type 0} (r : Result A E) (f : A → Result B E) (g : B → Result C E) → (r >>= (λ a. (f a) >>= g)) ≡ ((r >>= f) >>= g)
bind_assoc (Ok a) f g = refl
bind_assoc (Err e) f g = refl

bind_same : {A B E : Type 0} (r : Result A E) (f g : A → Result B E) → ((a : A) → f a ≡ g a) → (r >>= f) ≡ (r >>= g)
bind_same (Ok a) f g h = h a
bind_same (Err e) f g h = refl

-- rows in two lists
pub with_rows_append : (m : Judgements) (values : List Fraction) (x : ℕ) (xs ys : List Tag) (i : Interval)
    → with_rows m values x (xs ++ ys) i ≡ ((with_rows m values x xs i) >>= (λ left. with_rows m values x ys left))
with_rows_append m values x [] ys i = refl
with_rows_append m values x (tag ∷ xs) ys i =
    bind_same (with_row m values x tag i) (λ left. with_rows m values x (xs ++ ys) left)
    (λ left. (with_rows m values x xs left) >>= (λ other. with_rows m values x ys other)) (λ left. with_rows_append m values x xs ys left)
    ∙ bind_assoc (with_row m values x tag i) (λ left. with_rows m values x xs left) (λ other. with_rows m values x ys other)

-- all rows
pub with_rows_in_order : (m : Judgements) (values : List Fraction) (x : ℕ) (i : Interval)
    → with_rows m values x (rows m) i ≡ ((((with_rows m values x (lower_rows m) i) >>= (λ a. with_rows m values x (zero_rows m) a)) >>=
    (λ b. with_rows m values x (cross_rows m) b)) >>= (λ c. with_rows m values x (order_rows m) c))
with_rows_in_order m values x i =
    with_rows_append m values x (lower_rows m ++ zero_rows m ++ cross_rows m) (order_rows m) i
    ∙ ap (λ r. r >>= (λ c. with_rows m values x (order_rows m) c))
    (with_rows_append m values x (lower_rows m ++ zero_rows m) (cross_rows m) i
    ∙ ap (λ r. r >>= (λ b. with_rows m values x (cross_rows m) b)) (with_rows_append m values x (lower_rows m) (zero_rows m) i))

-- one order row, and those behind it
pub order_rows_next : (m : Judgements) (values : List Fraction) (x size p : ℕ) (i j : Interval) → p < size → with_row m values x (Order p) i ≡ Ok j
    → with_rows m values x (map (λ p. Order p) (range_with_len p (size - p))) i
    ≡ with_rows m values x (map (λ p. Order p) (range_with_len (p + 1) (size - (p + 1)))) j
order_rows_next m values x size p i j h is =
    let e : size - p ≡ suc (size - (p + 1)) = omega arith in
    rw (e, is) refl
