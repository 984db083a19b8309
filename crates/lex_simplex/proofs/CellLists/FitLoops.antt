-- What is left of a loop's numbers, or of its rows, fits where the next one and the rest do.
use Rattle.std.proofs.lemmas.List.{get_or_default}
use Rattle.std.proofs.Common.{◌≡◌, ◌↔◌, ℕ, zero, suc, ◌+◌, ◌<◌, length, get_or, map, take, drop, List, [], ◌∷◌, ◌++◌, ℤ, pos, sym, subst, subst₂, ◌∙◌, arith, add-one}
use Rattle.integers.specs.Vector.{row_step}
use Rattle.integers.proofs.Loops.{map_front-was, step_front-was}
use Rattle.lex_simplex.specs.Steps.{CellFits, StepFits, ExchangeFits, ExchangesFit, exchanged_row}

-- ---- the numbers of a row

-- the row step of what is left fits where its first number and the rest of it do
pub StepFits-drop : (p q : ℤ) (xs ys : List ℤ) (i : ℕ) → i < length xs → i < length ys
    → StepFits p q (drop i xs) (drop i ys) ↔ (CellFits p q (get_or xs i (pos 0)) (get_or ys i (pos 0)) × StepFits p q (drop (suc i) xs) (drop (suc i) ys))
StepFits-drop p q [] ys i h k = absurd (omega arith)
StepFits-drop p q (x ∷ xs) [] i h k = absurd (omega arith)
StepFits-drop p q (x ∷ xs) (y ∷ ys) zero h k = (λ f. f, λ f. f)
StepFits-drop p q (x ∷ xs) (y ∷ ys) (suc i) h k = StepFits-drop p q xs ys i (omega arith) (omega arith)

-- a loop's step: the numbers read at the place
pub StepFits-next : (p q : ℤ) (xs ys now : List ℤ) (i : ℕ) (x y : ℤ) → i < length now → i < length xs → i < length ys
    → now ≡ row_step p q (take i xs) (take i ys) ++ drop i xs → x ≡ get_or now i x → y ≡ get_or ys i y
    → StepFits p q (drop i xs) (drop i ys) ↔ (CellFits p q x y × StepFits p q (drop (i + 1) xs) (drop (i + 1) ys))
StepFits-next p q xs ys now i x y l h k is read other =
    subst₂ (λ a b. StepFits p q (drop i xs) (drop i ys) ↔ (CellFits p q a b × StepFits p q (drop (i + 1) xs) (drop (i + 1) ys)))
    (sym (step_front-was p q xs ys now i x l h k is read)) (sym (other ∙ get_or_default ys i y (pos 0) k))
    (subst (λ n. StepFits p q (drop i xs) (drop i ys) ↔ (CellFits p q (get_or xs i (pos 0)) (get_or ys i (pos 0))
    × StepFits p q (drop n xs) (drop n ys))) (sym (add-one i)) (StepFits-drop p q xs ys i h k))

-- ---- rows

-- what is left fits where its first row and the rest do
ExchangesFit-drop : (number : ℤ) (place : ℕ) (pivot : List ℤ) (rows : List (List ℤ)) (i : ℕ) → i < length rows
    → ExchangesFit number place pivot (drop i rows) ↔ (ExchangeFits number place pivot (get_or rows i [])
    × ExchangesFit number place pivot (drop (suc i) rows))
ExchangesFit-drop number place pivot [] i h = absurd (omega arith)
ExchangesFit-drop number place pivot (row ∷ rows) zero h = (λ f. f, λ f. f)
ExchangesFit-drop number place pivot (row ∷ rows) (suc i) h = ExchangesFit-drop number place pivot rows i (omega arith)

-- the same for the rows as they are now
pub ExchangesFit-next : (number : ℤ) (place : ℕ) (pivot : List ℤ) (rows now : List (List ℤ)) (i : ℕ) → i < length rows
    → now ≡ map (exchanged_row number place pivot) (take i rows) ++ drop i rows
    → ExchangesFit number place pivot (drop i rows) ↔ (ExchangeFits number place pivot (get_or now i [])
    × ExchangesFit number place pivot (drop (i + 1) rows))
ExchangesFit-next number place pivot rows now i h is = subst (λ n. ExchangesFit number place pivot (drop i rows)
    ↔ (ExchangeFits number place pivot (get_or now i []) × ExchangesFit number place pivot (drop n rows))) (sym (add-one i))
    (subst (λ row. ExchangesFit number place pivot (drop i rows)
    ↔ (ExchangeFits number place pivot row × ExchangesFit number place pivot (drop (suc i) rows)))
    (sym (map_front-was (exchanged_row number place pivot) rows now i [] is)) (ExchangesFit-drop number place pivot rows i h))
