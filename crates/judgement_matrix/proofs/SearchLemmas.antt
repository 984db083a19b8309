-- A search for the first row that fails, which ends at a row that is too wide.
use Rattle.std.proofs.Common.{◌≡◌, ℕ, Bool, true, false, List, [], ◌∷◌, ◌++◌, Option, Some, None, Result, Ok, Err, refl, ap, subst, ◌∙◌, arith}
use Rattle.std.specs.Prelude.{nat_lt}
use Rattle.std.specs.List.{AllByRecursion}
use Rattle.std.proofs.lemmas.Bool.Decides.{nat_tests}
use Rattle.frac128.specs.declared.number.TooWide.{TooWide}
use Rattle.judgement_matrix.specs.Matrix.{Judgements, range_at}
use Rattle.judgement_matrix.specs.Rows.{lower_rows, zero_rows, cross_rows_under, cross_rows, order_rows, rows}
use Rattle.judgement_matrix.specs.Walk.{from_row, first_stop}
use Rattle.judgement_matrix.specs.declared.tag.Tag.{Tag}

-- what is found, or else what is found behind
abbrev pub or_behind : Result (Option Tag) TooWide → Result (Option Tag) TooWide → Result (Option Tag) TooWide
or_behind (Ok None) behind = behind
or_behind (Ok (Some tag)) behind = Ok (Some tag)
or_behind (Err wide) behind = Err wide

from_row-or_behind : (tag : Tag) (r : Result Bool TooWide) (here behind : Result (Option Tag) TooWide)
    → from_row tag (or_behind here behind) r ≡ or_behind (from_row tag here r) behind
from_row-or_behind tag (Ok true) here behind = refl
from_row-or_behind tag (Ok false) here behind = refl
from_row-or_behind tag (Err wide) here behind = refl

-- a search in two lists
pub search_append : (fails : Tag → Result Bool TooWide) (xs ys : List Tag) → first_stop fails (xs ++ ys) ≡ or_behind (first_stop fails xs) (first_stop fails ys)
search_append fails [] ys = refl
search_append fails (x ∷ xs) ys =
    ap (λ s. from_row x s (fails x)) (search_append fails xs ys) ∙ from_row-or_behind x (fails x) (first_stop fails xs) (first_stop fails ys)

-- a search in all rows
pub search_rows : (fails : Tag → Result Bool TooWide) (m : Judgements)
    → first_stop fails (rows m) ≡ or_behind (or_behind (or_behind (first_stop fails (lower_rows m)) (first_stop fails (zero_rows m))) (first_stop fails (cross_rows m))) (first_stop fails (order_rows m))
search_rows fails m =
    search_append fails (lower_rows m ++ zero_rows m ++ cross_rows m) (order_rows m)
    ∙ ap (λ s. or_behind s (first_stop fails (order_rows m))) (search_append fails (lower_rows m ++ zero_rows m) (cross_rows m)
    ∙ ap (λ s. or_behind s (first_stop fails (cross_rows m))) (search_append fails (lower_rows m) (zero_rows m)))

-- what is found is one of the rows
pub search-among : (fails : Tag → Result Bool TooWide) (P : Tag → Type 0) (xs : List Tag) (x : Tag) → AllByRecursion P xs
    → first_stop fails xs ≡ Ok (Some x) → P x
search-among fails P [] x all h = absurd (cc)
search-among fails P (y ∷ xs) x all h = step (fails y) (search-among fails P xs x all.1) h
  where
    step : (r : Result Bool TooWide) → (first_stop fails xs ≡ Ok (Some x) → P x) → from_row y (first_stop fails xs) r ≡ Ok (Some x) → P x
    step (Ok true) later h = let same : y ≡ x = cc in subst P same all.0
    step (Ok false) later h = later h
    step (Err e) later h = absurd (cc)

-- no range lies below one that begins at 0
pub nothing_below : (m : Judgements) (p q : ℕ) (ps : List (ℕ × ℕ)) → (range_at m p q).lo ≡ 0 → cross_rows_under m (p, q) ps ≡ []
nothing_below m p q [] h = refl
nothing_below m p q (pair ∷ ps) h =
    let none : nat_lt (range_at m pair.0 pair.1).hi (range_at m p q).lo ≡ false = grind (arith, nat_tests) in
    rw none (nothing_below m p q ps h)
