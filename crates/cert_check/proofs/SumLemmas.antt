-- The sums over the entries of a certificate, entry by entry.
use Rattle.std.proofs.Common.{◌≡◌, ◌↔◌, ℕ, ◌+◌, ◌<◌, length, drop, List, ◌∷◌, ℤ, pos, ◌+ℤ◌, ◌*ℤ◌, sym, ap, ap₂, subst, ◌∙◌, arith}
use Rattle.std.specs.Prelude.{All, Result, Ok, Err, IsErr, OkIff}
use Rattle.std.proofs.lemmas.List.{drop_more}
use Rattle.std.proofs.lemmas.List.Elements.{All-cons, All-head, All-tail}
use Rattle.integers.specs.Vector.{int_sum}
use Rattle.integers.proofs.Laws.{lin}
use Rattle.frac128.specs.Problem.{row_at}
use Rattle.frac128.specs.Range.{IsInRange}
use Rattle.frac128.specs.declared.problem.Row.{Row}
use Rattle.cert_check.specs.Entries.{entry_at, products_on, added_in_turn}

-- what is formed where a number and others are added to s
fits-cons : (s x : ℤ) (xs : List ℤ) → All IsInRange (added_in_turn s (x ∷ xs)) ↔
    ((IsInRange x × IsInRange (s +ℤ x)) × All IsInRange (added_in_turn (s +ℤ x) xs))
fits-cons s x xs =
    let rest : List ℤ = added_in_turn (s +ℤ x) xs in (
      (λ all. let tail = All-tail IsInRange x ((s +ℤ x) ∷ rest) all in
          ((All-head IsInRange x ((s +ℤ x) ∷ rest) all, All-head IsInRange (s +ℤ x) rest tail), All-tail IsInRange (s +ℤ x) rest tail)),
      (λ parts. All-cons IsInRange x ((s +ℤ x) ∷ rest) parts.0.0 (All-cons IsInRange (s +ℤ x) rest parts.0.1 parts.1)),
    )

-- the sum of the products of the entries before a place, where what is formed for it is in range
pub record IsSumBefore (number : Row → ℤ) (rows : List Row) (on : List (ℕ × ℤ)) (i : ℕ) (s : ℤ) : Type 0 where
  pub sum_is : int_sum (products_on number rows on) ≡ s +ℤ int_sum (products_on number rows (drop i on))
  pub fits : All IsInRange (added_in_turn (pos 0) (products_on number rows on)) ↔ All IsInRange (added_in_turn s (products_on number rows (drop i on)))

-- the product of an entry, and the sum with it
pub record IsNextProduct (number : Row → ℤ) (rows : List Row) (on : List (ℕ × ℤ)) (i : ℕ) (m x : ℤ) : Type 0 where
  pub entry : i < length on
  pub multiplier : m ≡ (entry_at on i).1
  pub number_is : x ≡ number (row_at rows (entry_at on i).0)

-- the sum and what is formed, entry by entry
sum-step : (number : Row → ℤ) (rows : List Row) (on : List (ℕ × ℤ)) (i : ℕ) (m x : ℤ) → IsNextProduct number rows on i m x
    → products_on number rows (drop i on) ≡ (m *ℤ x) ∷ products_on number rows (drop (i + 1) on)
sum-step number rows on i m x h =
    ap (λ rest. products_on number rows rest) (drop_more on i (0, pos 0) h.entry)
    ∙ ap₂ (λ m x. (m *ℤ x) ∷ products_on number rows (drop (i + 1) on)) (sym h.multiplier) (sym h.number_is)

-- with the next entry
pub IsSumBefore-next : (number : Row → ℤ) (rows : List Row) (on : List (ℕ × ℤ)) (i : ℕ) (s m x : ℤ) → IsNextProduct number rows on i m x
    → IsInRange (m *ℤ x) × IsInRange (s +ℤ m *ℤ x) → IsSumBefore number rows on i s → IsSumBefore number rows on (i + 1) (s +ℤ m *ℤ x)
IsSumBefore-next number rows on i s m x h fit so_far =
    let rest : List ℤ = products_on number rows (drop (i + 1) on) in
    let step = sum-step number rows on i m x h in
    let is : int_sum (products_on number rows on) ≡ s +ℤ (m *ℤ x +ℤ int_sum rest) = so_far.sum_is ∙ ap (λ xs. s +ℤ int_sum xs) step in
    let before = subst (λ xs. All IsInRange (added_in_turn (pos 0) (products_on number rows on)) ↔ All IsInRange (added_in_turn s xs)) step so_far.fits in
    record {
      sum_is = omega (arith, lin);
      fits = ((λ all. ((fits-cons s (m *ℤ x) rest).0 (before.0 all)).1), (λ all. before.1 ((fits-cons s (m *ℤ x) rest).1 (fit, all))));
    }

-- where the next product or the sum with it is out of range
pub IsSumBefore-wide : (number : Row → ℤ) (rows : List Row) (on : List (ℕ × ℤ)) (i : ℕ) (s m x : ℤ) → IsNextProduct number rows on i m x
    → ¬ (IsInRange (m *ℤ x) × IsInRange (s +ℤ m *ℤ x)) → IsSumBefore number rows on i s → ¬ All IsInRange (added_in_turn (pos 0) (products_on number rows on))
IsSumBefore-wide number rows on i s m x h wide so_far all =
    let step = sum-step number rows on i m x h in
    let left = subst (λ xs. All IsInRange (added_in_turn s xs)) step (so_far.fits.0 all) in
    wide ((fits-cons s (m *ℤ x) (products_on number rows (drop (i + 1) on))).0 left).0

-- an answer that is a refusal, where the fact doesn't hold
pub OkIff-refused : {T E : Type 0} (r : Result T E) (P : Type 0) (v : T) → IsErr r → ¬ P → OkIff r P v
OkIff-refused (Ok x) P v refused h = absurd (cc)
OkIff-refused (Err e) P v refused h = h
