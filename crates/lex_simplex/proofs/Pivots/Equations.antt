-- A pivot keeps the equations of a tableau: the column of the pivot stands for the pivot row's quantity from then on.
use Rattle.std.proofs.lemmas.List.Elements.{All-head, All-tail}
use Rattle.std.proofs.Common.{◌≡◌, ℕ, ◌<◌, length, set, map, List, [], ◌∷◌, ℤ, pos, ◌+ℤ◌, ◌-ℤ◌, ◌*ℤ◌, ◌<ℤ◌, sym, subst, arith}
use Rattle.std.specs.Prelude.{All}
use Rattle.integers.specs.Vector.{dot, row_step}
use Rattle.integers.proofs.Pivot.{pivot_keeps, divided_row}
use Rattle.lex_simplex.specs.Equations.{Holds, AllHold, IsTableRow}
use Rattle.lex_simplex.specs.Tableau.{TableRow, entry}
use Rattle.lex_simplex.specs.Turn.{next_row}
use Rattle.lex_simplex.proofs.Pivots.Rows.{next_row-scaled}

-- a row's equation after the pivot
pub next_row-holds : (pivot : TableRow) (e : ℕ) (row : TableRow) (us : List ℤ) (q r n : ℤ) → pos 0 <ℤ entry pivot e → pos 0 <ℤ row.den
    → e < length row.coefs → e < length us → Holds r us n pivot → Holds q us n row → Holds q (set us e r) n (next_row pivot e row)
next_row-holds pivot e row us q r n pa pd in_row in_us hp h =
    let s = next_row-scaled pivot e row pa pd in
    let next : TableRow = next_row pivot e row in
    let new : List ℤ = set us e r in
    let step : List ℤ = set (row_step (entry pivot e) (entry row e) row.coefs pivot.coefs) e (entry row e *ℤ pivot.den) in
    let kept : (entry pivot e *ℤ row.den) *ℤ q ≡ (entry pivot e *ℤ row.constant -ℤ entry row e *ℤ pivot.constant) *ℤ n +ℤ dot step new =
    pivot_keeps row.coefs pivot.coefs us e row.den q row.constant pivot.den r pivot.constant n in_row in_us h hp in
    let first = subst (λ z. z *ℤ q ≡ (entry pivot e *ℤ row.constant -ℤ entry row e *ℤ pivot.constant) *ℤ n +ℤ dot step new) (sym s.2) kept in
    let second = subst (λ z. (s.0 *ℤ next.den) *ℤ q ≡ z *ℤ n +ℤ dot step new) (sym s.3) first in
    let third = subst (λ zs. (s.0 *ℤ next.den) *ℤ q ≡ (s.0 *ℤ next.constant) *ℤ n +ℤ dot zs new) (sym s.4) second in
    (divided_row next.coefs new s.0 next.den q next.constant n s.1).0 third

-- all rows' equations after the pivot
pub next_rows-hold : (vars : ℕ) (pivot : TableRow) (e : ℕ) (us : List ℤ) (r n : ℤ) → pos 0 <ℤ entry pivot e → e < vars → e < length us → Holds r us n pivot
    → (qs : List ℤ) (rows : List TableRow) → All (IsTableRow vars) rows → AllHold qs us n rows → AllHold qs (set us e r) n (map (next_row pivot e) rows)
next_rows-hold vars pivot e us r n pa below in_us hp [] [] fit h = tt
next_rows-hold vars pivot e us r n pa below in_us hp [] (row ∷ rows) fit h = absurd h
next_rows-hold vars pivot e us r n pa below in_us hp (q ∷ qs) [] fit h = absurd h
next_rows-hold vars pivot e us r n pa below in_us hp (q ∷ qs) (row ∷ rows) fit h =
    let fits = All-head (IsTableRow vars) row rows fit in (
      next_row-holds pivot e row us q r n pa fits.den_pos (omega (arith, fits.one_each)) in_us hp h.0,
      next_rows-hold vars pivot e us r n pa below in_us hp qs rows (All-tail (IsTableRow vars) row rows fit) h.1,
    )
