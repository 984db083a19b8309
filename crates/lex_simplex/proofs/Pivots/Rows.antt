-- One row under a pivot: its factors, what it is a multiple of, its numbers place by place.
use lib.IntN.{*ℤ_comm}
use Rattle.std.proofs.Math.Nat.{pos_of_dvd_of_pos}
use Rattle.std.proofs.lemmas.List.{length-set, get_or-set_same, get_or-set_other}
use Rattle.std.proofs.Common.{◌≡◌, ◌≢◌, ℕ, ◌<◌, length, get_or, set, List, [], ◌∷◌, ℤ, pos, ◌-ℤ◌, ◌*ℤ◌, ◌<ℤ◌, unsigned_abs, refl, sym, ap, ap₂, subst, ◌∙◌, arith}
use Rattle.integers.specs.Divisibility.{DividesAll, common_divisor, divisor_of_all}
use Rattle.integers.specs.Vector.{scale, row_step}
use Rattle.integers.proofs.Divisibility.{DividesAll-cons, IsGcdOfAll-divisor_of_all, int_div-mul_cancel, scale-quotients, unsigned_abs_pos}
use Rattle.integers.proofs.Gcd.{IsGcd-common_divisor}
use Rattle.integers.proofs.Laws.{lin}
use Rattle.integers.proofs.Order.{mul_pos, pos_of_mul}
use Rattle.integers.proofs.Ring.{neg, ◌⊖◌, ◌⊗◌, ◌≗◌, ◌✶◌, ◌⇐◌, combine4, combine7, combine9}
use Rattle.integers.proofs.VectorLaws.{length-row_step, length-scale, get_or-row_step, get_or-scale, scale-scale, scale-row_step, scale-set}
use Rattle.lex_simplex.specs.Equations.{IsTableRow}
use Rattle.lex_simplex.specs.Tableau.{TableRow, entry}
use Rattle.lex_simplex.specs.Turn.{row_factor, pivot_factor, stepped_row, reduced_row, next_row}

-- ---- the factors

-- the two factors times the shared divisor are the numbers in the pivot column, and the row's factor is positive
pub next_row-factors : (pivot : TableRow) (e : ℕ) (row : TableRow) → pos 0 <ℤ entry pivot e
    → (g : ℤ) × (pos 0 <ℤ g) × (row_factor pivot e row *ℤ g ≡ entry pivot e) × (pivot_factor pivot e row *ℤ g ≡ entry row e)
    × (pos 0 <ℤ row_factor pivot e row)
next_row-factors pivot e row p =
    let g : ℕ = common_divisor (unsigned_abs (entry pivot e)) (unsigned_abs (entry row e)) in
    let is = IsGcd-common_divisor (unsigned_abs (entry pivot e)) (unsigned_abs (entry row e)) in
    let some : 0 < g = pos_of_dvd_of_pos is.0 (unsigned_abs_pos (entry pivot e) p) in
    let positive : pos 0 <ℤ pos g = omega (arith, lin) in
    let first = *ℤ_comm (row_factor pivot e row) (pos g) ∙ int_div-mul_cancel (entry pivot e) g is.0 in
    let second = *ℤ_comm (pivot_factor pivot e row) (pos g) ∙ int_div-mul_cancel (entry row e) g is.1 in
    (pos g, positive, first, second, pos_of_mul (row_factor pivot e row) (pos g) positive (subst (λ z. pos 0 <ℤ z) (sym first) p))

-- ---- the division

-- a row with a positive denominator is a positive multiple of the reduced one
reduced_row-multiple : (row : TableRow) → pos 0 <ℤ row.den
    → (k : ℤ) × (pos 0 <ℤ k) × (k *ℤ (reduced_row row).den ≡ row.den) × (k *ℤ (reduced_row row).constant ≡ row.constant)
    × (scale k (reduced_row row).coefs ≡ row.coefs)
reduced_row-multiple row p =
    let g : ℕ = divisor_of_all (row.den ∷ row.constant ∷ row.coefs) in
    let all : DividesAll g (row.den ∷ row.constant ∷ row.coefs) = (IsGcdOfAll-divisor_of_all (row.den ∷ row.constant ∷ row.coefs)).0 in
    let first = (DividesAll-cons g row.den (row.constant ∷ row.coefs)).0 all in
    let second = (DividesAll-cons g row.constant row.coefs).0 first.1 in
    let some : 0 < g = pos_of_dvd_of_pos first.0 (unsigned_abs_pos row.den p) in
    (pos g, omega (arith, lin), int_div-mul_cancel row.den g first.0, int_div-mul_cancel row.constant g second.0, scale-quotients g row.coefs second.1)

-- the row before its division is a positive multiple of the row after the pivot
pub next_row-multiple : (pivot : TableRow) (e : ℕ) (row : TableRow) → pos 0 <ℤ entry pivot e → pos 0 <ℤ row.den
    → (k : ℤ) × (pos 0 <ℤ k) × (k *ℤ (next_row pivot e row).den ≡ (stepped_row pivot e row).den)
    × (k *ℤ (next_row pivot e row).constant ≡ (stepped_row pivot e row).constant) × (scale k (next_row pivot e row).coefs ≡ (stepped_row pivot e row).coefs)
next_row-multiple pivot e row p q =
    let f = next_row-factors pivot e row p in
    reduced_row-multiple (stepped_row pivot e row) (mul_pos (row_factor pivot e row) row.den f.4 q)

-- the row after the pivot, times a positive number, is the row step with the numbers of the pivot column themselves
pub next_row-scaled : (pivot : TableRow) (e : ℕ) (row : TableRow) → pos 0 <ℤ entry pivot e → pos 0 <ℤ row.den
    → (c : ℤ) × (pos 0 <ℤ c) × (c *ℤ (next_row pivot e row).den ≡ entry pivot e *ℤ row.den)
    × (c *ℤ (next_row pivot e row).constant ≡ entry pivot e *ℤ row.constant -ℤ entry row e *ℤ pivot.constant)
    × (scale c (next_row pivot e row).coefs ≡ set (row_step (entry pivot e) (entry row e) row.coefs pivot.coefs) e (entry row e *ℤ pivot.den))
next_row-scaled pivot e row pa pd =
    let f = next_row-factors pivot e row pa in
    let m = next_row-multiple pivot e row pa pd in
    let g : ℤ = f.0 in
    let k : ℤ = m.0 in
    let p : ℤ = row_factor pivot e row in
    let q : ℤ = pivot_factor pivot e row in
    let a : ℤ = entry pivot e in
    let b : ℤ = entry row e in
    let next : TableRow = next_row pivot e row in
    let den : (g *ℤ k) *ℤ next.den ≡ a *ℤ row.den = combine7
    (λ g k n p d a z. (g ⊗ k) ⊗ n ≗ a ⊗ d ⇐ g ✶ (k ⊗ n ≗ p ⊗ d) ∷ d ✶ (p ⊗ g ≗ a) ∷ []) refl g k next.den p row.den a a m.2 f.2 in
    let constant : (g *ℤ k) *ℤ next.constant ≡ a *ℤ row.constant -ℤ b *ℤ pivot.constant =
    combine9 (λ g k n p q d e a b. (g ⊗ k) ⊗ n ≗ a ⊗ d ⊖ b ⊗ e ⇐ g ✶ (k ⊗ n ≗ p ⊗ d ⊖ q ⊗ e) ∷ d ✶ (p ⊗ g ≗ a) ∷ neg e ✶ (q ⊗ g ≗ b) ∷ []) refl g k
    next.constant p q row.constant pivot.constant a b m.3 f.2 f.3 in
    let step : List ℤ = row_step p q row.coefs pivot.coefs in
    let corner : g *ℤ (q *ℤ pivot.den) ≡ b *ℤ pivot.den = combine4 (λ g q d b. g ⊗ (q ⊗ d) ≗ b ⊗ d ⇐ d ✶ (q ⊗ g ≗ b) ∷ []) refl g q pivot.den b f.3 in
    let steps : scale g step ≡ row_step a b row.coefs pivot.coefs = scale-row_step g p q row.coefs pivot.coefs
    ∙ ap₂ (λ x y. row_step x y row.coefs pivot.coefs) f.2 f.3 in
    let coefs : scale (g *ℤ k) next.coefs ≡ set (row_step a b row.coefs pivot.coefs) e (b *ℤ pivot.den) = sym (scale-scale g k next.coefs)
    ∙ ap (scale g) m.4 ∙ scale-set g step e (q *ℤ pivot.den) ∙ ap₂ (λ zs z. set zs e z) steps corner in
    (g *ℤ k, mul_pos g k f.1 m.1, den, constant, coefs)

-- ---- the shape

-- the row after the pivot has a positive denominator and as many numbers
pub next_row-fits : (vars : ℕ) (pivot : TableRow) (e : ℕ) (row : TableRow) → pos 0 <ℤ entry pivot e → IsTableRow vars pivot → IsTableRow vars row
    → IsTableRow vars (next_row pivot e row)
next_row-fits vars pivot e row pa hp hr =
    let s = next_row-scaled pivot e row pa hr.den_pos in
    let next : TableRow = next_row pivot e row in
    let step : List ℤ = row_step (entry pivot e) (entry row e) row.coefs pivot.coefs in
    record {
      den_pos = pos_of_mul next.den s.0 s.1 (subst (λ z. pos 0 <ℤ z) (sym s.2 ∙ *ℤ_comm s.0 next.den) (mul_pos (entry pivot e) row.den pa hr.den_pos));
      one_each = omega (
        arith,
        sym (length-scale s.0 next.coefs) ∙ ap length s.4
            ∙ length-set step e (entry row e *ℤ pivot.den),
        length-row_step (entry pivot e) (entry row e) row.coefs pivot.coefs,
        hp.one_each,
        hr.one_each,
      );
    }

-- ---- place by place

-- the row's numbers after the pivot, times a positive number: apart from the pivot column those of the row step, in it the row's own times the pivot
-- row's denominator
pub next_row-entries : (pivot : TableRow) (e : ℕ) (row : TableRow) → pos 0 <ℤ entry pivot e → pos 0 <ℤ row.den → e < length row.coefs
    → (c : ℤ) × (pos 0 <ℤ c) × ((j : ℕ) → j ≢ e → c *ℤ entry (next_row pivot e row) j ≡ entry pivot e *ℤ entry row j -ℤ entry row e *ℤ entry pivot j)
    × (c *ℤ entry (next_row pivot e row) e ≡ entry row e *ℤ pivot.den)
next_row-entries pivot e row pa pd below =
    let s = next_row-scaled pivot e row pa pd in
    let c : ℤ = s.0 in
    let next : TableRow = next_row pivot e row in
    let v : ℤ = entry row e *ℤ pivot.den in
    let step : List ℤ = row_step (entry pivot e) (entry row e) row.coefs pivot.coefs in
    let at : (j : ℕ) → c *ℤ entry next j ≡ get_or (set step e v) j (pos 0) = λ j. sym (get_or-scale c next.coefs j) ∙ ap (λ zs. get_or zs j (pos 0)) s.4 in
    let within : e < length step = omega (arith, length-row_step (entry pivot e) (entry row e) row.coefs pivot.coefs) in (
      c,
      s.1,
      λ j apart. at j ∙ get_or-set_other step e j v (pos 0) apart ∙ get_or-row_step (entry pivot e) (entry row e) row.coefs pivot.coefs j,
      at e
          ∙ get_or-set_same step e v (pos 0) within,
    )
