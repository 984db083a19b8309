-- A pivot keeps the columns independent over the variables' rows.
use lib.IntN.{*ℤ_comm, *ℤ-zero}
use Rattle.std.proofs.lemmas.List.{length-set, get_or-set_same, get_or-set_other}
use Rattle.std.proofs.lemmas.List.Elements.{All-nil, All-cons, All-head, All-tail, All-get_or}
use Rattle.std.proofs.Common.{◌≡◌, ◌≢◌, ℕ, ◌<◌, length, get_or, set, map, List, [], ◌∷◌, ℤ, pos, ◌+ℤ◌, ◌-ℤ◌, ◌*ℤ◌, ◌<ℤ◌, refl, sym, ap, ap₂, ◌∙◌, arith}
use Rattle.std.specs.Prelude.{All}
use Rattle.integers.specs.Vector.{dot, scale, row_step, AreZero}
use Rattle.integers.proofs.Laws.{lin}
use Rattle.integers.proofs.Order.{zero_of_mul}
use Rattle.integers.proofs.Ring.{con, neg, ◌⊕◌, ◌⊖◌, ◌⊗◌, ◌≗◌, ◌✶◌, ◌⇐◌, combine9}
use Rattle.integers.proofs.Vector.{dot-scale, dot-scale_right, dot-row_step, dot-set, dot-set_right}
use Rattle.integers.proofs.VectorLaws.{length-scale, length-row_step, get_or-scale, get_or-row_step}
use Rattle.integers.proofs.Zeros.{AreZero-from_others, dot-AreZero}
use Rattle.lex_simplex.specs.Equations.{IsTableRow}
use Rattle.lex_simplex.specs.Tableau.{TableRow, entry}
use Rattle.lex_simplex.specs.Turn.{next_row}
use Rattle.lex_simplex.proofs.Pivots.Rows.{next_row-scaled}

-- the step in the columns before the pivot, for a step in the columns after it, times the pivot
abbrev pub step_before : TableRow → ℕ → List ℤ → List ℤ
step_before pivot e d = set (scale (entry pivot e) d) e (pivot.den *ℤ get_or d e (pos 0) -ℤ dot pivot.coefs (set d e (pos 0)))

-- a row's product with it is a positive multiple of the new row's product
pub dot-step_before : (pivot : TableRow) (e : ℕ) (row : TableRow) (d : List ℤ) → pos 0 <ℤ entry pivot e → pos 0 <ℤ row.den → e < length row.coefs
    → e < length d → (c : ℤ) × (pos 0 <ℤ c) × (dot row.coefs (step_before pivot e d) ≡ c *ℤ dot (next_row pivot e row).coefs d)
dot-step_before pivot e row d pa pd in_row in_d =
    let s = next_row-scaled pivot e row pa pd in
    let next : TableRow = next_row pivot e row in
    let a : ℤ = entry pivot e in
    let b : ℤ = entry row e in
    let x : ℤ = get_or d e (pos 0) in
    let t : ℤ = dot row.coefs d in
    let p : ℤ = dot pivot.coefs d in
    let v : ℤ = pivot.den *ℤ x -ℤ dot pivot.coefs (set d e (pos 0)) in
    let in_scale : e < length (scale a d) = omega (arith, length-scale a d) in
    let rest : dot pivot.coefs (set d e (pos 0)) ≡ p +ℤ (pos 0 -ℤ x) *ℤ a = dot-set_right pivot.coefs d e (pos 0) in_d in
    let left : dot row.coefs (step_before pivot e d) ≡ a *ℤ t +ℤ (v -ℤ a *ℤ x) *ℤ b = dot-set_right row.coefs (scale a d) e v in_scale
    ∙ ap₂ (λ y z. y +ℤ (v -ℤ z) *ℤ b) (dot-scale_right a row.coefs d) (get_or-scale a d e) in
    let step : List ℤ = row_step a b row.coefs pivot.coefs in
    let in_step : e < length step = omega (arith, length-row_step a b row.coefs pivot.coefs) in
    let right : s.0 *ℤ dot next.coefs d ≡ a *ℤ t -ℤ b *ℤ p +ℤ (b *ℤ pivot.den -ℤ (a *ℤ b -ℤ b *ℤ a)) *ℤ x = sym (dot-scale s.0 next.coefs d)
    ∙ ap (λ zs. dot zs d) s.4 ∙ dot-set step d e (b *ℤ pivot.den) in_step
    ∙ ap₂ (λ y z. y +ℤ (b *ℤ pivot.den -ℤ z) *ℤ x) (dot-row_step a b row.coefs pivot.coefs d) (get_or-row_step a b row.coefs pivot.coefs e) in (
      s.0,
      s.1,
      combine9 (λ a b t p x R l w y. l ≗ y ⇐ con (pos 1) ✶ (l ≗ a ⊗ t ⊕ ((R ⊗ x ⊖ w) ⊖ a ⊗ x) ⊗ b) ∷ con (pos
          1) ✶ (a ⊗ t ⊖ b ⊗ p ⊕ (b ⊗ R ⊖ (a ⊗ b ⊖ b ⊗ a)) ⊗ x ≗ y) ∷ neg b ✶ (w ≗ p ⊕ (con (pos 0) ⊖ x) ⊗ a) ∷ []) refl a b t p x pivot.den
          (dot row.coefs (step_before pivot e d)) (dot pivot.coefs (set d e (pos 0))) (s.0 *ℤ dot next.coefs d) left (sym right) rest,
    )

-- where the step before the pivot is 0, the step after it is
pub AreZero-from_step_before : (pivot : TableRow) (e : ℕ) (d : List ℤ) → pos 0 <ℤ entry pivot e → pos 0 <ℤ pivot.den → e < length d
    → AreZero (step_before pivot e d) → AreZero d
AreZero-from_step_before pivot e d pa pd below z =
    let a : ℤ = entry pivot e in
    let x : ℤ = get_or d e (pos 0) in
    let v : ℤ = pivot.den *ℤ x -ℤ dot pivot.coefs (set d e (pos 0)) in
    let wide : length (step_before pivot e d) ≡ length d = length-set (scale a d) e v ∙ length-scale a d in
    let at : (j : ℕ) → j < length d → get_or (step_before pivot e d) j (pos 0) ≡ pos 0 =
    λ j l. All-get_or (λ y. y ≡ pos 0) (step_before pivot e d) j (pos 0) (omega arith) z in
    let others : (j : ℕ) → j < length d → j ≢ e → get_or d j (pos 0) ≡ pos 0 =
    λ j l apart. zero_of_mul (get_or d j (pos 0)) a pa (*ℤ_comm (get_or d j (pos 0)) a ∙ sym (get_or-scale a d j)
    ∙ sym (get_or-set_other (scale a d) e j v (pos 0) apart) ∙ at j l) in
    let rest : AreZero (set d e (pos 0)) = AreZero-from_others (set d e (pos 0)) e (λ j l apart. get_or-set_other d e j (pos 0) (pos 0) apart
    ∙ others j (omega (arith, length-set d e (pos 0))) apart) (get_or-set_same d e (pos 0) (pos 0) below) in
    let none = dot-AreZero pivot.coefs (set d e (pos 0)) rest in
    let here : v ≡ pos 0 = sym (get_or-set_same (scale a d) e v (pos 0) (omega (arith, length-scale a d))) ∙ at e below in
    AreZero-from_others d e others (zero_of_mul x pivot.den pd (*ℤ_comm x pivot.den ∙ omega (arith, lin)))

-- columns that are independent over the rows are so over the rows after the pivot
pub next_rows-independent : (vars : ℕ) (pivot : TableRow) (e : ℕ) (rows : List TableRow) → pos 0 <ℤ entry pivot e → pos 0 <ℤ pivot.den → e < vars
    → All (IsTableRow vars) rows → ((d : List ℤ) → length d ≡ vars → All (λ (row : TableRow). dot row.coefs d ≡ pos 0) rows → AreZero d) → (d : List ℤ)
    → length d ≡ vars → All (λ (row : TableRow). dot row.coefs d ≡ pos 0) (map (next_row pivot e) rows) → AreZero d
next_rows-independent vars pivot e rows pa pd below fit independent d wide z =
    AreZero-from_step_before pivot e d pa pd (omega arith)
    (independent (step_before pivot e d) (length-set (scale (entry pivot e) d) e (pivot.den *ℤ get_or d e (pos 0) -ℤ dot pivot.coefs (set d e (pos 0)))
    ∙ length-scale (entry pivot e) d ∙ wide) (each rows fit z))
  where
    each : (rows : List TableRow) → All (IsTableRow vars) rows → All (λ (row : TableRow). dot row.coefs d ≡ pos 0) (map (next_row pivot e) rows)
        → All (λ (row : TableRow). dot row.coefs (step_before pivot e d) ≡ pos 0) rows
    each [] fit z = All-nil (λ (row : TableRow). dot row.coefs (step_before pivot e d) ≡ pos 0)
    each (row ∷ rows) fit z =
        let fits = All-head (IsTableRow vars) row rows fit in
        let s = dot-step_before pivot e row d pa fits.den_pos (omega (arith, fits.one_each)) (omega arith) in
        let none = All-head (λ (row : TableRow). dot row.coefs d ≡ pos 0) (next_row pivot e row) (map (next_row pivot e) rows) z in
        All-cons (λ (row : TableRow). dot row.coefs (step_before pivot e d) ≡ pos 0) row rows (s.2 ∙ ap (λ y. s.0 *ℤ y) none
        ∙ *ℤ-zero s.0) (each rows (All-tail (IsTableRow vars) row rows fit)
        (All-tail (λ (row : TableRow). dot row.coefs d ≡ pos 0) (next_row pivot e row) (map (next_row pivot e) rows) z))
