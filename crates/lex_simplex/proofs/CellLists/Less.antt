-- A row that a loop takes entries off, one after the other.
use Rattle.std.proofs.Math.Seq.{drop-cons}
use Rattle.std.proofs.lemmas.List.{get_or_default, length-set}
use Rattle.std.proofs.Common.{◌≡◌, ◌↔◌, ℕ, ◌+◌, ◌<◌, length, get_or, set, drop, List, ◌∷◌, ℤ, pos, negsuc, ◌+ℤ◌, ◌-ℤ◌, ◌*ℤ◌, ◌^◌, unsigned_abs, refl, sym, ap, ap₂, subst, ◌∙◌, add-one}
use Rattle.integers.proofs.Divisibility.{unsigned_abs-neg}
use Rattle.integers.proofs.Laws.{one-*ℤ, minus_one-*ℤ}
use Rattle.integers.proofs.Ring.{con, ◌⊕◌, ◌⊖◌, ◌⊗◌, ◌≗◌, ring2}
use Rattle.frac128.specs.Range.{IsInRange}
use Rattle.lex_simplex.specs.Steps.{LessFits, row_less}

-- what the loop keeps: what is left to take off gives what all gives, and fits where all does
pub record IsLessSoFar (q : ℤ) (entries : List (ℕ × ℤ)) (k : ℕ) (row now : List ℤ) : Type 0 where
  pub value : row_less q (drop k entries) now ≡ row_less q entries row
  pub fits : LessFits q entries row ↔ LessFits q (drop k entries) now
  pub long : length now ≡ length row

-- the entries that are left begin with the one read
left : (entries : List (ℕ × ℤ)) (k : ℕ) (e : ℕ × ℤ) → k < length entries → e ≡ get_or entries k e → drop k entries ≡ e ∷ drop (k + 1) entries
left entries k e below read = drop-cons entries k e below ∙ ap₂ (λ x n. x ∷ drop n entries) (sym read) (sym (add-one k))

-- where the products and differences of the next one are in range the step can go on
pub IsLessSoFar-next : (q : ℤ) (entries : List (ℕ × ℤ)) (k : ℕ) (row now : List ℤ) (e : ℕ × ℤ) (x z : ℤ)
    → IsLessSoFar q entries k row now → k < length entries → e ≡ get_or entries k e → e.0 < length now → x ≡ get_or now e.0 x
    → IsInRange (q *ℤ e.1) → IsInRange (x -ℤ q *ℤ e.1) → z ≡ x -ℤ q *ℤ e.1 → IsLessSoFar q entries (k + 1) row (set now e.0 z)
IsLessSoFar-next q entries k row now e x z so_far below read within at product difference is = record {
  value = ap (row_less q (drop (k + 1) entries)) changed ∙ sym (ap (λ on. row_less q on now) (left entries k e below read)) ∙ so_far.value;
  fits = (
    λ h. subst (LessFits q (drop (k + 1) entries)) (sym changed) (subst (λ on. LessFits q on now) (left entries k e below read) (so_far.fits.0 h)).2,
    λ h. so_far.fits.1 (subst (λ on. LessFits q on now) (sym (left entries k e below read)) (
      product,
      subst (λ w. IsInRange (w -ℤ q *ℤ e.1)) here difference,
      subst (LessFits q (drop (k + 1) entries)) changed h,
    )),
  );
  long = length-set now e.0 z ∙ so_far.long;
}
  where
    here : x ≡ get_or now e.0 (pos 0)
    here = at ∙ get_or_default now e.0 x (pos 0) within

    changed : set now e.0 z ≡ set now e.0 (get_or now e.0 (pos 0) -ℤ q *ℤ e.1)
    changed = ap (set now e.0) (is ∙ ap (λ w. w -ℤ q *ℤ e.1) here)

-- the step of a loop that takes each entry off once
pub IsLessSoFar-subtract : (entries : List (ℕ × ℤ)) (k : ℕ) (row now : List ℤ) (e : ℕ × ℤ) (x z : ℤ)
    → IsLessSoFar (pos 1) entries k row now → k < length entries → e ≡ get_or entries k e → e.0 < length now → x ≡ get_or now e.0 x
    → IsInRange e.1 → IsInRange (x -ℤ e.1) → z ≡ x -ℤ e.1 → IsLessSoFar (pos 1) entries (k + 1) row (set now e.0 z)
IsLessSoFar-subtract entries k row now e x z so_far below read within at number difference is =
    let one : e.1 ≡ pos 1 *ℤ e.1 = sym (one-*ℤ e.1) in
    IsLessSoFar-next (pos 1) entries k row now e x z so_far below read within at (subst IsInRange one number)
    (subst (λ w. IsInRange (x -ℤ w)) one difference) (is ∙ ap (λ w. x -ℤ w) one)

-- and of one that adds each entry once
pub IsLessSoFar-add : (entries : List (ℕ × ℤ)) (k : ℕ) (row now : List ℤ) (e : ℕ × ℤ) (x z : ℤ)
    → IsLessSoFar (negsuc 0) entries k row now → k < length entries → e ≡ get_or entries k e → e.0 < length now → x ≡ get_or now e.0 x
    → IsInRange e.1 → IsInRange (x +ℤ e.1) → z ≡ x +ℤ e.1 → IsLessSoFar (negsuc 0) entries (k + 1) row (set now e.0 z)
IsLessSoFar-add entries k row now e x z so_far below read within at number sum is =
    let size : unsigned_abs e.1 ≡ unsigned_abs (negsuc 0 *ℤ e.1) = sym (unsigned_abs-neg e.1) ∙ ap unsigned_abs (sym (minus_one-*ℤ e.1)) in
    let same : x +ℤ e.1 ≡ x -ℤ negsuc 0 *ℤ e.1 = ring2 (λ x y. x ⊕ y ≗ x ⊖ con (negsuc 0) ⊗ y) refl x e.1 in
    IsLessSoFar-next (negsuc 0) entries k row now e x z so_far below read within at (subst (λ n. n < 2 ^ 127) size number) (subst IsInRange same sum) (is
    ∙ same)
