-- What a lawful shift leaves: the moved cells, a matrix, and each shift between no shift and it.
use Rattle.std.proofs.Common.{◌≡◌, inl, inr, ℕ, zero, suc, ◌+◌, ◌<◌, ◌≤◌, ℤ, pos, negsuc, ◌+ℤ◌, ◌-ℤ◌, ◌≤ℤ◌, unsigned_abs, to_z, of_z, w8, Bool, true, false, List, [], ◌∷◌, length, get_or, set, take, All, refl, sym, ap, ap₂, subst, subst₂, ◌∙◌, arith, add-one}
use Rattle.std.proofs.lemmas.List.Elements.{All-head, All-tail, All-nil, All-cons, All-get_or}
use Rattle.std.proofs.lemmas.Int.{to_z-of_z, fits_signed_from_abs}
use Rattle.integers.proofs.Laws.{lin}
use Rattle.integers.proofs.Order.{le_antisymm}
use Rattle.integers.proofs.Divisibility.{pos-unsigned_abs}
use Rattle.judgement_matrix.specs.Range.{Bounds, IsRange, bounds, full}
use Rattle.judgement_matrix.specs.Matrix.{Judgements, IsCell, IsMatrix, IsPair, place, range_at, cell_at}
use Rattle.judgement_matrix.specs.Repair.{IsLawfulStep, AreLawfulSteps, IsLawfulShift, IsStepBetween, IsBetween, step_at, moved, moved_cell, moved_cells, shifted}
use Rattle.judgement_matrix.proofs.PlaceLemmas.{place-below}

-- ---- lawful

pub lawful_length : (cells : List (Bounds × Bool)) (s : List ℤ) → AreLawfulSteps cells s → length s ≡ length cells
lawful_length [] [] h = refl
lawful_length [] (x ∷ s) h = absurd h
lawful_length (c ∷ cells) [] h = absurd h
lawful_length (c ∷ cells) (x ∷ s) h = ap suc (lawful_length cells s h.1)

pub lawful_at : (cells : List (Bounds × Bool)) (s : List ℤ) (i : ℕ) (d : Bounds × Bool) → AreLawfulSteps cells s → i < length cells
    → IsLawfulStep (get_or cells i d) (get_or s i (pos 0))
lawful_at [] s i d h below = absurd (omega arith)
lawful_at (c ∷ cells) [] i d h below = absurd h
lawful_at (c ∷ cells) (x ∷ s) zero d h below = h.0
lawful_at (c ∷ cells) (x ∷ s) (suc i) d h below = lawful_at cells s i d h.1 (omega arith)

pub cell_moved : (cells : List (Bounds × Bool)) (s : List ℤ) (i : ℕ) (d : Bounds × Bool) → AreLawfulSteps cells s → i < length cells
    → get_or (moved_cells cells s) i d ≡ moved_cell (get_or cells i d) (get_or s i (pos 0))
cell_moved [] s i d h below = absurd (omega arith)
cell_moved (c ∷ cells) [] i d h below = absurd h
cell_moved (c ∷ cells) (x ∷ s) zero d h below = refl
cell_moved (c ∷ cells) (x ∷ s) (suc i) d h below = cell_moved cells s i d h.1 (omega arith)

-- a judged range may be moved onto one of as many categories
pub step_onto : (from to : Bounds) → IsRange from → IsRange to → from.lo + to.hi ≡ to.lo + from.hi → (1 ≤ from.lo → from.lo < from.hi → 1 ≤ to.lo)
    → IsLawfulStep (from, true) (pos to.lo -ℤ pos from.lo)
step_onto from to a b as_many above = record {
  unjudged = λ e. absurd cc;
  least = omega (arith, lin);
  most = (let top = b.1 in omega (arith, lin, as_many, top));
  positive = λ one several. let high = above one several in omega (arith, lin, high);
}

-- a step between 0 and a lawful one
step_lawful : (c : Bounds × Bool) (s t : ℤ) → IsCell c → IsLawfulStep c t → IsStepBetween s t → IsLawfulStep c s
step_lawful c s t cell h (inl k) = record {
  unjudged = λ e. let none = h.unjudged e in let a = k.0 in let b = subst (λ z. s ≤ℤ z) none k.1 in le_antisymm s (pos 0) b a;
  least = (let a = k.0 in omega (arith, lin, a));
  most = (let a = h.most in let b = k.1 in omega (arith, lin, a, b));
  positive = λ above several. let a = k.0 in omega (arith, lin, a, above);
}
step_lawful c s t cell h (inr k) = record {
  unjudged = λ e. let none = h.unjudged e in let b = subst (λ z. z ≤ℤ s) none k.0 in le_antisymm s (pos 0) k.1 b;
  least = (let a = h.least in let b = k.0 in omega (arith, lin, a, b));
  most = (let a = cell.0.1 in let b = k.1 in omega (arith, lin, a, b));
  positive = λ above several. let a = h.positive above several in let b = k.0 in omega (arith, lin, a, b);
}

pub lawful_between : (cells : List (Bounds × Bool)) (s t : List ℤ) → All IsCell cells → AreLawfulSteps cells t → IsBetween s t → AreLawfulSteps cells s
lawful_between [] [] t are h k = tt
lawful_between [] (x ∷ s) [] are h k = absurd k
lawful_between [] (x ∷ s) (y ∷ t) are h k = absurd h
lawful_between (c ∷ cells) s [] are h k = absurd h
lawful_between (c ∷ cells) [] (y ∷ t) are h k = absurd k
lawful_between (c ∷ cells) (x ∷ s) (y ∷ t) are h k =
    (step_lawful c x y (All-head IsCell c cells are) h.0 k.0, lawful_between cells s t (All-tail IsCell c cells are) h.1 k.1)

-- ---- the moved cells

pub pos_moved : (k : ℕ) (s : ℤ) → pos 0 ≤ℤ (pos k +ℤ s) → pos (moved k s) ≡ pos k +ℤ s
pos_moved k s h = pos-unsigned_abs (pos k +ℤ s) h

pub lo_moved : (c : Bounds × Bool) (s : ℤ) → IsLawfulStep c s → pos (moved_cell c s).0.lo ≡ pos c.0.lo +ℤ s
lo_moved c s h = pos_moved c.0.lo s h.least

pub hi_moved : (c : Bounds × Bool) (s : ℤ) → IsCell c → IsLawfulStep c s → pos (moved_cell c s).0.hi ≡ pos c.0.hi +ℤ s
hi_moved c s cell h = pos_moved c.0.hi s (let a = h.least in let b = cell.0.0 in omega (arith, lin, a, b))

not_moved : (k : ℕ) → moved k (pos 0) ≡ k
not_moved k = let d : k + 0 ≡ k = omega arith in d

cell_is : (c : Bounds × Bool) (s : ℤ) → IsCell c → IsLawfulStep c s → IsCell (moved_cell c s)
cell_is c s cell h =
    let lo = lo_moved c s h in
    let hi = hi_moved c s cell h in
    let a = cell.0.0 in
    let b = h.most in (
      (omega (arith, lin, lo, hi, a), omega (arith, lin, hi, b)),
      λ e.
          ap₂ (λ x y. bounds x y) (ap (λ z. moved c.0.lo z) (h.unjudged e) ∙ not_moved c.0.lo) (ap (λ z. moved c.0.hi z) (h.unjudged e) ∙ not_moved c.0.hi) ∙ cell.1 e,
    )

cells_are : (cells : List (Bounds × Bool)) (s : List ℤ) → All IsCell cells → AreLawfulSteps cells s → All IsCell (moved_cells cells s)
cells_are [] s are h = All-nil IsCell
cells_are (c ∷ cells) [] are h = absurd h
cells_are (c ∷ cells) (x ∷ s) are h =
    All-cons IsCell (moved_cell c x) (moved_cells cells s) (cell_is c x (All-head IsCell c cells are) h.0) (cells_are cells s (All-tail IsCell c cells are) h.1)

moved_length : (cells : List (Bounds × Bool)) (s : List ℤ) → length (moved_cells cells s) ≡ length cells
moved_length [] s = refl
moved_length (c ∷ cells) [] = refl
moved_length (c ∷ cells) (x ∷ s) = ap suc (moved_length cells s)

-- a lawful shift of a matrix gives a matrix
pub IsMatrix-shifted : (m : Judgements) (s : List ℤ) → IsMatrix m → IsLawfulShift m s → IsMatrix (shifted m s)
IsMatrix-shifted m s h k = record {
  least = h.least;
  most = h.most;
  each = moved_length m.cells s ∙ h.each;
  cells_are = cells_are m.cells s h.cells_are k;
}

-- what lies between 0 and a lawful shift is lawful
pub IsLawfulShift-between : (m : Judgements) (s t : List ℤ) → IsMatrix m → IsLawfulShift m t → IsBetween s t → IsLawfulShift m s
IsLawfulShift-between m s t h k between = lawful_between m.cells s t h.cells_are k between

-- ---- the pairs of a shifted matrix

module _ (m : Judgements) (s : List ℤ) (p q : ℕ) (h : IsMatrix m) (pair : IsPair m.size p q) (k : IsLawfulShift m s) where
  below : place m.size p q < length m.cells
  below = subst (λ n. place m.size p q < n) (sym h.each) (place-below m.size p q pair)

  pub step_lawful_at : IsLawfulStep (cell_at m p q) (step_at m s p q)
  step_lawful_at = lawful_at m.cells s (place m.size p q) (full, false) k below

  pub cell_at-shifted : cell_at (shifted m s) p q ≡ moved_cell (cell_at m p q) (step_at m s p q)
  cell_at-shifted = cell_moved m.cells s (place m.size p q) (full, false) k below

  cell_is_cell : IsCell (cell_at m p q)
  cell_is_cell = All-get_or IsCell m.cells (place m.size p q) (full, false) below h.cells_are

  pub lo-shifted : pos (range_at (shifted m s) p q).lo ≡ pos (range_at m p q).lo +ℤ step_at m s p q
  lo-shifted = ap (λ (c : Bounds × Bool). pos c.0.lo) cell_at-shifted ∙ lo_moved (cell_at m p q) (step_at m s p q) step_lawful_at

  pub hi-shifted : pos (range_at (shifted m s) p q).hi ≡ pos (range_at m p q).hi +ℤ step_at m s p q
  hi-shifted = ap (λ (c : Bounds × Bool). pos c.0.hi) cell_at-shifted ∙ hi_moved (cell_at m p q) (step_at m s p q) cell_is_cell step_lawful_at

  pub mark-shifted : (cell_at (shifted m s) p q).1 ≡ (cell_at m p q).1
  mark-shifted = ap (λ (c : Bounds × Bool). c.1) cell_at-shifted

  pub positive-shifted : 1 ≤ (range_at m p q).lo → (range_at m p q).lo < (range_at m p q).hi → 1 ≤ (range_at (shifted m s) p q).lo
  positive-shifted above several =
      let a = step_lawful_at.positive above several in
      let b = lo-shifted in
      omega (arith, lin, a, b)

-- ---- cells moved one after the other

pub moved_cells-none : (cells : List (Bounds × Bool)) → moved_cells cells [] ≡ cells
moved_cells-none [] = refl
moved_cells-none (c ∷ cells) = refl

-- a cell that wasn't moved so far
pub get_or-moved_so_far : (cells : List (Bounds × Bool)) (s : List ℤ) (i : ℕ) (d : Bounds × Bool) → get_or (moved_cells cells (take i s)) i d ≡ get_or cells i d
get_or-moved_so_far [] s i d = refl
get_or-moved_so_far (c ∷ cells) [] zero d = refl
get_or-moved_so_far (c ∷ cells) [] (suc i) d = refl
get_or-moved_so_far (c ∷ cells) (x ∷ s) zero d = refl
get_or-moved_so_far (c ∷ cells) (x ∷ s) (suc i) d = get_or-moved_so_far cells s i d

-- one more is moved
pub moved_one_more : (cells : List (Bounds × Bool)) (s : List ℤ) (i : ℕ) (d : Bounds × Bool) → i < length cells → i < length s
    → set (moved_cells cells (take i s)) i (moved_cell (get_or cells i d) (get_or s i (pos 0))) ≡ moved_cells cells (take (suc i) s)
moved_one_more [] s i d in_cells in_s = absurd (omega arith)
moved_one_more (c ∷ cells) [] i d in_cells in_s = absurd (omega arith)
moved_one_more (c ∷ cells) (x ∷ s) zero d in_cells in_s = ap (λ l. moved_cell c x ∷ l) (sym (moved_cells-none cells))
moved_one_more (c ∷ cells) (x ∷ s) (suc i) d in_cells in_s = ap (λ l. moved_cell c x ∷ l) (moved_one_more cells s i d (omega arith) (omega arith))

-- a lawful step is a small number
small : (s : ℤ) (lo hi : ℕ) → lo ≤ 6 → pos 0 ≤ℤ (pos lo +ℤ s) → (pos hi +ℤ s) ≤ℤ pos 6 → unsigned_abs s < 128
small (pos n) lo hi most a b = omega (arith, lin, a, b, most)
small (negsuc n) lo hi most a b = omega (arith, lin, a, b, most)

kept_as_byte : (c : Bounds × Bool) (s : ℤ) → IsCell c → IsLawfulStep c s → to_z w8 (of_z w8 s) ≡ s
kept_as_byte c s cell h =
    to_z-of_z w8 s (fits_signed_from_abs w8 s (small s c.0.lo c.0.hi (let a = cell.0.0 in let b = cell.0.1 in omega arith) h.least h.most))

-- a step of the loop that moves cells
module _ (old now : List (Bounds × Bool)) (s : List ℤ) (i : ℕ) (are : All IsCell old) (h : AreLawfulSteps old s) (in_s : i < length s)
    (so_far : now ≡ moved_cells old (take i s)) where
  in_old : i < length old
  in_old = subst (λ n. i < n) (lawful_length old s h) in_s

  pub place_in_cells : i < length now
  place_in_cells = subst (λ n. i < n) (sym (ap length so_far ∙ moved_length old (take i s))) in_old

  module _ (x : Bounds × Bool) (read : x ≡ get_or now i x) where
    was : x ≡ get_or old i x
    was = read ∙ ap (λ l. get_or l i x) so_far ∙ get_or-moved_so_far old s i x

    number : to_z w8 (of_z w8 (get_or s i (pos 0))) ≡ get_or s i (pos 0)
    number = kept_as_byte (get_or old i x) (get_or s i (pos 0)) (All-get_or IsCell old i x in_old are) (lawful_at old s i x h in_old)

    pub step_at_place : IsLawfulStep x (to_z w8 (of_z w8 (get_or s i (pos 0))))
    step_at_place = subst₂ (λ c z. IsLawfulStep c z) (sym was) (sym number) (lawful_at old s i x h in_old)

    pub set_at_place : (y : Bounds × Bool) → y ≡ moved_cell x (to_z w8 (of_z w8 (get_or s i (pos 0)))) → set now i y ≡ moved_cells old (take (i + 1) s)
    set_at_place y done =
        ap₂ (λ l z. set l i z) so_far (done ∙ ap₂ (λ c z. moved_cell c z) was number) ∙ moved_one_more old s i x in_old in_s
        ∙ ap (λ n. moved_cells old (take n s)) (sym (add-one i))
