-- What lies between no shift and another: at each pair, in all, and one step further.
use Rattle.std.proofs.Common.{◌≡◌, inl, inr, ℕ, zero, suc, ◌+◌, ◌<◌, ◌≤◌, ℤ, pos, negsuc, ◌+ℤ◌, ◌≤ℤ◌, unsigned_abs, List, [], ◌∷◌, length, get_or, set, replicate, refl, ap, ap₂, arith}
use Rattle.integers.proofs.Laws.{lin}
use Rattle.judgement_matrix.specs.Repair.{IsStepBetween, IsBetween, shift_total}

zero_between : IsStepBetween (pos 0) (pos 0)
zero_between = inl (omega (arith, lin), omega (arith, lin))

pub between_at : (s t : List ℤ) (i : ℕ) → IsBetween s t → IsStepBetween (get_or s i (pos 0)) (get_or t i (pos 0))
between_at [] [] i h = zero_between
between_at [] (y ∷ t) i h = absurd h
between_at (x ∷ s) [] i h = absurd h
between_at (x ∷ s) (y ∷ t) zero h = h.0
between_at (x ∷ s) (y ∷ t) (suc i) h = between_at s t i h.1

pub between_set : (s t : List ℤ) (i : ℕ) (v : ℤ) → IsBetween s t → i < length s → IsStepBetween v (get_or t i (pos 0)) → IsBetween (set s i v) t
between_set [] t i v h below k = absurd (omega arith)
between_set (x ∷ s) [] i v h below k = absurd h
between_set (x ∷ s) (y ∷ t) zero v h below k = (k, h.1)
between_set (x ∷ s) (y ∷ t) (suc i) v h below k = (h.0, between_set s t i v h.1 (omega arith) k)

pub between_length : (s t : List ℤ) → IsBetween s t → length s ≡ length t
between_length [] [] h = refl
between_length [] (y ∷ t) h = absurd h
between_length (x ∷ s) [] h = absurd h
between_length (x ∷ s) (y ∷ t) h = ap suc (between_length s t h.1)

-- nothing lies between nothing and any shift
zero_step : (t : ℤ) → IsStepBetween (pos 0) t
zero_step (pos n) = inl (omega (arith, lin), omega (arith, lin))
zero_step (negsuc n) = inr (omega (arith, lin), omega (arith, lin))

pub zeros_between : (t : List ℤ) → IsBetween (replicate (length t) (pos 0)) t
zeros_between [] = tt
zeros_between (x ∷ t) = (zero_step x, zeros_between t)

pub zeros_total : (n : ℕ) → shift_total (replicate n (pos 0)) ≡ 0
zeros_total zero = refl
zeros_total (suc n) = let h = zeros_total n in omega (arith, h)

-- ---- totals

abs_le : (s t : ℤ) → IsStepBetween s t → unsigned_abs s ≤ unsigned_abs t
abs_le (pos a) (pos b) (inl h) = (let k = h.1 in omega (arith, lin))
abs_le (pos a) (pos b) (inr h) = (let k = h.1 in omega (arith, lin))
abs_le (pos a) (negsuc b) (inl h) = (let k = h.1 in omega (arith, lin))
abs_le (pos a) (negsuc b) (inr h) = (let k = h.1 in omega (arith, lin))
abs_le (negsuc a) (pos b) (inl h) = (let k = h.0 in omega (arith, lin))
abs_le (negsuc a) (pos b) (inr h) = (let k = h.0 in omega (arith, lin))
abs_le (negsuc a) (negsuc b) (inl h) = (let k = h.0 in omega (arith, lin))
abs_le (negsuc a) (negsuc b) (inr h) = (let k = h.0 in omega (arith, lin))

abs_same : (s t : ℤ) → IsStepBetween s t → unsigned_abs s ≡ unsigned_abs t → s ≡ t
abs_same (pos a) (pos b) h e = ap pos e
abs_same (pos a) (negsuc b) (inl h) e = absurd (let k = h.0 in let j = h.1 in omega (arith, lin))
abs_same (pos a) (negsuc b) (inr h) e = absurd (let k = h.1 in let d : a ≡ suc b = e in omega (arith, lin))
abs_same (negsuc a) (pos b) (inl h) e = absurd (let k = h.0 in omega (arith, lin))
abs_same (negsuc a) (pos b) (inr h) e = absurd (let k = h.0 in omega (arith, lin))
abs_same (negsuc a) (negsuc b) h e = (let d : suc a ≡ suc b = e in ap negsuc (omega arith))

pub total_le : (s t : List ℤ) → IsBetween s t → shift_total s ≤ shift_total t
total_le [] [] h = omega arith
total_le [] (y ∷ t) h = absurd h
total_le (x ∷ s) [] h = absurd h
total_le (x ∷ s) (y ∷ t) h = let a = abs_le x y h.0 in let b = total_le s t h.1 in omega arith

pub total_same : (s t : List ℤ) → IsBetween s t → shift_total s ≡ shift_total t → s ≡ t
total_same [] [] h e = refl
total_same [] (y ∷ t) h e = absurd h
total_same (x ∷ s) [] h e = absurd h
total_same (x ∷ s) (y ∷ t) h e =
    let a = abs_le x y h.0 in
    let b = total_le s t h.1 in
    ap₂ (λ (z : ℤ) (l : List ℤ). z ∷ l) (abs_same x y h.0 (omega arith)) (total_same s t h.1 (omega arith))

-- one step further
pub down_abs : (x : ℤ) → x ≤ℤ pos 0 → unsigned_abs (x +ℤ negsuc 0) ≡ suc (unsigned_abs x)
down_abs (pos zero) h = refl
down_abs (pos (suc n)) h = absurd (omega (arith, lin))
down_abs (negsuc n) h = let d : n + 0 ≡ n = omega arith in ap (λ k. suc (suc k)) d

pub up_abs : (x : ℤ) → pos 0 ≤ℤ x → unsigned_abs (x +ℤ pos 1) ≡ suc (unsigned_abs x)
up_abs (pos n) h = let d : n + 1 ≡ suc n = omega arith in d
up_abs (negsuc n) h = absurd (omega (arith, lin))

pub total_set : (s : List ℤ) (i : ℕ) (v : ℤ) → i < length s → unsigned_abs v ≡ suc (unsigned_abs (get_or s i (pos 0))) → shift_total (set s i v) ≡ shift_total s + 1
total_set [] i v below h = absurd (omega arith)
total_set (x ∷ s) zero v below h = omega (arith, h)
total_set (x ∷ s) (suc i) v below h = omega (arith, total_set s i v (omega arith) h)
