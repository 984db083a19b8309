-- Ranges of a buffer, and lines without their carriage return.
use Rattle.std.proofs.Common.{◌≡◌, ◌≢◌, ℕ, zero, suc, ◌+◌, ◌-◌, ◌<◌, ◌≤◌, List, [], ◌∷◌, ◌++◌, length, take, drop, get_or, slice_range, refl, sym, ap, ◌∙◌, arith, length-drop, length-take-le, take-take, drop-drop, take_all, take-append-drop, cond, ne_eqb, Some, slice_get}
use Rattle.std.proofs.lemmas.List.{drop-take, take_more}
use Rattle.line_io.specs.Lines.{without_return}

-- a range that begins later
pub drop_range : (xs : List ℕ) (s n e : ℕ) → s + n ≤ e → drop n (slice_range xs s e) ≡ slice_range xs (s + n) e
drop_range xs s n e within =
    let whole : e - s ≡ n + (e - (s + n)) = omega arith in
    ap (λ k. drop n (take k (drop s xs))) whole ∙ drop-take n (e - (s + n)) (drop s xs) ∙ ap (take (e - (s + n))) (drop-drop n s xs)

-- a range that ends earlier
pub take_range : (xs : List ℕ) (s n e : ℕ) → s + n ≤ e → take n (slice_range xs s e) ≡ slice_range xs s (s + n)
take_range xs s n e within =
    let len : n ≡ s + n - s = omega arith in
    take-take n (e - s) (drop s xs) (omega arith) ∙ ap (λ k. take k (drop s xs)) len

-- how long a range is
pub length_range : (xs : List ℕ) (s e : ℕ) → s ≤ e → e ≤ length xs → length (slice_range xs s e) ≡ e - s
length_range xs s e ordered within = length-take-le (e - s) (drop s xs) (omega (arith, length-drop s xs))

-- a range in two parts
pub range-append : (xs : List ℕ) (s m e : ℕ) → s ≤ m → m ≤ e → slice_range xs s e ≡ slice_range xs s m ++ slice_range xs m e
range-append xs s m e low high =
    let whole : s + (m - s) ≡ m = omega arith in
    sym (take-append-drop (m - s) (slice_range xs s e))
    ∙ ap (λ l. l ++ drop (m - s) (slice_range xs s e)) (take_range xs s (m - s) e (omega arith) ∙ ap (slice_range xs s) whole)
    ∙ ap (λ l. slice_range xs s m ++ l) (drop_range xs s (m - s) e (omega arith) ∙ ap (λ k. slice_range xs k e) whole)

-- a carriage return at the end is dropped
pub without_return-push : (xs : List ℕ) → without_return (xs ++ 13 ∷ []) ≡ xs
without_return-push [] = refl
without_return-push (x ∷ []) = refl
without_return-push (x ∷ y ∷ xs) = ap (λ l. x ∷ l) (without_return-push (y ∷ xs))

-- another byte at the end stays
pub without_return-other : (xs : List ℕ) (b : ℕ) → b ≢ 13 → without_return (xs ++ b ∷ []) ≡ xs ++ b ∷ []
without_return-other [] b other = ap (λ t. cond t [] (b ∷ [])) (ne_eqb b 13 other)
without_return-other (x ∷ []) b other = ap (λ l. x ∷ l) (without_return-other [] b other)
without_return-other (x ∷ y ∷ xs) b other = ap (λ l. x ∷ l) (without_return-other (y ∷ xs) b other)

-- a list that isn't empty, by its last element
pub last_split : (xs : List ℕ) (n : ℕ) → length xs ≡ n + 1 → xs ≡ take n xs ++ get_or xs n 0 ∷ []
last_split xs n is = sym (take_all (n + 1) xs (omega arith)) ∙ take_more xs n 0 (omega arith)

-- what is left of a line that ends with a carriage return
pub without_return-drops : (xs : List ℕ) (n : ℕ) → length xs ≡ n + 1 → get_or xs n 0 ≡ 13 → take n xs ≡ without_return xs
without_return-drops xs n is last =
    sym (ap without_return (last_split xs n is ∙ ap (λ b. take n xs ++ b ∷ []) last) ∙ without_return-push (take n xs))

-- what is left of a line that ends with another byte
pub without_return-keeps : (xs : List ℕ) (n : ℕ) → length xs ≡ n + 1 → get_or xs n 0 ≢ 13 → xs ≡ without_return xs
without_return-keeps xs n is other =
    last_split xs n is ∙ sym (without_return-other (take n xs) (get_or xs n 0) other) ∙ ap without_return (sym (last_split xs n is))

-- what a read at a place gives
read_at : (xs : List ℕ) (i b : ℕ) → Some b ≡ slice_get xs i → (i < length xs) × (get_or xs i 0 ≡ b)
read_at [] i b e = absurd (cc)
read_at (x ∷ xs) zero b e = (omega arith, cc)
read_at (x ∷ xs) (suc i) b e = let rest = read_at xs i b e in (omega (arith, rest.0), rest.1)

-- a piece whose last byte is a carriage return
pub line-of_return : (xs : List ℕ) (b : ℕ) → Some b ≡ slice_get xs (length xs - 1) → b ≡ 13 → take (length xs - 1) xs ≡ without_return xs
line-of_return xs b e is =
    let read = read_at xs (length xs - 1) b e in
    without_return-drops xs (length xs - 1) (omega (arith, read.0)) (read.1 ∙ is)

-- a piece whose last byte is another
pub line-of_other : (xs : List ℕ) (b : ℕ) → Some b ≡ slice_get xs (length xs - 1) → b ≢ 13 → take (length xs) xs ≡ without_return xs
line-of_other xs b e other =
    let read = read_at xs (length xs - 1) b e in
    take_all (length xs) xs (omega arith) ∙ without_return-keeps xs (length xs - 1) (omega (arith, read.0)) (λ is. other (sym read.1 ∙ is))

-- a range from the front
pub range_front : (xs : List ℕ) (n : ℕ) → slice_range xs 0 n ≡ take n xs
range_front xs n = ap (λ k. take k xs) {y = n} (omega arith)
