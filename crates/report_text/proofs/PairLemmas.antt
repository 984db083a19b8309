-- Lists side by side, and the number of pairs.
use Rattle.std.proofs.Common.{◌≡◌, ℕ, zero, suc, ◌+◌, ◌-◌, ◌≤◌, List, [], ◌∷◌, ◌++◌, length, take, drop, map, refl, sym, ap, ap₂, ◌∙◌, arith, length-append, ℤ}
use Rattle.std.proofs.lemmas.List.{length-map}
use Rattle.std.specs.List.{zip, flat_map}
use Rattle.std.proofs.lemmas.Grind.{flat_map-append}
use Rattle.judgement_matrix.specs.Matrix.{pairs, pairs_before}
use Rattle.judgement_matrix.proofs.PlaceLemmas.{length-pairs}
use Rattle.report_text.specs.Matrices.{pairs_of, step_words}

-- as many as each of two lists side by side
pub length_beside : {A B C : Type 0} (f : A × B → C) (xs : List A) (ys : List B) → length ys ≡ length xs → length (map f (zip xs ys)) ≡ length xs
length_beside f [] [] h = refl
length_beside f [] (y ∷ ys) h = refl
length_beside f (x ∷ xs) [] h = absurd (omega (arith, h))
length_beside f (x ∷ xs) (y ∷ ys) h = omega (arith, length_beside f xs ys (omega (arith, h)))

-- two lists, one behind the other, beside one list
pub zip-append : {A B : Type 0} (xs ys : List A) (zs : List B) → length xs ≤ length zs
    → zip (xs ++ ys) zs ≡ zip xs (take (length xs) zs) ++ zip ys (drop (length xs) zs)
zip-append [] ys zs h = refl
zip-append (x ∷ xs) ys [] h = absurd (omega (arith, h))
zip-append (x ∷ xs) ys (z ∷ zs) h = ap (λ l. (x, z) ∷ l) (zip-append xs ys zs (omega (arith, h)))

-- the pairs with the first element, and the others
pub upper_pairs : (upper : List ℕ) (lowers : List (List ℕ)) (steps : List ℤ) → length steps ≡ length (pairs_of (upper ∷ lowers))
    → flat_map step_words (zip (pairs_of (upper ∷ lowers)) steps)
    ≡ flat_map step_words (zip (map (λ lower. (upper, lower)) lowers) (take (length lowers) steps)) ++ flat_map step_words (zip (pairs_of lowers) (drop (length lowers) steps))
upper_pairs upper lowers steps each =
    let firsts = map (λ (lower : List ℕ). (upper, lower)) lowers in
    let many : length firsts ≡ length lowers = length-map lowers (λ lower. (upper, lower)) in
    let all : length (pairs_of (upper ∷ lowers)) ≡ length firsts + length (pairs_of lowers) = length-append firsts (pairs_of lowers) in
    ap (λ l. flat_map step_words l) (zip-append firsts (pairs_of lowers) steps (omega (arith, each, all)))
    ∙ flat_map-append step_words (zip firsts (take (length firsts) steps)) (zip (pairs_of lowers) (drop (length firsts) steps))
    ∙ ap (λ n. flat_map step_words (zip firsts (take n steps)) ++ flat_map step_words (zip (pairs_of lowers) (drop n steps))) many

-- the same by the parts of steps
pub steps_next : (names : List (List ℕ)) (upper : List ℕ) (lowers : List (List ℕ)) (steps first others : List ℤ) → names ≡ upper ∷ lowers
    → length steps ≡ length (pairs_of names) → first ≡ take (length lowers) steps → others ≡ drop (length lowers) steps
    → flat_map step_words (zip (pairs_of names) steps)
    ≡ flat_map step_words (zip (map (λ lower. (upper, lower)) lowers) first) ++ flat_map step_words (zip (pairs_of lowers) others)
steps_next names upper lowers steps first others is each front back =
    ap (λ ns. flat_map step_words (zip (pairs_of ns) steps)) is ∙ upper_pairs upper lowers steps (each ∙ ap (λ ns. length (pairs_of ns)) is)
    ∙ ap₂ (λ a b. flat_map step_words (zip (map (λ (lower : List ℕ). (upper, lower)) lowers) a) ++ flat_map step_words (zip (pairs_of lowers) b))
    (sym front) (sym back)

-- the pairs with the first element are as many as the others
pub pairs_left : {A : Type 0} (names : List A) (upper : A) (lowers : List A) → names ≡ upper ∷ lowers
    → length (pairs_of names) ≡ length lowers + length (pairs_of lowers)
pairs_left {A} names upper lowers is =
    ap (λ (ns : List A). length (pairs_of ns)) is ∙ length-append (map (λ (lower : A). (upper, lower)) lowers) (pairs_of lowers)
    ∙ ap (λ n. n + length (pairs_of lowers)) (length-map lowers (λ (lower : A). (upper, lower)))

-- one element more has all others below it
pairs_before_more : (n k : ℕ) → pairs_before (suc n) (suc k) ≡ n + pairs_before n k
pairs_before_more n zero = omega arith
pairs_before_more n (suc k) = omega (arith, pairs_before_more n k)

counted : {A : Type 0} (xs : List A) → length (pairs_of xs) ≡ pairs_before (length xs) (length xs - 1)
counted [] = refl
counted (x ∷ []) = refl
counted (x ∷ y ∷ ys) =
    let below : length (pairs_of (y ∷ ys)) ≡ pairs_before (suc (length ys)) (length ys) = counted (y ∷ ys) ∙ ap (pairs_before (suc (length ys))) (omega arith) in
    let all : length (y ∷ ys) + length (pairs_of (y ∷ ys)) ≡ pairs_before (suc (suc (length ys))) (suc (length ys)) =
    omega (arith, below, pairs_before_more (suc (length ys)) (length ys)) in
    let last : suc (length ys) ≡ length (x ∷ y ∷ ys) - 1 = omega arith in
    pairs_left (x ∷ y ∷ ys) x (y ∷ ys) refl ∙ all ∙ ap (pairs_before (suc (suc (length ys)))) last

-- the number of pairs
pub pair_count : {A : Type 0} (xs : List A) → length (pairs_of xs) ≡ length (pairs (length xs))
pair_count xs = counted xs ∙ sym (length-pairs (length xs))
