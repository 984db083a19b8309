-- Rows of one length in one list.
use Rattle.std.proofs.Math.Nat.{suc-mul, zero-mul}
use Rattle.std.proofs.Math.Seq.{take-append-add, take-append_seam, drop-append_seam}
use Rattle.std.proofs.lemmas.List.{length-take, length-drop, take-append-drop, drop-drop, append_assoc}
use Rattle.std.proofs.Common.{◌≡◌, ℕ, zero, suc, ◌+◌, ◌*◌, ◌<◌, ◌≤◌, length, get_or, set, map, replicate, take, drop, List, [], ◌∷◌, ◌++◌, refl, sym, ap, ap₂, subst, ◌∙◌, arith}
use Rattle.lex_simplex.specs.Cells.{rows_in, with_part}

-- as many rows as counted
pub length-rows_in : {A : Type 0} (width count : ℕ) (xs : List A) → length (rows_in width count xs) ≡ count
length-rows_in width zero xs = refl
length-rows_in width (suc count) xs = ap suc (length-rows_in width count (drop width xs))

-- a row's numbers begin at its place times the width
pub get_or-rows_in : {A : Type 0} (width count : ℕ) (xs : List A) (i : ℕ) → i < count
    → get_or (rows_in width count xs) i [] ≡ take width (drop (i * width) xs)
get_or-rows_in width zero xs i h = absurd (omega arith)
get_or-rows_in width (suc count) xs zero h = ap (λ n. take width (drop n xs)) (sym (zero-mul width))
get_or-rows_in width (suc count) xs (suc i) h = get_or-rows_in width count (drop width xs) i (omega arith)
    ∙ ap (take width) (drop-drop (i * width) width xs ∙ ap (λ n. drop n xs) (omega (arith, suc-mul i width)))

-- the list has room for a row of each place
pub row_within : (width count i : ℕ) → i < count → i * width + width ≤ count * width
row_within width zero i h = absurd (omega arith)
row_within width (suc count) zero h = omega (arith, zero-mul width, suc-mul count width)
row_within width (suc count) (suc i) h = let rest = row_within width count i (omega arith) in omega (arith, suc-mul i width, suc-mul count width)

-- each row is as long as the width
pub length-row : {A : Type 0} (width count : ℕ) (xs : List A) (i : ℕ) → i < count → length xs ≡ count * width
    → length (get_or (rows_in width count xs) i []) ≡ width
length-row width count xs i h e =
    let room = row_within width count i h in
    ap length (get_or-rows_in width count xs i h) ∙ omega (arith, length-take width (drop (i * width) xs), length-drop (i * width) xs)

-- rows one after the other
pub rows_in-append : {A : Type 0} (width count : ℕ) (xs ys : List A) → length xs ≡ width
    → rows_in width (suc count) (xs ++ ys) ≡ xs ∷ rows_in width count ys
rows_in-append width count xs ys e = subst (λ w. take w (xs ++ ys) ∷ rows_in width count (drop w (xs ++ ys)) ≡ xs ∷ rows_in width count ys) e
    (ap₂ (λ a b. a ∷ rows_in width count b) (take-append_seam xs ys) (drop-append_seam xs ys))

-- other numbers in the place of a row's
pub rows_in-with_part : {A : Type 0} (width count : ℕ) (xs : List A) (i : ℕ) (ys : List A) → i < count → length xs ≡ count * width → length ys ≡ width
    → rows_in width count (with_part xs (i * width) ys) ≡ set (rows_in width count xs) i ys
rows_in-with_part width zero xs i ys h e l = absurd (omega arith)
rows_in-with_part width (suc count) xs zero ys h e l =
    ap (rows_in width (suc count)) (front (0 * width) (zero-mul width)) ∙ rows_in-append width count ys (drop width xs) l
  where
    front : (n : ℕ) → n ≡ 0 → with_part xs n ys ≡ ys ++ drop width xs
    front n z = ap (λ k. with_part xs k ys) z ∙ ap (λ k. ys ++ drop k xs) (omega (arith, l))
rows_in-with_part width (suc count) xs (suc i) ys h e l =
    ap (rows_in width (suc count)) (ap (λ n. with_part xs n ys) (suc-mul i width) ∙ parts)
    ∙ rows_in-append width count (take width xs) (with_part (drop width xs) (i * width) ys) front
    ∙ ap (λ rows. take width xs ∷ rows) (rows_in-with_part width count (drop width xs) i ys (omega arith) rest l)
  where
    rest : length (drop width xs) ≡ count * width
    rest = omega (arith, length-drop width xs, e, suc-mul count width)

    front : length (take width xs) ≡ width
    front = omega (arith, length-take width xs, e, suc-mul count width)

    halves : take width xs ++ drop width xs ≡ xs
    halves = take-append-drop width xs

    first : take (i * width + width) xs ≡ take width xs ++ take (i * width) (drop width xs)
    first = ap₂ (λ n zs. take n zs) (omega (arith, front)) (sym halves) ∙ take-append-add (take width xs) (drop width xs) (i * width)

    last : drop (i * width + width + length ys) xs ≡ drop (i * width + length ys) (drop width xs)
    last = sym (drop-drop (i * width + length ys) width xs ∙ ap (λ k. drop k xs) (omega arith))

    parts : with_part xs (i * width + width) ys ≡ take width xs ++ with_part (drop width xs) (i * width) ys
    parts =
        ap₂ (λ a b. a ++ ys ++ b) first last
        ∙ ap (λ a. a ++ drop (i * width + length ys) (drop width xs)) (append_assoc (take width xs) (take (i * width) (drop width xs)) ys)
        ∙ append_assoc (take width xs) (take (i * width) (drop width xs) ++ ys) (drop (i * width + length ys) (drop width xs))

-- the rows that the numbers are read as
pub record IsGrid {A : Type 0} (width count : ℕ) (cells : List A) (rows : List (List A)) : Type 0 where
  pub is : rows_in width count cells ≡ rows
  pub long : length cells ≡ count * width

-- there are as many rows as counted
pub IsGrid-count : {A : Type 0} (width count : ℕ) (cells : List A) (rows : List (List A)) → IsGrid width count cells rows → count ≡ length rows
IsGrid-count width count cells rows g = sym (length-rows_in width count cells) ∙ ap length g.is

-- a row's numbers are within the list
pub IsGrid-within : {A : Type 0} (width count : ℕ) (cells xs : List A) (rows : List (List A)) (i : ℕ) → IsGrid width count cells rows → xs ≡ cells
    → i < length rows → i * width + width ≤ length xs
IsGrid-within width count cells xs rows i g same h =
    let room = row_within width count i (omega (arith, IsGrid-count width count cells rows g)) in
    omega (arith, ap length same, g.long)

-- they are the row
pub IsGrid-row : {A : Type 0} (width count : ℕ) (cells xs : List A) (rows : List (List A)) (i : ℕ) → IsGrid width count cells rows → xs ≡ cells
    → i < length rows → take width (drop (i * width) xs) ≡ get_or rows i []
IsGrid-row width count cells xs rows i g same h = ap (λ zs. take width (drop (i * width) zs)) same
    ∙ sym (get_or-rows_in width count cells i (omega (arith, IsGrid-count width count cells rows g))) ∙ ap (λ zs. get_or zs i []) g.is

-- each row is as long as the width
pub IsGrid-width : {A : Type 0} (width count : ℕ) (cells : List A) (rows : List (List A)) (i : ℕ) → IsGrid width count cells rows → i < length rows
    → length (get_or rows i []) ≡ width
IsGrid-width width count cells rows i g h = subst (λ zs. length (get_or zs i []) ≡ width) g.is
    (length-row width count cells i (omega (arith, IsGrid-count width count cells rows g)) g.long)

-- with a row's numbers changed the row is
pub IsGrid-set : {A : Type 0} (width count : ℕ) (cells xs : List A) (rows : List (List A)) (i : ℕ) (ys zs : List A) → IsGrid width count cells rows
    → xs ≡ cells → i < length rows → length ys ≡ width → zs ≡ with_part xs (i * width) ys → rows_in width count zs ≡ set rows i ys
IsGrid-set width count cells xs rows i ys zs g same h l is = ap (rows_in width count) (is ∙ ap (λ cs. with_part cs (i * width) ys) same)
    ∙ rows_in-with_part width count cells i ys (omega (arith, IsGrid-count width count cells rows g)) g.long l ∙ ap (λ rs. set rs i ys) g.is

-- the lengths of the rows are all the width
lengths-rows_in : {A : Type 0} (width count : ℕ) (cells : List A) → length cells ≡ count * width
    → map (λ (row : List A). length row) (rows_in width count cells) ≡ replicate count width
lengths-rows_in width zero cells e = refl
lengths-rows_in width (suc count) cells e =
    let total = suc-mul count width in
    let first : length (take width cells) ≡ width = omega (arith, length-take width cells) in
    let rest : length (drop width cells) ≡ count * width = omega (arith, length-drop width cells) in
    ap₂ (λ n ns. n ∷ ns) first (lengths-rows_in width count (drop width cells) rest)

-- other cells of the same number are rows of the same lengths
pub IsGrid-shape : {A : Type 0} (width count : ℕ) (cells : List A) (rows : List (List A)) (new : List A) → IsGrid width count cells rows
    → length new ≡ length cells
    → map (λ (row : List A). length row) (rows_in width count new) ≡ map (λ (row : List A). length row) rows
IsGrid-shape {A} width count cells rows new g same =
    lengths-rows_in width count new (same ∙ g.long)
    ∙ sym (ap (λ (zs : List (List A)). map (λ (row : List A). length row) zs) (sym g.is) ∙ lengths-rows_in width count cells g.long)
