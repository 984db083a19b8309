-- Texts without a newline, and lists of them.
use Rattle.std.proofs.Common.{◌≡◌, ℕ, zero, suc, ◌/◌, ◌%◌, ◌+◌, ◌==◌, nat_lt, List, [], ◌∷◌, ◌++◌, map, zip, flat_map, replicate, true, false, Bool, not, ℤ, pos, negsuc, refl, ◌∙◌, arith, slice_index_or}
use Rattle.std.specs.Prelude.{if◌then◌else◌}
use Rattle.std.specs.List.{list_all, join_with_byte, AllByRecursion}
use Rattle.std.specs.Fmt.{decimal, signed_decimal, digits, digits_onto, digit_glyph}
use Rattle.std.proofs.lemmas.Bool.{and_parts, and_from}
use Rattle.std.proofs.lemmas.Bool.Decides.{nat_tests}
use Rattle.std.proofs.lemmas.List.Folds.{list_all-append}
use Rattle.report_text.specs.OneLine.{is_line, IsLine}

-- texts one behind the other
pub line-append : (a b : List ℕ) → IsLine a → IsLine b → IsLine (a ++ b)
line-append a b h k = list_all-append (λ byte. not (byte == 10)) a b ∙ and_from (is_line a) (is_line b) h k

-- one of two texts
pub line-cond : (b : Bool) (x y : List ℕ) → IsLine x → IsLine y → IsLine (if b then x else y)
line-cond true x y h k = h
line-cond false x y h k = k

-- a digit
glyph_is : (b : Bool) (d : ℕ) → not ((if b then 48 + d else 87 + d) == 10) ≡ true
glyph_is true d = grind (arith, nat_tests)
glyph_is false d = grind (arith, nat_tests)

onto_line : (k n : ℕ) (acc : List ℕ) → IsLine acc → IsLine (digits_onto k 10 false n acc)
onto_line zero n acc h = h
onto_line (suc k) n acc h =
    let more : IsLine (digit_glyph false (n % 10) ∷ acc) = and_from (not (digit_glyph false (n % 10) == 10)) (is_line acc) (glyph_is (nat_lt (n % 10) 10) (n % 10)) h in
    line-cond (n / 10 == 0) (digit_glyph false (n % 10) ∷ acc) (digits_onto k 10 false (n / 10) (digit_glyph false (n % 10) ∷ acc))
    more (onto_line k (n / 10) (digit_glyph false (n % 10) ∷ acc) more)

-- a number
pub decimal_line : (n : ℕ) → IsLine (decimal n)
unfolding digits
decimal_line n = onto_line 64 n [] refl

pub signed_line : (z : ℤ) → IsLine (signed_decimal z)
signed_line (pos n) = decimal_line n
signed_line (negsuc n) = decimal_line (suc n)

pub zeros_line : (k : ℕ) → IsLine (replicate k 48)
zeros_line zero = refl
zeros_line (suc k) = zeros_line k

-- ---- lists

pub lines_by_test : (xs : List (List ℕ)) → list_all is_line xs ≡ true → AllByRecursion IsLine xs
lines_by_test [] h = tt
lines_by_test (x ∷ xs) h = ((and_parts (is_line x) (list_all is_line xs) h).0, lines_by_test xs (and_parts (is_line x) (list_all is_line xs) h).1)

pub lines-append : (xs ys : List (List ℕ)) → AllByRecursion IsLine xs → AllByRecursion IsLine ys → AllByRecursion IsLine (xs ++ ys)
lines-append [] ys h k = k
lines-append (x ∷ xs) ys h k = (h.0, lines-append xs ys h.1 k)

pub lines-map : {A : Type 0} (P : A → Type 0) (f : A → List ℕ) → ((x : A) → P x → IsLine (f x)) → (xs : List A) → AllByRecursion P xs
    → AllByRecursion IsLine (map f xs)
lines-map P f each [] h = tt
lines-map P f each (x ∷ xs) h = (each x h.0, lines-map P f each xs h.1)

pub lines-each : {A : Type 0} (f : A → List ℕ) → ((x : A) → IsLine (f x)) → (xs : List A) → AllByRecursion IsLine (map f xs)
lines-each f each [] = tt
lines-each f each (x ∷ xs) = (each x, lines-each f each xs)

pub lines-flat_map : {A : Type 0} (P : A → Type 0) (f : A → List (List ℕ)) → ((x : A) → P x → AllByRecursion IsLine (f x)) → (xs : List A)
    → AllByRecursion P xs → AllByRecursion IsLine (flat_map f xs)
lines-flat_map P f each [] h = tt
lines-flat_map P f each (x ∷ xs) h = lines-append (f x) (flat_map f xs) (each x h.0) (lines-flat_map P f each xs h.1)

pub line-flat_map : {A : Type 0} (P : A → Type 0) (f : A → List ℕ) → ((x : A) → P x → IsLine (f x)) → (xs : List A) → AllByRecursion P xs
    → IsLine (flat_map f xs)
line-flat_map P f each [] h = refl
line-flat_map P f each (x ∷ xs) h = line-append (f x) (flat_map f xs) (each x h.0) (line-flat_map P f each xs h.1)

pub line-flat_each : {A : Type 0} (f : A → List ℕ) → ((x : A) → IsLine (f x)) → (xs : List A) → IsLine (flat_map f xs)
line-flat_each f each [] = refl
line-flat_each f each (x ∷ xs) = line-append (f x) (flat_map f xs) (each x) (line-flat_each f each xs)

pub line-join : (xs : List (List ℕ)) → AllByRecursion IsLine xs → IsLine (join_with_byte 32 xs)
line-join [] h = refl
line-join (x ∷ []) h = h.0
line-join (x ∷ y ∷ xs) h = line-append x (32 ∷ join_with_byte 32 (y ∷ xs)) h.0 (line-join (y ∷ xs) h.1)

-- one of the lines, or none
pub line_at : (xs : List (List ℕ)) (i : ℕ) → AllByRecursion IsLine xs → IsLine (slice_index_or xs i [])
line_at [] i h = refl
line_at (x ∷ xs) zero h = h.0
line_at (x ∷ xs) (suc i) h = line_at xs i h.1

-- what stands beside something else
pub all-zip : {A B : Type 0} (P : A → Type 0) (xs : List A) (ys : List B) → AllByRecursion P xs → AllByRecursion (λ (e : A × B). P e.0) (zip xs ys)
all-zip P [] ys h = tt
all-zip P (x ∷ xs) [] h = tt
all-zip P (x ∷ xs) (y ∷ ys) h = (h.0, all-zip P xs ys h.1)
