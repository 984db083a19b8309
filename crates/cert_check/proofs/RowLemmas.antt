-- The rows of a matrix by their tags: which tags are theirs, and where each stands.
use Rattle.std.specs.Prelude.{nat_lt, nat_le, ◌==◌, Some, slice_get, Contains}
use Rattle.std.specs.List.{AllByRecursion, filter, flat_map, position_or_len}
use Rattle.std.proofs.Common.{◌≡◌, inl, inr, ℕ, zero, suc, ◌<◌, ◌≤◌, Bool, true, false, List, [], ◌∷◌, ◌++◌, length, get_or, map, sym, ap, subst, ◌∙◌, arith}
use Rattle.std.proofs.lemmas.Bool.{cases_lt}
use Rattle.std.proofs.lemmas.Bool.Decides.{nat_tests}
use Rattle.std.proofs.lemmas.List.{length-map, get_or-map}
use Rattle.std.proofs.lemmas.List.Elements.{Contains-append_left, Contains-append_right}
use Rattle.std.proofs.lemmas.List.Sums.{passes_at_first, fails_before_first}
use Rattle.std.proofs.lemmas.Option.{get_or_from_slice_get, slice_get_within}
use Rattle.integers.proofs.Lists.{Contains-filter}
use Rattle.judgement_matrix.specs.Matrix.{Judgements, IsPair, pairs, place, range_at}
use Rattle.judgement_matrix.specs.Rows.{lower_rows, zero_rows, cross_rows, lower_rows_of, zero_rows_of, cross_rows_under, cross_rows_of}
use Rattle.judgement_matrix.specs.declared.tag.Tag.{Tag}
use Rattle.judgement_matrix.specs.declared.tag.Tag.TheVariants.{Lower, Zero, Cross, Order}
use Rattle.judgement_matrix.proofs.EveryLemmas.{every-append, every-map, every-filter, every-flat_map, every-pairs}
use Rattle.judgement_matrix.proofs.PlaceLemmas.{slice_get-place}
use Rattle.lp_macbeth.specs.Rows.{judged_rows}
use Rattle.cert_check.specs.Places.{is_same_tag}
use Rattle.cert_check.specs.Refuting.{IsRowOf}

-- ---- each row's tag says of its ranges what makes it a row

zero_is : (n : ℕ) → (n == 0) ≡ true → n ≡ 0
zero_is n h = grind (arith, nat_tests)

one_is : (n : ℕ) → nat_le 1 n ≡ true → 1 ≤ n
one_is n h = grind (arith, nat_tests)

less_is : (m n : ℕ) → nat_lt m n ≡ true → m < n
less_is m n h = grind (arith, nat_tests)

some_pairs : (n : ℕ) (P : ℕ × ℕ → Type 0) (test : ℕ × ℕ → Bool) → ((p q : ℕ) → IsPair n p q → test (p, q) ≡ true → P (p, q))
    → AllByRecursion P (filter test (pairs n))
some_pairs n P test h = every-filter P test (pairs n) (every-pairs n (λ p q. test (p, q) ≡ true → P (p, q)) h)

every_is_row : (m : Judgements) → AllByRecursion (IsRowOf m) (judged_rows m)
every_is_row m =
    let R : Tag → Type 0 = IsRowOf m in
    let lower : AllByRecursion R (lower_rows_of m (pairs m.size)) =
    every-map R (λ (pair : ℕ × ℕ). Lower pair.0 pair.1) _ (some_pairs m.size (λ pair. R (Lower pair.0 pair.1)) _ (λ p q h e. (h, one_is _ e))) in
    let zeros : AllByRecursion R (zero_rows_of m (pairs m.size)) =
    every-map R (λ (pair : ℕ × ℕ). Zero pair.0 pair.1) _ (some_pairs m.size (λ pair. R (Zero pair.0 pair.1)) _ (λ p q h e. (h, zero_is _ e))) in
    let cross : AllByRecursion R (cross_rows_of m (pairs m.size) (pairs m.size)) =
    every-flat_map R _ (pairs m.size) (every-pairs m.size (λ p q. AllByRecursion R (cross_rows_under m (p, q) (pairs m.size)))
    (λ p q h. every-map R (λ (right : ℕ × ℕ). Cross p q right.0 right.1) _
    (some_pairs m.size (λ right. R (Cross p q right.0 right.1)) _ (λ x y k e. (h, k, less_is _ _ e))))) in
    every-append R _ _ (every-append R _ _ lower zeros) cross

at_row : {X : Type 0} (P : X → Type 0) (xs : List X) (k : ℕ) (x d : X) → AllByRecursion P xs → k < length xs → get_or xs k d ≡ x → P x
at_row P [] k x d h below e = absurd (omega arith)
at_row P (y ∷ xs) zero x d h below e = subst P e h.0
at_row P (y ∷ xs) (suc k) x d h below e = at_row P xs k x d h.1 (omega arith) e

pub IsRowOf-listed : (m : Judgements) (tag : Tag) → Contains (judged_rows m) tag → IsRowOf m tag
IsRowOf-listed m tag c = at_row (IsRowOf m) (judged_rows m) c.0 tag tag (every_is_row m) c.1 c.2

pub IsRowOf-at : (m : Judgements) (k : ℕ) (tag : Tag) → slice_get (judged_rows m) k ≡ Some tag → IsRowOf m tag
IsRowOf-at m k tag e =
    at_row (IsRowOf m) (judged_rows m) k tag tag (every_is_row m) (slice_get_within (judged_rows m) k tag e) (get_or_from_slice_get (judged_rows m) k tag tag e)

-- ---- and each such tag is listed

mapped : {X Y : Type 0} (f : X → Y) (xs : List X) (x : X) → Contains xs x → Contains (map f xs) (f x)
mapped f xs x c =
    (c.0, subst (λ n. c.0 < n) (sym (length-map xs f)) c.1, get_or-map f xs c.0 x (f x) c.1 ∙ ap f c.2)

concatenated : {X Y : Type 0} (f : X → List Y) (xs : List X) (k : ℕ) (x d : X) (y : Y) → k < length xs → get_or xs k d ≡ x → Contains (f x) y → Contains (flat_map f xs) y
concatenated f [] k x d y below e c = absurd (omega arith)
concatenated f (z ∷ xs) zero x d y below e c =
    Contains-append_left (f z) (flat_map f xs) y (subst (λ w. Contains (f w) y) (sym e) c)
concatenated f (z ∷ xs) (suc k) x d y below e c =
    Contains-append_right (f z) (flat_map f xs) y (concatenated f xs k x d y (omega arith) e c)

one_yes : (n : ℕ) → 1 ≤ n → nat_le 1 n ≡ true
one_yes n h = grind (arith, nat_tests)

zero_yes : (n : ℕ) → n ≡ 0 → (n == 0) ≡ true
zero_yes n h = grind (arith, nat_tests)

less_yes : (m n : ℕ) → m < n → nat_lt m n ≡ true
less_yes m n h = grind (arith, nat_tests)

pair_listed : (n p q : ℕ) → IsPair n p q → Contains (pairs n) (p, q)
pair_listed n p q h =
    let e = slice_get-place n p q h in
    (place n p q, slice_get_within (pairs n) (place n p q) (p, q) e, get_or_from_slice_get (pairs n) (place n p q) (p, q) (p, q) e)

pub listed-IsRowOf : (m : Judgements) (tag : Tag) → IsRowOf m tag → Contains (judged_rows m) tag
listed-IsRowOf m (Lower p q) h =
    let test = λ (pair : ℕ × ℕ). nat_le 1 (range_at m pair.0 pair.1).lo in
    let c = Contains-filter test (pairs m.size) (p, q) (pair_listed m.size p q h.0) (one_yes _ h.1) in
    Contains-append_left (lower_rows m ++ zero_rows m) (cross_rows m) (Lower p q)
    (Contains-append_left (lower_rows m) (zero_rows m) (Lower p q) (mapped (λ (pair : ℕ × ℕ). Lower pair.0 pair.1) _ (p, q) c))
listed-IsRowOf m (Zero p q) h =
    let test = λ (pair : ℕ × ℕ). (range_at m pair.0 pair.1).hi == 0 in
    let c = Contains-filter test (pairs m.size) (p, q) (pair_listed m.size p q h.0) (zero_yes _ h.1) in
    Contains-append_left (lower_rows m ++ zero_rows m) (cross_rows m) (Zero p q)
    (Contains-append_right (lower_rows m) (zero_rows m) (Zero p q) (mapped (λ (pair : ℕ × ℕ). Zero pair.0 pair.1) _ (p, q) c))
listed-IsRowOf m (Cross p q x y) h =
    let left : ℕ × ℕ = (p, q) in
    let test = λ (right : ℕ × ℕ). nat_lt (range_at m right.0 right.1).hi (range_at m p q).lo in
    let c = Contains-filter test (pairs m.size) (x, y) (pair_listed m.size x y h.1) (less_yes _ _ h.2) in
    let at = pair_listed m.size p q h.0 in
    Contains-append_right (lower_rows m ++ zero_rows m) (cross_rows m) (Cross p q x y)
    (concatenated (λ (l : ℕ × ℕ). cross_rows_under m l (pairs m.size)) (pairs m.size) at.0 left left (Cross p q x y) at.1 at.2
    (mapped (λ (right : ℕ × ℕ). Cross p q right.0 right.1) _ (x, y) c))
listed-IsRowOf m (Order p) h = absurd h

-- ---- where a tag stands first

same_tag : (a b : Tag) → is_same_tag a b ≡ true → a ≡ b
same_tag (Lower p q) (Lower x y) e = let i : p ≡ x = grind (arith, nat_tests) in let j : q ≡ y = grind (arith, nat_tests) in cc
same_tag (Lower p q) (Zero x y) e = absurd (cc)
same_tag (Lower p q) (Cross x y v w) e = absurd (cc)
same_tag (Lower p q) (Order x) e = absurd (cc)
same_tag (Zero p q) (Lower x y) e = absurd (cc)
same_tag (Zero p q) (Zero x y) e = let i : p ≡ x = grind (arith, nat_tests) in let j : q ≡ y = grind (arith, nat_tests) in cc
same_tag (Zero p q) (Cross x y v w) e = absurd (cc)
same_tag (Zero p q) (Order x) e = absurd (cc)
same_tag (Cross p q r s) (Lower x y) e = absurd (cc)
same_tag (Cross p q r s) (Zero x y) e = absurd (cc)
same_tag (Cross p q r s) (Cross x y v w) e =
    let i : p ≡ x = grind (arith, nat_tests) in
    let j : q ≡ y = grind (arith, nat_tests) in
    let k : r ≡ v = grind (arith, nat_tests) in
    let l : s ≡ w = grind (arith, nat_tests) in
    cc
same_tag (Cross p q r s) (Order x) e = absurd (cc)
same_tag (Order p) (Lower x y) e = absurd (cc)
same_tag (Order p) (Zero x y) e = absurd (cc)
same_tag (Order p) (Cross x y v w) e = absurd (cc)
same_tag (Order p) (Order x) e = let i : p ≡ x = grind (arith, nat_tests) in cc

pub tag_is_same : (a : Tag) → is_same_tag a a ≡ true
tag_is_same (Lower p q) = grind (arith, nat_tests)
tag_is_same (Zero p q) = grind (arith, nat_tests)
tag_is_same (Cross p q x y) = grind (arith, nat_tests)
tag_is_same (Order p) = grind (arith, nat_tests)

-- a place where the tag stands
pub record Stands (rows : List Tag) (tag : Tag) : Type 0 where
  pub below : position_or_len (is_same_tag tag) rows < length rows
  pub is : get_or rows (position_or_len (is_same_tag tag) rows) (Lower 0 0) ≡ tag

pub Stands-below : (rows : List Tag) (tag : Tag) → position_or_len (is_same_tag tag) rows < length rows → Stands rows tag
Stands-below rows tag below = record {
  below = below;
  is = sym (same_tag tag (get_or rows (position_or_len (is_same_tag tag) rows) (Lower 0 0)) (passes_at_first (is_same_tag tag) rows (Lower 0 0) below));
}

pub Stands-listed : (rows : List Tag) (tag : Tag) → Contains rows tag → Stands rows tag
Stands-listed rows tag c = elim (cases_lt (position_or_len (is_same_tag tag) rows) (length rows)) [
  | inl below ↦ Stands-below rows tag below
  | inr past ↦ absurd (
      let fails = fails_before_first (is_same_tag tag) rows c.0 tag (let b = c.1 in omega arith) in
      let same : is_same_tag tag tag ≡ false = subst (λ t. is_same_tag tag t ≡ false) c.2 fails in
      let yes = tag_is_same tag in
      cc)
]

pub listed-Stands : (rows : List Tag) (tag : Tag) → Stands rows tag → Contains rows tag
listed-Stands rows tag s = subst (Contains rows) s.is (position_or_len (is_same_tag tag) rows, s.below, again)
  where
    again : get_or rows (position_or_len (is_same_tag tag) rows) (get_or rows (position_or_len (is_same_tag tag) rows) (Lower 0 0))
        ≡ get_or rows (position_or_len (is_same_tag tag) rows) (Lower 0 0)
    again = Rattle.std.proofs.lemmas.List.get_or_default rows (position_or_len (is_same_tag tag) rows) (get_or rows (position_or_len (is_same_tag tag) rows) (Lower 0 0)) (Lower 0 0) s.below
