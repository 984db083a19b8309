-- Where a word stands among words of which no two are equal.
use Rattle.std.proofs.Common.{◌≡◌, ℕ, zero, suc, ◌+◌, ◌<◌, ◌↔◌, arith, take, get_or, slice_get, Bool, true, false, not, ◌&&◌, ◌||◌, cond, List, [], ◌∷◌, length, map, position, Option, None, Some, is_some, nat_lt, refl, sym, ap, subst, ◌∙◌}
use Rattle.std.specs.List.{IsDistinct, AllByRecursion, list_any, list_all, prefix_len}
use Rattle.std.specs.Str.{bytes_eq}
use Rattle.std.specs.Cmp.Lexicographic.{nat_list_eq_equiv, bytes_decides}
use Rattle.std.proofs.lemmas.Grind.{common_steps}
use Rattle.std.proofs.lemmas.Bool.Decides.{nat_tests}
use Rattle.std.proofs.lemmas.List.{length-map, take_more, take-map, get_or-map}
use Rattle.std.proofs.lemmas.List.Quantifiers.{position-Some}
use Rattle.std.proofs.lemmas.Option.{slice_get_within, get_or_from_slice_get, slice_get-get_or}
use Rattle.std.proofs.lemmas.Map.Keys.{apart_from_distinct, IsDistinct-tail, IsDistinct-push}
use Rattle.word_table.specs.Words.{find_word, AreApart, are_apart}

module _ {A B : Type 0} (f : A → B) where
  prefix_len-map : (p : B → Bool) (xs : List A) → prefix_len p (map f xs) ≡ prefix_len (λ x. p (f x)) xs
  prefix_len-map p [] = refl
  prefix_len-map p (x ∷ xs) = ap (λ n. cond (p (f x)) (1 + n) 0) (prefix_len-map p xs)

  -- where a test of images first passes
  pub position-map : (p : B → Bool) (xs : List A) → position p (map f xs) ≡ position (λ x. p (f x)) xs
  position-map p xs = λ i. cond (nat_lt (prefix_len-map (λ y. not (p y)) xs i) (length-map xs f i)) (Some (prefix_len-map (λ y. not (p y)) xs i)) None

-- a word that is found stands at its place
pub found : (words : List (List ℕ)) (bytes : List ℕ) (place : ℕ) → find_word words bytes ≡ Some place → slice_get words place ≡ Some bytes
found words bytes place is =
    let at = position-Some (bytes_eq bytes) words place bytes is in
    slice_get-get_or words place bytes at.0 ∙ ap Some (sym ((bytes_decides bytes (get_or words place bytes)).0 at.1))

before_all : (words : List (List ℕ)) (bytes : List ℕ) (place : ℕ) → AreApart words → slice_get words place ≡ Some bytes
    → prefix_len (λ word. not (bytes_eq bytes word)) words ≡ place
before_all [] bytes place apart at = cc
before_all (x ∷ xs) bytes zero apart at =
    ap (λ b. cond (not b) (1 + prefix_len (λ word. not (bytes_eq bytes word)) xs) 0) ((bytes_decides bytes x).1 (cc))
before_all (x ∷ xs) bytes (suc i) apart at =
    let within : i < length xs = slice_get_within xs i bytes at in
    let other : bytes_eq x (get_or xs i bytes) ≡ false = apart_from_distinct bytes_eq (x ∷ xs) 0 (suc i) bytes apart (omega arith) (omega arith) in
    let differs : bytes_eq bytes x ≡ false =
    nat_list_eq_equiv.symm bytes x ∙ ap (bytes_eq x) (sym (get_or_from_slice_get xs i bytes bytes at)) ∙ other in
    ap (λ b. cond (not b) (1 + prefix_len (λ word. not (bytes_eq bytes word)) xs) 0) differs
    ∙ ap (λ n. 1 + n) (before_all xs bytes i (IsDistinct-tail bytes_eq x xs apart) at) ∙ omega arith

-- a word at a place is found there
pub finds : (words : List (List ℕ)) (bytes : List ℕ) (place : ℕ) → AreApart words → slice_get words place ≡ Some bytes → find_word words bytes ≡ Some place
finds words bytes place apart at =
    let within : nat_lt place (length words) ≡ true = let in_words = slice_get_within words place bytes at in grind (arith, nat_tests) in
    ap (λ n. cond (nat_lt n (length words)) (Some n) None) (before_all words bytes place apart at)
    ∙ ap (λ b. cond b (Some place) None) within

pub exactly : (words : List (List ℕ)) (bytes : List ℕ) → AreApart words → (place : ℕ) → (find_word words bytes ≡ Some place) ↔ (slice_get words place ≡ Some bytes)
exactly words bytes apart place = (found words bytes place, finds words bytes place apart)

one_more : (a b : ℕ) → nat_lt a b ≡ nat_lt (1 + a) (suc b)
one_more a b = grind (arith, nat_tests)

first_of : (n : ℕ) → true ≡ nat_lt 0 (suc n)
first_of n = grind (arith, nat_tests)

any_found : (p : List ℕ → Bool) (xs : List (List ℕ)) → list_any p xs ≡ nat_lt (prefix_len (λ x. not (p x)) xs) (length xs)
any_found p [] = refl
any_found p (x ∷ xs) = elim (p x) as (λ b. (b || list_any p xs) ≡ nat_lt (cond (not b) (1 + prefix_len (λ y. not (p y)) xs) 0) (suc (length xs))) [
  | true ↦ first_of (length xs)
  | false ↦ any_found p xs ∙ one_more (prefix_len (λ y. not (p y)) xs) (length xs)
]

none_any : (b : Bool) (n : ℕ) → cond b (Some n) None ≡ None → b ≡ false
none_any true n h = cc
none_any false n h = refl

-- one more word that isn't among those before it
pub apart_more : (words : List (List ℕ)) (i : ℕ) (d : List ℕ) → i < length words → AreApart (take i words) → find_word (take i words) (get_or words i d) ≡ None
    → AreApart (take (i + 1) words)
apart_more words i d within apart none =
    let word = get_or words i d in
    let new : list_any (bytes_eq word) (take i words) ≡ false = any_found (bytes_eq word) (take i words) ∙ none_any _ _ none in
    subst AreApart (sym (take_more words i d within)) (IsDistinct-push nat_list_eq_equiv (take i words) word apart new)

-- a word that is among those before it
pub twice : (words : List (List ℕ)) (i : ℕ) (d : List ℕ) (place : ℕ) → i < length words → find_word (take i words) (get_or words i d) ≡ Some place → AreApart words → ⊥
twice words i d place within is apart =
    let at = position-Some (bytes_eq (get_or words i d)) (take i words) place d is in
    let same : bytes_eq (get_or words i d) (get_or (take i words) place d) ≡ true = at.1 in
    let below : place < i = grind (arith, common_steps) in
    let there : get_or (take i words) place d ≡ get_or words place d = grind (arith, common_steps) in
    let other : bytes_eq (get_or words place d) (get_or words i d) ≡ false = apart_from_distinct bytes_eq words place i d apart below within in
    let apart_there : bytes_eq (get_or words i d) (get_or words place d) ≡ false = nat_list_eq_equiv.symm (get_or words i d) (get_or words place d) ∙ other in
    cc

none_from_is_some : (r : Option ℕ) → is_some r ≡ false → r ≡ None
none_from_is_some None h = refl
none_from_is_some (Some x) h = cc

some_from_is_some : (r : Option ℕ) → is_some r ≡ true → (x : ℕ) × (r ≡ Some x)
some_from_is_some None h = cc
some_from_is_some (Some x) h = (x, refl)

-- a look-up among the first of some things goes by their words
pub find_among : {A : Type 0} (f : A → List ℕ) (xs : List A) (i : ℕ) (bytes : List ℕ) → position (λ x. bytes_eq bytes (f x)) (take i xs) ≡ find_word (take i (map f xs)) bytes
find_among f xs i bytes = sym (position-map f (bytes_eq bytes) (take i xs)) ∙ ap (λ ys. find_word ys bytes) (sym (take-map f i xs))

-- the word of the thing at a place
pub word_at : {A : Type 0} (f : A → List ℕ) (xs : List A) (i : ℕ) (d : A) → i < length xs → slice_get (map f xs) i ≡ Some (f (get_or xs i d))
word_at f xs i d within =
    slice_get-get_or (map f xs) i (f d) (subst (λ n. i < n) (sym (length-map xs f)) within) ∙ ap Some (get_or-map f xs i d (f d) within)

both : (a b : Bool) → (a && b) ≡ true → (a ≡ true) × (b ≡ true)
both true b h = (refl, h)
both false b h = cc

none_equal : (x : List ℕ) (xs : List (List ℕ)) → list_all (λ y. not (bytes_eq x y)) xs ≡ true → AllByRecursion (λ y. bytes_eq x y ≡ false) xs
none_equal x [] h = tt
none_equal x (y ∷ ys) h =
    let heads = both (not (bytes_eq x y)) (list_all (λ z. not (bytes_eq x z)) ys) h in
    (is_false (bytes_eq x y) heads.0, none_equal x ys heads.1)
  where
    is_false : (b : Bool) → not b ≡ true → b ≡ false
    is_false true e = cc
    is_false false e = refl

-- the test and what it tests
pub apart_by_test : (words : List (List ℕ)) → are_apart words ≡ true → AreApart words
unfolding IsDistinct
apart_by_test [] h = tt
apart_by_test (x ∷ xs) h =
    let parts = both (list_all (λ y. not (bytes_eq x y)) xs) (are_apart xs) h in
    (none_equal x xs parts.0, apart_by_test xs parts.1)

not_equal : (x : List ℕ) (xs : List (List ℕ)) → AllByRecursion (λ y. bytes_eq x y ≡ false) xs → list_all (λ y. not (bytes_eq x y)) xs ≡ true
not_equal x [] h = refl
not_equal x (y ∷ ys) h = ap (λ b. not b && list_all (λ z. not (bytes_eq x z)) ys) h.0 ∙ not_equal x ys h.1

pub test_by_apart : (words : List (List ℕ)) → AreApart words → are_apart words ≡ true
unfolding IsDistinct
test_by_apart [] h = refl
test_by_apart (x ∷ xs) h = ap (λ b. b && are_apart xs) (not_equal x xs h.0) ∙ test_by_apart xs h.1

-- a step of the check: whether the next word is among those before it
module _ {A : Type 0} (f : A → List ℕ) (xs : List A) (i : ℕ) (d : A) (within : i < length xs) (bytes : List ℕ) (is : bytes ≡ f (get_or xs i d)) (r : Option ℕ)
    (among : r ≡ position (λ x. bytes_eq bytes (f x)) (take i xs)) where
  in_words : i < length (map f xs)
  in_words = subst (λ n. i < n) (sym (length-map xs f)) within

  among_words : find_word (take i (map f xs)) (get_or (map f xs) i (f d)) ≡ r
  among_words = ap (find_word (take i (map f xs))) (get_or-map f xs i d (f d) within ∙ sym is) ∙ sym (find_among f xs i bytes) ∙ sym among

  pub next_apart : is_some r ≡ false → AreApart (take i (map f xs)) → AreApart (take (i + 1) (map f xs))
  next_apart none apart = apart_more (map f xs) i (f d) in_words apart (among_words ∙ none_from_is_some r none)

  pub next_twice : is_some r ≡ true → AreApart (map f xs) → ⊥
  next_twice some apart =
      let at = some_from_is_some r some in
      twice (map f xs) i (f d) at.0 in_words (among_words ∙ at.1) apart
