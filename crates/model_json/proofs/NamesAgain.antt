-- Names that were written are found where they stood.
use Rattle.std.proofs.Common.{◌≡◌, ℕ, zero, suc, ◌+◌, ◌-◌, ◌<◌, ◌≤◌, arith, take, get_or, slice_get, true, false, List, [], ◌∷◌, ◌++◌, length, map, None, Some, option_map, Ok, refl, sym, ap, subst, ◌∙◌}
use Rattle.std.specs.List.{IsDistinct, AllByRecursion, list_any}
use Rattle.std.specs.Str.{bytes_eq}
use Rattle.std.specs.Cmp.Lexicographic.{nat_list_eq_equiv}
use Rattle.std.proofs.lemmas.List.{get_or_append_left}
use Rattle.std.proofs.lemmas.Map.Keys.{IsDistinct-head, IsDistinct-tail}
use Rattle.std.proofs.lemmas.Option.{slice_get-get_or}
use Rattle.serde_json.specs.Data.{string}
use Rattle.word_table.specs.Words.{AreApart}
use Rattle.word_table.proofs.WordLemmas.{position-map, finds}
use Rattle.judgement_matrix.proofs.EveryLemmas.{every-append_right}
use Rattle.model_core.specs.Lists.{find, AreNamedApart}
use Rattle.model_core.specs.Names.{is_name}
use Rattle.model_core.proofs.RosterLemmas.{find-before}
use Rattle.model_json.specs.declared.place.Place.{Place}
use Rattle.model_json.specs.Steps.{name_at}
use Rattle.model_json.specs.Reading.{place_among}

pub name_again : (at_place : Place) (name : List ℕ) → is_name name ≡ true → name_at at_place (Some (string name)) ≡ Ok name
unfolding name_at
name_again at_place name named = rw named refl

pub get-seam : {X : Type 0} (seen : List X) (x : X) (rest : List X) → slice_get (seen ++ x ∷ rest) (length seen) ≡ Some x
get-seam [] x rest = refl
get-seam (y ∷ seen) x rest = get-seam seen x rest

take-seam : {X : Type 0} (seen rest : List X) → take (length seen) (seen ++ rest) ≡ seen
take-seam [] rest = refl
take-seam (y ∷ seen) rest = ap (λ ys. y ∷ ys) (take-seam seen rest)

get-map : {X Y : Type 0} (f : X → Y) (xs : List X) (i : ℕ) → slice_get (map f xs) i ≡ option_map f (slice_get xs i)
get-map f [] i = refl
get-map f (x ∷ xs) zero = refl
get-map f (x ∷ xs) (suc i) = get-map f xs i

module _ {T : Type 0} (name : T → List ℕ) where
  -- no name before a thing is its name
  pub new_name : (seen : List T) (x : T) (rest all : List T) → seen ++ x ∷ rest ≡ all → AreNamedApart name all → find name seen (name x) ≡ None
  new_name seen x rest all e apart =
      subst (λ ys. find name ys (name x) ≡ None) (take-seam seen (x ∷ rest))
      (find-before name (seen ++ x ∷ rest) (length seen) x (subst (AreNamedApart name) (sym e) apart) (get-seam seen x rest))

  every-front : (P : List ℕ → Type 0) (xs ys : List T) → AllByRecursion P (map name (xs ++ ys)) → AllByRecursion P (map name xs)
  every-front P [] ys h = tt
  every-front P (x ∷ xs) ys h = (h.0, every-front P xs ys h.1)

  apart-front : (xs ys : List T) → AreNamedApart name (xs ++ ys) → AreNamedApart name xs
  unfolding IsDistinct
  apart-front [] ys h = tt
  apart-front (x ∷ xs) ys h = (every-front (λ y. bytes_eq (name x) y ≡ false) xs ys h.0, apart-front xs ys h.1)

  -- the thing at a place is found there by its name
  pub found_there : (xs : List T) (i : ℕ) (d : T) → AreNamedApart name xs → i < length xs → find name xs (name (get_or xs i d)) ≡ Some i
  found_there xs i d apart within =
      let there : slice_get (map name xs) i ≡ Some (name (get_or xs i d)) = get-map name xs i ∙ ap (option_map name) (slice_get-get_or xs i d within) in
      sym (position-map name (bytes_eq (name (get_or xs i d))) xs) ∙ finds (map name xs) (name (get_or xs i d)) i apart there

  -- also among those before another thing
  pub found_before : (seen rest all : List T) (i : ℕ) (d : T) → seen ++ rest ≡ all → AreNamedApart name all → i < length seen
      → find name seen (name (get_or all i d)) ≡ Some i
  found_before seen rest all i d e apart within =
      let front = apart-front seen rest (subst (AreNamedApart name) (sym e) apart) in
      let same : get_or all i d ≡ get_or seen i d = ap (λ ys. get_or ys i d) (sym e) ∙ get_or_append_left seen rest d i within in
      ap (λ y. find name seen (name y)) same ∙ found_there seen i d front within

-- an element is found by its name, which counts from 1
pub place_again : (names : List (List ℕ)) (at : ℕ) → AreApart names → 1 ≤ at → at ≤ length names → place_among names (get_or names (at - 1) []) ≡ Some at
place_again names at apart low high =
    let within : at - 1 < length names = omega arith in
    let same : at - 1 + 1 ≡ at = omega arith in
    ap (option_map (λ i. i + 1)) (finds names (get_or names (at - 1) []) (at - 1) apart (slice_get-get_or names (at - 1) [] within)) ∙ ap Some same

-- no name before another one is that name
pub new_word : (seen : List (List ℕ)) (x : List ℕ) (rest : List (List ℕ)) → AreApart (seen ++ x ∷ rest) → list_any (bytes_eq x) seen ≡ false
new_word [] x rest apart = refl
new_word (y ∷ seen) x rest apart =
    let behind = every-append_right (λ z. bytes_eq y z ≡ false) seen (x ∷ rest) (IsDistinct-head bytes_eq y (seen ++ x ∷ rest) apart) in
    let other : bytes_eq x y ≡ false = nat_list_eq_equiv.symm x y ∙ behind.0 in
    rw other (new_word seen x rest (IsDistinct-tail bytes_eq y (seen ++ x ∷ rest) apart))
