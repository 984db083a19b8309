-- What the entries of a map say of the list of its values, where each key has the bytes of its value's name.
use Rattle.std.proofs.Common.{◌≡◌, ℕ, zero, suc, ◌+◌, ◌<◌, arith, add-one, take, drop, get_or, slice_get, Bool, false, not, cond, List, [], ◌∷◌, ◌++◌, length, map, remove, position, Option, None, Some, nat_lt, refl, sym, ap, subst, ◌∙◌, is_some}
use Rattle.std.specs.List.{IsDistinct, AllByRecursion, prefix_len}
use Rattle.std.specs.Cmp.Lexicographic.{nat_list_eq_equiv}
use Rattle.std.proofs.lemmas.Bool.Decides.{nat_tests}
use Rattle.std.proofs.lemmas.Map.Keys.{IsDistinct-head, IsDistinct-tail}
use Rattle.indexmap.specs.Layout.{set_value_at}
use Rattle.std.specs.Map.{keys_of, values_of, lookup}
use Rattle.std.specs.Str.{bytes_eq}
use Rattle.std.proofs.lemmas.List.{map-append}
use Rattle.std.proofs.lemmas.Option.{slice_get_within, get_or_from_slice_get}
use Rattle.std.proofs.lemmas.Simd.{map-map}
use Rattle.indexmap.proofs.SetLemmas.{map-remove}
use Rattle.indexmap.proofs.MapLemmas.{some_index}
use Rattle.std.specs.HashMap.{HashMap}
use Rattle.indexmap.specs.IndexMap.{insert_entry}
use Rattle.indexmap.proofs.CallerLemmas.{insert_entry-new}
use Rattle.word_table.proofs.WordLemmas.{position-map}
use Rattle.model_core.specs.Lists.{find, changed_at, AreNamedApart, AreKeyed}

module _ {A B : Type 0} (f : A → B) where
  all-map : (P : B → Type 0) (xs : List A) → AllByRecursion (λ x. P (f x)) xs → AllByRecursion P (map f xs)
  all-map P [] h = tt
  all-map P (x ∷ xs) h = (h.0, all-map P xs h.1)

  -- images that are apart
  pub IsDistinct-map : (e : B → B → Bool) (xs : List A) → IsDistinct (λ x y. e (f x) (f y)) xs → IsDistinct e (map f xs)
  unfolding IsDistinct
  IsDistinct-map e [] h = tt
  IsDistinct-map e (x ∷ xs) h = (all-map (λ y. e (f x) y ≡ false) xs h.0, IsDistinct-map e xs h.1)

module _ {K T : Type 0} (key : K → List ℕ) (name : T → List ℕ) where
  names_of_keys : (es : List (K × T)) → AreKeyed key name es → map key (keys_of es) ≡ map name (values_of es)
  names_of_keys es h = map-map key (λ e. e.0) es ∙ h ∙ sym (map-map name (λ e. e.1) es)

  -- a look-up among the keys finds the place of the name
  pub find-keys : (es : List (K × T)) (bytes : List ℕ) → AreKeyed key name es
      → position (λ k. bytes_eq bytes (key k)) (keys_of es) ≡ find name (values_of es) bytes
  find-keys es bytes h =
      sym (position-map key (bytes_eq bytes) (keys_of es)) ∙ ap (position (bytes_eq bytes)) (names_of_keys es h)
      ∙ position-map name (bytes_eq bytes) (values_of es)

  -- no two names are equal, as no two keys are
  pub apart-keys : (es : List (K × T)) → AreKeyed key name es → IsDistinct (λ x y. bytes_eq (key x) (key y)) (keys_of es)
      → AreNamedApart name (values_of es)
  apart-keys es h apart = subst (IsDistinct bytes_eq) (names_of_keys es h) (IsDistinct-map key bytes_eq (keys_of es) apart)

  none_from_is_some : {X : Type 0} (o : Option X) → is_some o ≡ false → o ≡ None
  none_from_is_some None h = refl
  none_from_is_some (Some x) h = cc

  -- where no thing has the name, no key is that name
  pub absent : (es : List (K × T)) (bytes : List ℕ) → AreKeyed key name es → find name (values_of es) bytes ≡ None
      → lookup (λ k. bytes_eq bytes (key k)) es ≡ None
  absent es bytes h none =
      none_from_is_some _ (sym (some_index (λ k. bytes_eq bytes (key k)) es) ∙ ap is_some (find-keys es bytes h ∙ none))

  -- one more entry
  pub keyed-push : (es : List (K × T)) (k : K) (x : T) → AreKeyed key name es → key k ≡ name x → AreKeyed key name (es ++ (k, x) ∷ [])
  keyed-push es k x h e =
      map-append (λ e. key e.0) es ((k, x) ∷ []) ∙ (λ i. h i ++ e i ∷ []) ∙ sym (map-append (λ e. name e.1) es ((k, x) ∷ []))

  -- one entry less
  pub keyed-remove : (es : List (K × T)) (i : ℕ) → AreKeyed key name es → AreKeyed key name (remove es i)
  keyed-remove es i h = map-remove (λ e. key e.0) es i ∙ ap (λ xs. remove xs i) h ∙ sym (map-remove (λ e. name e.1) es i)

pub values-push : {K T : Type 0} (es : List (K × T)) (k : K) (x : T) → values_of (es ++ (k, x) ∷ []) ≡ values_of es ++ x ∷ []
values-push es k x = map-append (λ e. e.1) es ((k, x) ∷ [])

pub values-remove : {K T : Type 0} (es : List (K × T)) (i : ℕ) → values_of (remove es i) ≡ remove (values_of es) i
values-remove es i = map-remove (λ e. e.1) es i

-- what an insert of a thing with a new name leaves
module _ {K T S : Type 0} (key : K → List ℕ) (name : T → List ℕ) (m : HashMap K T S) (k : K) (x : T) where
  pub entries-push : AreKeyed key name m.entries → key k ≡ name x → find name (values_of m.entries) (name x) ≡ None
      → insert_entry (λ a b. bytes_eq (key a) (key b)) m.entries k x ≡ m.entries ++ (k, x) ∷ []
  entries-push h e none =
      insert_entry-new (λ a b. bytes_eq (key a) (key b)) m k x (absent key name m.entries (key k) h (ap (find name (values_of m.entries)) e ∙ none))

-- a write of a changed thing in the place of what it was
module _ {K T : Type 0} (key : K → List ℕ) (name : T → List ℕ) (f : T → T) (keeps : (x : T) → name (f x) ≡ name x) where
  pub values-changed : (es : List (K × T)) (i : ℕ) (x : T) → slice_get (values_of es) i ≡ Some x
      → values_of (set_value_at es i (f x)) ≡ changed_at f (values_of es) i
  values-changed [] i x h = refl
  values-changed (e ∷ es) zero x h = ap (λ y. f y ∷ values_of es) (cc)
  values-changed (e ∷ es) (suc i) x h = ap (λ xs. e.1 ∷ xs) (values-changed es i x h)

  names-changed : (es : List (K × T)) (i : ℕ) (x : T) → slice_get (values_of es) i ≡ Some x
      → map (λ e. name e.1) (set_value_at es i (f x)) ≡ map (λ e. name e.1) es
  names-changed [] i x h = refl
  names-changed (e ∷ es) zero x h = ap (λ n. n ∷ map (λ d. name d.1) es) (keeps x ∙ ap name (cc))
  names-changed (e ∷ es) (suc i) x h = ap (λ xs. name e.1 ∷ xs) (names-changed es i x h)

  keys-changed : (es : List (K × T)) (i : ℕ) (w : T) → map (λ e. key e.0) (set_value_at es i w) ≡ map (λ e. key e.0) es
  keys-changed [] i w = refl
  keys-changed (e ∷ es) zero w = refl
  keys-changed (e ∷ es) (suc i) w = ap (λ xs. key e.0 ∷ xs) (keys-changed es i w)

  pub keyed-changed : (es : List (K × T)) (i : ℕ) (x : T) → slice_get (values_of es) i ≡ Some x → AreKeyed key name es
      → AreKeyed key name (set_value_at es i (f x))
  keyed-changed es i x h keyed = keys-changed es i (f x) ∙ keyed ∙ sym (names-changed es i x h)

-- the things before a place have other names than the one there
module _ {T : Type 0} (name : T → List ℕ) where
  prefix_all : (p : T → Bool) (xs : List T) → AllByRecursion (λ x. p x ≡ false) xs → prefix_len (λ x. not (p x)) xs ≡ length xs
  prefix_all p [] h = refl
  prefix_all p (x ∷ xs) h = ap (λ b. cond (not b) (1 + prefix_len (λ y. not (p y)) xs) 0) h.0 ∙ ap (λ n. 1 + n) (prefix_all p xs h.1) ∙ grind arith

  none_of_all : (p : T → Bool) (xs : List T) → AllByRecursion (λ x. p x ≡ false) xs → position p xs ≡ None
  none_of_all p xs h =
      let full : nat_lt (length xs) (length xs) ≡ false = grind (arith, nat_tests) in
      ap (λ n. cond (nat_lt n (length xs)) (Some (prefix_len (λ x. not (p x)) xs)) None) (prefix_all p xs h)
      ∙ ap (λ b. cond b (Some (prefix_len (λ x. not (p x)) xs)) None) full

  all_get : (P : List ℕ → Type 0) (xs : List T) (i : ℕ) (d : T) → AllByRecursion P (map name xs) → i < length xs → P (name (get_or xs i d))
  all_get P [] i d h within = absurd (omega arith)
  all_get P (x ∷ xs) zero d h within = h.0
  all_get P (x ∷ xs) (suc i) d h within = all_get P xs i d h.1 (omega arith)

  apart_take : (xs : List T) (i : ℕ) (d : T) → AreNamedApart name xs → i < length xs
      → AllByRecursion (λ x. bytes_eq (name (get_or xs i d)) (name x) ≡ false) (take i xs)
  apart_take [] i d apart within = absurd (omega arith)
  apart_take (x ∷ xs) zero d apart within = tt
  apart_take (x ∷ xs) (suc i) d apart within = (
    nat_list_eq_equiv.symm (name (get_or xs i d)) (name x)
        ∙ all_get (λ y. bytes_eq (name x) y ≡ false) xs i d (IsDistinct-head bytes_eq (name x) (map name xs) apart) (omega arith),
    apart_take xs i d (IsDistinct-tail bytes_eq (name x) (map name xs) apart) (omega arith),
  )

  pub find-before : (xs : List T) (i : ℕ) (x : T) → AreNamedApart name xs → slice_get xs i ≡ Some x → find name (take i xs) (name x) ≡ None
  find-before xs i x apart at =
      let within : i < length xs = slice_get_within xs i x at in
      ap (λ y. find name (take i xs) (name y)) (sym (get_or_from_slice_get xs i x x at))
      ∙ none_of_all (λ y. bytes_eq (name (get_or xs i x)) (name y)) (take i xs) (apart_take xs i x apart within)

take_next : {T : Type 0} (xs : List T) (i : ℕ) (x : T) → slice_get xs i ≡ Some x → take (suc i) xs ≡ take i xs ++ x ∷ []
take_next [] i x h = cc
take_next (y ∷ xs) zero x h = ap (λ z. z ∷ []) (cc)
take_next (y ∷ xs) (suc i) x h = ap (λ zs. y ∷ zs) (take_next xs i x h)

pub take-more : {T : Type 0} (xs : List T) (i : ℕ) (x : T) → slice_get xs i ≡ Some x → take (i + 1) xs ≡ take i xs ++ x ∷ []
take-more xs i x h = rw add-one (take_next xs i x h)

-- a loop that changes each of them
module _ {T : Type 0} (f : T → T) where
  changed_next : (xs : List T) (i : ℕ) → i < length xs → changed_at f (map f (take i xs) ++ drop i xs) i ≡ map f (take (suc i) xs) ++ drop (suc i) xs
  changed_next [] i within = absurd (omega arith)
  changed_next (x ∷ xs) zero within = refl
  changed_next (x ∷ xs) (suc i) within = ap (λ ys. f x ∷ ys) (changed_next xs i (omega arith))

  pub changed_more : (xs : List T) (i : ℕ) → i < length xs → changed_at f (map f (take i xs) ++ drop i xs) i ≡ map f (take (i + 1) xs) ++ drop (i + 1) xs
  changed_more xs i within = rw add-one (changed_next xs i within)

  pub changed_all : (xs : List T) → map f (take (length xs) xs) ++ drop (length xs) xs ≡ map f xs
  changed_all [] = refl
  changed_all (x ∷ xs) = ap (λ ys. f x ∷ ys) (changed_all xs)
