-- Tests of names, and names as a set sees them.
use Rattle.std.proofs.Common.{◌≡◌, ℕ, zero, suc, ◌<◌, ◌++◌, ◌||◌, take, map, ap, Bool, true, false, List, [], ◌∷◌, get_or, length, refl, sym, ◌∙◌, if◌then◌else◌, arith}
use Rattle.std.specs.List.{AllByRecursion, list_any}
use Rattle.std.specs.Str.{bytes_eq}
use Rattle.std.specs.Cmp.Lexicographic.{nat_list_eq_equiv}
use Rattle.std.proofs.lemmas.List.{map-append}
use Rattle.std.proofs.lemmas.Map.Keys.{IsDistinct-head, IsDistinct-tail, IsDistinct-push}
use Rattle.indexmap.specs.IndexSet.{insert_key}
use Rattle.word_table.specs.Words.{AreApart}

pub not_true : (b : Bool) → (b ≡ true → ⊥) → b ≡ false
not_true true h = absurd (h refl)
not_true false h = refl

-- names as a set sees them
module _ {K : Type 0} (now : K → List ℕ) where
  any_now : (q : List ℕ) (keys : List K) → list_any (λ k. bytes_eq q (now k)) keys ≡ list_any (bytes_eq q) (map now keys)
  any_now q [] = refl
  any_now q (k ∷ keys) = ap (λ b. bytes_eq q (now k) || b) (any_now q keys)

  -- a new name goes behind those that were seen
  pub seen-push : (keys : List K) (k : K) (names : List (List ℕ)) → map now keys ≡ names → list_any (λ j. bytes_eq (now k) (now j)) keys ≡ false
      → map now (insert_key (λ a b. bytes_eq (now a) (now b)) keys k) ≡ names ++ now k ∷ []
  seen-push keys k names is new =
      ap (λ b. map now (if b then keys else keys ++ k ∷ [])) new ∙ map-append now keys (k ∷ []) ∙ ap (λ ns. ns ++ now k ∷ []) is

  pub apart-push : (keys : List K) (k : K) (names : List (List ℕ)) → map now keys ≡ names → list_any (λ j. bytes_eq (now k) (now j)) keys ≡ false
      → AreApart names → AreApart (names ++ now k ∷ [])
  apart-push keys k names is new apart =
      IsDistinct-push nat_list_eq_equiv names (now k) apart (ap (list_any (bytes_eq (now k))) (sym is) ∙ sym (any_now (now k) keys) ∙ new)

  any_head : (b c : Bool) → b ≡ false → (b || c) ≡ true → c ≡ true
  any_head true c e h = cc
  any_head false c e h = h

  all_at : (P : List ℕ → Type 0) (xs : List (List ℕ)) (i : ℕ) (d : List ℕ) → AllByRecursion P xs → i < length xs → P (get_or xs i d)
  all_at P [] i d h within = absurd (omega arith)
  all_at P (x ∷ xs) zero d h within = h.0
  all_at P (x ∷ xs) (suc i) d h within = all_at P xs i d h.1 (omega arith)

  seen_before : (names : List (List ℕ)) (i : ℕ) (d : List ℕ) → i < length names → list_any (bytes_eq (get_or names i d)) (take i names) ≡ true → AreApart names → ⊥
  seen_before [] i d within h apart = absurd (omega arith)
  seen_before (x ∷ xs) zero d within h apart = cc
  seen_before (x ∷ xs) (suc i) d within h apart =
      let other : bytes_eq (get_or xs i d) x ≡ false =
      nat_list_eq_equiv.symm (get_or xs i d) x ∙ all_at (λ y. bytes_eq x y ≡ false) xs i d (IsDistinct-head bytes_eq x xs apart) (omega arith) in
      seen_before xs i d (omega arith) (any_head (bytes_eq (get_or xs i d) x) (list_any (bytes_eq (get_or xs i d)) (take i xs)) other h) (IsDistinct-tail bytes_eq x xs apart)

  -- a name that was seen isn't apart
  pub not_apart : (keys : List K) (names : List (List ℕ)) (i : ℕ) (d : List ℕ) → map now keys ≡ take i names → i < length names
      → list_any (λ j. bytes_eq (get_or names i d) (now j)) keys ≡ true → AreApart names → ⊥
  not_apart keys names i d is within h apart =
      seen_before names i d within (ap (list_any (bytes_eq (get_or names i d))) (sym is) ∙ sym (any_now (get_or names i d) keys) ∙ h) apart
