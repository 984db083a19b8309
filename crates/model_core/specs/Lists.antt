-- Lists of things with names.
use Rattle.std.specs.Prelude.{◌≡◌, ℕ, zero, suc, List, [], ◌∷◌, map, Option, position}
use Rattle.std.specs.Str.{bytes_eq}
use Rattle.word_table.specs.Words.{AreApart}

module _ {T : Type 0} (name : T → List ℕ) where
  -- the place of the first one with this name, from 0
  abbrev pub find : List T → List ℕ → Option ℕ
  find xs bytes = position (λ x. bytes_eq bytes (name x)) xs

  -- no two have one name
  abbrev pub AreNamedApart : List T → Type 0
  AreNamedApart xs = AreApart (map name xs)

-- each key has the bytes of its value's name
abbrev pub AreKeyed : {K T : Type 0} → (K → List ℕ) → (T → List ℕ) → List (K × T) → Type 0
AreKeyed key name es = map (λ e. key e.0) es ≡ map (λ e. name e.1) es

-- the list, with f of the one at a place
abbrev pub changed_at : {T : Type 0} → (T → T) → List T → ℕ → List T
changed_at f [] at = []
changed_at f (x ∷ xs) zero = f x ∷ xs
changed_at f (x ∷ xs) (suc at) = x ∷ changed_at f xs at
