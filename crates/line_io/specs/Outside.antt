-- What a source and a sink tell: bytes that are left or held, where they are known, and a count of faults.
use Rattle.std.specs.Prelude.{◌≡◌, ◌⊎◌, ℕ, ◌<◌, List, [], ◌++◌, Option, None, Some}

-- a source or a sink before and after a call: the bytes that it tells, and its count of faults
pub record Change : Type 0 where
  pub told_old : Option (List ℕ)
  pub told_new : Option (List ℕ)
  pub faults_old : ℕ
  pub faults_new : ℕ

abbrev pub change : Option (List ℕ) → Option (List ℕ) → ℕ → ℕ → Change
change told_old told_new faults_old faults_new =
    record { told_old = told_old; told_new = told_new; faults_old = faults_old; faults_new = faults_new }

-- the same by what it tells and how it counts, from an old value to a new one
abbrev pub change_of : {A : Type 0} → (A → Option (List ℕ)) → (A → ℕ) → A → A → Change
change_of told faults old new = change (told old) (told new) (faults old) (faults new)

-- a count of faults rose in a call, or stands at its type's end
abbrev pub Rose : ℕ → ℕ → Type 0
Rose before after = (before < after) ⊎ (after ≡ 18446744073709551615)

-- the bytes left a source that had `before` left and has `after` left; where it doesn't tell, nothing is said
abbrev pub Took : Option (List ℕ) → Option (List ℕ) → List ℕ → Type 0
Took None None bytes = Unit {0}
Took None (Some after) bytes = ⊥
Took (Some before) None bytes = ⊥
Took (Some before) (Some after) bytes = before ≡ bytes ++ after

-- a sink that held `before` now holds these bytes after it; where it no longer tells, nothing is said
abbrev pub Put : Option (List ℕ) → Option (List ℕ) → List ℕ → Type 0
Put before None bytes = Unit {0}
Put None (Some after) bytes = ⊥
Put (Some before) (Some after) bytes = after ≡ before ++ bytes

-- no byte is left, where that is told
abbrev pub IsAtEnd : Option (List ℕ) → Type 0
IsAtEnd None = Unit {0}
IsAtEnd (Some rest) = rest ≡ []

-- a call failed: the count rose, and what is told is as before
abbrev pub Fails : Change → Type 0
Fails source = Rose source.faults_old source.faults_new × (source.told_new ≡ source.told_old)

-- a front of these bytes was put, and then a fault rose
pub record PutsFront (sink : Change) (bytes : List ℕ) : Type 0 where
  pub written : List ℕ
  pub rest : List ℕ
  pub split : bytes ≡ written ++ rest
  pub put : Put sink.told_old sink.told_new written
  pub rose : Rose sink.faults_old sink.faults_new
