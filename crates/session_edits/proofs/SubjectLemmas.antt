-- The subjects that a command names are there.
use Rattle.std.proofs.Common.{◌≡◌, ℕ, ◌<◌, Bool, true, false, cond, List, [], ◌∷◌, map, length, nat_lt, Option, Some, None, codes, refl, arith}
use Rattle.std.specs.List.{AllByRecursion}
use Rattle.std.specs.Option.{option_map}
use Rattle.std.specs.Str.{bytes_eq}
use Rattle.std.proofs.lemmas.Bool.Decides.{nat_tests}
use Rattle.judgement_matrix.proofs.EveryLemmas.{every-append, every-map, every-range}
use Rattle.model_core.specs.State.{ModelState}
use Rattle.model_core.specs.Finding.{find_criterion}
use Rattle.model_core.proofs.WholeEdits.{criterion_within}
use Rattle.session_state.specs.Taking.{IsSubject}
use Rattle.session_state.specs.declared.subject.Subject.{Subject}
use Rattle.session_state.specs.declared.subject.Subject.TheVariants.{Criterion, Weighting}
use Rattle.session_edits.specs.Subjects.{criterion_named, weighting_of, matrix_named, places, all_subjects}

-- a subject, where there is one
abbrev pub AreSubjects : ModelState → Option Subject → Type 0
AreSubjects m None = Unit {0}
AreSubjects m (Some subject) = IsSubject m subject

pub tested_below : (a b : ℕ) → nat_lt a b ≡ true → a < b
tested_below a b h = grind (arith, nat_tests)

pub criterion_is : (m : ModelState) (name : List ℕ) → AreSubjects m (criterion_named m name)
criterion_is m name = by_place (find_criterion m name) (λ c at. criterion_within m name c at)
  where
    by_place : (o : Option ℕ) → ((c : ℕ) → o ≡ Some c → c < length m.criteria) → AreSubjects m (option_map Criterion o)
    by_place None within = tt
    by_place (Some c) within = within c refl

pub weighting_is : (m : ModelState) → AreSubjects m (weighting_of m)
weighting_is m = by_test (nat_lt 0 (length m.criteria)) (λ test. tested_below 0 (length m.criteria) test)
  where
    by_test : (b : Bool) → (b ≡ true → 0 < length m.criteria) → AreSubjects m (cond b (Some Weighting) None)
    by_test true some = let k = some refl in omega (arith, k)
    by_test false some = tt

pub matrix_is : (m : ModelState) (name : List ℕ) → AreSubjects m (matrix_named m name)
matrix_is m name = by_name (bytes_eq name (codes "weighting"))
  where
    by_name : (b : Bool) → AreSubjects m (cond b (weighting_of m) (criterion_named m name))
    by_name true = weighting_is m
    by_name false = criterion_is m name

-- the criteria, and the weighting where there is one
pub all_are_subjects : (m : ModelState) → 0 < length m.criteria → AllByRecursion (IsSubject m) (all_subjects m)
all_are_subjects m some =
    every-append (IsSubject m) (map Criterion (places m)) (Weighting ∷ [])
    (every-map (IsSubject m) Criterion (places m) (every-range (λ c. c < length m.criteria) 0 (length m.criteria) (λ c least most. omega (arith, most))))
    (omega (arith, some), tt)
