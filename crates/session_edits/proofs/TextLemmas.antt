-- The size of a matrix by its name.
use Rattle.std.proofs.Common.{◌≡◌, ℕ, ◌+◌, Bool, true, false, cond, List, [], ◌∷◌, length, Option, Some, None, Ok, refl, ap, ◌∙◌, arith, codes}
use Rattle.std.specs.Prelude.{nat_lt}
use Rattle.std.specs.Option.{option_map}
use Rattle.std.specs.Str.{bytes_eq}
use Rattle.std.proofs.lemmas.List.{length-append, length-map}
use Rattle.judgement_matrix.specs.Matrix.{Judgements}
use Rattle.model_core.specs.State.{ModelState}
use Rattle.model_core.specs.Finding.{find_criterion, criterion_at, matrix_size}
use Rattle.table_csv.specs.Table.{Imports}
use Rattle.session_state.specs.declared.subject.Subject.{Subject}
use Rattle.session_state.specs.declared.subject.Subject.TheVariants.{Criterion, Weighting}
use Rattle.session_edits.specs.Subjects.{matrix_named, names_of, weighed_names}

-- the names of a weighting
weighed_count : (m : ModelState) → length m.order ≡ length m.criteria → length m.criteria + 1 ≡ length (names_of m Weighting)
weighed_count m each =
    let both = length-append (weighed_names m) (codes "none" ∷ []) in
    let same = length-map m.order (λ c. (criterion_at m c).name) in
    omega (arith, both, same, each)

-- the matrix that a name means has as many elements as the name tells
pub size_named : (m : ModelState) (name : List ℕ) (subject : Subject) → matrix_named m name ≡ Some subject
    → length m.order ≡ length m.criteria → matrix_size m name ≡ Some (length (names_of m subject))
size_named m name subject named each = by_name (bytes_eq name (codes "weighting")) refl
  where
    by_found : (o : Option ℕ) → option_map Criterion o ≡ Some subject
        → option_map (λ c. length (criterion_at m c).elements) o ≡ Some (length (names_of m subject))
    by_found None e = absurd (cc)
    by_found (Some c) e = let is : Criterion c ≡ subject = cc in ap (λ (s : Subject). Some (length (names_of m s))) is

    by_some : (b : Bool) → cond b (Some Weighting) None ≡ Some subject → Some (length m.criteria + 1) ≡ Some (length (names_of m subject))
    by_some true e =
        let is : Weighting ≡ subject = cc in ap Some (weighed_count m each) ∙ ap (λ (s : Subject). Some (length (names_of m s))) is
    by_some false e = absurd (cc)

    by_name : (b : Bool) → bytes_eq name (codes "weighting") ≡ b → matrix_size m name ≡ Some (length (names_of m subject))
    by_name true e = rw e (by_some (nat_lt 0 (length m.criteria)) (rw e at named))
    by_name false e = rw e (by_found (find_criterion m name) (rw e at named))

-- a matrix that was imported has an element for each name
pub imported_size : (names : List (List ℕ)) (bytes : List ℕ) (m : Judgements) → Imports names bytes (Ok m) → m.size ≡ length names
imported_size names bytes m (records, are, is) = ap (λ (n : Judgements). n.size) is.1
