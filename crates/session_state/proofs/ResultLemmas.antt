-- What results keep where a basic scale is kept, and after a change of the model.
use Rattle.std.proofs.Common.{◌≡◌, ◌⊎◌, ◌↔◌, inl, inr, ℕ, zero, suc, ◌<◌, Bool, true, false, length, get_or, set, map, List, [], ◌∷◌, ◌++◌, drop, slice_get, ◌+◌, add-one, Option, Some, None, Ok, Err, cond, refl, sym, ap, ap₂, subst, ◌∙◌, arith}
use Rattle.std.specs.Option.{option_and_then}
use Rattle.std.proofs.lemmas.List.{get_or-map, length-map, length-set}
use Rattle.std.proofs.lemmas.Option.{get_or_from_slice_get}
use Rattle.integers.proofs.Loops.{push_next}
use Rattle.judgement_matrix.specs.Matrix.{Judgements}
use Rattle.judgement_matrix.specs.Same.{same_judgements, same_judgements-Decides}
use Rattle.model_core.specs.State.{ModelState, CriterionState, no_criterion}
use Rattle.model_core.specs.Finding.{find_criterion, criterion_at}
use Rattle.value_scale.specs.Basic.{IsBasic, IsFound}
use Rattle.value_scale.specs.declared.basic.Basic.{Basic}
use Rattle.value_scale.specs.declared.fault.ScaleFault.{ScaleFault}
use Rattle.value_scale.specs.declared.fault.ScaleFault.TheVariants as fault
use Rattle.session_state.specs.Taking.{FindsAndKeeps}
use Rattle.session_state.specs.State.{with_pivots, ResultsState, AreResults, matrix_of, kept_of, with_kept, still_kept, carried}
use Rattle.session_state.specs.declared.subject.Subject.{Subject}
use Rattle.session_state.specs.declared.subject.Subject.TheVariants.{Criterion, Weighting}

-- ---- places

-- what a place holds was put there, or was there before
put_or_there : {X : Type 0} (kept : List (Option X)) (c d : ℕ) (x y : X) → get_or (set kept c (Some x)) d None ≡ Some y
    → ((d ≡ c) × (x ≡ y)) ⊎ (get_or kept d None ≡ Some y)
put_or_there [] c d x y is = inr is
put_or_there (k ∷ kept) zero zero x y is = inl (refl, cc)
put_or_there (k ∷ kept) zero (suc d) x y is = inr is
put_or_there (k ∷ kept) (suc c) zero x y is = inr is
put_or_there (k ∷ kept) (suc c) (suc d) x y is = elim (put_or_there kept c d x y is) [ inl put ↦ inl (ap suc put.0, put.1) | inr there ↦ inr there ]

-- a place that holds something is there
place_within : {X : Type 0} (kept : List (Option X)) (c : ℕ) (x : X) → get_or kept c None ≡ Some x → c < length kept
place_within [] c x is = absurd (let e = is in cc)
place_within (k ∷ kept) zero x is = omega arith
place_within (k ∷ kept) (suc c) x is = let more = place_within kept c x is in omega (arith, more)

-- ---- one more is kept

module _ (m : ModelState) (r : ResultsState) (are : AreResults m r) where
  basics-kept : (put : Subject) (basic : Basic) → IsBasic (matrix_of m put) basic → (read : Subject) (other : Basic)
      → kept_of (with_kept put basic r) read ≡ Some other → IsBasic (matrix_of m read) other
  basics-kept (Criterion c) basic is (Criterion d) other read =
      elim (put_or_there r.kept c d basic other read) [
        | inl put ↦ subst (λ b. IsBasic (criterion_at m d).matrix b) put.1 (subst (λ e. IsBasic (criterion_at m e).matrix basic) (sym put.0) is)
        | inr there ↦ are.basics (Criterion d) other there
      ]
  basics-kept (Criterion c) basic is Weighting other read = are.basics Weighting other read
  basics-kept Weighting basic is (Criterion d) other read = are.basics (Criterion d) other read
  basics-kept Weighting basic is Weighting other read = let same : basic ≡ other = cc in subst (IsBasic m.weighting) same is

  each-kept : (put : Subject) (basic : Basic) → length (with_kept put basic r).kept ≡ length m.criteria
  each-kept (Criterion c) basic = length-set r.kept c (Some basic) ∙ are.each
  each-kept Weighting basic = are.each

  -- the basic scale of a subject is kept
  pub AreResults-kept : (put : Subject) (basic : Basic) → IsBasic (matrix_of m put) basic → AreResults m (with_kept put basic r)
  AreResults-kept put basic is = record { each = each-kept put basic; basics = basics-kept put basic is }

-- ---- after a change of the model

-- what a choice gives comes from its first side where the other one has nothing
chosen : {X : Type 0} (test : Bool) (o : Option X) (x : X) → cond test o None ≡ Some x → (test ≡ true) × (o ≡ Some x)
chosen true o x is = (refl, is)
chosen false o x is = absurd (let e = is in cc)

same_matrix : (a b : Judgements) → same_judgements a b ≡ true → a ≡ b
same_matrix a b is = (same_judgements-Decides a b).0 is

module _ (m : ModelState) (r : ResultsState) (are : AreResults m r) where
  -- what is still kept of a criterion is what its judgements give
  still_kept-found : (after : CriterionState) (found : Option ℕ) (basic : Basic)
      → option_and_then (λ c. cond (same_judgements (criterion_at m c).matrix after.matrix) (get_or r.kept c None) None) found ≡ Some basic
      → IsBasic after.matrix basic
  still_kept-found after None basic is = absurd (let e = is in cc)
  still_kept-found after (Some c) basic is =
      let both = chosen (same_judgements (criterion_at m c).matrix after.matrix) (get_or r.kept c None) basic is in
      subst (λ j. IsBasic j basic) (same_matrix (criterion_at m c).matrix after.matrix both.0) (are.basics (Criterion c) basic both.1)

  basics-carried : (after : ModelState) (read : Subject) (basic : Basic) → kept_of (carried m r after) read ≡ Some basic → IsBasic (matrix_of after read) basic
  basics-carried after (Criterion c) basic is =
      let within : c < length after.criteria = subst (λ n. c < n) (length-map after.criteria (still_kept m r)) (place_within _ c basic is) in
      let place = sym (get_or-map (still_kept m r) after.criteria c no_criterion None within) ∙ is in
      still_kept-found (criterion_at after c) (find_criterion m (criterion_at after c).name) basic place
  basics-carried after Weighting basic is =
      let both = chosen (same_judgements m.weighting after.weighting) r.kept_weighting basic is in
      subst (λ j. IsBasic j basic) (same_matrix m.weighting after.weighting both.0) (are.basics Weighting basic both.1)

  -- results carried to another model keep what its judgements give
  pub AreResults-carried : (after : ModelState) → AreResults after (carried m r after)
  AreResults-carried after = record { each = length-map after.criteria (still_kept m r); basics = basics-carried after }

  -- so do results with the same places
  pub AreResults-places : (after : ModelState) (now : ResultsState) → now.kept ≡ (carried m r after).kept
      → now.kept_weighting ≡ (carried m r after).kept_weighting → AreResults after now
  AreResults-places after now places weighting =
      let same : now ≡ with_pivots now.pivots (carried m r after) = λ i. record { kept = places i; kept_weighting = weighting i; pivots = now.pivots } in
      let are = AreResults-carried after in
      subst (AreResults after) (sym same) (record { each = are.each; basics = basics-carried after })

-- what is still kept of a criterion, by the steps of its search
pub still_kept-found_at : (m : ModelState) (r : ResultsState) (before after : CriterionState) (name : List ℕ) (found : Option ℕ) (at : ℕ)
    (a b : Judgements) (test : Bool) → name ≡ after.name → found ≡ find_criterion m name → found ≡ Some at → slice_get m.criteria at ≡ Some before
    → a ≡ before.matrix → b ≡ after.matrix → test ≡ same_judgements a b → still_kept m r after ≡ cond test (get_or r.kept at None) None
still_kept-found_at m r before after name found at a b test named searched is there left right tested =
    ap (option_and_then (λ c. cond (same_judgements (criterion_at m c).matrix after.matrix) (get_or r.kept c None) None)) place
    ∙ ap (λ t. cond t (get_or r.kept at None) None) (sym same)
  where
    place : find_criterion m after.name ≡ Some at
    place = ap (find_criterion m) (sym named) ∙ sym searched ∙ is

    same : test ≡ same_judgements (criterion_at m at).matrix after.matrix
    same = tested ∙ ap₂ same_judgements (left ∙ ap (λ c. c.matrix) (sym (get_or_from_slice_get m.criteria at before no_criterion there))) right

-- ---- a run

module _ (m : Judgements) (subject : Subject) (kept : List (Option Basic)) (kept_weighting : Option Basic) (old made count : ℕ) where
  abbrev before : ResultsState
  before = record { kept = kept; kept_weighting = kept_weighting; pivots = old }

  -- what a run found is kept
  pub finds : (r after : ResultsState) (found shared twice : Basic) → before ≡ r → made ≡ old → IsFound m made (Ok found) count
      → shared ≡ found → twice ≡ shared → after ≡ with_kept subject twice (with_pivots count before)
      → FindsAndKeeps m subject r (Ok shared) after × IsBasic m shared
  finds r after found shared twice is same run first second put = subst (λ r. FindsAndKeeps m subject r (Ok shared) after × IsBasic m shared) is
      (record { count = count; found = run'; kept = put ∙ ap (λ b. with_kept subject b (with_pivots count before)) second }, run'.0)
    where
      run' : IsFound m old (Ok shared) count
      run' = subst (λ b. IsFound m old (Ok b) count) (sym first) (subst (λ n. IsFound m n (Ok found) count) same run)

  -- a run was too wide
  pub finds-too_wide : (r : ResultsState) (wide : ScaleFault) → before ≡ r → made ≡ old → wide ≡ fault.TooWide → IsFound m made (Err wide) count
      → FindsAndKeeps m subject r (Err (record {})) (with_pivots count before)
  finds-too_wide r wide is same told run = subst (λ r. FindsAndKeeps m subject r (Err (record {})) (with_pivots count before)) is
      (record { count = count; found = run'; kept = refl })
    where
      run' : IsFound m old (Err fault.TooWide) count
      run' = subst (λ f. IsFound m old (Err f) count) told (subst (λ n. IsFound m n (Err wide) count) same run)

-- ---- the step of a loop over the criteria

rest-next : {A B : Type 0} (f : A → B) (xs : List A) (i : ℕ) (x : A) → slice_get xs i ≡ Some x → map f (drop i xs) ≡ f x ∷ map f (drop (suc i) xs)
rest-next f [] i x is = absurd (let e = is in cc)
rest-next f (y ∷ xs) zero x is = let same : y ≡ x = cc in ap (λ z. f z ∷ map f xs) same
rest-next f (y ∷ xs) (suc i) x is = rest-next f xs i x is

-- the next place is pushed, and what is left fits
pub places-push : {A B : Type 0} (f : A → B) (xs : List A) (i : ℕ) (x : A) (y : B) (places now : List B) → places ++ map f (drop i xs) ≡ map f xs
    → slice_get xs i ≡ Some x → y ≡ f x → now ≡ places ++ y ∷ [] → now ++ map f (drop (i + 1) xs) ≡ map f xs
places-push f xs i x y places now so_far there is pushed =
    push_next places (map f xs) (map f (drop i xs)) (map f (drop (i + 1) xs)) now y so_far next pushed
  where
    next : map f (drop i xs) ≡ y ∷ map f (drop (i + 1) xs)
    next = rw (add-one, is) (rest-next f xs i x there)

-- ---- kept exactly

-- what is kept of a criterion after a change was kept of the one of its name, with the same judgements
abbrev IsKeptFrom : ModelState → ResultsState → CriterionState → Basic → Option ℕ → Type 0
IsKeptFrom m r after basic found =
    (before : ℕ) × (found ≡ Some before) × ((criterion_at m before).matrix ≡ after.matrix) × (kept_of r (Criterion before) ≡ Some basic)

same_place : (a b : ℕ) → Some a ≡ Some b → a ≡ b
same_place a b h = cc

pub still_kept-exactly : (m : ModelState) (r : ResultsState) (after : CriterionState) (basic : Basic)
    → (still_kept m r after ≡ Some basic) ↔ IsKeptFrom m r after basic (find_criterion m after.name)
still_kept-exactly m r after basic = (there (find_criterion m after.name), back (find_criterion m after.name))
  where
    there : (found : Option ℕ)
        → option_and_then (λ c. cond (same_judgements (criterion_at m c).matrix after.matrix) (get_or r.kept c None) None) found ≡ Some basic
        → (before : ℕ) × (found ≡ Some before) × ((criterion_at m before).matrix ≡ after.matrix) × (kept_of r (Criterion before) ≡ Some basic)
    there None is = absurd (let e = is in cc)
    there (Some c) is =
        let both = chosen (same_judgements (criterion_at m c).matrix after.matrix) (get_or r.kept c None) basic is in
        (c, refl, same_matrix (criterion_at m c).matrix after.matrix both.0, both.1)

    back : (found : Option ℕ)
        → ((before : ℕ) × (found ≡ Some before) × ((criterion_at m before).matrix ≡ after.matrix) × (kept_of r (Criterion before) ≡ Some basic))
        → option_and_then (λ c. cond (same_judgements (criterion_at m c).matrix after.matrix) (get_or r.kept c None) None) found ≡ Some basic
    back None (before, at, same, kept) = absurd (let e = at in cc)
    back (Some c) (before, at, same, kept) =
        let here : c ≡ before = same_place c before at in
        let test : same_judgements (criterion_at m c).matrix after.matrix ≡ true =
        (same_judgements-Decides (criterion_at m c).matrix after.matrix).1 (ap (λ d. (criterion_at m d).matrix) here ∙ same) in
        ap (λ t. cond t (get_or r.kept c None) None) test ∙ ap (λ d. get_or r.kept d None) here ∙ kept

pub carried-exactly : (m after : ModelState) (r : ResultsState) (c : ℕ) (basic : Basic) → c < length after.criteria
    → (kept_of (carried m r after) (Criterion c) ≡ Some basic)
    ↔ ((before : ℕ) × (find_criterion m (criterion_at after c).name ≡ Some before)
    × ((criterion_at m before).matrix ≡ (criterion_at after c).matrix) × (kept_of r (Criterion before) ≡ Some basic))
carried-exactly m after r c basic within =
    let place = get_or-map (still_kept m r) after.criteria c no_criterion None within in
    let exact = still_kept-exactly m r (criterion_at after c) basic in
    (λ is. exact.0 (sym place ∙ is), λ from. place ∙ exact.1 from)

pub carried_weighting-exactly : (m after : ModelState) (r : ResultsState) (basic : Basic)
    → (kept_of (carried m r after) Weighting ≡ Some basic) ↔ ((m.weighting ≡ after.weighting) × (kept_of r Weighting ≡ Some basic))
carried_weighting-exactly m after r basic = (there, back)
  where
    there : cond (same_judgements m.weighting after.weighting) r.kept_weighting None ≡ Some basic
        → (m.weighting ≡ after.weighting) × (kept_of r Weighting ≡ Some basic)
    there is =
        let both = chosen (same_judgements m.weighting after.weighting) r.kept_weighting basic is in
        (same_matrix m.weighting after.weighting both.0, both.1)

    back : (m.weighting ≡ after.weighting) × (kept_of r Weighting ≡ Some basic)
        → cond (same_judgements m.weighting after.weighting) r.kept_weighting None ≡ Some basic
    back (same, kept) = ap (λ t. cond t r.kept_weighting None) ((same_judgements-Decides m.weighting after.weighting).1 same) ∙ kept
