-- A criterion that was added is the last one, and further edits by its name change that one.
use Rattle.std.proofs.Common.{◌≡◌, ℕ, suc, ◌+◌, ◌<◌, ◌++◌, ◌||◌, Bool, true, false, not, cond, List, [], ◌∷◌, Option, Some, None, is_some, subst, Result, Ok, Err, ◌⊎◌, inl, inr, length, position, get_or, All, nat_lt, nat_le, codes, refl, sym, ap, ◌∙◌, arith, length-append}
use Rattle.std.specs.List.{prefix_len}
use Rattle.std.specs.Option.{IfSome}
use Rattle.std.specs.Str.{bytes_eq}
use Rattle.std.specs.Cmp.Lexicographic.{bytes_decides}
use Rattle.std.proofs.lemmas.Bool.Decides.{nat_tests}
use Rattle.integers.proofs.Lists.{position-none}
use Rattle.word_table.specs.Words.{are_apart}
use Rattle.judgement_matrix.specs.Matrix.{Judgements}
use Rattle.judgement_matrix.specs.declared.matrix.TheConstants.{LIMIT}
use Rattle.model_core.specs.Lists.{changed_at}
use Rattle.model_core.specs.State.{CriterionState, ModelState, IsCriterion, is_reserved, no_criterion}
use Rattle.model_core.specs.Finding.{find_criterion, find_element, criterion_at, matrix_size}
use Rattle.frac128.specs.Chain.{◌>>=◌, holds_or}
use Rattle.model_core.specs.Edits.{Edit, Edits, edited, takes_memory, add_criterion, set_refs, set_matrix, set_reach, place, group_named, new_criterion, with_criterion, with_change}
use Rattle.model_core.specs.declared.edit.EditFault.{EditFault}
use Rattle.model_core.specs.declared.edit.EditFault.TheVariants.{NameTaken, LimitReached, NoMemory}
use Rattle.model_core.specs.declared.limits.TheConstants.{CRITERIA}

module _ {A : Type 0} where
  -- the first that passes is the last one
  fails_before : (p : A → Bool) (xs : List A) (x : A) → All (λ y. p y ≡ false) xs → p x ≡ true → prefix_len (λ y. not (p y)) (xs ++ x ∷ []) ≡ length xs
  fails_before p [] x others here = ap (λ b. cond (not b) 1 0) here
  fails_before p (y ∷ ys) x others here =
      ap (λ b. cond (not b) (1 + prefix_len (λ z. not (p z)) (ys ++ x ∷ [])) 0) (others 0 y (omega arith))
      ∙ ap (λ n. 1 + n) (fails_before p ys x (λ k d within. others (suc k) d (omega (arith, within))) here) ∙ omega arith

  stands_last : (p : A → Bool) (xs : List A) (x : A) → position p xs ≡ None → p x ≡ true → position p (xs ++ x ∷ []) ≡ Some (length xs)
  stands_last p xs x none here =
      let longer : length xs < length (xs ++ x ∷ []) = omega (arith, length-append xs (x ∷ [])) in
      let within : nat_lt (length xs) (length (xs ++ x ∷ [])) ≡ true = grind (arith, nat_tests) in
      ap (λ n. cond (nat_lt n (length (xs ++ x ∷ []))) (Some n) None) (fails_before p xs x ((position-none p xs).0 none) here)
      ∙ ap (λ b. cond b (Some (length xs)) None) within

  last_is : (xs : List A) (x d : A) → get_or (xs ++ x ∷ []) (length xs) d ≡ x
  last_is [] x d = refl
  last_is (y ∷ ys) x d = last_is ys x d

  last_changed : (f : A → A) (xs : List A) (x : A) → changed_at f (xs ++ x ∷ []) (length xs) ≡ xs ++ f x ∷ []
  last_changed f [] x = refl
  last_changed f (y ∷ ys) x = ap (λ zs. y ∷ zs) (last_changed f ys x)

abbrev done : {A : Type 0} → A → Result A EditFault
done x = Ok x

same : {A : Type 0} (x y : A) → done x ≡ done y → x ≡ y
same x y e = cc

-- four tests that held
all_held : (a b c d : Bool) (x y : ModelState)
    → (holds_or NameTaken a >>= λ _. holds_or NameTaken b >>= λ _. holds_or LimitReached c >>= λ _. holds_or LimitReached d >>= λ _. done x) ≡ done y → (a ≡ true) × (x ≡ y)
all_held false b c d x y e = absurd cc
all_held true false c d x y e = absurd cc
all_held true true false d x y e = absurd cc
all_held true true true false x y e = absurd cc
all_held true true true true x y e = (refl, same x y e)

none_of : {A : Type 0} (o : Option A) → not (is_some o) ≡ true → o ≡ None
none_of None e = refl
none_of (Some x) e = absurd cc

neither : (a b : Bool) → (a || b) ≡ false → b ≡ false
neither true b e = absurd cc
neither false b e = e

no_weighting : (name : List ℕ) → is_reserved name ≡ false → bytes_eq name (codes "weighting") ≡ false
no_weighting name plain = neither (bytes_eq name (codes "none")) (bytes_eq name (codes "weighting")) plain

-- a new criterion is the last one, and its name was free
added : (m m1 : ModelState) (name : List ℕ) (elements : List (List ℕ)) → edited m (add_criterion name elements) ≡ Ok m1
    → (find_criterion m name ≡ None) × (m1 ≡ with_criterion m (new_criterion name elements))
added m m1 name elements e =
    let held = all_held (not (is_some (find_criterion m name))) (are_apart elements) (nat_lt (length m.criteria) CRITERIA) (nat_le (length elements) LIMIT)
    (with_criterion m (new_criterion name elements)) m1 e in
    (none_of (find_criterion m name) held.0, sym held.1)

module _ (m : ModelState) (x : CriterionState) (free : find_criterion m x.name ≡ None) where
  found_last : find_criterion (with_criterion m x) x.name ≡ Some (length m.criteria)
  found_last = stands_last (λ c. bytes_eq x.name c.name) m.criteria x free ((bytes_decides x.name x.name).1 refl)

  here : criterion_at (with_criterion m x) (length m.criteria) ≡ x
  here = last_is m.criteria x no_criterion

  changed : (f : CriterionState → CriterionState) → with_change (with_criterion m x) (length m.criteria) f ≡ with_criterion m (f x)
  changed f = ap (λ cs. record (with_criterion m x) { criteria = cs }) (last_changed f m.criteria x)

  size_last : is_reserved x.name ≡ false → matrix_size (with_criterion m x) x.name ≡ Some (length x.elements)
  size_last plain = rw (no_weighting x.name plain, found_last, here) refl

  refs_done : (g k : List ℕ) (p q : ℕ) → find_element x g ≡ Some p → find_element x k ≡ Some q → p < q
      → edited (with_criterion m x) (set_refs x.name g k) ≡ Ok (with_change (with_criterion m x) (length m.criteria) (λ c. record c { good = p; neutral = q }))
  refs_done g k p q at_g at_k less =
      let above : nat_lt p q ≡ true = grind (arith, nat_tests) in
      rw (found_last, here, at_g, at_k, above) refl

  matrix_done : (matrix : Judgements) → is_reserved x.name ≡ false
      → edited (with_criterion m x) (set_matrix x.name matrix) ≡ Ok (with_change (with_criterion m x) (length m.criteria) (λ c. record c { matrix = matrix }))
  matrix_done matrix plain = rw (no_weighting x.name plain, found_last) refl

  reach_done : (n : ℕ) → edited (with_criterion m x) (set_reach x.name n)
      ≡ Ok (with_change (with_criterion m x) (length m.criteria) (λ c. record c { reach = n }))
  reach_done n = rw found_last refl

  place_done : (name : Option (List ℕ)) (group : Option ℕ) → group_named m name ≡ Ok group → edited (with_criterion m x) (place x.name name)
      ≡ Ok (with_change (with_criterion m x) (length m.criteria) (λ c. record c { group = group }))
  place_done name group named = rw (found_last, named) refl

  refs_last : (m2 : ModelState) (g k : List ℕ) (p q : ℕ) → find_element x g ≡ Some p → find_element x k ≡ Some q → p < q
      → edited (with_criterion m x) (set_refs x.name g k) ≡ Ok m2 → m2 ≡ with_criterion m (record x { good = p; neutral = q })
  refs_last m2 g k p q at_g at_k less e =
      sym (same _ m2 (sym (refs_done g k p q at_g at_k less) ∙ e)) ∙ changed (λ c. record c { good = p; neutral = q })

  matrix_last : (m2 : ModelState) (matrix : Judgements) → is_reserved x.name ≡ false
      → edited (with_criterion m x) (set_matrix x.name matrix) ≡ Ok m2 → m2 ≡ with_criterion m (record x { matrix = matrix })
  matrix_last m2 matrix plain e =
      sym (same _ m2 (sym (matrix_done matrix plain) ∙ e)) ∙ changed (λ c. record c { matrix = matrix })

  reach_last : (m2 : ModelState) (n : ℕ) → edited (with_criterion m x) (set_reach x.name n) ≡ Ok m2 → m2 ≡ with_criterion m (record x { reach = n })
  reach_last m2 n e =
      sym (same _ m2 (sym (reach_done n) ∙ e)) ∙ changed (λ c. record c { reach = n })

  place_last : (m2 : ModelState) (name : Option (List ℕ)) (group : Option ℕ) → group_named m name ≡ Ok group
      → edited (with_criterion m x) (place x.name name) ≡ Ok m2 → m2 ≡ with_criterion m (record x { group = group })
  place_last m2 name group named e =
      sym (same _ m2 (sym (place_done name group named) ∙ e)) ∙ changed (λ c. record c { group = group })

-- an edit that takes no memory is done where it gives a model
pub is_done : (m new : ModelState) (edit : Edit) (r : Result (Unit {0}) EditFault) → takes_memory edit ≡ false
    → (n : ModelState) × (edited m edit ≡ Ok n) → Edits m edit r new → r ≡ Ok tt
is_done m new edit (Ok x) none gives h = refl
is_done m new edit (Err fault) none gives h = absurd (refuted h.1)
  where
    refuted : (edited m edit ≡ Err fault) ⊎ ((fault ≡ NoMemory) × (takes_memory edit ≡ true)) → ⊥
    refuted (inl refused) = absurd (let e : done gives.0 ≡ Err fault = sym gives.1 ∙ refused in cc)
    refuted (inr memory) = absurd (let e : true ≡ false = sym memory.1 ∙ none in cc)

-- the criterion with its first parts, and with more of them
module _ (c : CriterionState) where
  abbrev bare : CriterionState
  bare = new_criterion c.name c.elements

  abbrev with_refs : CriterionState
  with_refs = record bare { good = c.good; neutral = c.neutral }

module _ (m m1 : ModelState) (c : CriterionState) (keeps : IsCriterion c) (g k : List ℕ)
    (at_g : find_element c g ≡ Some c.good) (at_k : find_element c k ≡ Some c.neutral)
    (add : edited m (add_criterion c.name c.elements) ≡ Ok m1) where
  pub refs_given : (n : ModelState) × (edited m1 (set_refs c.name g k) ≡ Ok n)
  refs_given =
      let new = added m m1 c.name c.elements add in
      let gives = refs_done m (bare c) new.0 g k c.good c.neutral at_g at_k keeps.above in
      (_, ap (λ n. edited n (set_refs c.name g k)) new.1 ∙ gives)

module _ (m m1 m2 : ModelState) (c : CriterionState) (keeps : IsCriterion c) (g k : List ℕ)
    (at_g : find_element c g ≡ Some c.good) (at_k : find_element c k ≡ Some c.neutral)
    (add : edited m (add_criterion c.name c.elements) ≡ Ok m1) (refs : edited m1 (set_refs c.name g k) ≡ Ok m2) where
  free : find_criterion m c.name ≡ None
  free = (added m m1 c.name c.elements add).0

  after_refs : m2 ≡ with_criterion m (with_refs c)
  after_refs =
      let first = subst (λ n. edited n (set_refs c.name g k) ≡ Ok m2) (added m m1 c.name c.elements add).1 refs in
      refs_last m (bare c) free m2 g k c.good c.neutral at_g at_k keeps.above first

  -- the matrix fits
  pub fits : IfSome (matrix_size m2 c.name) (λ size. c.matrix.size ≡ size)
  fits =
      let size : matrix_size m2 c.name ≡ Some (length c.elements) =
      ap (λ n. matrix_size n c.name) after_refs ∙ size_last m (with_refs c) free keeps.free_name in
      rw size keeps.size

  pub matrix_given : (n : ModelState) × (edited m2 (set_matrix c.name c.matrix) ≡ Ok n)
  matrix_given = (_, ap (λ n. edited n (set_matrix c.name c.matrix)) after_refs ∙ matrix_done m (with_refs c) free c.matrix keeps.free_name)

  module _ (m3 : ModelState) (matrix : edited m2 (set_matrix c.name c.matrix) ≡ Ok m3) where
    after_matrix : m3 ≡ with_criterion m (record (with_refs c) { matrix = c.matrix })
    after_matrix =
        let second = subst (λ n. edited n (set_matrix c.name c.matrix) ≡ Ok m3) after_refs matrix in
        matrix_last m (with_refs c) free m3 c.matrix keeps.free_name second

    pub reach_given : (n : ModelState) × (edited m3 (set_reach c.name c.reach) ≡ Ok n)
    reach_given =
        (_, ap (λ n. edited n (set_reach c.name c.reach)) after_matrix ∙ reach_done m (record (with_refs c) { matrix = c.matrix }) free c.reach)

  module _ (m3 m4 : ModelState) (matrix : edited m2 (set_matrix c.name c.matrix) ≡ Ok m3) (reach : edited m3 (set_reach c.name c.reach) ≡ Ok m4) where
    -- all but the group
    after_reach : m4 ≡ with_criterion m (record c { group = None })
    after_reach =
        let third = subst (λ n. edited n (set_reach c.name c.reach) ≡ Ok m4) (after_matrix m3 matrix) reach in
        reach_last m (record (with_refs c) { matrix = c.matrix }) free m4 c.reach third

    pub place_given : (name : Option (List ℕ)) → group_named m name ≡ Ok c.group → (n : ModelState) × (edited m4 (place c.name name) ≡ Ok n)
    place_given name named =
        (_, ap (λ n. edited n (place c.name name)) after_reach ∙ place_done m (record c { group = None }) free name c.group named)

    pub after_place : (m5 : ModelState) (name : Option (List ℕ)) → group_named m name ≡ Ok c.group
        → edited m4 (place c.name name) ≡ Ok m5 → m5 ≡ with_criterion m c
    after_place m5 name named e =
        place_last m (record c { group = None }) free m5 name c.group named (subst (λ n. edited n (place c.name name) ≡ Ok m5) after_reach e)
