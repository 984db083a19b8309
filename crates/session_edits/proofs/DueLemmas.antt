-- The refusal that is due is the one that is given: by edits.
use Rattle.std.proofs.Common.{◌≡◌, ℕ, ◌+◌, ◌∷◌, ◌++◌, Bool, true, false, not, List, [], map, length, Option, Some, None, Result, Ok, Err, is_some, is_none, nat_lt, nat_le, refl, sym, ap, subst, arith}
use Rattle.std.specs.Prelude.{unwrap_or, ◌||◌}
use Rattle.std.specs.List.{list_any}
use Rattle.std.specs.Option.{option_map, option_and_then}
use Rattle.std.proofs.lemmas.Bool.Decides.{nat_tests}
use Rattle.word_table.specs.Words.{are_apart}
use Rattle.frac128.specs.Chain.{◌>>=◌, found_or, holds_or}
use Rattle.judgement_matrix.specs.declared.matrix.TheConstants.{LIMIT}
use Rattle.model_core.specs.State.{ModelState}
use Rattle.model_core.specs.Finding.{find_option, find_criterion, find_group, find_element, criterion_at, weigh_place}
use Rattle.model_core.specs.Edits.{Edit, edited, places_of, is_permutation, group_named, pair_of, with_order}
use Rattle.model_core.specs.declared.limits.TheConstants.{OPTIONS, CRITERIA, GROUPS}
use Rattle.model_core.specs.declared.edit.EditFault.{EditFault}
use Rattle.model_core.specs.declared.edit.EditFault.TheVariants as fault
use Rattle.command_read.specs.declared.command.Command.{Command}
use Rattle.command_read.specs.declared.command.Command.TheVariants as command
use Rattle.session_state.specs.State.{SessionState}
use Rattle.session_edits.specs.Refusals.{number_of}
use Rattle.session_edits.specs.Edits.{edit_of}
use Rattle.session_edits.specs.Due.{Cause, first_due, causes, no_criterion, no_group, no_element, criterion_of, at_most, taken, no_descent, of_pair, of_parent}
use Rattle.session_edits.specs.declared.refusal.TheConstants.{UNKNOWN_GROUP, UNKNOWN_CRITERION, AGAINST_THE_ORDER, NO_PERMUTATION}

-- an edit gives the refusal that is due, and a model where none is
abbrev pub Agrees : List Cause → Result ModelState EditFault → Type 0
Agrees list (Ok after) = first_due list ≡ None
Agrees list (Err refused) = first_due list ≡ Some (number_of refused)

-- ---- steps

due_found : {A : Type 0} (o : Option A) (refused : EditFault) (f : A → Result ModelState EditFault) (d : A) (rest : A → List Cause)
    → ((a : A) → Agrees (rest a) (f a)) → Agrees ((is_none o, number_of refused) ∷ rest (unwrap_or o d)) (found_or refused o >>= f)
due_found None refused f d rest h = refl
due_found (Some a) refused f d rest h = h a

due_test : (b c : Bool) (refused : EditFault) (f : Unit {0} → Result ModelState EditFault) (rest : List Cause) → c ≡ not b
    → Agrees rest (f tt) → Agrees ((c, number_of refused) ∷ rest) (holds_or refused b >>= f)
due_test true true refused f rest e h = cc
due_test true false refused f rest e h = h
due_test false true refused f rest e h = refl
due_test false false refused f rest e h = cc

-- a name that isn't taken, and room for one more
due_free : (o : Option ℕ) (f : Unit {0} → Result ModelState EditFault) (rest : List Cause) → Agrees rest (f tt)
    → Agrees (taken o ∷ rest) (holds_or fault.NameTaken (not (is_some o)) >>= f)
due_free None f rest h = h
due_free (Some a) f rest h = refl

due_room : (most count : ℕ) (f : Unit {0} → Result ModelState EditFault) (rest : List Cause) → Agrees rest (f tt)
    → Agrees (at_most most (count + 1) ∷ rest) (holds_or fault.LimitReached (nat_lt count most) >>= f)
due_room most count f rest = due_test (nat_lt count most) (nat_lt most (count + 1)) fault.LimitReached f rest (grind (arith, nat_tests))

due_few : (most count : ℕ) (f : Unit {0} → Result ModelState EditFault) (rest : List Cause) → Agrees rest (f tt)
    → Agrees (at_most most count ∷ rest) (holds_or fault.LimitReached (nat_le count most) >>= f)
due_few most count f rest = due_test (nat_le count most) (nat_lt most count) fault.LimitReached f rest (grind (arith, nat_tests))

-- two places, the first above the second
due_pair : (refused : EditFault) (p q : Option ℕ) (f : ℕ × ℕ → ModelState)
    → Agrees ((is_none p, number_of refused) ∷ (is_none q, number_of refused) ∷ no_descent p q ∷ [])
    ((found_or refused p >>= λ p. found_or refused q >>= λ q. holds_or fault.AgainstOrder (nat_lt p q) >>= λ above. Ok (p, q)) >>= λ pair. Ok (f pair))
due_pair refused None q f = refl
due_pair refused (Some p) None f = refl
due_pair refused (Some p) (Some q) f = by_order (nat_lt p q)
  where
    by_order : (b : Bool) → Agrees ((not b, AGAINST_THE_ORDER) ∷ []) ((holds_or fault.AgainstOrder b >>= λ above. Ok (p, q)) >>= λ pair. Ok (f pair))
    by_order true = refl
    by_order false = refl

-- the group above
due_parent : (m : ModelState) (parent : Option (List ℕ)) (f : Option ℕ → Result ModelState EditFault) (rest : List Cause)
    → ((g : Option ℕ) → Agrees rest (f g)) → Agrees (of_parent m parent ++ rest) (group_named m parent >>= f)
due_parent m None f rest h = h None
due_parent m (Some name) f rest h = by_place (find_group m name)
  where
    by_place : (o : Option ℕ) → Agrees ((is_none o, UNKNOWN_GROUP) ∷ rest) ((found_or fault.UnknownGroup o >>= λ g. Ok (Some g)) >>= f)
    by_place None = refl
    by_place (Some g) = h (Some g)

-- the places of names
abbrev place_or : ModelState → List ℕ → ℕ
place_or m name = unwrap_or (find_criterion m name) 0

abbrev are_unknown : ModelState → List (List ℕ) → Bool
are_unknown m names = list_any (λ name. is_none (find_criterion m name)) names

abbrev AreFound : ModelState → List (List ℕ) → Bool → Option (List ℕ) → Type 0
AreFound m names true places = places ≡ None
AreFound m names false places = places ≡ Some (map (place_or m) names)

find_all : (m : ModelState) (names : List (List ℕ)) → AreFound m names (are_unknown m names) (places_of m names)
find_all m [] = refl
find_all m (name ∷ names) = by_first (find_criterion m name) refl (are_unknown m names) (places_of m names) (find_all m names)
  where
    by_rest : (c : ℕ) → find_criterion m name ≡ Some c → (b : Bool) (rest : Option (List ℕ)) → AreFound m names b rest
        → AreFound m (name ∷ names) b (option_map (λ cs. c ∷ cs) rest)
    by_rest c e true rest h = ap (option_map (λ cs. c ∷ cs)) h
    by_rest c e false rest h =
        subst (λ r. option_map (λ cs. c ∷ cs) r ≡ Some (place_or m name ∷ map (place_or m) names)) (sym h)
        (ap (λ (o : Option ℕ). Some (unwrap_or o 0 ∷ map (place_or m) names)) (sym e))

    by_first : (o : Option ℕ) → find_criterion m name ≡ o → (b : Bool) (rest : Option (List ℕ)) → AreFound m names b rest
        → AreFound m (name ∷ names) (is_none o || b) (option_and_then (λ c. option_map (λ cs. c ∷ cs) rest) o)
    by_first None e b rest h = refl
    by_first (Some c) e b rest h = by_rest c e b rest h

module _ (m : ModelState) (names : List (List ℕ)) where
  abbrev order_causes : Bool → List Cause
  order_causes unknown =
      (unknown, UNKNOWN_CRITERION) ∷ (not (is_permutation (length m.criteria) (map (place_or m) names)), NO_PERMUTATION) ∷ []

  abbrev ordered : Option (List ℕ) → Result ModelState EditFault
  ordered places = do
    order ← found_or fault.UnknownCriterion places
    each ← holds_or fault.NotPermutation (is_permutation (length m.criteria) order)
    Ok (with_order m order)

  due_order : Agrees (order_causes (are_unknown m names)) (ordered (places_of m names))
  due_order = by_found (are_unknown m names) (places_of m names) (find_all m names)
    where
      by_test : (places : List ℕ) (b : Bool)
          → Agrees ((not b, NO_PERMUTATION) ∷ []) (holds_or fault.NotPermutation b >>= λ each. Ok (with_order m places))
      by_test places true = refl
      by_test places false = refl

      by_found : (b : Bool) (places : Option (List ℕ)) → AreFound m names b places → Agrees (order_causes b) (ordered places)
      by_found true places h = subst (λ p. Agrees (order_causes true) (ordered p)) (sym h) refl
      by_found false places h =
          subst (λ p. Agrees (order_causes false) (ordered p)) (sym h)
          (by_test (map (place_or m) names) (is_permutation (length m.criteria) (map (place_or m) names)))

-- ---- each command that asks for an edit

module _ (s : SessionState) where
  abbrev m : ModelState
  m = s.model

  -- two elements of a criterion that is named
  of_elements : (name x y : List ℕ) (f : ℕ → ℕ × ℕ → ModelState)
      → Agrees (no_criterion m name ∷ of_pair (criterion_of m name) x y)
      (found_or fault.UnknownCriterion (find_criterion m name) >>= λ c. pair_of (criterion_at m c) x y >>= λ pair. Ok (f c pair))
  of_elements name x y f =
      due_found (find_criterion m name) fault.UnknownCriterion (λ c. pair_of (criterion_at m c) x y >>= λ pair. Ok (f c pair)) 0
      (λ c. of_pair (criterion_at m c) x y)
      (λ c. due_pair fault.UnknownElement (find_element (criterion_at m c) x) (find_element (criterion_at m c) y) (f c))

  -- whether a command asks for an edit, and that edit agrees with what is due
  abbrev AsksInOrder : Command → Option Edit → Type 0
  AsksInOrder command None = Unit {0}
  AsksInOrder command (Some edit) = Agrees (causes s command) (edited m edit)

  pub edits_in_order : (c : Command) (edit : Edit) → edit_of c ≡ Some edit → Agrees (causes s c) (edited m edit)
  edits_in_order c edit e = subst (AsksInOrder c) e (each c)
    where
      each : (c : Command) → AsksInOrder c (edit_of c)
      each (command.Option name) = due_free (find_option m name) _ _ (due_room OPTIONS (length m.options) _ [] refl)
      each (command.DropOption name) = due_found (find_option m name) fault.UnknownOption _ 0 (λ o. []) (λ o. refl)
      each (command.Criterion name elements) =
          due_free (find_criterion m name) _ _ (due_test (are_apart elements) (not (are_apart elements)) fault.NameTaken _ _ refl
          (due_room CRITERIA (length m.criteria) _ _ (due_few LIMIT (length elements) _ [] refl)))
      each (command.DropCriterion name) = due_found (find_criterion m name) fault.UnknownCriterion _ 0 (λ c. []) (λ c. refl)
      each (command.Refs name good neutral) = of_elements name good neutral _
      each (command.Judge name x y range) = of_elements name x y _
      each (command.Unjudge name x y) = of_elements name x y _
      each (command.Perform option name element) =
          due_found (find_option m option) fault.UnknownOption _ 0 (λ o. no_criterion m name ∷ no_element (criterion_of m name) element ∷ []) (λ o.
          due_found (find_criterion m name) fault.UnknownCriterion _ 0 (λ c. no_element (criterion_at m c) element ∷ []) (λ c.
          due_found (find_element (criterion_at m c) element) fault.UnknownElement _ 0 (λ e. []) (λ e. refl)))
      each (command.WeighOrder names) = due_order m names
      each (command.Weigh x y range) = due_pair fault.UnknownCriterion (weigh_place m x) (weigh_place m y) _
      each (command.Unweigh x y) = due_pair fault.UnknownCriterion (weigh_place m x) (weigh_place m y) _
      each (command.Reach name reach) = due_found (find_criterion m name) fault.UnknownCriterion _ 0 (λ c. []) (λ c. refl)
      each (command.Group name parent) =
          due_parent m parent _ _ (λ g. due_free (find_group m name) _ _ (due_room GROUPS (length m.groups) _ [] refl))
      each (command.DropGroup name) = due_found (find_group m name) fault.UnknownGroup _ 0 (λ g. []) (λ g. refl)
      each (command.Place name group) =
          due_found (find_criterion m name) fault.UnknownCriterion _ 0 (λ c. no_group m group ∷ []) (λ c. due_parent m (Some group) _ [] (λ g. refl))
      each (command.Unplace name) = due_found (find_criterion m name) fault.UnknownCriterion _ 0 (λ c. []) (λ c. refl)
      each command.Undo = tt
      each (command.Matrix a) = tt
      each (command.Rows a) = tt
      each (command.Fits a b) = tt
      each (command.Scale a) = tt
      each (command.Cert a) = tt
      each (command.Verify a b) = tt
      each (command.Repairs a) = tt
      each (command.Anchored a) = tt
      each (command.Slack a b) = tt
      each command.Weights = tt
      each command.Wcert = tt
      each command.Wrepairs = tt
      each command.Scores = tt
      each (command.Dominance a b) = tt
      each (command.Dcert a b) = tt
      each command.Dominances = tt
      each (command.ExportMatrix a) = tt
      each (command.ExportAnchored a) = tt
      each command.ExportWeights = tt
      each command.ExportScores = tt
      each command.Dump = tt
      each command.Stats = tt
      each command.Quit = tt
      each command.Groups = tt
      each (command.Subtotals a) = tt
      each (command.Load a) = tt
      each (command.Import a b) = tt
