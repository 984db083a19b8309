-- The loops of a weighting's costs: chains of checked steps, one for each item, that add to what is done.
use Rattle.std.specs.Prelude.{reverse, int_div, IsTrue}
use Rattle.std.specs.Result.{is_err, IsErr}
use Rattle.std.proofs.Common.{◌≡◌, ℕ, ◌+◌, ◌<◌, ◌≤◌, ℤ, pos, ◌+ℤ◌, ◌*ℤ◌, List, [], ◌∷◌, ◌++◌, length, get_or, drop, append-nil, refl, sym, ap, subst, ◌∙◌, Result, Ok, Err}
use Rattle.std.proofs.lemmas.List.{at_drop_all, get_or_default}
use Rattle.integers.specs.Fraction.{Fraction}
use Rattle.integers.specs.Divisibility.{gcd_of}
use Rattle.frac128.specs.Chain.{◌>>=◌}
use Rattle.frac128.specs.Checked.{checked_difference, Gives}
use Rattle.frac128.specs.declared.number.TooWide.{TooWide}
use Rattle.frac128.proofs.ChainLemmas.{chain_next, chain_stops}
use Rattle.lp_macbeth.specs.ClosedWeighting.{in_order, checked_whole, checked_excesses, checked_multiple, checked_numerators, checked_sums, checked_costs, FaultSays}
use Rattle.lp_macbeth.specs.declared.weighting.WeightingFault.{WeightingFault}
use Rattle.lp_macbeth.specs.declared.weighting.WeightingFault.TheVariants as fault
use Rattle.lp_macbeth.proofs.LoopLemmas.{rest_next}

-- the answer to a formula that refuses
pub too_wide : {V X : Type 0} (items : V → X) (worked : Result X TooWide) (e : TooWide) (result : Result V WeightingFault) → IsErr result → worked ≡ Err e
    → Gives FaultSays items worked result
too_wide items worked e (Ok v) h is = cc
too_wide items worked e (Err fault.TooWide) h is = subst (λ r. IsTrue (is_err r)) (sym is) refl
too_wide items worked e (Err fault.NoMemory) h is = tt

-- ---- the costs

-- the number that the next sum takes
number_next : (order : List ℕ) (numbers : List ℤ) (i : ℕ) (x : ℤ) → i < length order → get_or order i 0 < length numbers
    → x ≡ get_or numbers (get_or order i 0) x → in_order (pos 0) (drop i order) numbers ≡ x ∷ in_order (pos 0) (drop (i + 1) order) numbers
number_next order numbers i x below within read =
    ap (λ l. in_order (pos 0) l numbers) (rest_next order i 0 below)
    ∙ ap (λ z. z ∷ in_order (pos 0) (drop (i + 1) order) numbers) (sym (read ∙ get_or_default numbers (get_or order i 0) x (pos 0) within))

pub sums_next : (order : List ℕ) (numbers : List ℤ) (i : ℕ) (x s t : ℤ) (done now : List ℤ) (all : Result (List ℤ) TooWide) → i < length order
    → get_or order i 0 < length numbers → x ≡ get_or numbers (get_or order i 0) x → Ok t ≡ checked_whole (s +ℤ x) → now ≡ done ++ t ∷ []
    → ((checked_sums s (in_order (pos 0) (drop i order) numbers)) >>= (λ others. Ok (done ++ others))) ≡ all
    → ((checked_sums t (in_order (pos 0) (drop (i + 1) order) numbers)) >>= (λ others. Ok (now ++ others))) ≡ all
unfolding checked_sums
sums_next order numbers i x s t done now all below within read is made so_far =
    let others : List ℤ = in_order (pos 0) (drop (i + 1) order) numbers in
    chain_next (checked_whole (s +ℤ x)) (λ sum. checked_sums sum others) t done now all is made
    (ap (λ l. (checked_sums s l) >>= (λ others. Ok (done ++ others))) (sym (number_next order numbers i x below within read)) ∙ so_far)

pub costs_stop : (order : List ℕ) (numbers : List ℤ) (i : ℕ) (x s : ℤ) (e : TooWide) (done : List ℤ) → i < length order → get_or order i 0 < length numbers
    → x ≡ get_or numbers (get_or order i 0) x → Err e ≡ checked_whole (s +ℤ x)
    → ((checked_sums s (in_order (pos 0) (drop i order) numbers)) >>= (λ others. Ok (done ++ others))) ≡ checked_sums (pos 0) (in_order (pos 0) order numbers)
    → checked_costs (in_order (pos 0) order numbers) ≡ Err e
unfolding checked_sums checked_costs
costs_stop order numbers i x s e done below within read is so_far =
    let others : List ℤ = in_order (pos 0) (drop (i + 1) order) numbers in
    ap (λ r. r >>= (λ sums. Ok (reverse sums)))
    (chain_stops (checked_whole (s +ℤ x)) (λ sum. checked_sums sum others) e done (checked_sums (pos 0) (in_order (pos 0) order numbers)) is
    (ap (λ l. (checked_sums s l) >>= (λ others. Ok (done ++ others))) (sym (number_next order numbers i x below within read)) ∙ so_far))

pub costs_done : (order : List ℕ) (numbers : List ℤ) (i : ℕ) (s : ℤ) (done now : List ℤ) → length order ≤ i
    → ((checked_sums s (in_order (pos 0) (drop i order) numbers)) >>= (λ others. Ok (done ++ others))) ≡ checked_sums (pos 0) (in_order (pos 0) order numbers)
    → now ≡ reverse done → checked_costs (in_order (pos 0) order numbers) ≡ Ok now
unfolding checked_sums checked_costs
costs_done order numbers i s done now past so_far made =
    ap (λ r. r >>= (λ sums. Ok (reverse sums)))
    (sym so_far ∙ at_drop_all (λ l. (checked_sums s (in_order (pos 0) l numbers)) >>= (λ others. Ok (done ++ others))) order i past
    ∙ ap (λ l. Ok l) (append-nil done))
    ∙ ap (λ l. Ok l) (sym made)

-- ---- the excesses

pub excesses_next : (least : Fraction) (gaps : List Fraction) (i : ℕ) (gap x : Fraction) (done now : List Fraction) (all : Result (List Fraction) TooWide)
    → drop i gaps ≡ gap ∷ drop (i + 1) gaps → Ok x ≡ checked_difference gap least → now ≡ done ++ x ∷ []
    → ((checked_excesses least (drop i gaps)) >>= (λ others. Ok (done ++ others))) ≡ all
    → ((checked_excesses least (drop (i + 1) gaps)) >>= (λ others. Ok (now ++ others))) ≡ all
unfolding checked_excesses
excesses_next least gaps i gap x done now all first is made so_far =
    chain_next (checked_difference gap least) (λ y. checked_excesses least (drop (i + 1) gaps)) x done now all is made
    (ap (λ l. (checked_excesses least l) >>= (λ others. Ok (done ++ others))) (sym first) ∙ so_far)

pub excesses_stop : (least : Fraction) (gaps : List Fraction) (i : ℕ) (gap : Fraction) (e : TooWide) (done : List Fraction) (all : Result (List Fraction) TooWide)
    → drop i gaps ≡ gap ∷ drop (i + 1) gaps → Err e ≡ checked_difference gap least
    → ((checked_excesses least (drop i gaps)) >>= (λ others. Ok (done ++ others))) ≡ all → all ≡ Err e
unfolding checked_excesses
excesses_stop least gaps i gap e done all first is so_far =
    chain_stops (checked_difference gap least) (λ y. checked_excesses least (drop (i + 1) gaps)) e done all is
    (ap (λ l. (checked_excesses least l) >>= (λ others. Ok (done ++ others))) (sym first) ∙ so_far)

pub excesses_done : (least : Fraction) (gaps : List Fraction) (i : ℕ) (done : List Fraction) (all : Result (List Fraction) TooWide) → length gaps ≤ i
    → ((checked_excesses least (drop i gaps)) >>= (λ others. Ok (done ++ others))) ≡ all → all ≡ Ok done
unfolding checked_excesses
excesses_done least gaps i done all past so_far =
    sym so_far ∙ at_drop_all (λ l. (checked_excesses least l) >>= (λ others. Ok (done ++ others))) gaps i past ∙ ap (λ l. Ok l) (append-nil done)

-- ---- the numerators

pub numerators_next : (l : ℤ) (es : List Fraction) (i : ℕ) (e : Fraction) (x : ℤ) (done now : List ℤ) (all : Result (List ℤ) TooWide)
    → drop i es ≡ e ∷ drop (i + 1) es → Ok x ≡ checked_whole (e.num *ℤ int_div l e.den) → now ≡ done ++ x ∷ []
    → ((checked_numerators l (drop i es)) >>= (λ others. Ok (done ++ others))) ≡ all
    → ((checked_numerators l (drop (i + 1) es)) >>= (λ others. Ok (now ++ others))) ≡ all
unfolding checked_numerators
numerators_next l es i e x done now all first is made so_far =
    chain_next (checked_whole (e.num *ℤ int_div l e.den)) (λ y. checked_numerators l (drop (i + 1) es)) x done now all is made
    (ap (λ zs. (checked_numerators l zs) >>= (λ others. Ok (done ++ others))) (sym first) ∙ so_far)

pub numerators_stop : (l : ℤ) (es : List Fraction) (i : ℕ) (e : Fraction) (refusal : TooWide) (done : List ℤ) (all : Result (List ℤ) TooWide)
    → drop i es ≡ e ∷ drop (i + 1) es → Err refusal ≡ checked_whole (e.num *ℤ int_div l e.den)
    → ((checked_numerators l (drop i es)) >>= (λ others. Ok (done ++ others))) ≡ all → all ≡ Err refusal
unfolding checked_numerators
numerators_stop l es i e refusal done all first is so_far =
    chain_stops (checked_whole (e.num *ℤ int_div l e.den)) (λ y. checked_numerators l (drop (i + 1) es)) refusal done all is
    (ap (λ zs. (checked_numerators l zs) >>= (λ others. Ok (done ++ others))) (sym first) ∙ so_far)

pub numerators_done : (l : ℤ) (es : List Fraction) (i : ℕ) (done : List ℤ) (all : Result (List ℤ) TooWide) → length es ≤ i
    → ((checked_numerators l (drop i es)) >>= (λ others. Ok (done ++ others))) ≡ all → all ≡ Ok done
unfolding checked_numerators
numerators_done l es i done all past so_far =
    sym so_far ∙ at_drop_all (λ zs. (checked_numerators l zs) >>= (λ others. Ok (done ++ others))) es i past ∙ ap (λ zs. Ok zs) (append-nil done)

-- ---- the common multiple

pub multiple_next : (l next : ℤ) (es : List Fraction) (i : ℕ) (e : Fraction) (all : Result ℤ TooWide) → drop i es ≡ e ∷ drop (i + 1) es
    → Ok next ≡ checked_whole (int_div l (gcd_of l e.den) *ℤ e.den) → checked_multiple l (drop i es) ≡ all → checked_multiple next (drop (i + 1) es) ≡ all
unfolding checked_multiple
multiple_next l next es i e all first is so_far =
    ap (λ r. r >>= (λ n. checked_multiple n (drop (i + 1) es))) is ∙ ap (checked_multiple l) (sym first) ∙ so_far
