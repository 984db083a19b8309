-- Loops over chains of checked steps, one for each item, that add to what is done.
use Rattle.std.specs.Prelude.{IsTrue}
use Rattle.std.specs.Result.{is_err, IsErr, IsErrAnd}
use Rattle.std.proofs.Common.{◌≡◌, ℕ, ◌+◌, ◌<◌, ◌≤◌, pos, List, [], ◌∷◌, ◌++◌, length, get_or, drop, append-nil, add-one, refl, sym, ap, ap₂, subst, ◌∙◌, Result, Ok, Err}
use Rattle.std.proofs.Math.Seq.{drop-cons}
use Rattle.std.proofs.lemmas.List.{at_drop_all}
use Rattle.integers.specs.Fraction.{Fraction, fraction_of}
use Rattle.frac128.specs.Chain.{◌>>=◌}
use Rattle.frac128.specs.Checked.{checked_sum, Gives}
use Rattle.frac128.specs.declared.number.TooWide.{TooWide}
use Rattle.frac128.proofs.ChainLemmas.{chain_next, chain_stops}
use Rattle.value_scale.specs.Anchor.{checked_line, checked_point}
use Rattle.value_scale.specs.Anchor as anchor
use Rattle.value_scale.specs.GapSums.{checked_heights, checked_column}
use Rattle.value_scale.specs.Fault.{FaultSays}
use Rattle.value_scale.specs.declared.anchored_scale.AnchorFault.{AnchorFault}
use Rattle.value_scale.specs.declared.anchored_scale.AnchorFault.TheVariants as unanchored
use Rattle.value_scale.specs.declared.fault.ScaleFault.{ScaleFault}
use Rattle.value_scale.specs.declared.fault.ScaleFault.TheVariants as fault

-- ---- chains

-- what is left begins with the item that was read
pub rest_item : {A : Type 0} (xs : List A) (i : ℕ) (x : A) → i < length xs → x ≡ get_or xs i x → drop i xs ≡ x ∷ drop (i + 1) xs
rest_item xs i x below read =
    drop-cons xs i x below ∙ ap (λ k. get_or xs i x ∷ drop k xs) (sym (add-one i)) ∙ ap (λ y. y ∷ drop (i + 1) xs) (sym read)

-- the answer to a formula that refuses
pub too_wide : {V X : Type 0} (items : V → X) (worked : Result X TooWide) (e : TooWide) (result : Result V ScaleFault) → IsErr result → worked ≡ Err e
    → Gives FaultSays items worked result
too_wide items worked e (Ok v) h is = cc
too_wide items worked e (Err fault.TooWide) h is = subst (λ r. IsTrue (is_err r)) (sym is) refl
too_wide items worked e (Err fault.NoMemory) h is = tt

-- ---- heights

pub heights_start : (gaps : List Fraction) (zero : Fraction) (none now : List Fraction) → zero ≡ fraction_of (pos 0) → none ≡ [] → now ≡ none ++ zero ∷ []
    → ((checked_heights zero gaps) >>= (λ above. Ok (now ++ above))) ≡ checked_column gaps
unfolding checked_column
heights_start gaps zero none now is empty made =
    ap₂ (λ z l. (checked_heights z gaps) >>= (λ above. Ok (l ++ above))) is (made ∙ ap₂ (λ l z. l ++ z ∷ []) empty is)

pub heights_next : (gaps : List Fraction) (i : ℕ) (a gap b : Fraction) (done now : List Fraction) (all : Result (List Fraction) TooWide)
    → drop i gaps ≡ gap ∷ drop (i + 1) gaps → Ok b ≡ checked_sum a gap → now ≡ done ++ b ∷ []
    → ((checked_heights a (drop i gaps)) >>= (λ above. Ok (done ++ above))) ≡ all
    → ((checked_heights b (drop (i + 1) gaps)) >>= (λ above. Ok (now ++ above))) ≡ all
unfolding checked_heights
heights_next gaps i a gap b done now all first is made so_far =
    chain_next (checked_sum a gap) (λ height. checked_heights height (drop (i + 1) gaps)) b done now all is made
    (ap (λ l. (checked_heights a l) >>= (λ above. Ok (done ++ above))) (sym first) ∙ so_far)

pub heights_stop : (gaps : List Fraction) (i : ℕ) (a gap : Fraction) (e : TooWide) (done : List Fraction) (all : Result (List Fraction) TooWide)
    → drop i gaps ≡ gap ∷ drop (i + 1) gaps → Err e ≡ checked_sum a gap → ((checked_heights a (drop i gaps)) >>= (λ above. Ok (done ++ above))) ≡ all → all ≡ Err e
unfolding checked_heights
heights_stop gaps i a gap e done all first is so_far =
    chain_stops (checked_sum a gap) (λ height. checked_heights height (drop (i + 1) gaps)) e done all is
    (ap (λ l. (checked_heights a l) >>= (λ above. Ok (done ++ above))) (sym first) ∙ so_far)

pub heights_done : (gaps : List Fraction) (i : ℕ) (a : Fraction) (done : List Fraction) (all : Result (List Fraction) TooWide) → length gaps ≤ i
    → ((checked_heights a (drop i gaps)) >>= (λ above. Ok (done ++ above))) ≡ all → all ≡ Ok done
unfolding checked_heights
heights_done gaps i a done all past so_far =
    sym so_far ∙ at_drop_all (λ l. (checked_heights a l) >>= (λ above. Ok (done ++ above))) gaps i past ∙ ap (λ l. Ok l) (append-nil done)

-- ---- points on a line

-- the answer to a formula that refuses
pub too_wide_line : {V X : Type 0} (items : V → X) (worked : Result X TooWide) (e : TooWide) (result : Result V AnchorFault) → IsErr result
    → IsErrAnd result (λ given. given ≡ unanchored.TooWide) → worked ≡ Err e → Gives anchor.FaultSays items worked result
too_wide_line items worked e (Ok v) h given is = cc
too_wide_line items worked e (Err unanchored.TooWide) h given is = subst (λ r. IsTrue (is_err r)) (sym is) refl
too_wide_line items worked e (Err unanchored.NoMemory) h given is = tt
too_wide_line items worked e (Err unanchored.Flat) h given is = cc

pub line_next : (zero factor : Fraction) (values : List Fraction) (i : ℕ) (value x : Fraction) (done now : List Fraction) (all : Result (List Fraction) TooWide)
    → drop i values ≡ value ∷ drop (i + 1) values → Ok x ≡ checked_point zero factor value → now ≡ done ++ x ∷ []
    → ((checked_line zero factor (drop i values)) >>= (λ others. Ok (done ++ others))) ≡ all
    → ((checked_line zero factor (drop (i + 1) values)) >>= (λ others. Ok (now ++ others))) ≡ all
line_next zero factor values i value x done now all first is made so_far =
    chain_next (checked_point zero factor value) (λ y. checked_line zero factor (drop (i + 1) values)) x done now all is made
    (ap (λ l. (checked_line zero factor l) >>= (λ others. Ok (done ++ others))) (sym first) ∙ so_far)

pub line_stops : (zero factor : Fraction) (values : List Fraction) (i : ℕ) (value : Fraction) (e : TooWide) (done : List Fraction)
    (all : Result (List Fraction) TooWide) → drop i values ≡ value ∷ drop (i + 1) values → Err e ≡ checked_point zero factor value
    → ((checked_line zero factor (drop i values)) >>= (λ others. Ok (done ++ others))) ≡ all → all ≡ Err e
line_stops zero factor values i value e done all first is so_far =
    chain_stops (checked_point zero factor value) (λ y. checked_line zero factor (drop (i + 1) values)) e done all is
    (ap (λ l. (checked_line zero factor l) >>= (λ others. Ok (done ++ others))) (sym first) ∙ so_far)

pub line_done : (zero factor : Fraction) (values : List Fraction) (i : ℕ) (done : List Fraction) (all : Result (List Fraction) TooWide) → length values ≤ i
    → ((checked_line zero factor (drop i values)) >>= (λ others. Ok (done ++ others))) ≡ all → all ≡ Ok done
line_done zero factor values i done all past so_far =
    sym so_far ∙ at_drop_all (λ l. (checked_line zero factor l) >>= (λ others. Ok (done ++ others))) values i past ∙ ap (λ l. Ok l) (append-nil done)
