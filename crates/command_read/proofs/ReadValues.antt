-- What a command keeps that was read from a line.
use Rattle.std.proofs.Common.{◌≡◌, ℕ, ◌≤◌, ◌&&◌, Bool, true, false, not, nat_le, List, [], ◌∷◌, Option, Some, None, Result, Ok, Err, refl, subst, cond, length, arith}
use Rattle.std.specs.List.{list_all}
use Rattle.std.specs.Str.Parse.{digits_value}
use Rattle.std.proofs.lemmas.Bool.Decides.{nat_tests}
use Rattle.std.specs.Prelude.{⊤, codes}
use Rattle.std.specs.Option.{option_map_or}
use Rattle.std.specs.Str.{bytes_eq, is_utf8}
use Rattle.std.proofs.lemmas.List.Elements.{All-nil, All-cons}
use Rattle.integers.specs.Fraction.{Fraction, IsFraction, AreFractions}
use Rattle.frac128.specs.Reader.{read_fraction}
use Rattle.frac128.proofs.ReaderLemmas.{read_positive}
use Rattle.frac128.specs.Chain.{◌>>=◌}
use Rattle.command_read.specs.Words.{first_word, words}
use Rattle.command_read.specs.Verbs.{verb_of}
use Rattle.command_read.specs.Parts.{name, new_name, names, range, reach, is_numeral, is_reach, fraction, fractions, values, ends_in_zero}
use Rattle.judgement_matrix.specs.Range.{Bounds, IsRange}
use Rattle.model_core.specs.Names.{is_name}
use Rattle.model_core.specs.Categories.{range_of}
use Rattle.model_core.specs.State.{is_reserved}
use Rattle.judgement_matrix.specs.declared.reach.TheConstants.{LEAST_REACH, MOST_REACH}
use Rattle.model_core.proofs.GrammarLemmas.{range_of-IsRange}
use Rattle.command_read.specs.Forms.{fits as forms_fits, criterion as forms_criterion, judge as forms_judge, weigh_order as forms_weigh_order, weigh as forms_weigh, reach_of as forms_reach_of, group as forms_group, export as forms_export}
use Rattle.command_read.specs.Forms.{form, no_word, one_word, two_words, three_words, four_words, one_name, two_names, three_names}
use Rattle.command_read.specs.Reading.{command_of, command_at, command_in, is_comment, parsed_as}
use Rattle.command_read.specs.declared.block.Held.{Held}
use Rattle.command_read.specs.declared.command.Command.{Command}
use Rattle.command_read.specs.declared.command.Command.TheVariants as command
use Rattle.command_read.specs.declared.command.Parsed.{Parsed}
use Rattle.command_read.specs.declared.command.Parsed.TheVariants.{Nothing, Do, Refused}
use Rattle.command_read.specs.declared.refusal.Refusal.{Refusal}
use Rattle.command_read.specs.declared.refusal.Refusal.TheVariants.{BadName, BadNumber, BadCategory, UnknownCommand, NotUtf8}
use Rattle.command_read.specs.declared.verb.Verb.{Verb}
use Rattle.command_read.specs.declared.verb.Verb.TheVariants as verb

-- the values of a scale as a line has them: with positive denominators, and the last one 0
abbrev pub AreReadValues : List Fraction → Type 0
AreReadValues vs = AreFractions vs × (ends_in_zero vs ≡ true)

abbrev pub Keeps : Command → Type 0
Keeps (command.Fits name vs) = AreReadValues vs
Keeps (command.Criterion name elements) = (2 ≤ length elements) × (is_reserved name ≡ false)
Keeps (command.Judge name x y range) = IsRange range
Keeps (command.Weigh x y range) = IsRange range
Keeps (command.Reach name n) = (LEAST_REACH ≤ n) × (n ≤ MOST_REACH)
Keeps other = ⊤

-- a command that was read keeps it
abbrev KeepsOk : Result Command Refusal → Type 0
KeepsOk (Ok c) = Keeps c
KeepsOk (Err refusal) = ⊤

-- a reading that isn't refused
abbrev read_so : {A : Type 0} → A → Result A Refusal
read_so a = Ok a

-- one step, and then the command
then : {A : Type 0} (r : Result A Refusal) (f : A → Result Command Refusal) → ((a : A) → KeepsOk (f a)) → KeepsOk (r >>= f)
then (Ok a) f h = h a
then (Err refusal) f h = tt

-- the same with what the step gave
then_of : {A : Type 0} (r : Result A Refusal) (f : A → Result Command Refusal) → ((a : A) → r ≡ Ok a → KeepsOk (f a)) → KeepsOk (r >>= f)
then_of (Ok a) f h = h a refl
then_of (Err refusal) f h = tt

-- ---- values

abbrev AreReadOk : Result (List Fraction) Refusal → Type 0
AreReadOk (Ok vs) = AreFractions vs
AreReadOk (Err refusal) = ⊤

abbrev IsReadOk : Result Fraction Refusal → Type 0
IsReadOk (Ok v) = IsFraction v
IsReadOk (Err refusal) = ⊤

one_fraction : (word : List ℕ) → IsReadOk (fraction word)
one_fraction word = by_reading (read_fraction word) (read_positive word)
  where
    by_reading : (o : Option Fraction) → ((f : Fraction) → o ≡ Some f → IsFraction f) → IsReadOk (option_map_or (λ value. Ok value) o (Err BadNumber))
    by_reading None h = tt
    by_reading (Some f) h = h f refl

all_fractions : (ws : List (List ℕ)) → AreReadOk (fractions ws)
unfolding fractions
all_fractions [] = All-nil IsFraction
all_fractions (word ∷ ws) = joined (fraction word) (fractions ws) (one_fraction word) (all_fractions ws)
  where
    joined : (r : Result Fraction Refusal) (rs : Result (List Fraction) Refusal) → IsReadOk r → AreReadOk rs
        → AreReadOk (r >>= λ value. rs >>= λ others. Ok (value ∷ others))
    joined (Ok v) (Ok vs) h k = All-cons IsFraction v vs h k
    joined (Ok v) (Err refusal) h k = tt
    joined (Err refusal) rs h k = tt

-- the values behind a name
fits_of_values : (a : List ℕ) (ws : List (List ℕ)) → KeepsOk (values ws >>= λ vs. Ok (command.Fits a vs))
unfolding values
fits_of_values a ws = by_reading (fractions ws) (all_fractions ws)
  where
    by_end : (all : List Fraction) (b : Bool) → ends_in_zero all ≡ b → AreFractions all
        → KeepsOk ((cond b (Ok all) (Err BadNumber)) >>= λ vs. Ok (command.Fits a vs))
    by_end all true e h = (h, e)
    by_end all false e h = tt

    by_reading : (r : Result (List Fraction) Refusal) → AreReadOk r
        → KeepsOk ((r >>= λ all. cond (ends_in_zero all) (Ok all) (Err BadNumber)) >>= λ vs. Ok (command.Fits a vs))
    by_reading (Ok all) h = by_end all (ends_in_zero all) refl h
    by_reading (Err refusal) h = tt

-- ---- names, ranges and reaches

same_ok : {A : Type 0} (x y : A) → read_so x ≡ Ok y → x ≡ y
same_ok x y h = cc

-- a test, and then what was tested
tested : {A : Type 0} (b : Bool) (x y : A) (refusal : Refusal) → cond b (read_so x) (Err refusal) ≡ Ok y → (b ≡ true) × (x ≡ y)
tested true x y refusal h = (refl, same_ok x y h)
tested false x y refusal h = cc

both : (a b : Bool) → (a && b) ≡ true → (a ≡ true) × (b ≡ true)
both true b h = (refl, h)
both false b h = cc

is_false : (b : Bool) → not b ≡ true → b ≡ false
is_false true h = cc
is_false false h = refl

at_most : (a b : ℕ) → nat_le a b ≡ true → a ≤ b
at_most a b h = grind (arith, nat_tests)

new_name_is_free : (word a : List ℕ) → new_name word ≡ Ok a → is_reserved a ≡ false
new_name_is_free word a h =
    let t = tested (is_name word && not (is_reserved word)) word a BadName h in
    subst (λ n. is_reserved n ≡ false) t.1 (is_false (is_reserved word) (both (is_name word) (not (is_reserved word)) t.0).1)

names_are_words : (ws es : List (List ℕ)) → names ws ≡ Ok es → ws ≡ es
names_are_words ws es h = (tested (list_all is_name ws) ws es BadName h).1

range_is_one : (word : List ℕ) (r : Bounds) → range word ≡ Ok r → IsRange r
range_is_one word r h = by_range (range_of word) (λ b is. range_of-IsRange word b is) h
  where
    by_range : (o : Option Bounds) → ((b : Bounds) → o ≡ Some b → IsRange b) → option_map_or (λ bounds. read_so bounds) o (Err BadCategory) ≡ Ok r → IsRange r
    by_range None is k = cc
    by_range (Some b) is k = subst IsRange (same_ok b r k) (is b refl)

reach_is_one : (word : List ℕ) (n : ℕ) → reach word ≡ Ok n → (LEAST_REACH ≤ n) × (n ≤ MOST_REACH)
reach_is_one word n h =
    let value = digits_value 10 word in
    let t = tested (is_reach word) value n BadNumber h in
    let within = both (nat_le LEAST_REACH value) (nat_le value MOST_REACH)
    (both (is_numeral word) (nat_le LEAST_REACH value && nat_le value MOST_REACH) t.0).1 in
    subst (λ k. (LEAST_REACH ≤ k) × (k ≤ MOST_REACH)) t.1 (at_most LEAST_REACH value within.0, at_most value MOST_REACH within.1)

-- ---- forms

fits_keep : (ws : List (List ℕ)) (held : Held) → KeepsOk (forms_fits ws held)
unfolding forms_fits
fits_keep [] held = tt
fits_keep (x ∷ []) held = tt
fits_keep (x ∷ y ∷ more) held = then (name x) _ (λ a. fits_of_values a (y ∷ more))

criterion_keeps : (ws : List (List ℕ)) (held : Held) → KeepsOk (forms_criterion ws held)
unfolding forms_criterion
criterion_keeps [] held = tt
criterion_keeps (x ∷ []) held = tt
criterion_keeps (x ∷ y ∷ []) held = tt
criterion_keeps (x ∷ y ∷ z ∷ more) held =
    then_of (new_name x) _ (λ a free. then_of (names (y ∷ z ∷ more)) _ (λ elements are.
    (subst (λ es. 2 ≤ length es) (names_are_words (y ∷ z ∷ more) elements are) (omega arith), new_name_is_free x a free)))

judge_keeps : (ws : List (List ℕ)) (held : Held) → KeepsOk (forms_judge ws held)
unfolding forms_judge
judge_keeps ws held =
    then (four_words ws) _ (λ w. then (name w.0) _ (λ a. then (name w.1) _ (λ b. then (name w.2) _ (λ c. then_of (range w.3) _ (λ r is. range_is_one w.3 r is)))))

order_keeps : (ws : List (List ℕ)) (held : Held) → KeepsOk (forms_weigh_order ws held)
unfolding forms_weigh_order
order_keeps [] held = tt
order_keeps (x ∷ more) held = then (names (x ∷ more)) _ (λ order. tt)

weigh_keeps : (ws : List (List ℕ)) (held : Held) → KeepsOk (forms_weigh ws held)
unfolding forms_weigh
weigh_keeps ws held = then (three_words ws) _ (λ w. then (name w.0) _ (λ a. then (name w.1) _ (λ b. then_of (range w.2) _ (λ r is. range_is_one w.2 r is))))

reach_keeps : (ws : List (List ℕ)) (held : Held) → KeepsOk (forms_reach_of ws held)
unfolding forms_reach_of
reach_keeps ws held = then (two_words ws) _ (λ w. then (name w.0) _ (λ a. then_of (reach w.1) _ (λ n is. reach_is_one w.1 n is)))

group_keeps : (ws : List (List ℕ)) (held : Held) → KeepsOk (forms_group ws held)
unfolding forms_group
group_keeps [] held = tt
group_keeps (x ∷ []) held = then (name x) _ (λ a. tt)
group_keeps (x ∷ y ∷ []) held = then (name x) _ (λ a. then (name y) _ (λ b. tt))
group_keeps (x ∷ y ∷ z ∷ more) held = tt

either : (b : Bool) (r s : Result Command Refusal) → KeepsOk r → KeepsOk s → KeepsOk (cond b r s)
either true r s h k = h
either false r s h k = k

export_keeps : (ws : List (List ℕ)) (held : Held) → KeepsOk (forms_export ws held)
unfolding forms_export
export_keeps [] held = tt
export_keeps (what ∷ ws) held =
    either (bytes_eq what (codes "matrix")) _ _ (then (one_name ws) _ (λ a. tt))
    (either (bytes_eq what (codes "anchored")) _ _ (then (one_name ws) _ (λ a. tt))
    (either (bytes_eq what (codes "weights")) _ _ (then (no_word ws) _ (λ none. tt))
    (either (bytes_eq what (codes "scores")) _ _ (then (no_word ws) _ (λ none. tt)) tt)))

form_keeps : (v : Verb) (ws : List (List ℕ)) (held : Held) → KeepsOk (form v ws held)
unfolding form
form_keeps verb.Option ws held = then (one_name ws) _ (λ a. tt)
form_keeps verb.DropOption ws held = then (one_name ws) _ (λ a. tt)
form_keeps verb.DropCriterion ws held = then (one_name ws) _ (λ a. tt)
form_keeps verb.Matrix ws held = then (one_name ws) _ (λ a. tt)
form_keeps verb.Rows ws held = then (one_name ws) _ (λ a. tt)
form_keeps verb.Scale ws held = then (one_name ws) _ (λ a. tt)
form_keeps verb.Cert ws held = then (one_name ws) _ (λ a. tt)
form_keeps verb.Repairs ws held = then (one_name ws) _ (λ a. tt)
form_keeps verb.Anchored ws held = then (one_name ws) _ (λ a. tt)
form_keeps verb.DropGroup ws held = then (one_name ws) _ (λ a. tt)
form_keeps verb.Unplace ws held = then (one_name ws) _ (λ a. tt)
form_keeps verb.Subtotals ws held = then (one_name ws) _ (λ a. tt)
form_keeps verb.Unweigh ws held = then (two_names ws) _ (λ n. tt)
form_keeps verb.Slack ws held = then (two_names ws) _ (λ n. tt)
form_keeps verb.Dominance ws held = then (two_names ws) _ (λ n. tt)
form_keeps verb.Dcert ws held = then (two_names ws) _ (λ n. tt)
form_keeps verb.Place ws held = then (two_names ws) _ (λ n. tt)
form_keeps verb.Refs ws held = then (three_names ws) _ (λ n. tt)
form_keeps verb.Unjudge ws held = then (three_names ws) _ (λ n. tt)
form_keeps verb.Perform ws held = then (three_names ws) _ (λ n. tt)
form_keeps verb.Undo ws held = then (no_word ws) _ (λ none. tt)
form_keeps verb.Weights ws held = then (no_word ws) _ (λ none. tt)
form_keeps verb.Wcert ws held = then (no_word ws) _ (λ none. tt)
form_keeps verb.Wrepairs ws held = then (no_word ws) _ (λ none. tt)
form_keeps verb.Scores ws held = then (no_word ws) _ (λ none. tt)
form_keeps verb.Dominances ws held = then (no_word ws) _ (λ none. tt)
form_keeps verb.Dump ws held = then (no_word ws) _ (λ none. tt)
form_keeps verb.Stats ws held = then (no_word ws) _ (λ none. tt)
form_keeps verb.Quit ws held = then (no_word ws) _ (λ none. tt)
form_keeps verb.Groups ws held = then (no_word ws) _ (λ none. tt)
form_keeps verb.Load ws held = then (no_word ws) _ (λ none. tt)
form_keeps verb.Import ws held = then (one_name ws) _ (λ a. tt)
form_keeps verb.Verify ws held = then (one_name ws) _ (λ a. tt)
form_keeps verb.Criterion ws held = criterion_keeps ws held
form_keeps verb.Judge ws held = judge_keeps ws held
form_keeps verb.WeighOrder ws held = order_keeps ws held
form_keeps verb.Weigh ws held = weigh_keeps ws held
form_keeps verb.Reach ws held = reach_keeps ws held
form_keeps verb.Fits ws held = fits_keep ws held
form_keeps verb.Export ws held = export_keeps ws held
form_keeps verb.Group ws held = group_keeps ws held

-- ---- lines

abbrev pub KeepsRead : Parsed → Type 0
KeepsRead Nothing = ⊤
KeepsRead (Do c) = Keeps c
KeepsRead (Refused number) = ⊤

of_result : (r : Result Command Refusal) → KeepsOk r → KeepsRead (parsed_as r)
of_result (Ok c) h = h
of_result (Err refusal) h = tt

by_verb : (found : Option Verb) (ws : List (List ℕ)) (held : Held) → KeepsOk (option_map_or (λ v. form v ws held) found (Err UnknownCommand))
by_verb None ws held = tt
by_verb (Some v) ws held = form_keeps v ws held

-- the command of a line
pub line_keeps : (line : List ℕ) (held : Held) → KeepsRead (command_of line held)
line_keeps line held = of_comment (is_comment line)
  where
    of_words : (word : List ℕ × List ℕ) → KeepsRead (parsed_as (command_in line word.0 word.1 held))
    of_words word = of_result _ (either (is_utf8 line) _ _ (by_verb (verb_of word.0) (words word.1) held) tt)

    of_first : (o : Option (List ℕ × List ℕ)) → KeepsRead (option_map_or (λ word. parsed_as (command_in line word.0 word.1 held)) o Nothing)
    of_first None = tt
    of_first (Some word) = of_words word

    of_comment : (b : Bool) → KeepsRead (cond b Nothing (option_map_or (λ word. parsed_as (command_in line word.0 word.1 held)) (first_word line) Nothing))
    of_comment true = tt
    of_comment false = of_first (first_word line)
