-- Loops over places: of performances, of weights and values, and of sums that may be too wide.
use Rattle.std.proofs.Common.{◌≡◌, ◌↔◌, ◌≤◌, ◌<◌, ◌+◌, ◌-◌, ℕ, zero, suc, Bool, true, false, cond, List, [], ◌∷◌, ◌++◌, drop, take, map, length, Option, Some, None, Result, Ok, Err, IsTrue, refl, ap, ap₂, sym, subst, ◌∙◌, add-one, arith}
use Rattle.std.specs.Prelude.{All, filter, slice_get}
use Rattle.std.specs.List.{range_with_len, zip}
use Rattle.std.specs.Option.{option_map_or}
use Rattle.std.proofs.lemmas.List.{append_assoc}
use Rattle.std.proofs.lemmas.List.Elements.{All-nil, All-cons, All-take}
use Rattle.integers.proofs.Loops.{push_next, join_next}
use Rattle.lp_macbeth.proofs.PairLemmas.{range_with_len-next}
use Rattle.frac128.specs.declared.number.TooWide.{TooWide}
use Rattle.frac128.specs.Chain.{checked_each}
use Rattle.report_text.specs.declared.reply.Detail.{Detail}
use Rattle.report_text.specs.declared.reply.Reply.{Reply}
use Rattle.session_edits.proofs.FirstLemmas.{put_first, first_worked}
use Rattle.std.specs.Result.{IfOk}
use Rattle.std.proofs.lemmas.List.FromFn.{length-range_with_len}
use Rattle.value_scale.proofs.EachLemmas.{each_length}
use Rattle.model_core.specs.State.{ModelState}
use Rattle.session_edits.specs.Refusals.{or_too_wide, ◌>>=◌}
use Rattle.session_edits.specs.Scores.{performance, missing_on, missing, missing_detail}
use Rattle.session_edits.specs.Subjects.{places}

-- two tests of one fact
pub same_truth : (a b : Bool) (P : Type 0) → IsTrue a ↔ P → (b ≡ true) ↔ P → a ≡ b
same_truth true true P h k = refl
same_truth true false P h k = let no = k.1 (h.0 refl) in absurd (cc)
same_truth false true P h k = let no = h.1 (k.0 refl) in absurd (cc)
same_truth false false P h k = refl

-- ---- numbers in turn

take-append : {X : Type 0} (xs ys : List X) → take (length xs) (xs ++ ys) ≡ xs
take-append [] ys = refl
take-append (x ∷ xs) ys = ap (λ l. x ∷ l) (take-append xs ys)

pub all_below : (a k n : ℕ) → a + k ≤ n → All (λ c. c < n) (range_with_len a k)
all_below a zero n h = All-nil (λ c. c < n)
all_below a (suc k) n h = All-cons (λ c. c < n) a (range_with_len (a + 1) k) (omega arith) (all_below (a + 1) k n (omega arith))

pub kept_below : (n : ℕ) (p : ℕ → Bool) (a k : ℕ) → a + k ≤ n → All (λ c. c < n) (filter p (range_with_len a k))
kept_below n p a zero h = All-nil (λ c. c < n)
kept_below n p a (suc k) h = by_test (p a) (kept_below n p (a + 1) k (omega arith))
  where
    by_test : (b : Bool) → All (λ c. c < n) (filter p (range_with_len (a + 1) k))
        → All (λ c. c < n) (cond b (a ∷ filter p (range_with_len (a + 1) k)) (filter p (range_with_len (a + 1) k)))
    by_test true rest = All-cons (λ c. c < n) a (filter p (range_with_len (a + 1) k)) (omega arith) rest
    by_test false rest = rest

-- the numbers done are a front of all
pub front_below : (n i : ℕ) (done : List ℕ) → done ++ range_with_len i (n - i) ≡ range_with_len 0 n → All (λ c. c < n) done
front_below n i done so_far =
    let all = subst (All (λ c. c < n)) (sym so_far) (all_below 0 n n (omega arith)) in
    subst (All (λ c. c < n)) (take-append done (range_with_len i (n - i))) (All-take (λ c. c < n) (length done) (done ++ range_with_len i (n - i)) all)

pub filter_below : (n : ℕ) (p : ℕ → Bool) (rest done : List ℕ) → done ++ rest ≡ filter p (range_with_len 0 n) → All (λ c. c < n) done
filter_below n p rest done so_far =
    let all = subst (All (λ c. c < n)) (sym so_far) (kept_below n p 0 n (omega arith)) in
    subst (All (λ c. c < n)) (take-append done rest) (All-take (λ c. c < n) (length done) (done ++ rest) all)

pub numbers-push : (n i : ℕ) (done now : List ℕ) → i < n → done ++ range_with_len i (n - i) ≡ range_with_len 0 n → now ≡ done ++ i ∷ []
    → now ++ range_with_len (i + 1) (n - (i + 1)) ≡ range_with_len 0 n
numbers-push n i done now h so_far made =
    push_next done (range_with_len 0 n) (range_with_len i (n - i)) (range_with_len (i + 1) (n - (i + 1))) now i so_far (range_with_len-next i n h) made

split : (b : Bool) (i : ℕ) (ys : List ℕ) → cond b (i ∷ ys) ys ≡ cond b (i ∷ []) [] ++ ys
split true i ys = refl
split false i ys = refl

pub filter-push : (p : ℕ → Bool) (n i : ℕ) (done now : List ℕ) → i < n → done ++ filter p (range_with_len i (n - i)) ≡ filter p (range_with_len 0 n)
    → now ≡ done ++ cond (p i) (i ∷ []) [] → now ++ filter p (range_with_len (i + 1) (n - (i + 1))) ≡ filter p (range_with_len 0 n)
filter-push p n i done now h so_far made =
    join_next done (filter p (range_with_len 0 n)) (filter p (range_with_len i (n - i))) (filter p (range_with_len (i + 1) (n - (i + 1)))) now
    (cond (p i) (i ∷ []) []) so_far (ap (filter p) (range_with_len-next i n h) ∙ split (p i) i (filter p (range_with_len (i + 1) (n - (i + 1))))) made

-- ---- performances

on_more : (m : ModelState) (o c : ℕ) (cs : List ℕ) (p : Option ℕ) → performance m o c ≡ p
    → missing_on m o (c ∷ cs) ≡ option_map_or (λ element. missing_on m o cs) p (Some (missing_detail m o c))
on_more m o c cs p h = ap (λ q. option_map_or (λ element. missing_on m o cs) q (Some (missing_detail m o c))) h

pub on_next : (m : ModelState) (o n i e : ℕ) → i < n → performance m o i ≡ Some e
    → missing_on m o (range_with_len i (n - i)) ≡ missing_on m o (range_with_len (i + 1) (n - (i + 1)))
on_next m o n i e h there =
    ap (missing_on m o) (range_with_len-next i n h) ∙ on_more m o i (range_with_len (i + 1) (n - (i + 1))) (Some e) there

of_more : (m : ModelState) (o : ℕ) (os : List ℕ) (d : Option Detail) → missing_on m o (places m) ≡ d
    → missing m (o ∷ os) ≡ option_map_or Some d (missing m os)
of_more m o os d h = ap (λ q. option_map_or Some q (missing m os)) h

pub of_next : (m : ModelState) (n i : ℕ) → i < n → missing_on m i (places m) ≡ None
    → missing m (range_with_len i (n - i)) ≡ missing m (range_with_len (i + 1) (n - (i + 1)))
of_next m n i h none = ap (missing m) (range_with_len-next i n h) ∙ of_more m i (range_with_len (i + 1) (n - (i + 1))) None none

pub of_here : (m : ModelState) (n i : ℕ) (d : Detail) → i < n → missing_on m i (places m) ≡ Some d → missing m (range_with_len i (n - i)) ≡ Some d
of_here m n i d h some = ap (missing m) (range_with_len-next i n h) ∙ of_more m i (range_with_len (i + 1) (n - (i + 1))) (Some d) some

-- ---- names beside numbers

next_of : {A : Type 0} (xs : List A) (i : ℕ) (x : A) → slice_get xs i ≡ Some x → drop i xs ≡ x ∷ drop (suc i) xs
next_of [] i x h = absurd (let e = h in cc)
next_of (y ∷ xs) zero x h = let same : y ≡ x = cc in ap (λ z. z ∷ xs) same
next_of (y ∷ xs) (suc i) x h = next_of xs i x h

pub beside-push : {A B : Type 0} (name : A → List ℕ) (xs : List A) (ys : List B) (i : ℕ) (x : A) (y : B) (z : List ℕ × B) (done now all : List (List ℕ × B))
    → done ++ zip (map name (drop i xs)) (drop i ys) ≡ all → slice_get xs i ≡ Some x → slice_get ys i ≡ Some y → z ≡ (name x, y)
    → now ≡ done ++ z ∷ [] → now ++ zip (map name (drop (i + 1) xs)) (drop (i + 1) ys) ≡ all
beside-push name xs ys i x y z done now all so_far at_x at_y is made =
    push_next done all (zip (map name (drop i xs)) (drop i ys)) (zip (map name (drop (i + 1) xs)) (drop (i + 1) ys)) now z so_far next made
  where
    next : zip (map name (drop i xs)) (drop i ys) ≡ z ∷ zip (map name (drop (i + 1) xs)) (drop (i + 1) ys)
    next = rw (add-one, is) (ap₂ (λ l r. zip (map name l) r) (next_of xs i x at_x) (next_of ys i y at_y))

-- ---- sums that may be too wide

put_more : {X : Type 0} (rest : Result (List X) TooWide) (done : List X) (y : X)
    → (or_too_wide (put_first y rest) >>= λ ys. Ok (done ++ ys)) ≡ (or_too_wide rest >>= λ ys. Ok ((done ++ y ∷ []) ++ ys))
put_more (Ok ys) done y = ap (λ l. Ok l) (sym (append_assoc done (y ∷ []) ys))
put_more (Err wide) done y = refl

-- a step that was worked, by what its call gives
is_worked : {X : Type 0} (r : Result X TooWide) (y : X) → or_too_wide r ≡ Ok y → r ≡ Ok y
is_worked (Ok x) y h = let same : x ≡ y = cc in ap (λ z. Ok z) same
is_worked (Err wide) y h = absurd (let e = h in cc)

pub each-more : {X : Type 0} (step : ℕ → Result X TooWide) (n i : ℕ) (done now : List X) (all : Result (List X) Reply) (y : X) → i < n
    → or_too_wide (step i) ≡ Ok y → (or_too_wide (checked_each step (range_with_len i (n - i))) >>= λ ys. Ok (done ++ ys)) ≡ all
    → now ≡ done ++ y ∷ []
    → (or_too_wide (checked_each step (range_with_len (i + 1) (n - (i + 1)))) >>= λ ys. Ok (now ++ ys)) ≡ all
each-more {X} step n i done now all y h worked so_far made =
    let rest = checked_each step (range_with_len (i + 1) (n - (i + 1))) in
    let first : checked_each step (range_with_len i (n - i)) ≡ put_first y rest =
    ap (checked_each step) (range_with_len-next i n h) ∙ first_worked step i (range_with_len (i + 1) (n - (i + 1))) y (is_worked (step i) y worked) in
    ap (λ (l : List X). or_too_wide rest >>= λ ys. Ok (l ++ ys)) made ∙ sym (put_more rest done y)
    ∙ ap (λ (r : Result (List X) TooWide). or_too_wide r >>= λ ys. Ok (done ++ ys)) (sym first) ∙ so_far

-- ---- how many there are

pub each_length_ok : {X : Type 0} (step : ℕ → Result X TooWide) (n : ℕ) (ys : List X)
    → or_too_wide (checked_each step (range_with_len 0 n)) ≡ Ok ys → length ys ≡ n
each_length_ok step n ys h =
    subst (λ r. IfOk r (λ l. length l ≡ length (range_with_len 0 n))) (is_worked (checked_each step (range_with_len 0 n)) ys h)
    (each_length step (range_with_len 0 n)) ∙ length-range_with_len 0 n
