-- Sums with weights: those of rows by their pairs, and that passing keeps them.
use lib.IntN.{+ℤ_idl, zero-*ℤ}
use Rattle.std.specs.Prelude.{◌==◌, nat_le, nat_lt, cond, Bool, true, false, ⊤}
use Rattle.std.specs.List.{AllByRecursion, filter, flat_map}
use Rattle.std.proofs.Common.{◌≡◌, ℕ, zero, suc, ◌-◌, ◌≤◌, List, [], ◌∷◌, ◌++◌, map, length, get_or, drop, ℤ, pos, ◌+ℤ◌, ◌-ℤ◌, ◌*ℤ◌, refl, sym, ap, ap₂, subst, ◌∙◌, arith}
use Rattle.std.proofs.lemmas.Bool.{true≢false, le-leb}
use Rattle.std.proofs.lemmas.Grind.{common_steps}
use Rattle.std.proofs.lemmas.List.{map-append, length-map}
use Rattle.integers.specs.Vector.{dot}
use Rattle.integers.proofs.Laws.{lin}
use Rattle.integers.proofs.Vector.{dot-append}
use Rattle.integers.proofs.Ring.{con, neg, ◌⊕◌, ◌⊖◌, ◌⊗◌, ◌≗◌, ◌✶◌, ◌⇐◌, ring3, combine12}
use Rattle.judgement_matrix.specs.Range.{Bounds}
use Rattle.lp_macbeth.specs.declared.kinds.Kind.{Kind}
use Rattle.lp_macbeth.specs.Passing.{has_row, category_of, spread, after_spread, passed, lost, lefts, takings, at_zero}
use Rattle.lp_macbeth.proofs.PassLemmas.{from, rests, AreLess, less-passed, passed-total}

-- weights as whole numbers
abbrev pub whole : List ℕ → List ℤ
whole ws = map (λ w. pos w) ws

abbrev pub numbers : List (ℕ × ℕ) → List ℤ
numbers xs = map (λ x. pos x.1) xs

-- the weights have these categories
abbrev pub AreOf : {X : Type 0} (category : X → ℕ) → List X → List (ℕ × ℕ) → Type 0
AreOf category [] [] = ⊤
AreOf category [] (x ∷ xs) = ⊥
AreOf category (p ∷ ps) [] = ⊥
AreOf category (p ∷ ps) (x ∷ xs) = (x.0 ≡ category p) × AreOf category ps xs

-- those whose category fails a test are 0
abbrev pub AreNone : (ℕ → Bool) → List (ℕ × ℕ) → Type 0
AreNone test xs = AllByRecursion (λ x. test x.0 ≡ false → x.1 ≡ 0) xs

-- ---- weights by pairs

pub spread-dot : {X T : Type 0} (kind : Kind) (range : X → Bounds) (tag : X → T) (g : T → ℤ) (ps : List X) (ws : List ℕ) (more : List ℤ)
    → dot (whole ws) (map g (map tag (filter (λ p. has_row kind (range p)) ps)) ++ more)
    ≡ dot (numbers (spread kind (map range ps) ws)) (map (λ p. g (tag p)) ps) +ℤ dot (whole (after_spread kind (map range ps) ws)) more
spread-dot kind range tag g [] ws more = sym (+ℤ_idl (dot (whole ws) more))
spread-dot {X} {T} kind range tag g (p ∷ ps) ws more = step (has_row kind (range p)) ws (λ vs. spread-dot kind range tag g ps vs more)
  where
    passing : List X
    passing = filter (λ p. has_row kind (range p)) ps

    step : (b : Bool) (ws : List ℕ)
        → ((vs : List ℕ) → dot (whole vs) (map g (map tag passing) ++ more)
        ≡ dot (numbers (spread kind (map range ps) vs)) (map (λ p. g (tag p)) ps) +ℤ dot (whole (after_spread kind (map range ps) vs)) more)
        → dot (whole ws) (map g (map tag (cond b (p ∷ passing) passing)) ++ more)
        ≡ (pos (cond b (get_or ws 0 0) 0) *ℤ g (tag p) +ℤ dot (numbers (spread kind (map range ps) (cond b (drop 1 ws) ws))) (map (λ p. g (tag p)) ps))
        +ℤ dot (whole (after_spread kind (map range ps) (cond b (drop 1 ws) ws))) more
    step true [] rest = omega (arith, lin, zero-*ℤ (g (tag p)), rest [])
    step true (w ∷ ws) rest = omega (arith, lin, rest ws)
    step false ws rest = omega (arith, lin, zero-*ℤ (g (tag p)), rest ws)

pub spread-of : {X : Type 0} (kind : Kind) (range : X → Bounds) (ps : List X) (ws : List ℕ)
    → AreOf (λ p. category_of kind (range p)) ps (spread kind (map range ps) ws)
spread-of kind range [] ws = tt
spread-of kind range (p ∷ ps) ws = (refl, spread-of kind range ps (cond (has_row kind (range p)) (drop 1 ws) ws))

pub spread-none : (kind : Kind) (test : ℕ → Bool) → ((r : Bounds) → has_row kind r ≡ true → test (category_of kind r) ≡ true) → (rs : List Bounds) (ws : List ℕ)
    → AreNone test (spread kind rs ws)
spread-none kind test h [] ws = tt
spread-none kind test h (r ∷ rs) ws = (step (has_row kind r) refl, spread-none kind test h rs (cond (has_row kind r) (drop 1 ws) ws))
  where
    step : (b : Bool) → has_row kind r ≡ b → test (category_of kind r) ≡ false → cond b (get_or ws 0 0) 0 ≡ 0
    step true e fails = absurd (true≢false (sym (h r e) ∙ fails))
    step false e fails = refl

-- those at category 0
pub at_zero-dot : {X T : Type 0} (category : X → ℕ) (tag : X → T) (g : T → ℤ) (ps : List X) (xs : List (ℕ × ℕ)) → AreOf category ps xs
    → AreNone (λ c. c == 0) xs
    → dot (whole (at_zero xs)) (map g (map tag (filter (λ p. category p == 0) ps))) ≡ dot (numbers xs) (map (λ p. g (tag p)) ps)
at_zero-dot category tag g [] [] of none = refl
at_zero-dot category tag g [] (x ∷ xs) of none = absurd of
at_zero-dot category tag g (p ∷ ps) [] of none = absurd of
at_zero-dot category tag g (p ∷ ps) (x ∷ xs) of none =
    step (x.0 == 0) refl (at_zero-dot category tag g ps xs of.1 none.1)
  where
    step : (b : Bool) → (x.0 == 0) ≡ b
        → dot (whole (at_zero xs)) (map g (map tag (filter (λ p. category p == 0) ps))) ≡ dot (numbers xs) (map (λ p. g (tag p)) ps)
        → dot (whole (at_zero (x ∷ xs))) (map g (map tag (filter (λ p. category p == 0) (p ∷ ps)))) ≡ dot (numbers (x ∷ xs)) (map (λ p. g (tag p)) (p ∷ ps))
    step true e rest =
        let f : (category p == 0) ≡ true = ap (λ c. c == 0) (sym of.0) ∙ e in
        rw (e, f) (ap (λ z. pos x.1 *ℤ g (tag p) +ℤ z) rest)
    step false e rest =
        let f : (category p == 0) ≡ false = ap (λ c. c == 0) (sym of.0) ∙ e in
        let nothing : pos x.1 *ℤ g (tag p) ≡ pos 0 = ap (λ n. pos n *ℤ g (tag p)) (none.0 e) ∙ zero-*ℤ (g (tag p)) in
        rw (e, f) (omega (arith, lin, rest, nothing))

-- ---- what weights lose

pub of-less : {X : Type 0} (category : X → ℕ) (lo : ℕ) (ps : List X) (xs ys : List (ℕ × ℕ)) → AreOf category ps xs → AreLess lo xs ys → AreOf category ps ys
of-less category lo [] [] [] of less = tt
of-less category lo [] [] (y ∷ ys) of less = absurd less
of-less category lo [] (x ∷ xs) ys of less = absurd of
of-less category lo (p ∷ ps) [] ys of less = absurd of
of-less category lo (p ∷ ps) (x ∷ xs) [] of less = absurd less
of-less category lo (p ∷ ps) (x ∷ xs) (y ∷ ys) of less = (less.0.0 ∙ of.0, of-less category lo ps xs ys of.1 less.1)

-- a difference of weights
difference : (x y : ℕ) (z : ℤ) → y ≤ x → pos (x - y) *ℤ z ≡ pos x *ℤ z -ℤ pos y *ℤ z
difference x y z l =
    let apart : pos (x - y) ≡ pos x -ℤ pos y = omega (arith, lin) in
    ap (λ a. a *ℤ z) apart ∙ ring3 (λ a b c. (a ⊖ b) ⊗ c ≗ a ⊗ c ⊖ b ⊗ c) refl (pos x) (pos y) z

pub lost-dot : {X T : Type 0} (category : X → ℕ) (tag : X → T) (g : T → ℤ) (lo : ℕ) (ps : List X) (xs ys : List (ℕ × ℕ)) → AreOf category ps xs
    → AreLess lo xs ys
    → dot (whole (lost lo xs ys)) (map g (map tag (filter (λ p. nat_lt (category p) lo) ps)))
    ≡ dot (numbers xs) (map (λ p. g (tag p)) ps) -ℤ dot (numbers ys) (map (λ p. g (tag p)) ps)
lost-dot category tag g lo [] [] [] of less = refl
lost-dot category tag g lo [] [] (y ∷ ys) of less = absurd less
lost-dot category tag g lo [] (x ∷ xs) ys of less = absurd of
lost-dot category tag g lo (p ∷ ps) [] ys of less = absurd of
lost-dot category tag g lo (p ∷ ps) (x ∷ xs) [] of less = absurd less
lost-dot category tag g lo (p ∷ ps) (x ∷ xs) (y ∷ ys) of less =
    step (nat_lt x.0 lo) refl (lost-dot category tag g lo ps xs ys of.1 less.1)
  where
    G : Type 0
    G = dot (whole (lost lo (x ∷ xs) (y ∷ ys))) (map g (map tag (filter (λ p. nat_lt (category p) lo) (p ∷ ps))))
        ≡ dot (numbers (x ∷ xs)) (map (λ p. g (tag p)) (p ∷ ps)) -ℤ dot (numbers (y ∷ ys)) (map (λ p. g (tag p)) (p ∷ ps))

    step : (b : Bool) → nat_lt x.0 lo ≡ b
        → dot (whole (lost lo xs ys)) (map g (map tag (filter (λ p. nat_lt (category p) lo) ps)))
        ≡ dot (numbers xs) (map (λ p. g (tag p)) ps) -ℤ dot (numbers ys) (map (λ p. g (tag p)) ps) → G
    step true e rest =
        let f : nat_lt (category p) lo ≡ true = ap (λ c. nat_lt c lo) (sym of.0) ∙ e in
        rw (e, f) (omega (arith, lin, rest, difference x.1 y.1 (g (tag p)) less.0.1))
    step false e rest =
        let f : nat_lt (category p) lo ≡ false = ap (λ c. nat_lt c lo) (sym of.0) ∙ e in
        let high : lo ≤ x.0 = grind (arith, common_steps) in
        let same : pos y.1 *ℤ g (tag p) ≡ pos x.1 *ℤ g (tag p) = ap (λ n. pos n *ℤ g (tag p)) (less.0.2 high) in
        rw (e, f) (omega (arith, lin, rest, same))

pub length-lost : {X : Type 0} (category : X → ℕ) (lo : ℕ) (ps : List X) (xs ys : List (ℕ × ℕ)) → AreOf category ps xs → AreLess lo xs ys
    → length (lost lo xs ys) ≡ length (filter (λ p. nat_lt (category p) lo) ps)
length-lost category lo [] [] [] of less = refl
length-lost category lo [] [] (y ∷ ys) of less = absurd less
length-lost category lo [] (x ∷ xs) ys of less = absurd of
length-lost category lo (p ∷ ps) [] ys of less = absurd of
length-lost category lo (p ∷ ps) (x ∷ xs) [] of less = absurd less
length-lost category lo (p ∷ ps) (x ∷ xs) (y ∷ ys) of less =
    step (nat_lt x.0 lo) refl (length-lost category lo ps xs ys of.1 less.1)
  where
    step : (b : Bool) → nat_lt x.0 lo ≡ b → length (lost lo xs ys) ≡ length (filter (λ p. nat_lt (category p) lo) ps)
        → length (lost lo (x ∷ xs) (y ∷ ys)) ≡ length (filter (λ p. nat_lt (category p) lo) (p ∷ ps))
    step true e rest =
        let f : nat_lt (category p) lo ≡ true = ap (λ c. nat_lt c lo) (sym of.0) ∙ e in
        rw (e, f) (ap suc rest)
    step false e rest =
        let f : nat_lt (category p) lo ≡ false = ap (λ c. nat_lt c lo) (sym of.0) ∙ e in
        rw (e, f) rest

-- a sum of two functions, of which one is the same everywhere
both-dot : {X : Type 0} (category : X → ℕ) (f b : X → ℤ) (a : ℤ) → ((p : X) → f p ≡ a +ℤ b p) → (ps : List X) (xs : List (ℕ × ℕ)) → AreOf category ps xs
    → dot (numbers xs) (map f ps) ≡ pos (from 0 xs) *ℤ a +ℤ dot (numbers xs) (map b ps)
both-dot category f b a sum [] [] of = omega (arith, lin, zero-*ℤ a)
both-dot category f b a sum [] (x ∷ xs) of = absurd of
both-dot category f b a sum (p ∷ ps) [] of = absurd of
both-dot category f b a sum (p ∷ ps) (x ∷ xs) of =
    let rest = both-dot category f b a sum ps xs of.1 in
    let all : nat_le 0 x.0 ≡ true = le-leb 0 x.0 (omega arith) in
    let total : pos (from 0 (x ∷ xs)) ≡ pos x.1 +ℤ pos (from 0 xs) = rw all (omega (arith, lin)) in
    let first : pos x.1 *ℤ f p ≡ pos x.1 *ℤ a +ℤ pos x.1 *ℤ b p = ap (λ z. pos x.1 *ℤ z) (sum p)
    ∙ ring3 (λ x a b. x ⊗ (a ⊕ b) ≗ x ⊗ a ⊕ x ⊗ b) refl (pos x.1) a (b p) in
    let times : pos (from 0 (x ∷ xs)) *ℤ a ≡ pos x.1 *ℤ a +ℤ pos (from 0 xs) *ℤ a =
    ap (λ z. z *ℤ a) total ∙ ring3 (λ x y a. (x ⊕ y) ⊗ a ≗ x ⊗ a ⊕ y ⊗ a) refl (pos x.1) (pos (from 0 xs)) a in
    omega (arith, lin, rest, first, times)

-- ---- passing keeps sums

passed-none : (c w : ℕ) (xs : List (ℕ × ℕ)) → nat_le 1 c ≡ false → (passed c (w, xs)).0 ≡ w
passed-none zero w xs e = refl
passed-none (suc c) w xs e = absurd (true≢false (sym (le-leb 1 (suc c) (omega arith)) ∙ e))

-- one amount's turn and those behind it
one_turn : (left w tx ty a s l t r o x y : ℤ) → (ty +ℤ w) ≡ (tx +ℤ left) → s ≡ ((tx *ℤ a +ℤ x) -ℤ (ty *ℤ a +ℤ y)) → ((l +ℤ t) +ℤ r) ≡ (o +ℤ y)
    → (((left *ℤ a +ℤ l) +ℤ (s +ℤ t)) +ℤ r) ≡ ((w *ℤ a +ℤ o) +ℤ x)
one_turn = combine12 (λ left w tx ty a s l t r o x y. ((left ⊗ a ⊕ l) ⊕ (s ⊕ t)) ⊕ r ≗ (w ⊗ a ⊕ o) ⊕ x
    ⇐ neg a ✶ (ty ⊕ w ≗ tx ⊕ left) ∷ con (pos 1) ✶ (s ≗ (tx ⊗ a ⊕ x) ⊖ (ty ⊗ a ⊕ y)) ∷ con (pos 1) ✶ ((l ⊕ t) ⊕ r ≗ o ⊕ y) ∷ []) refl

-- amounts with what a gives and weights with what b gives sum up to the same before and after, if what is taken off gives both
pub kept : {X T : Type 0} (lo hi : X → ℕ) (low : X → T) (cross : X → X → T) (f : T → ℤ) (a b : X → ℤ)
    → ((l : X) → f (low l) ≡ a l) → ((l q : X) → f (cross l q) ≡ a l +ℤ b q) → (ps : List X)
    → (ls : List X) (ats xs : List (ℕ × ℕ)) → AreOf lo ls ats → AreNone (nat_le 1) ats → AreOf hi ps xs
    → (dot (whole (lefts ats xs)) (map f (map low (filter (λ l. nat_le 1 (lo l)) ls)))
    +ℤ dot (whole (takings ats xs)) (map f (flat_map (λ l. map (cross l) (filter (λ q. nat_lt (hi q) (lo l)) ps)) ls)))
    +ℤ dot (numbers (rests ats xs)) (map b ps)
    ≡ dot (numbers ats) (map a ls) +ℤ dot (numbers xs) (map b ps)
kept lo hi low cross f a b is_low is_cross ps [] [] xs of none own = omega (arith, lin)
kept lo hi low cross f a b is_low is_cross ps [] (at ∷ ats) xs of none own = absurd of
kept lo hi low cross f a b is_low is_cross ps (l ∷ ls) [] xs of none own = absurd of
kept {X} {T} lo hi low cross f a b is_low is_cross ps (l ∷ ls) (at ∷ ats) xs of none own =
    step (nat_le 1 at.0) refl (kept lo hi low cross f a b is_low is_cross ps ls ats ys of.1 none.1 own_ys)
  where
    ys : List (ℕ × ℕ)
    ys = (passed at.0 (at.1, xs)).1

    left : ℕ
    left = (passed at.0 (at.1, xs)).0

    less : AreLess at.0 xs ys
    less = less-passed at.0 at.1 xs

    own_ys : AreOf hi ps ys
    own_ys = of-less hi at.0 ps xs ys own less

    under : List X
    under = filter (λ q. nat_lt (hi q) (lo l)) ps

    L : ℤ
    L = dot (whole (lefts ats ys)) (map f (map low (filter (λ l. nat_le 1 (lo l)) ls)))

    T' : ℤ
    T' = dot (whole (takings ats ys)) (map f (flat_map (λ l. map (cross l) (filter (λ q. nat_lt (hi q) (lo l)) ps)) ls))

    R : ℤ
    R = dot (numbers (rests ats ys)) (map b ps)

    A : ℤ
    A = dot (numbers ats) (map a ls)

    X' : ℤ
    X' = dot (numbers xs) (map b ps)

    Y : ℤ
    Y = dot (numbers ys) (map b ps)

    S : ℤ
    S = dot (whole (lost at.0 xs ys)) (map f (map (cross l) under))

    total : (pos (from 0 ys) +ℤ pos at.1) ≡ (pos (from 0 xs) +ℤ pos left)
    total = (let t = passed-total at.0 at.1 xs in omega (arith, lin, t))

    taken : S ≡ ((pos (from 0 xs) *ℤ a l +ℤ X') -ℤ (pos (from 0 ys) *ℤ a l +ℤ Y))
    taken =
        subst (λ c. dot (whole (lost at.0 xs ys)) (map f (map (cross l) (filter (λ q. nat_lt (hi q) c) ps)))
        ≡ ((pos (from 0 xs) *ℤ a l +ℤ X') -ℤ (pos (from 0 ys) *ℤ a l +ℤ Y))) of.0
        (lost-dot hi (cross l) f at.0 ps xs ys own less
        ∙ ap₂ (λ u v. u -ℤ v) (both-dot hi (λ q. f (cross l q)) b (a l) (is_cross l) ps xs own)
        (both-dot hi (λ q. f (cross l q)) b (a l) (is_cross l) ps ys own_ys))

    apart : dot (whole (lost at.0 xs ys ++ takings ats ys)) (map f
        (map (cross l) under ++ flat_map (λ l. map (cross l) (filter (λ q. nat_lt (hi q) (lo l)) ps)) ls)) ≡ S +ℤ T'
    apart =
        let few : length (lost at.0 xs ys) ≡ length under =
        subst (λ c. length (lost at.0 xs ys) ≡ length (filter (λ q. nat_lt (hi q) c) ps)) of.0 (length-lost hi at.0 ps xs ys own less) in
        let rows : List T = flat_map (λ l. map (cross l) (filter (λ q. nat_lt (hi q) (lo l)) ps)) ls in
        ap₂ dot (map-append (λ w. pos w) (lost at.0 xs ys) (takings ats ys)) (map-append f (map (cross l) under) rows)
        ∙ dot-append (whole (lost at.0 xs ys)) (whole (takings ats ys)) (map f (map (cross l) under)) (map f rows)
        (length-map (lost at.0 xs ys) (λ w. pos w) ∙ few ∙ sym (length-map under (cross l)) ∙ sym (length-map (map (cross l) under) f))

    step : (c : Bool) → nat_le 1 at.0 ≡ c → (L +ℤ T') +ℤ R ≡ A +ℤ Y
        → (dot (whole (lefts (at ∷ ats) xs)) (map f (map low (filter (λ l. nat_le 1 (lo l)) (l ∷ ls))))
        +ℤ dot (whole (takings (at ∷ ats) xs)) (map f (flat_map (λ l. map (cross l) (filter (λ q. nat_lt (hi q) (lo l)) ps)) (l ∷ ls))))
        +ℤ R
        ≡ (pos at.1 *ℤ a l +ℤ A) +ℤ X'
    step true e rest =
        let g : nat_le 1 (lo l) ≡ true = ap (nat_le 1) (sym of.0) ∙ e in
        let turn = one_turn (pos left) (pos at.1) (pos (from 0 xs)) (pos (from 0 ys)) (a l) S L T' R A X' Y total taken rest in
        let own_row : pos left *ℤ f (low l) ≡ pos left *ℤ a l = ap (λ z. pos left *ℤ z) (is_low l) in
        rw (e, g) (omega (arith, lin, turn, own_row, apart))
    step false e rest =
        let g : nat_le 1 (lo l) ≡ false = ap (nat_le 1) (sym of.0) ∙ e in
        let turn = one_turn (pos left) (pos at.1) (pos (from 0 xs)) (pos (from 0 ys)) (a l) S L T' R A X' Y total taken rest in
        let zero_left : pos left *ℤ a l ≡ pos 0 = ap (λ n. pos n *ℤ a l) (passed-none at.0 at.1 xs e ∙ none.0 e) ∙ zero-*ℤ (a l) in
        rw (e, g) (omega (arith, lin, turn, zero_left, apart))

-- weights that are all 0 give nothing
pub none-dot : (xs : List (ℕ × ℕ)) (us : List ℤ) → AllByRecursion (λ x. x.1 ≡ 0) xs → dot (numbers xs) us ≡ pos 0
none-dot [] us h = refl
none-dot (x ∷ xs) [] h = refl
none-dot (x ∷ xs) (u ∷ us) h =
    let first : pos x.1 *ℤ u ≡ pos 0 = ap (λ n. pos n *ℤ u) h.0 ∙ zero-*ℤ u in
    omega (arith, lin, first, none-dot xs us h.1)
