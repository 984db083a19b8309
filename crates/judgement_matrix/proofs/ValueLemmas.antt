-- What the values of a scale, as fractions, say of the constraints of its whole numbers.
use Rattle.std.proofs.Common.{◌≡◌, ℕ, zero, suc, ◌+◌, ◌-◌, ◌<◌, ℤ, pos, ◌-ℤ◌, ◌*ℤ◌, ◌≤ℤ◌, ◌<ℤ◌, Bool, true, false, List, [], ◌∷◌, ◌++◌, get_or, Option, Some, None, Result, Ok, Err, inl, inr, ◌↔◌, refl, sym, ap, subst, ◌∙◌, arith}
use Rattle.std.specs.Prelude.{int_lt, nat_lt}
use Rattle.std.specs.Result.{IsErr}
use Rattle.std.specs.Int.Signed.{lt_z_yes}
use Rattle.std.specs.List.{AllByRecursion}
use Rattle.std.proofs.lemmas.Int.{ints}
use Rattle.std.proofs.lemmas.Bool.Decides.{nat_tests}
use Rattle.std.proofs.lemmas.List.Elements.{All-head, All-tail}
use Rattle.integers.specs.Fraction.{Fraction, IsFraction, AreFractions, over, SameFractions, IsWriting, common_nums, common_den, fraction_difference}
use Rattle.integers.proofs.Order.{cancel_eq, cancel_le, cancel_lt, mul_pos, zero_of_mul}
use Rattle.integers.proofs.Ring.{con, neg, ◌⊖◌, ◌⊗◌, ◌≗◌, ◌≼◌, ◌≺◌, ◌✶◌, ◌⇐◌, combine4, combine5, combine9, ring1}
use Rattle.integers.proofs.Writings.{IsWriting-length, common_writing}
use Rattle.frac128.specs.Chain.{◌>>=◌}
use Rattle.frac128.specs.Checked.{checked_difference, DifferenceFits, IsExact}
use Rattle.frac128.specs.declared.number.TooWide.{TooWide}
use Rattle.frac128.proofs.Checked.{checked_difference-exact}
use Rattle.judgement_matrix.specs.Matrix.{Judgements, range_at}
use Rattle.judgement_matrix.specs.Scale.{value_at, difference, IsScale, IsMetBy}
use Rattle.judgement_matrix.specs.Rows.{rows, RowHolds}
use Rattle.judgement_matrix.specs.Values.{fraction_at, AreValues, checked_gap, constraint_value, HasTooWide, IsAnswerOver, IsAnswer}
use Rattle.judgement_matrix.specs.Walk.{fails_at, row_fails, fails_where, from_row, first_stop}
use Rattle.judgement_matrix.specs.declared.tag.Tag.{Tag}
use Rattle.judgement_matrix.specs.declared.tag.Tag.TheVariants.{Lower, Zero, Cross, Order}
use Rattle.judgement_matrix.specs.declared.tag.Fit.{Fit}
use Rattle.judgement_matrix.specs.declared.tag.Fit.TheVariants.{Meets, Fails}
use Rattle.judgement_matrix.proofs.FitLemmas.{met_from_rows, IsFit-Meets, IsFit-unique}

-- ---- differences

-- the difference v of f and g is that of a and b over n, where f and g are a and b over n
difference_is : (fn fd gn gd vn vd a b n : ℤ) → pos 0 <ℤ fd → pos 0 <ℤ gd → a *ℤ fd ≡ fn *ℤ n → b *ℤ gd ≡ gn *ℤ n
    → vn *ℤ (fd *ℤ gd) ≡ (fn *ℤ gd -ℤ gn *ℤ fd) *ℤ vd → vn *ℤ n ≡ (a -ℤ b) *ℤ vd
difference_is fn fd gn gd vn vd a b n pf pg first second is =
    cancel_eq (vn *ℤ n) ((a -ℤ b) *ℤ vd) (fd *ℤ gd) (mul_pos fd gd pf pg)
    (combine9 (λ fn fd gn gd vn vd a b n. vn ⊗ n ⊗ (fd ⊗ gd) ≗ (a ⊖ b) ⊗ vd ⊗ (fd ⊗ gd)
    ⇐ n ✶ (vn ⊗ (fd ⊗ gd) ≗ (fn ⊗ gd ⊖ gn ⊗ fd) ⊗ vd) ∷ neg (gd ⊗ vd) ✶ (a ⊗ fd ≗ fn ⊗ n) ∷ (fd ⊗ vd) ✶ (b ⊗ gd ≗ gn ⊗ n) ∷ [])
    refl fn fd gn gd vn vd a b n is first second)

-- v is a fraction, and the number d over n
record IsValueOf (d n : ℤ) (v : Fraction) : Type 0 where
  den_pos : IsFraction v
  same : v.num *ℤ n ≡ d *ℤ v.den

-- a difference that isn't too wide
difference_value : (f g v : Fraction) (a b n : ℤ) → IsFraction f → IsFraction g → a *ℤ f.den ≡ f.num *ℤ n → b *ℤ g.den ≡ g.num *ℤ n
    → checked_difference f g ≡ Ok v → IsValueOf (a -ℤ b) n v
difference_value f g v a b n pf pg first second is =
    let exact = subst (λ r. IsExact r (DifferenceFits f g) (fraction_difference f g)) is (checked_difference-exact f g pf pg) in
    record { den_pos = exact.1.0; same = difference_is f.num f.den g.num g.den v.num v.den a b n pf pg first second exact.2 }

-- ---- bounds

-- below so many units
below_fails : (vn vd n d b : ℤ) → pos 0 <ℤ vd → pos 0 <ℤ n → vn *ℤ n ≡ d *ℤ vd → vn <ℤ (b *ℤ vd) → d <ℤ (n *ℤ b)
below_fails vn vd n d b pv pn same h =
    cancel_lt d (n *ℤ b) vd pv (combine5 (λ vn vd n d b. d ⊗ vd ≺ n ⊗ b ⊗ vd ⇐ n ✶ (vn ≺ b ⊗ vd) ∷ neg (con (pos 1)) ✶ (vn ⊗ n ≗ d ⊗ vd) ∷ []) refl vn vd n d b pn h same)

-- not below them
below_holds : (vn vd n d b : ℤ) → pos 0 <ℤ vd → pos 0 <ℤ n → vn *ℤ n ≡ d *ℤ vd → (b *ℤ vd) ≤ℤ vn → (n *ℤ b) ≤ℤ d
below_holds vn vd n d b pv pn same h =
    cancel_le (n *ℤ b) d vd pv (combine5 (λ vn vd n d b. n ⊗ b ⊗ vd ≼ d ⊗ vd ⇐ n ✶ (b ⊗ vd ≼ vn) ∷ con (pos 1) ✶ (vn ⊗ n ≗ d ⊗ vd) ∷ []) refl vn vd n d b (omega (arith, ints)) h same)

-- nothing is 0 units
no_units : (n : ℤ) → n *ℤ pos 0 ≡ pos 0
no_units = ring1 (λ n. n ⊗ con (pos 0) ≗ con (pos 0)) refl

none_of : (n : ℤ) → pos 0 *ℤ n ≡ pos 0
none_of = ring1 (λ n. con (pos 0) ⊗ n ≗ con (pos 0)) refl

-- above 0
above_fails : (vn vd n d : ℤ) → pos 0 <ℤ vd → pos 0 <ℤ n → vn *ℤ n ≡ d *ℤ vd → pos 0 <ℤ vn → pos 0 <ℤ d
above_fails vn vd n d pv pn same h =
    cancel_lt (pos 0) d vd pv (combine4 (λ vn vd n d. con (pos 0) ⊗ vd ≺ d ⊗ vd ⇐ n ✶ (con (pos 0) ≺ vn) ∷ con (pos 1) ✶ (vn ⊗ n ≗ d ⊗ vd) ∷ []) refl vn vd n d pn h same)

-- not above 0
above_holds : (vn vd n d : ℤ) → pos 0 <ℤ vd → pos 0 <ℤ n → vn *ℤ n ≡ d *ℤ vd → vn ≤ℤ pos 0 → d ≤ℤ pos 0
above_holds vn vd n d pv pn same h =
    cancel_le d (pos 0) vd pv (combine4 (λ vn vd n d. d ⊗ vd ≼ con (pos 0) ⊗ vd ⇐ n ✶ (vn ≼ con (pos 0)) ∷ neg (con (pos 1)) ✶ (vn ⊗ n ≗ d ⊗ vd) ∷ []) refl vn vd n d (omega (arith, ints)) h same)

-- a test of order, and the order
lt_yes : (a b : ℤ) → int_lt a b ≡ true → a <ℤ b
lt_yes a b h = grind (arith, ints)

lt_no : (a b : ℤ) → int_lt a b ≡ false → b ≤ℤ a
lt_no a b h = grind (arith, ints)

not_le : (a b : ℤ) → a <ℤ b → ¬ (b ≤ℤ a)
not_le a b h k = omega (arith, ints)

-- ---- a chain of steps

-- a chain that gives something went through its first step
first_step : {A B E : Type 0} (r : Result A E) (f : A → Result B E) (v : B) → (r >>= f) ≡ Ok v → (a : A) × (r ≡ Ok a) × (f a ≡ Ok v)
first_step (Ok a) f v h = (a, refl, h)
first_step (Err e) f v h = absurd (cc)

-- the answer of a search
abbrev pub answer_of : Result (Option Tag) TooWide → Result Fit TooWide
answer_of (Ok None) = Ok Meets
answer_of (Ok (Some tag)) = Ok (Fails tag)
answer_of (Err wide) = Err wide

-- ---- the values of one scale

module _ (m : Judgements) (fs : List Fraction) (w : List ℤ) (n : ℤ) (are : AreFractions fs) (writing : IsWriting fs w n) where
  -- the values at one place
  value_same : (w : List ℤ) (fs : List Fraction) (i : ℕ) → SameFractions (over w n) fs → get_or w i (pos 0) *ℤ (get_or fs i (record { num = pos 0; den = pos 1 })).den ≡ (get_or fs i (record { num = pos 0; den = pos 1 })).num *ℤ n
  value_same [] [] i h = none_of (pos 1) ∙ sym (none_of n)
  value_same [] (f ∷ fs) i h = absurd h
  value_same (x ∷ w) [] i h = absurd h
  value_same (x ∷ w) (f ∷ fs) zero h = h.0
  value_same (x ∷ w) (f ∷ fs) (suc i) h = value_same w fs i h.1

  value_is_fraction : (fs : List Fraction) (i : ℕ) → AreFractions fs → IsFraction (get_or fs i (record { num = pos 0; den = pos 1 }))
  value_is_fraction [] i h = lt_z_yes tt
  value_is_fraction (f ∷ fs) zero h = All-head IsFraction f fs h
  value_is_fraction (f ∷ fs) (suc i) h = value_is_fraction fs i (All-tail IsFraction f fs h)

  -- how far one element stands above another
  gap_value : (p q : ℕ) (v : Fraction) → checked_gap fs p q ≡ Ok v → IsValueOf (difference w p q) n v
  gap_value p q v h =
      difference_value (fraction_at fs p) (fraction_at fs q) v (value_at w p) (value_at w q) n (value_is_fraction fs (p - 1) are) (value_is_fraction fs (q - 1) are)
      (value_same w fs (p - 1) writing.same) (value_same w fs (q - 1) writing.same) h

  -- what a cross row compares
  cross_value : (p q x y : ℕ) (v : Fraction) → constraint_value fs (Cross p q x y) ≡ Ok v → IsValueOf (difference w p q -ℤ difference w x y) n v
  cross_value p q x y v h =
      let left = first_step (checked_gap fs p q) (λ l. checked_gap fs x y >>= (λ r. checked_difference l r)) v h in
      let right = first_step (checked_gap fs x y) (λ r. checked_difference left.0 r) v left.2 in
      let l = gap_value p q left.0 left.1 in
      let r = gap_value x y right.0 right.1 in
      difference_value left.0 right.0 v (difference w p q) (difference w x y) n l.den_pos r.den_pos (sym l.same) (sym r.same) right.2

  -- ---- what a row says

  -- whether the row fails, or that it is too wide
  abbrev Says : Tag → Result Bool TooWide → Type 0
  Says tag (Ok true) = (¬ RowHolds m w n tag) × ¬ (constraint_value fs tag ≡ Err (record {}))
  Says tag (Ok false) = RowHolds m w n tag × ¬ (constraint_value fs tag ≡ Err (record {}))
  Says tag (Err wide) = constraint_value fs tag ≡ Err (record {})

  -- a value isn't a refusal
  not_wide : (tag : Tag) (v : Fraction) → constraint_value fs tag ≡ Ok v → ¬ (constraint_value fs tag ≡ Err (record {}))
  not_wide tag v h k = cc

  -- by the value, and whether it fails
  says : (tag : Tag) (r : Result Fraction TooWide) → constraint_value fs tag ≡ r
      → ((v : Fraction) → r ≡ Ok v → fails_at m tag v ≡ true → ¬ RowHolds m w n tag)
      → ((v : Fraction) → r ≡ Ok v → fails_at m tag v ≡ false → RowHolds m w n tag)
      → Says tag (r >>= (λ v. Ok (fails_at m tag v)))
  says tag (Err wide) e breaks keeps = e
  says tag (Ok v) e breaks keeps =
      let G : Bool → Type 0 = λ b. fails_at m tag v ≡ b → Says tag (Ok b) in
      let by_test : G (fails_at m tag v) = elim (fails_at m tag v) as G [
        | true ↦ λ t. (breaks v refl t, not_wide tag v e)
        | false ↦ λ t. (keeps v refl t, not_wide tag v e)
      ] in
      by_test refl

  row_says : (tag : Tag) → Says tag (row_fails m fs tag)
  row_says (Lower p q) =
      let lo = pos (range_at m p q).lo in
      says (Lower p q) (checked_gap fs p q) refl
      (λ v e t. let k = gap_value p q v e in not_le _ _ (below_fails v.num v.den n (difference w p q) lo k.den_pos writing.den_pos k.same (lt_yes _ _ t)))
      (λ v e t. let k = gap_value p q v e in below_holds v.num v.den n (difference w p q) lo k.den_pos writing.den_pos k.same (lt_no _ _ t))
  row_says (Zero p q) =
      says (Zero p q) (checked_gap fs p q) refl
      (λ v e t. let k = gap_value p q v e in not_le _ _ (above_fails v.num v.den n (difference w p q) k.den_pos writing.den_pos k.same (lt_yes _ _ t)))
      (λ v e t. let k = gap_value p q v e in above_holds v.num v.den n (difference w p q) k.den_pos writing.den_pos k.same (lt_no _ _ t))
  row_says (Cross p q x y) =
      let bound = pos (range_at m p q).lo -ℤ pos (range_at m x y).hi in
      let d = difference w p q -ℤ difference w x y in
      says (Cross p q x y) (constraint_value fs (Cross p q x y)) refl
      (λ v e t. let k = cross_value p q x y v e in not_le _ _ (below_fails v.num v.den n d bound k.den_pos writing.den_pos k.same (lt_yes _ _ t)))
      (λ v e t. let k = cross_value p q x y v e in below_holds v.num v.den n d bound k.den_pos writing.den_pos k.same (lt_no _ _ t))
  row_says (Order p) =
      let d = difference w p (p + 1) in
      says (Order p) (checked_gap fs p (p + 1)) refl
      (λ v e t.
      let k = gap_value p (p + 1) v e in
      let below : v.num <ℤ (pos 0 *ℤ v.den) = rw (none_of v.den) (lt_yes _ _ t) in
      not_le _ _ (rw (no_units n) at (below_fails v.num v.den n d (pos 0) k.den_pos writing.den_pos k.same below)))
      (λ v e t.
      let k = gap_value p (p + 1) v e in
      let above : (pos 0 *ℤ v.den) ≤ℤ v.num = rw (none_of v.den) (lt_no _ _ t) in
      rw (no_units n) at (below_holds v.num v.den n d (pos 0) k.den_pos writing.den_pos k.same above))

  -- ---- what a search says

  -- a row, those before it that hold, and that it fails
  record IsFirst (tags : List Tag) (tag : Tag) : Type 0 where
    before : List Tag
    after : List Tag
    stands : tags ≡ before ++ tag ∷ after
    hold : AllByRecursion (RowHolds m w n) before
    fails : ¬ RowHolds m w n tag

  abbrev Finds : List Tag → Result (Option Tag) TooWide → Type 0
  Finds tags (Ok None) = AllByRecursion (RowHolds m w n) tags × ¬ HasTooWide m w n fs tags
  Finds tags (Ok (Some tag)) = IsFirst tags tag × ¬ HasTooWide m w n fs tags
  Finds tags (Err wide) = HasTooWide m w n fs tags

  -- behind a row that holds
  finds_behind : (tag : Tag) (tags : List Tag) (r : Result (Option Tag) TooWide) → Says tag (Ok false) → Finds tags r → Finds (tag ∷ tags) r
  finds_behind tag tags (Ok None) s h = ((s.0, h.0), λ k. elim k [ inl wide ↦ s.1 wide | inr later ↦ h.1 later.1 ])
  finds_behind tag tags (Ok (Some found)) s h = (
    record { before = tag ∷ h.0.before; after = h.0.after; stands = ap (λ l. tag ∷ l) h.0.stands; hold = (s.0, h.0.hold); fails = h.0.fails },
    λ k. elim k [ inl wide ↦ s.1 wide | inr later ↦ h.1 later.1 ],
  )
  finds_behind tag tags (Err wide) s h = inr (s.0, h)

  -- with one more row in front
  finds_next : (tag : Tag) (tags : List Tag) (r : Result Bool TooWide) → Says tag r → Finds tags (first_stop (row_fails m fs) tags)
      → Finds (tag ∷ tags) (from_row tag (first_stop (row_fails m fs) tags) r)
  finds_next tag tags (Ok true) s h =
      (record { before = []; after = tags; stands = refl; hold = tt; fails = s.0 }, λ k. elim k [ inl wide ↦ s.1 wide | inr later ↦ s.0 later.0 ])
  finds_next tag tags (Ok false) s h = finds_behind tag tags (first_stop (row_fails m fs) tags) s h
  finds_next tag tags (Err wide) s h = inl s

  finds : (tags : List Tag) → Finds tags (first_stop (row_fails m fs) tags)
  finds [] = (tt, λ k. k)
  finds (tag ∷ tags) = finds_next tag tags (row_fails m fs tag) (row_says tag) (finds tags)

  -- ---- the answer

  -- the numbers are a scale
  pub IsScale-from_values : AreValues m fs → IsScale m w n
  IsScale-from_values h = record {
    den_pos = writing.den_pos;
    each = IsWriting-length fs w n writing ∙ h.each;
    last =
        zero_of_mul (value_at w m.size) (fraction_at fs m.size).den (value_is_fraction fs (m.size - 1) are)
        (value_same w fs (m.size - 1) writing.same ∙ ap (λ x. x *ℤ n) h.last ∙ none_of n);
  }

  answer_from : (r : Result (Option Tag) TooWide) → IsScale m w n → Finds (rows m) r → IsAnswerOver m w n fs (answer_of r)
  answer_from (Ok None) scale h = (record { scale = scale; meets = met_from_rows m w n h.0 }, h.1)
  answer_from (Ok (Some tag)) scale h =
      (record { before = h.0.before; after = h.0.after; stands = h.0.stands; hold = h.0.hold; fails = h.0.fails }, h.1)
  answer_from (Err wide) scale h = h

  pub answer_over : AreValues m fs → IsAnswerOver m w n fs (answer_of (first_stop (row_fails m fs) (rows m)))
  answer_over h = answer_from (first_stop (row_fails m fs) (rows m)) (IsScale-from_values h) (finds (rows m))

-- what a search finds is what is to be answered
pub answer_is : (m : Judgements) (fs : List Fraction) (r : Result (Option Tag) TooWide) → AreFractions fs → AreValues m fs
    → r ≡ first_stop (row_fails m fs) (rows m) → IsAnswer m fs (answer_of r)
answer_is m fs r are h e = λ w n writing. subst (λ s. IsAnswerOver m w n fs (answer_of s)) (sym e) (answer_over m fs w n are writing h)

-- and it is that the scale meets the judgements exactly where it does
pub answer_meets : (m : Judgements) (fs : List Fraction) (fit : Fit) → IsAnswer m fs (Ok fit) → (w : List ℤ) (n : ℤ) → IsWriting fs w n
    → (fit ≡ Meets) ↔ IsMetBy m w n
answer_meets m fs fit h w n writing = IsFit-Meets m w n fit (h w n writing).0

-- a refusal
pub answer_refused : (m : Judgements) (fs : List Fraction) (wide : TooWide) (a : Result Fit TooWide) → AreFractions fs → AreValues m fs
    → Err wide ≡ first_stop (row_fails m fs) (rows m) → IsErr a → IsAnswer m fs a
answer_refused m fs wide (Ok fit) are h e refused = absurd (cc)
answer_refused m fs wide (Err other) are h e refused = answer_is m fs (Err wide) are h e

-- what a cross row answers, from its three differences
pub cross_row_by : (m : Judgements) (fs : List Fraction) (p q x y lo hi : ℕ) (l r v : Fraction) (b : Bool) → checked_gap fs p q ≡ Ok l
    → checked_gap fs x y ≡ Ok r → checked_difference l r ≡ Ok v → lo ≡ (range_at m p q).lo → hi ≡ (range_at m x y).hi → hi < lo
    → b ≡ int_lt v.num (pos (lo - hi) *ℤ v.den) → Ok b ≡ fails_where (nat_lt (range_at m x y).hi (range_at m p q).lo) (row_fails m fs (Cross p q x y))
cross_row_by m fs p q x y lo hi l r v b left right both lo_is hi_is below is =
    let there : nat_lt hi lo ≡ true = grind (arith, nat_tests) in
    let bound : pos (lo - hi) ≡ pos lo -ℤ pos hi = omega (arith, ints) in
    rw (← lo_is, ← hi_is, there, left, right, both, ← bound, ← is) refl

-- answers over one writing
one_over : (m : Judgements) (fs : List Fraction) (w : List ℤ) (n : ℤ) (a b : Result Fit TooWide) → IsAnswerOver m w n fs a → IsAnswerOver m w n fs b → a ≡ b
one_over m fs w n (Ok a) (Ok b) h k = ap (λ fit. Ok fit) (IsFit-unique m w n a b h.0 k.0)
one_over m fs w n (Ok a) (Err b) h k = absurd (h.1 k)
one_over m fs w n (Err a) (Ok b) h k = absurd (k.1 h)
one_over m fs w n (Err a) (Err b) h k = refl

-- values have one answer only
pub IsAnswer-unique : (m : Judgements) (fs : List Fraction) (a b : Result Fit TooWide) → AreFractions fs → IsAnswer m fs a → IsAnswer m fs b → a ≡ b
IsAnswer-unique m fs a b are h k =
    let writing = common_writing fs are in
    one_over m fs (common_nums fs) (common_den fs) a b (h (common_nums fs) (common_den fs) writing) (k (common_nums fs) (common_den fs) writing)

-- and they have one
pub answer_exists : (m : Judgements) (fs : List Fraction) → AreFractions fs → AreValues m fs → (a : Result Fit TooWide) × IsAnswer m fs a
answer_exists m fs are h = (answer_of (first_stop (row_fails m fs) (rows m)), answer_is m fs (first_stop (row_fails m fs) (rows m)) are h refl)
