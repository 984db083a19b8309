-- The closed problem of a criterion is a problem: one number for each gap and for the room, each in range.
use Rattle.std.proofs.Common.{◌≡◌, ◌≢◌, ◌⊎◌, inl, inr, ℕ, zero, suc, ◌+◌, ◌-◌, ◌<◌, ◌≤◌, ℤ, pos, negsuc, neg_ℤ, ◌≤ℤ◌, List, [], ◌∷◌, ◌++◌, length, map, replicate, All, ap, ap₂, ◌∙◌, arith, unsigned_abs}
use Rattle.std.proofs.lemmas.Bool.{cases_lt, lt-ltb, le-ltb}
use Rattle.std.proofs.lemmas.List.{append_assoc, length-append, length-replicate}
use Rattle.std.proofs.lemmas.List.Elements.{All-nil, All-cons, All-append, All-replicate}
use Rattle.frac128.specs.Range.{IsInRange}
use Rattle.frac128.specs.Problem.{IsRow, problem_of}
use Rattle.frac128.specs.declared.problem.Row.{Row}
use Rattle.integers.specs.Vector.{AreNonNegative}
use Rattle.integers.proofs.Laws.{lin}
use Rattle.judgement_matrix.specs.Matrix.{Judgements, IsPair}
use Rattle.judgement_matrix.specs.Rows.{IsTagAmong}
use Rattle.judgement_matrix.specs.declared.tag.Tag.{Tag}
use Rattle.judgement_matrix.specs.declared.tag.Tag.TheVariants.{Lower, Zero, Cross, Order}
use Rattle.lp_macbeth.specs.Gaps.{gap_coefs, opposite}
use Rattle.lp_macbeth.specs.Rows.{row_of}
use Rattle.lp_macbeth.specs.Closed.{closed_tags, closed_row_of, anchor_up, anchor_down, reach_up, reach_down, anchored_rows, outer_coefs, closed_cost, closed_problem_with}
use Rattle.lp_macbeth.proofs.CoefLemmas.{length-gap_coefs, length-opposite, length-cross_coefs}
use Rattle.lp_macbeth.proofs.RangeLemmas.{small_in_range, gap_coefs_in_range, opposite_in_range, cross_coefs_in_range}
use Rattle.lp_macbeth.proofs.ScaleLemmas.{gap_coefs_nonneg}

-- numbers for the gaps, one for the room, and a bound
with_room : (n : ℕ) (xs : List ℤ) (c bound : ℤ) → 2 ≤ n → length xs ≡ n - 1 → All IsInRange xs → IsInRange c → IsInRange bound
    → IsRow n (record { coefs = xs ++ c ∷ []; bound = bound })
with_room n xs c bound two each all room b = record {
  one_each = length-append xs (c ∷ []) ∙ omega (arith, each);
  coefs_in_range = All-append IsInRange xs (c ∷ []) all (All-cons IsInRange c [] room (All-nil IsInRange));
  bound_in_range = b;
}

zero_in_range : IsInRange (pos 0)
zero_in_range = small_in_range (pos 0) (omega arith)

-- a number for each gap in the row of a tag
pub length-row_of : (m : Judgements) (tag : Tag) → IsTagAmong m.size tag → length (row_of m tag).coefs ≡ m.size - 1
length-row_of m (Lower p q) h = length-gap_coefs m.size p q h
length-row_of m (Zero p q) h = length-opposite (gap_coefs m.size p q) ∙ length-gap_coefs m.size p q h
length-row_of m (Cross p q x y) h = length-cross_coefs m.size p q x y h.0 h.1
length-row_of m (Order p) h = length-gap_coefs m.size p (p + 1) (h.0, omega arith, omega arith)

-- a tag's constraint in unit 0
pub IsRow-closed : (m : Judgements) (tag : Tag) → IsTagAmong m.size tag → IsRow m.size (closed_row_of m tag)
IsRow-closed m (Lower p q) h = with_room m.size (gap_coefs m.size p q) (pos 0) (pos 0) (omega arith) (length-gap_coefs m.size p q h)
    (gap_coefs_in_range m.size p q) zero_in_range zero_in_range
IsRow-closed m (Zero p q) h = with_room m.size (opposite (gap_coefs m.size p q)) (pos 0) (pos 0) (omega arith)
    (length-opposite (gap_coefs m.size p q) ∙ length-gap_coefs m.size p q h) (opposite_in_range m.size p q) zero_in_range zero_in_range
IsRow-closed m (Cross p q x y) h = with_room m.size _ (pos 0) (pos 0) (let l = h.0 in omega arith) (length-cross_coefs m.size p q x y h.0 h.1)
    (cross_coefs_in_range m.size p q x y h.0 h.1) zero_in_range zero_in_range
IsRow-closed m (Order p) h = with_room m.size (gap_coefs m.size p (p + 1)) (pos 0) (pos 0) (omega arith)
    (length-gap_coefs m.size p (p + 1) (h.0, omega arith, omega arith)) (gap_coefs_in_range m.size p (p + 1)) zero_in_range zero_in_range

-- the opposite of a bound
opposite_small : (z : ℕ) → z ≤ 1000000 → unsigned_abs (neg_ℤ (pos z)) ≤ 1000000
opposite_small zero h = omega arith
opposite_small (suc z) h = omega arith

-- two more rows
pub IsRow-both : (n : ℕ) (rows : List Row) (one two : Row) → All (IsRow n) rows → IsRow n one → IsRow n two → All (IsRow n) (rows ++ one ∷ two ∷ [])
IsRow-both n rows one two all a b = All-append (IsRow n) rows (one ∷ two ∷ []) all
    (All-cons (IsRow n) one (two ∷ []) a (All-cons (IsRow n) two [] b (All-nil (IsRow n))))

pub anchors_fit : (n good neutral : ℕ) (rows : List Row) → IsPair n good neutral → All (IsRow n) rows
    → All (IsRow n) (rows ++ anchor_up n good neutral ∷ anchor_down n good neutral ∷ [])
anchors_fit n good neutral rows in_n all =
    IsRow-both n rows (anchor_up n good neutral) (anchor_down n good neutral) all
    (with_room n (gap_coefs n good neutral) (pos 0) (pos 100) (omega arith) (length-gap_coefs n good neutral in_n) (gap_coefs_in_range n good neutral)
    zero_in_range (small_in_range (pos 100) (omega arith)))
    (with_room n (opposite (gap_coefs n good neutral)) (pos 0) (neg_ℤ (pos 100)) (omega arith)
    (length-opposite (gap_coefs n good neutral) ∙ length-gap_coefs n good neutral in_n) (opposite_in_range n good neutral) zero_in_range
    (small_in_range (neg_ℤ (pos 100)) (opposite_small 100 (omega arith))))

pub reaches_fit : (n reach : ℕ) (rows : List Row) → 2 ≤ n → reach ≤ 1000000 → All (IsRow n) rows
    → All (IsRow n) (rows ++ reach_up n reach ∷ reach_down n reach ∷ [])
reaches_fit n reach rows two most all =
    let in_n : IsPair n 1 n = (omega arith, omega arith, omega arith) in
    IsRow-both n rows (reach_up n reach) (reach_down n reach) all
    (with_room n (gap_coefs n 1 n) (pos 1) (pos reach) two (length-gap_coefs n 1 n in_n) (gap_coefs_in_range n 1 n) (small_in_range (pos 1) (omega arith))
    (small_in_range (pos reach) (omega arith)))
    (with_room n (opposite (gap_coefs n 1 n)) (negsuc 0) (neg_ℤ (pos reach)) two (length-opposite (gap_coefs n 1 n) ∙ length-gap_coefs n 1 n in_n)
    (opposite_in_range n 1 n) (small_in_range (negsuc 0) (omega arith)) (small_in_range (neg_ℤ (pos reach)) (opposite_small reach most)))

-- ---- the cost

-- copies of two numbers between each other keep what both have
copies_keep : (P : ℤ → Type 0) (a b c : ℕ) (x y : ℤ) → P x → P y → All P (replicate a x ++ replicate b y ++ replicate c x)
copies_keep P a b c x y p q =
    All-append P (replicate a x ++ replicate b y) (replicate c x) (All-append P (replicate a x) (replicate b y) (All-replicate P a x p) (All-replicate P b y q))
    (All-replicate P c x p)

-- one number for each gap
pub length-outer_coefs : (n p q : ℕ) → IsPair n p q → length (outer_coefs n p q) ≡ n - 1
length-outer_coefs n p q in_n =
    length-append (replicate (n - q) (pos 1) ++ replicate (q - p) (pos 0)) (replicate (p - 1) (pos 1))
    ∙ omega (
      arith,
      length-append (replicate (n - q) (pos 1)) (replicate (q - p) (pos 0)),
      length-replicate (n - q) (pos 1),
      length-replicate (q - p)
          (pos 0),
      length-replicate (p - 1) (pos 1),
    )

-- a cost for each variable, none below 0
pub record IsCost (n : ℕ) (cost : List ℤ) : Type 0 where
  pub one_each : length cost ≡ n
  pub nonneg : AreNonNegative cost
  pub in_range : All IsInRange cost

costs_with_room : (n : ℕ) (xs : List ℤ) (c : ℤ) → 2 ≤ n → length xs ≡ n - 1 → AreNonNegative xs → All IsInRange xs → pos 0 ≤ℤ c → IsInRange c
    → IsCost n (xs ++ c ∷ [])
costs_with_room n xs c two each nonneg all low room = record {
  one_each = length-append xs (c ∷ []) ∙ omega (arith, each);
  nonneg = All-append (λ z. pos 0 ≤ℤ z) xs (c ∷ []) nonneg (All-cons (λ z. pos 0 ≤ℤ z) c [] low (All-nil (λ z. pos 0 ≤ℤ z)));
  in_range = All-append IsInRange xs (c ∷ []) all (All-cons IsInRange c [] room (All-nil IsInRange));
}

pub IsCost-closed : (n a b : ℕ) → a ≢ b → (1 ≤ a) × (a ≤ n) → (1 ≤ b) × (b ≤ n) → IsCost n (closed_cost n a b)
IsCost-closed n a b apart ha hb = by_order (cases_lt a b)
  where
    by_order : (a < b) ⊎ (b ≤ a) → IsCost n (closed_cost n a b)
    by_order (inl l) =
        let in_n : IsPair n a b = (ha.0, l, hb.1) in
        rw (lt-ltb a b l) (costs_with_room n (gap_coefs n a b) (pos 0) (omega arith) (length-gap_coefs n a b in_n) (gap_coefs_nonneg n a b)
        (gap_coefs_in_range n a b) (omega (arith, lin)) zero_in_range)
    by_order (inr g) =
        let in_n : IsPair n b a = (hb.0, omega arith, ha.1) in
        let one : IsInRange (pos 1) = small_in_range (pos 1) (omega arith) in
        rw (le-ltb a b g) (costs_with_room n (outer_coefs n b a) (pos 1) (omega arith) (length-outer_coefs n b a in_n)
        (copies_keep (λ z. pos 0 ≤ℤ z) (n - a) (a - b) (b - 1) (pos 1) (pos 0) (omega (arith, lin)) (omega (arith, lin)))
        (copies_keep IsInRange (n - a) (a - b) (b - 1) (pos 1) (pos 0) one zero_in_range) (omega (arith, lin)) one)

-- ---- the problem, of the parts that the code makes

pub closed_problem_is : (m : Judgements) (good neutral reach n : ℕ) (cost given : List ℤ) (compared anchored rows : List Row) → n ≡ m.size
    → cost ≡ given → compared ≡ map (closed_row_of m) (closed_tags m)
    → anchored ≡ compared ++ anchor_up n good neutral ∷ anchor_down n good neutral ∷ [] → rows ≡ anchored ++ reach_up n reach ∷ reach_down n reach ∷ []
    → problem_of n cost rows ≡ closed_problem_with m good neutral reach given
closed_problem_is m good neutral reach n cost given compared anchored rows size costs pairs anchors reaches =
    let all : List Row = map (closed_row_of m) (closed_tags m) in
    let made : rows ≡ all ++ anchored_rows n good neutral reach =
    reaches ∙ ap (λ l. l ++ reach_up n reach ∷ reach_down n reach ∷ []) (anchors ∙ ap (λ l. l ++ anchor_up n good neutral ∷ anchor_down n good neutral ∷ []) pairs)
    ∙ append_assoc all (anchor_up n good neutral ∷ anchor_down n good neutral ∷ []) (reach_up n reach ∷ reach_down n reach ∷ []) in
    ap₂ (problem_of n) costs made ∙ ap (λ s. problem_of s given (all ++ anchored_rows s good neutral reach)) size

-- the rows beside those of pairs
pub anchored_rows_fit : (n good neutral reach : ℕ) → IsPair n good neutral → reach ≤ 1000000 → All (IsRow n) (anchored_rows n good neutral reach)
anchored_rows_fit n good neutral reach in_n most =
    reaches_fit n reach (anchor_up n good neutral ∷ anchor_down n good neutral ∷ []) (omega arith) most (anchors_fit n good neutral [] in_n (All-nil (IsRow n)))

-- as the code makes them
pub anchored_rows_are : (n good neutral reach size : ℕ) (none anchored rows : List Row) → size ≡ n → none ≡ []
    → anchored ≡ none ++ anchor_up size good neutral ∷ anchor_down size good neutral ∷ [] → rows ≡ anchored ++ reach_up size reach ∷ reach_down size reach ∷ []
    → rows ≡ anchored_rows n good neutral reach
anchored_rows_are n good neutral reach size none anchored rows same empty first second =
    second ∙ ap (λ l. l ++ reach_up size reach ∷ reach_down size reach ∷ [])
    (first ∙ ap (λ l. l ++ anchor_up size good neutral ∷ anchor_down size good neutral ∷ []) empty) ∙ ap (λ s. anchored_rows s good neutral reach) same
