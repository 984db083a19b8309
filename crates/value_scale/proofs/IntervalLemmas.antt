-- An interval as the set of its members, and how it narrows.
use Rattle.std.specs.Result.{IfOk}
use Rattle.std.proofs.Common.{◌≡◌, ◌≢◌, ◌⊎◌, inl, inr, ◌↔◌, ℕ, ◌-◌, ◌≤◌, ℤ, pos, ◌*ℤ◌, ◌≤ℤ◌, ◌<ℤ◌, ◌+ℤ◌, ◌-ℤ◌, Bool, true, false, List, [], ◌∷◌, length, set, Option, Some, None, Result, Ok, Err, refl, subst, arith}
use Rattle.std.specs.Prelude.{int_lt, if◌then◌else◌}
use Rattle.std.specs.List.{AllByRecursion}
use Rattle.std.proofs.lemmas.Int.{ints}
use Rattle.std.proofs.lemmas.Result.{IfOk-weaker}
use Rattle.integers.specs.Fraction.{Fraction, IsFraction, AreFractions, FractionAtMost, SameFractions, over}
use Rattle.integers.proofs.Laws.{lin}
use Rattle.integers.proofs.Order.{le_of_lt, le_antisymm}
use Rattle.integers.proofs.FractionOrder.{FractionAtMost-trans}
use Rattle.frac128.specs.Chain.{◌>>=◌}
use Rattle.frac128.specs.declared.number.TooWide.{TooWide}
use Rattle.frac128.proofs.FormulaLemmas.{IfOk-bind}
use Rattle.judgement_matrix.specs.Matrix.{Judgements}
use Rattle.judgement_matrix.specs.Scale.{value_at}
use Rattle.judgement_matrix.specs.Rows.{RowHolds, IsTagAmong}
use Rattle.judgement_matrix.specs.declared.tag.Tag.{Tag}
use Rattle.value_scale.specs.Slack.{replaced, coefficient, bound, checked_end, IsUpTo, IsIn, HasWideEnd}
use Rattle.value_scale.specs.Narrowing.{is_below, from_end, lesser, up_to_end, with_row, with_rows}
use Rattle.value_scale.specs.declared.slacks.Interval.{Interval}
use Rattle.value_scale.proofs.SideLemmas.{side, row_by_side, side_replaced, IsEnd, end_is, holds_from, holds_up_to, holds_everywhere, side_own}

-- ---- tests

lt_yes : (a b : ℤ) → int_lt a b ≡ true → a <ℤ b
lt_yes a b h = grind (arith, ints)

lt_no : (a b : ℤ) → int_lt a b ≡ false → b ≤ℤ a
lt_no a b h = grind (arith, ints)

above_apart : (k : ℤ) → pos 0 <ℤ k → k ≢ pos 0
above_apart k h e = absurd (omega (arith, lin))

below_apart : (k : ℤ) → k <ℤ pos 0 → k ≢ pos 0
below_apart k h e = absurd (omega (arith, lin))

-- ---- members

-- a positive denominator, where there is an upper end
abbrev IsEndOrNone : Option Fraction → Type 0
IsEndOrNone None = Unit {0}
IsEndOrNone (Some high) = IsFraction high

-- the interval has exactly the fractions with P
pub record Holds (interval : Interval) (P : Fraction → Type 0) : Type 0 where
  pub low_pos : IsFraction interval.low
  pub high_pos : IsEndOrNone interval.high
  pub exactly : (t : Fraction) → IsFraction t → P t ↔ IsIn interval t

pub same_members : (i : Interval) (P Q : Fraction → Type 0) → ((t : Fraction) → IsFraction t → P t ↔ Q t) → Holds i P → Holds i Q
same_members i P Q s h = record {
  low_pos = h.low_pos;
  high_pos = h.high_pos;
  exactly = λ t p. (λ q. (h.exactly t p).0 ((s t p).1 q), λ k. (s t p).0 ((h.exactly t p).1 k));
}

-- from an end on
members_from : (i : Interval) (e : Fraction) (P Q : Fraction → Type 0) → Holds i P → IsFraction e → ((t : Fraction) → IsFraction t → Q t ↔ FractionAtMost e t)
    → Holds (from_end e i) (λ t. P t × Q t)
members_from i e P Q h pe q =
    let R : Fraction → Type 0 = λ t. P t × Q t in
    let G : Bool → Type 0 = λ b. is_below i.low e ≡ b → Holds (record { low = if b then e else i.low; high = i.high }) R in
    let by_test : G (is_below i.low e) = elim (is_below i.low e) as G [
      | true ↦ λ b.
          let below : FractionAtMost i.low e = le_of_lt (i.low.num *ℤ e.den) (e.num *ℤ i.low.den) (lt_yes (i.low.num *ℤ e.den) (e.num *ℤ i.low.den) b) in
          record {
            low_pos = pe;
            high_pos = h.high_pos;
            exactly = λ t p. (
              λ k. ((q t p).0 k.1, ((h.exactly t p).0 k.0).1),
              λ k.
                  ((h.exactly t p).1 (FractionAtMost-trans i.low e t h.low_pos pe p below k.0, k.1), (q t p).1 k.0),
            );
          }
      | false ↦ λ b.
          let above : FractionAtMost e i.low = lt_no (i.low.num *ℤ e.den) (e.num *ℤ i.low.den) b in
          record {
            low_pos = h.low_pos;
            high_pos = h.high_pos;
            exactly = λ t p. (λ k. (h.exactly t p).0 k.0, λ k. ((h.exactly t p).1 k, (q t p).1 (FractionAtMost-trans e i.low t pe h.low_pos p above k.0)));
          }
    ] in
    by_test refl

-- up to the less of two ends
up_to_both : (e : Fraction) (high : Option Fraction) → IsFraction e → IsEndOrNone high
    → IsFraction (lesser e high) × ((t : Fraction) → IsFraction t → (FractionAtMost t e × IsUpTo t high) ↔ FractionAtMost t (lesser e high))
up_to_both e None pe ph = (pe, λ t p. (λ k. k.0, λ k. (k, tt)))
up_to_both e (Some high) pe ph =
    let G : Bool → Type 0 = λ b. is_below e high ≡ b → IsFraction (if b then e else high) ×
    ((t : Fraction) → IsFraction t → (FractionAtMost t e × FractionAtMost t high) ↔ FractionAtMost t (if b then e else high)) in
    let by_test : G (is_below e high) = elim (is_below e high) as G [
      | true ↦ λ b.
          let below : FractionAtMost e high = le_of_lt (e.num *ℤ high.den) (high.num *ℤ e.den) (lt_yes (e.num *ℤ high.den) (high.num *ℤ e.den) b) in
          (pe, λ t p. (λ k. k.0, λ k. (k, FractionAtMost-trans t e high p pe ph k below)))
      | false ↦ λ b.
          let above : FractionAtMost high e = lt_no (e.num *ℤ high.den) (high.num *ℤ e.den) b in
          (ph, λ t p. (λ k. k.1, λ k. (FractionAtMost-trans t high e p ph pe k above, k)))
    ] in
    by_test refl

members_up_to : (i : Interval) (e : Fraction) (P Q : Fraction → Type 0) → Holds i P → IsFraction e
    → ((t : Fraction) → IsFraction t → Q t ↔ FractionAtMost t e) → Holds (up_to_end e i) (λ t. P t × Q t)
members_up_to i e P Q h pe q =
    let both = up_to_both e i.high pe h.high_pos in
    record {
      low_pos = h.low_pos;
      high_pos = both.0;
      exactly = λ t p. (
        λ k. (((h.exactly t p).0 k.0).0, (both.1 t p).0 ((q t p).0 k.1, ((h.exactly t p).0 k.0).1)),
        λ k. let apart = (both.1 t p).1 k.1 in ((h.exactly t p).1 (k.0, apart.1), (q t p).1 apart.0),
      );
    }

-- ---- one row

module _ (m : Judgements) (fs : List Fraction) (w : List ℤ) (n : ℤ) (x : ℕ) (are : AreFractions fs) (same : SameFractions (over w n) fs) (pn : pos 0 <ℤ n)
    (low : 1 ≤ x) (within : x ≤ length w) where
  -- the row holds with t in place of the value of x
  abbrev pub With : Tag → Fraction → Type 0
  With tag t = RowHolds m (replaced w n x t) (n *ℤ t.den) tag

  -- the values with 0 there
  abbrev rest : List ℤ
  rest = set w (x - 1) (pos 0)

  -- the same in one number
  with_by_side : (tag : Tag) → IsTagAmong m.size tag → (t : Fraction) → With tag t
      ↔ (n *ℤ t.den *ℤ bound m tag) ≤ℤ (t.den *ℤ side rest tag +ℤ coefficient x tag *ℤ (t.num *ℤ n))
  with_by_side tag among t =
      subst (λ z. With tag t ↔ (n *ℤ t.den *ℤ bound m tag) ≤ℤ z) (side_replaced w n x t m.size tag low within among)
      (row_by_side m (replaced w n x t) (n *ℤ t.den) tag)

  -- a row that holds, without the value of x in it
  with_any : (tag : Tag) → IsTagAmong m.size tag → RowHolds m w n tag → coefficient x tag ≡ pos 0 → (t : Fraction) → IsFraction t → With tag t
  with_any tag among h none t p =
      (with_by_side tag among t).1 (holds_everywhere (coefficient x tag) (bound m tag) (side rest tag) n (value_at w x) t p none
      (subst (λ z. (n *ℤ bound m tag) ≤ℤ z) (side_own w x m.size tag low within among) ((row_by_side m w n tag).0 h)))

  -- by an end
  with_from : (tag : Tag) (e : Fraction) → IsTagAmong m.size tag → pos 0 <ℤ coefficient x tag
      → IsEnd (coefficient x tag) (n *ℤ bound m tag -ℤ side rest tag) n e → (t : Fraction) → With tag t ↔ FractionAtMost e t
  with_from tag e among pk h t =
      let s = with_by_side tag among t in
      let f = holds_from (coefficient x tag) (bound m tag) (side rest tag) n e t pn pk h in
      (λ k. f.0 (s.0 k), λ k. s.1 (f.1 k))

  with_up_to : (tag : Tag) (e : Fraction) → IsTagAmong m.size tag → coefficient x tag <ℤ pos 0
      → IsEnd (coefficient x tag) (n *ℤ bound m tag -ℤ side rest tag) n e → (t : Fraction) → With tag t ↔ FractionAtMost t e
  with_up_to tag e among pk h t =
      let s = with_by_side tag among t in
      let f = holds_up_to (coefficient x tag) (bound m tag) (side rest tag) n e t pn pk h in
      (λ k. f.0 (s.0 k), λ k. s.1 (f.1 k))

  with_row_members : (tag : Tag) (i : Interval) (P : Fraction → Type 0) → IsTagAmong m.size tag → RowHolds m w n tag → Holds i P
      → IfOk (with_row m fs x tag i) (λ out. Holds out (λ t. P t × With tag t))
  with_row_members tag i P among h holds =
      let k = coefficient x tag in
      let Q : Interval → Type 0 = λ out. Holds out (λ t. P t × With tag t) in
      let Up : Result Interval TooWide = (checked_end m fs x tag) >>= (λ end. Ok (from_end end i)) in
      let Down : Result Interval TooWide = (checked_end m fs x tag) >>= (λ end. Ok (up_to_end end i)) in
      let G : Bool → Type 0 = λ b. int_lt k (pos 0) ≡ b → int_lt (pos 0) k ≡ false → IfOk (if b then Down else Ok i) Q in
      let F : Bool → Type 0 = λ b. int_lt (pos 0) k ≡ b → IfOk (if b then Up else (if int_lt k (pos 0) then Down else Ok i)) Q in
      let inner : G (int_lt k (pos 0)) = elim (int_lt k (pos 0)) as G [
        | true ↦ λ b c.
            let below : k <ℤ pos 0 = lt_yes k (pos 0) b in
            IfOk-bind (checked_end m fs x tag) (λ end. Ok (up_to_end end i)) (IsEnd k (n *ℤ bound m tag -ℤ side rest tag) n) Q
            (end_is m fs w n x tag are same (below_apart k below)) (λ e he.
            members_up_to i e P (With tag) holds he.den_pos (λ t p. with_up_to tag e among below he t))
        | false ↦ λ b c.
            let none : k ≡ pos 0 = le_antisymm k (pos 0) (lt_no (pos 0) k c) (lt_no k (pos 0) b) in
            same_members i P (λ t. P t × With tag t) (λ t p. (λ y. (y, with_any tag among h none t p), λ y. y.0)) holds
      ] in
      let outer : F (int_lt (pos 0) k) = elim (int_lt (pos 0) k) as F [
        | true ↦ λ b.
            let above : pos 0 <ℤ k = lt_yes (pos 0) k b in
            IfOk-bind (checked_end m fs x tag) (λ end. Ok (from_end end i)) (IsEnd k (n *ℤ bound m tag -ℤ side rest tag) n) Q
            (end_is m fs w n x tag are same (above_apart k above)) (λ e he.
            members_from i e P (With tag) holds he.den_pos (λ t p. with_from tag e among above he t))
        | false ↦ λ b. inner refl b
      ] in
      outer refl

  -- all rows of a list hold with t there
  abbrev pub AllWith : List Tag → Fraction → Type 0
  AllWith tags t = AllByRecursion (λ tag. With tag t) tags

  pub with_rows_members : (tags : List Tag) (i : Interval) (P : Fraction → Type 0) → AllByRecursion (IsTagAmong m.size) tags
      → AllByRecursion (RowHolds m w n) tags → Holds i P
      → IfOk (with_rows m fs x tags i) (λ out. Holds out (λ t. P t × AllWith tags t))
  with_rows_members [] i P among h holds = same_members i P (λ t. P t × Unit {0}) (λ t p. (λ y. (y, tt), λ y. y.0)) holds
  with_rows_members (tag ∷ tags) i P among h holds =
      IfOk-bind (with_row m fs x tag i) (λ left. with_rows m fs x tags left) (λ left. Holds left (λ t. P t × With tag t))
      (λ out. Holds out (λ t. P t × AllWith (tag ∷ tags) t)) (with_row_members tag i P among.0 h.0 holds) (λ left hl.
      IfOk-weaker (with_rows m fs x tags left) (λ out. Holds out (λ t. (P t × With tag t) × AllWith tags t))
      (λ out. Holds out (λ t. P t × AllWith (tag ∷ tags) t))
      (λ out ho. same_members out (λ t. (P t × With tag t) × AllWith tags t) (λ t. P t × AllWith (tag ∷ tags) t)
      (λ t p. (λ y. (y.0.0, (y.0.1, y.1)), λ y. ((y.0, y.1.0), y.1.1))) ho)
      (with_rows_members tags left (λ t. P t × With tag t) among.1 h.1 hl))

-- ---- where an end is too wide

-- a row with the value of x in it, whose end is so
abbrev IsWide : Judgements → List Fraction → ℕ → Tag → Type 0
IsWide m fs x tag = (coefficient x tag ≢ pos 0) × (checked_end m fs x tag ≡ Err (record {}))

-- an answer, and the cause of a refusal
abbrev pub Refuses : Result Interval TooWide → Type 0 → Type 0
Refuses (Ok i) W = ¬ W
Refuses (Err e) W = W

refuses_end : (e : Result Fraction TooWide) (k : ℤ) (narrow : Fraction → Interval) → k ≢ pos 0
    → Refuses (e >>= (λ end. Ok (narrow end))) ((k ≢ pos 0) × (e ≡ Err (record {})))
refuses_end (Ok end) k narrow apart = λ h. cc
refuses_end (Err wide) k narrow apart = (apart, refl)

with_row_refuses : (m : Judgements) (fs : List Fraction) (x : ℕ) (tag : Tag) (i : Interval) → Refuses (with_row m fs x tag i) (IsWide m fs x tag)
with_row_refuses m fs x tag i =
    let k = coefficient x tag in
    let W = IsWide m fs x tag in
    let Up : Result Interval TooWide = (checked_end m fs x tag) >>= (λ end. Ok (from_end end i)) in
    let Down : Result Interval TooWide = (checked_end m fs x tag) >>= (λ end. Ok (up_to_end end i)) in
    let G : Bool → Type 0 = λ b. int_lt k (pos 0) ≡ b → int_lt (pos 0) k ≡ false → Refuses (if b then Down else Ok i) W in
    let F : Bool → Type 0 = λ b. int_lt (pos 0) k ≡ b → Refuses (if b then Up else (if int_lt k (pos 0) then Down else Ok i)) W in
    let inner : G (int_lt k (pos 0)) = elim (int_lt k (pos 0)) as G [
      | true ↦ λ b c. refuses_end (checked_end m fs x tag) k (λ end. up_to_end end i) (below_apart k (lt_yes k (pos 0) b))
      | false ↦ λ b c. λ h. h.0 (le_antisymm k (pos 0) (lt_no (pos 0) k c) (lt_no k (pos 0) b))
    ] in
    let outer : F (int_lt (pos 0) k) = elim (int_lt (pos 0) k) as F [
      | true ↦ λ b. refuses_end (checked_end m fs x tag) k (λ end. from_end end i) (above_apart k (lt_yes (pos 0) k b))
      | false ↦ λ b. inner refl b
    ] in
    outer refl

refuses_then : (r : Result Interval TooWide) (next : Interval → Result Interval TooWide) (W V : Type 0) → Refuses r W → ((i : Interval) → Refuses (next i) V)
    → Refuses (r >>= next) (W ⊎ V)
refuses_then (Ok i) next W V h g = behind (next i) (g i)
  where
    behind : (s : Result Interval TooWide) → Refuses s V → Refuses s (W ⊎ V)
    behind (Ok j) k = λ either. elim either [ inl w ↦ h w | inr v ↦ k v ]
    behind (Err e) k = inr k
refuses_then (Err e) next W V h g = inl h

pub with_rows_refuses : (m : Judgements) (fs : List Fraction) (x : ℕ) (tags : List Tag) (i : Interval)
    → Refuses (with_rows m fs x tags i) (HasWideEnd m fs x tags)
with_rows_refuses m fs x [] i = λ h. h
with_rows_refuses m fs x (tag ∷ tags) i =
    refuses_then (with_row m fs x tag i) (λ left. with_rows m fs x tags left) (IsWide m fs x tag) (HasWideEnd m fs x tags) (with_row_refuses m fs x tag i)
    (λ left. with_rows_refuses m fs x tags left)
