-- The points of a criterion's closed problem are the scales of its closure, each with its room.
use lib.IntN.{+ℤ_idr, zero-*ℤ, *ℤ-zero, *ℤ_comm}
use Rattle.std.specs.Prelude.{nat_le}
use Rattle.std.specs.Int.Signed.{≤ℤ_refl}
use Rattle.std.specs.List.{AllByRecursion, filter}
use Rattle.std.proofs.Common.{◌≡◌, ◌↔◌, ℕ, suc, ◌≤◌, ℤ, pos, negsuc, neg_ℤ, ◌+ℤ◌, ◌-ℤ◌, ◌*ℤ◌, ◌≤ℤ◌, List, [], ◌∷◌, ◌++◌, length, map, All, refl, sym, ap, subst, ◌∙◌, arith}
use Rattle.std.proofs.lemmas.List.{length-append}
use Rattle.std.proofs.lemmas.List.Elements.{All-nil, All-cons, All-append, All-head}
use Rattle.frac128.specs.Problem.{IsRowMetBy, IsFeasible}
use Rattle.frac128.specs.declared.problem.Row.{Row}
use Rattle.integers.specs.Vector.{dot, AreNonNegative}
use Rattle.integers.proofs.Laws.{lin, one-*ℤ, minus_one-*ℤ, neg_ℤ-*ℤ, mul_nonneg}
use Rattle.integers.proofs.Lists.{All-parts}
use Rattle.integers.proofs.Vector.{dot-append}
use Rattle.integers.proofs.VectorOrder.{dot_nonneg}
use Rattle.judgement_matrix.specs.Matrix.{Judgements, IsPair, pairs, range_at}
use Rattle.judgement_matrix.specs.Scale.{difference, IsMetInUnit}
use Rattle.judgement_matrix.specs.Rows.{lower_rows, zero_rows, cross_rows, IsTagAmong}
use Rattle.judgement_matrix.specs.declared.tag.Tag.{Tag}
use Rattle.judgement_matrix.specs.declared.tag.Tag.TheVariants.{Lower}
use Rattle.judgement_matrix.proofs.EveryLemmas.{every-append, every-append_left, every-append_right, every-map, every_from_map}
use Rattle.lp_macbeth.specs.Gaps.{gap_coefs, opposite, scale_of}
use Rattle.lp_macbeth.specs.Rows.{row_of, judged_rows}
use Rattle.lp_macbeth.specs.Closed.{closed_tags, closed_row_of, anchor_up, anchor_down, reach_up, reach_down, closed_problem_with, closed_problem_of, IsClosedScale}
use Rattle.lp_macbeth.proofs.ClosedRowLemmas.{length-row_of}
use Rattle.lp_macbeth.proofs.CoefLemmas.{length-gap_coefs, length-opposite}
use Rattle.lp_macbeth.proofs.GapLemmas.{dot-gap_coefs, length-scale_of}
use Rattle.lp_macbeth.proofs.PairLemmas.{All-from_every, every_from_All}
use Rattle.lp_macbeth.proofs.ScaleLemmas.{every_both, dot-opposite, gap_coefs_nonneg, IsScale-scale_of, met_where_rows_are}
use Rattle.lp_macbeth.proofs.TagLemmas.{All-closed_tags}

-- a unit of at least 0 asks for at least what the unit 0 asks for
pub met_in_unit_zero : (m : Judgements) (w : List ℤ) (u : ℤ) → pos 0 ≤ℤ u → IsMetInUnit m u w → IsMetInUnit m (pos 0) w
met_in_unit_zero m w u nonneg h = record {
  lower = λ p q in_n.
      let lo : ℕ = (range_at m p q).lo in
      let bound = h.lower p q in_n in
      let up : pos 0 ≤ℤ (u *ℤ pos lo) = mul_nonneg u (pos lo) nonneg (omega (arith, lin)) in
      let none : pos 0 *ℤ pos lo ≡ pos 0 = zero-*ℤ (pos lo) in
      omega (arith, lin, bound, up, none);
  zero = h.zero;
  cross = λ p q x y left right l.
      let far : ℤ = pos (range_at m p q).lo -ℤ pos (range_at m x y).hi in
      let bound = h.cross p q x y left right l in
      let up : pos 0 ≤ℤ (u *ℤ far) = mul_nonneg u far nonneg (omega (arith, lin, l)) in
      let none : pos 0 *ℤ far ≡ pos 0 = zero-*ℤ far in
      omega (arith, lin, bound, up, none);
}

-- ---- rows

-- a product with one more number on each side
pub dot_with_room : (xs x : List ℤ) (c r : ℤ) → length xs ≡ length x → dot (xs ++ c ∷ []) (x ++ r ∷ []) ≡ dot xs x +ℤ c *ℤ r
dot_with_room xs x c r each = dot-append xs (c ∷ []) x (r ∷ []) each ∙ ap (λ y. dot xs x +ℤ y) (+ℤ_idr (c *ℤ r))

-- a tag's constraint in unit 0
closed_met_tag : (m : Judgements) (x : List ℤ) (r n : ℤ) (tag : Tag) → suc (length x) ≡ m.size → IsTagAmong m.size tag
    → IsRowMetBy (x ++ r ∷ []) n (closed_row_of m tag) ↔ IsRowMetBy x (pos 0) (row_of m tag)
closed_met_tag m x r n tag each among =
    let long : length (row_of m tag).coefs ≡ length x = length-row_of m tag among ∙ omega (arith, each) in
    let d = dot_with_room (row_of m tag).coefs x (pos 0) r long in
    let room : pos 0 *ℤ r ≡ pos 0 = zero-*ℤ r in
    let none : pos 0 *ℤ n ≡ pos 0 = zero-*ℤ n in
    let bound : (row_of m tag).bound *ℤ pos 0 ≡ pos 0 = *ℤ-zero (row_of m tag).bound in
    (λ h. omega (arith, lin, d, room, none, bound, h), λ h. omega (arith, lin, d, room, none, bound, h))

-- what holds of everything holds of each
every_thing : {X : Type 0} (P : X → Type 0) (xs : List X) → ((x : X) → P x) → AllByRecursion P xs
every_thing P [] h = tt
every_thing P (x ∷ xs) h = (h x, every_thing P xs h)

-- in unit 0 the rows of Lower ask for nothing more
lower_in_unit_zero : (m : Judgements) (x : List ℤ) → AreNonNegative x → AllByRecursion (λ tag. IsRowMetBy x (pos 0) (row_of m tag)) (lower_rows m)
lower_in_unit_zero m x nonneg =
    every-map (λ tag. IsRowMetBy x (pos 0) (row_of m tag)) (λ pair. Lower pair.0 pair.1)
    (filter (λ pair. nat_le 1 (range_at m pair.0 pair.1).lo) (pairs m.size))
    (every_thing (λ pair. IsRowMetBy x (pos 0) (row_of m (Lower pair.0 pair.1))) (filter (λ pair. nat_le 1 (range_at m pair.0 pair.1).lo) (pairs m.size))
    (λ pair.
    let up = dot_nonneg (gap_coefs m.size pair.0 pair.1) x (gap_coefs_nonneg m.size pair.0 pair.1) nonneg in
    let none : pos (range_at m pair.0 pair.1).lo *ℤ pos 0 ≡ pos 0 = *ℤ-zero (pos (range_at m pair.0 pair.1).lo) in
    omega (arith, lin, up, none)))

-- rows at a point that say what the rows of Zero and Cross say in unit 0, and the judgements in unit 0
pub compared_iff_met : (m : Judgements) (x z : List ℤ) (n : ℤ) (R : Tag → Row)
    → ((tag : Tag) → IsTagAmong m.size tag → IsRowMetBy z n (R tag) ↔ IsRowMetBy x (pos 0) (row_of m tag))
    → suc (length x) ≡ m.size → AreNonNegative x → All (IsRowMetBy z n) (map R (closed_tags m)) ↔ IsMetInUnit m (pos 0) (scale_of x)
compared_iff_met m x z n R says each nonneg = (to, from)
  where
    to : All (IsRowMetBy z n) (map R (closed_tags m)) → IsMetInUnit m (pos 0) (scale_of x)
    to h =
        let Q : Tag → Type 0 = λ tag. IsRowMetBy x (pos 0) (row_of m tag) in
        let among = every_from_All (IsTagAmong m.size) (closed_tags m) (All-closed_tags m) in
        let rows = every_from_map (IsRowMetBy z n) R (closed_tags m) (every_from_All (IsRowMetBy z n) (map R (closed_tags m)) h) in
        let compared = every_both (IsTagAmong m.size) (λ tag. IsRowMetBy z n (R tag)) Q (λ tag a k. (says tag a).0 k) (closed_tags m) among rows in
        let zero = every-append_left Q (zero_rows m) (cross_rows m) compared in
        let cross = every-append_right Q (zero_rows m) (cross_rows m) compared in
        let all = every-append Q (lower_rows m ++ zero_rows m) (cross_rows m) (every-append Q (lower_rows m) (zero_rows m) (lower_in_unit_zero m x nonneg) zero)
        cross in
        (met_where_rows_are m x (pos 0) each (≤ℤ_refl (pos 0))).0
        (nonneg, All-from_every (IsRowMetBy x (pos 0)) (map (row_of m) (judged_rows m)) (every-map (IsRowMetBy x (pos 0)) (row_of m) (judged_rows m) all))

    from : IsMetInUnit m (pos 0) (scale_of x) → All (IsRowMetBy z n) (map R (closed_tags m))
    from h =
        let Q : Tag → Type 0 = λ tag. IsRowMetBy x (pos 0) (row_of m tag) in
        let among = every_from_All (IsTagAmong m.size) (closed_tags m) (All-closed_tags m) in
        let rows = ((met_where_rows_are m x (pos 0) each (≤ℤ_refl (pos 0))).1 h).1 in
        let all = every_from_map (IsRowMetBy x (pos 0)) (row_of m) (judged_rows m)
        (every_from_All (IsRowMetBy x (pos 0)) (map (row_of m) (judged_rows m)) rows) in
        let front = every-append_left Q (lower_rows m ++ zero_rows m) (cross_rows m) all in
        let compared = every-append Q (zero_rows m) (cross_rows m) (every-append_right Q (lower_rows m) (zero_rows m) front)
        (every-append_right Q (lower_rows m ++ zero_rows m) (cross_rows m) all) in
        All-from_every (IsRowMetBy z n) (map R (closed_tags m)) (every-map (IsRowMetBy z n) R (closed_tags m)
        (every_both (IsTagAmong m.size) Q (λ tag. IsRowMetBy z n (R tag)) (λ tag a k. (says tag a).1 k) (closed_tags m) among compared))

-- the same with the room
pub compared_with_room : (m : Judgements) (x : List ℤ) (r n : ℤ) → suc (length x) ≡ m.size → AreNonNegative x
    → All (IsRowMetBy (x ++ r ∷ []) n) (map (closed_row_of m) (closed_tags m)) ↔ IsMetInUnit m (pos 0) (scale_of x)
compared_with_room m x r n each nonneg = compared_iff_met m x (x ++ r ∷ []) n (closed_row_of m) (λ tag among. closed_met_tag m x r n tag each among) each nonneg

-- a product that is given by two rows
pub two_rows : (b v n : ℤ) → ((b *ℤ n) ≤ℤ v × (neg_ℤ b *ℤ n) ≤ℤ neg_ℤ v) ↔ (v ≡ n *ℤ b)
two_rows b v n =
    let turned : neg_ℤ b *ℤ n ≡ neg_ℤ (b *ℤ n) = neg_ℤ-*ℤ b n in
    let same : b *ℤ n ≡ n *ℤ b = *ℤ_comm b n in (
      λ h. (let up = h.0 in let down = h.1 in omega (arith, lin, up, down, turned, same)),
      λ e.
          (omega (arith, lin, e, turned, same), omega (arith, lin, e, turned, same)),
    )

-- ---- points

-- a point is a scale of the closure with its room
pub closed_iff : (m : Judgements) (good neutral reach a b : ℕ) (x : List ℤ) (r n : ℤ) → 2 ≤ m.size → IsPair m.size good neutral
    → IsFeasible (closed_problem_of m good neutral reach a b) (x ++ r ∷ []) n ↔ IsClosedScale m good neutral reach (scale_of x) r n
closed_iff m good neutral reach a b x r n two references = (to, from)
  where
    anchor : suc (length x) ≡ m.size → (d : ℤ) → d ≡ difference (scale_of x) good neutral
        → (dot (gap_coefs m.size good neutral ++ pos 0 ∷ []) (x ++ r ∷ []) ≡ d)
        × (dot (opposite (gap_coefs m.size good neutral) ++ pos 0 ∷ []) (x ++ r ∷ []) ≡ neg_ℤ d)
    anchor each d is =
        let long : length (gap_coefs m.size good neutral) ≡ length x = length-gap_coefs m.size good neutral references ∙ omega (arith, each) in
        let g = dot-gap_coefs m.size x good neutral each references in
        let o = dot-opposite (gap_coefs m.size good neutral) x in
        let room : pos 0 *ℤ r ≡ pos 0 = zero-*ℤ r in
        let up = dot_with_room (gap_coefs m.size good neutral) x (pos 0) r long in
        let down = dot_with_room (opposite (gap_coefs m.size good neutral)) x (pos 0) r (length-opposite (gap_coefs m.size good neutral) ∙ long) in
        (omega (arith, lin, g, room, up, is), omega (arith, lin, g, o, room, down, is))

    reached : suc (length x) ≡ m.size → (d : ℤ) → d ≡ difference (scale_of x) 1 m.size +ℤ r → (dot (gap_coefs m.size 1 m.size ++ pos 1 ∷ []) (x ++ r ∷ []) ≡ d)
        × (dot (opposite (gap_coefs m.size 1 m.size) ++ negsuc 0 ∷ []) (x ++ r ∷ []) ≡ neg_ℤ d)
    reached each d is =
        let whole : IsPair m.size 1 m.size = (omega arith, omega arith, omega arith) in
        let long : length (gap_coefs m.size 1 m.size) ≡ length x = length-gap_coefs m.size 1 m.size whole ∙ omega (arith, each) in
        let g = dot-gap_coefs m.size x 1 m.size each whole in
        let o = dot-opposite (gap_coefs m.size 1 m.size) x in
        let one = one-*ℤ r in
        let minus = minus_one-*ℤ r in
        let up = dot_with_room (gap_coefs m.size 1 m.size) x (pos 1) r long in
        let down = dot_with_room (opposite (gap_coefs m.size 1 m.size)) x (negsuc 0) r (length-opposite (gap_coefs m.size 1 m.size) ∙ long) in
        (omega (arith, lin, g, one, up, is), omega (arith, lin, g, o, minus, down, is))

    to : IsFeasible (closed_problem_of m good neutral reach a b) (x ++ r ∷ []) n → IsClosedScale m good neutral reach (scale_of x) r n
    to h =
        let Met : Row → Type 0 = IsRowMetBy (x ++ r ∷ []) n in
        let each : suc (length x) ≡ m.size = omega (arith, h.one_each, length-append x (r ∷ [])) in
        let signs = (All-parts (λ c. pos 0 ≤ℤ c) x (r ∷ [])).0 h.nonneg in
        let parts = (All-parts Met (map (closed_row_of m) (closed_tags m))
        (anchor_up m.size good neutral ∷ anchor_down m.size good neutral ∷ reach_up m.size reach ∷ reach_down m.size reach ∷ [])).0 h.meets in
        let four = every_from_All Met (anchor_up m.size good neutral ∷ anchor_down m.size good neutral ∷ reach_up m.size reach ∷ reach_down m.size reach ∷ [])
        parts.1 in
        let d : ℤ = difference (scale_of x) good neutral in
        let s : ℤ = difference (scale_of x) 1 m.size +ℤ r in
        let an = anchor each d refl in
        let re = reached each s refl in
        record {
          scale = IsScale-scale_of m x n each h.den_pos;
          meets = (compared_with_room m x r n each signs.0).0 parts.0;
          anchored = (two_rows (pos 100) d n).0 (subst (λ v. (pos 100 *ℤ n) ≤ℤ v) an.0 four.0, subst (λ v. (neg_ℤ (pos 100) *ℤ n) ≤ℤ v) an.1 four.1.0);
          room = All-head (λ c. pos 0 ≤ℤ c) r [] signs.1;
          reached = (two_rows (pos reach) s n).0 (
            subst (λ v. (pos reach *ℤ n) ≤ℤ v) re.0 four.1.1.0,
            subst (λ v. (neg_ℤ (pos reach) *ℤ n) ≤ℤ v)
                re.1 four.1.1.1.0,
          );
        }

    from : IsClosedScale m good neutral reach (scale_of x) r n → IsFeasible (closed_problem_of m good neutral reach a b) (x ++ r ∷ []) n
    from h =
        let Met : Row → Type 0 = IsRowMetBy (x ++ r ∷ []) n in
        let each : suc (length x) ≡ m.size = sym (length-scale_of x) ∙ h.scale.each in
        let nonneg = ((met_where_rows_are m x (pos 0) each (≤ℤ_refl (pos 0))).1 h.meets).0 in
        let d : ℤ = difference (scale_of x) good neutral in
        let s : ℤ = difference (scale_of x) 1 m.size +ℤ r in
        let an = anchor each d refl in
        let re = reached each s refl in
        let anchors = (two_rows (pos 100) d n).1 h.anchored in
        let reaches = (two_rows (pos reach) s n).1 h.reached in
        let four : AllByRecursion Met (anchor_up m.size good neutral ∷ anchor_down m.size good neutral ∷ reach_up m.size reach ∷ reach_down m.size reach ∷ []) = (
          subst (λ v. (pos 100 *ℤ n) ≤ℤ v) (sym an.0) anchors.0,
          (
            subst (λ v. (neg_ℤ (pos 100) *ℤ n) ≤ℤ v) (sym an.1) anchors.1,
            (
              subst (λ v. (pos reach *ℤ n) ≤ℤ v) (sym re.0) reaches.0,
              (subst (λ v. (neg_ℤ (pos reach) *ℤ n) ≤ℤ v) (sym re.1) reaches.1, tt),
            ),
          ),
        ) in
        record {
          den_pos = h.scale.den_pos;
          one_each = length-append x (r ∷ []) ∙ omega (arith, each);
          nonneg = All-append (λ c. pos 0 ≤ℤ c) x (r ∷ []) nonneg (All-cons (λ c. pos 0 ≤ℤ c) r [] h.room (All-nil (λ c. pos 0 ≤ℤ c)));
          meets = All-append Met (map (closed_row_of m) (closed_tags m)) _ ((compared_with_room m x r n each nonneg).1 h.meets)
              (All-from_every Met (anchor_up m.size good neutral ∷ anchor_down m.size good neutral ∷ reach_up m.size reach ∷ reach_down m.size reach ∷ [])
              four);
        }

-- whatever the costs, the points are the same
pub points_at_any_costs : (m : Judgements) (good neutral reach : ℕ) (cost other x : List ℤ) (n : ℤ)
    → IsFeasible (closed_problem_with m good neutral reach cost) x n → IsFeasible (closed_problem_with m good neutral reach other) x n
points_at_any_costs m good neutral reach cost other x n h =
    record { den_pos = h.den_pos; one_each = h.one_each; nonneg = h.nonneg; meets = h.meets }
