-- A conflict leads on to each repair: some entry of the certificate gives a child that lies between 0 and it.
use lib.IntN.{*ℤ_comm}
use Rattle.std.proofs.Common.{◌≡◌, ◌⊎◌, inl, inr, ℕ, ◌+◌, ◌<◌, ◌≤◌, ℤ, pos, negsuc, ◌+ℤ◌, ◌-ℤ◌, ◌*ℤ◌, ◌≤ℤ◌, ◌<ℤ◌, List, length, refl, sym, ap, subst, ◌∙◌, arith}
use Rattle.std.specs.Int.Signed.{≤ℤ_refl}
use Rattle.integers.proofs.Laws.{lin}
use Rattle.integers.proofs.Order.{lt_cases, mul_le, le_of_lt}
use Rattle.frac128.specs.Problem.{IsFarkasCertificate}
use Rattle.frac128.specs.declared.problem.Cert.{Cert}
use Rattle.judgement_matrix.specs.Matrix.{Judgements, IsMatrix, IsPair, place, range_at}
use Rattle.judgement_matrix.specs.Scale.{difference, IsScale, IsMetBy}
use Rattle.judgement_matrix.specs.Rows.{RowHolds}
use Rattle.judgement_matrix.specs.Repair.{IsLawfulShift, IsStepBetween, IsBetween, step_at, shifted, shift_total, IsRepair}
use Rattle.judgement_matrix.specs.declared.tag.Tag.{Tag}
use Rattle.judgement_matrix.specs.declared.tag.Tag.TheVariants.{Lower, Zero, Cross, Order}
use Rattle.judgement_matrix.proofs.PlaceLemmas.{place-below}
use Rattle.lp_macbeth.specs.Rows.{problem_of}
use Rattle.cert_check.specs.Rows.{NeverRises}
use Rattle.cert_check.specs.Refuting.{IsRowOf}
use Rattle.cert_check.proofs.FailsLemmas.{fails_named_row}
use Rattle.cert_check.proofs.RowLemmas.{IsRowOf-at}
use Rattle.repair_enum.specs.Children.{moved_by, IsDown, IsUp, IsRelief, IsChild, LeadsTo}
use Rattle.judgement_matrix.proofs.LawfulLemmas.{lawful_length, lo-shifted, hi-shifted, IsLawfulShift-between}
use Rattle.repair_enum.proofs.BetweenLemmas.{between_at, between_set, total_set, down_abs, up_abs}

-- ---- the ranges of a shifted matrix

pair_place : (m : Judgements) (p q : ℕ) → IsMatrix m → IsPair m.size p q → place m.size p q < length m.cells
pair_place m p q h pair = subst (λ k. place m.size p q < k) (sym h.each) (place-below m.size p q pair)

lo_is : (m : Judgements) (s : List ℤ) (p q : ℕ) → IsMatrix m → IsLawfulShift m s → IsPair m.size p q
    → pos (range_at (shifted m s) p q).lo ≡ pos (range_at m p q).lo +ℤ step_at m s p q
lo_is m s p q h k pair = lo-shifted m s p q h pair k

hi_is : (m : Judgements) (s : List ℤ) (p q : ℕ) → IsMatrix m → IsLawfulShift m s → IsPair m.size p q
    → pos (range_at (shifted m s) p q).hi ≡ pos (range_at m p q).hi +ℤ step_at m s p q
hi_is m s p q h k pair = hi-shifted m s p q h pair k

-- ---- orders

le_or_gt : (a b : ℤ) → a ≤ℤ b ⊎ b <ℤ a
le_or_gt a b = elim (lt_cases a b) [ inl l ↦ inl (le_of_lt a b l) | inr r ↦ elim r [ inl e ↦ inl (subst (λ z. a ≤ℤ z) e (≤ℤ_refl a)) | inr g ↦ inr g ] ]

smaller_bound : (n a b d : ℤ) → pos 0 <ℤ n → a ≤ℤ b → (n *ℤ b) ≤ℤ d → (n *ℤ a) ≤ℤ d
smaller_bound n a b d above le h =
    let k = mul_le a b n (le_of_lt (pos 0) n above) le in
    let ca = *ℤ_comm a n in
    let cb = *ℤ_comm b n in
    omega (arith, lin, k, ca, cb, h)

-- ---- one step further

step_down : (s t : ℤ) → IsStepBetween s t → t <ℤ s → (s ≤ℤ pos 0) × IsStepBetween (s +ℤ negsuc 0) t
step_down s t (inl h) less = absurd (let a = h.1 in omega (arith, lin, a, less))
step_down s t (inr h) less = let a = h.1 in (a, inr (omega (arith, lin, less), omega (arith, lin, a)))

step_up : (s t : ℤ) → IsStepBetween s t → s <ℤ t → (pos 0 ≤ℤ s) × IsStepBetween (s +ℤ pos 1) t
step_up s t (inr h) less = absurd (let a = h.0 in omega (arith, lin, a, less))
step_up s t (inl h) less = let a = h.0 in (a, inl (omega (arith, lin, a), omega (arith, lin, less)))

-- a list one step further at a pair
record Goes (m : Judgements) (s t child : List ℤ) : Type 0 where
  pub between : IsBetween child t
  pub total : shift_total child ≡ shift_total s + 1

goes_down : (m : Judgements) (s t : List ℤ) (p q : ℕ) → IsMatrix m → IsLawfulShift m s → IsBetween s t → IsPair m.size p q → step_at m t p q <ℤ step_at m s p q
    → IsDown m s p q (moved_by m s p q (negsuc 0)) × Goes m s t (moved_by m s p q (negsuc 0))
goes_down m s t p q h k between pair less =
    let i : ℕ = place m.size p q in
    let below : i < length s = subst (λ n. i < n) (sym (lawful_length m.cells s k)) (pair_place m p q h pair) in
    let step = step_down (step_at m s p q) (step_at m t p q) (between_at s t i between) less in (
      (step.0, refl),
      record {
        between = between_set s t i (step_at m s p q +ℤ negsuc 0) between below step.1;
        total = total_set s i (step_at m s p q +ℤ negsuc 0) below (down_abs (step_at m s p q) step.0);
      },
    )

goes_up : (m : Judgements) (s t : List ℤ) (p q : ℕ) → IsMatrix m → IsLawfulShift m s → IsBetween s t → IsPair m.size p q → step_at m s p q <ℤ step_at m t p q
    → IsUp m s p q (moved_by m s p q (pos 1)) × Goes m s t (moved_by m s p q (pos 1))
goes_up m s t p q h k between pair less =
    let i : ℕ = place m.size p q in
    let below : i < length s = subst (λ n. i < n) (sym (lawful_length m.cells s k)) (pair_place m p q h pair) in
    let step = step_up (step_at m s p q) (step_at m t p q) (between_at s t i between) less in (
      (step.0, refl),
      record {
        between = between_set s t i (step_at m s p q +ℤ pos 1) between below step.1;
        total = total_set s i (step_at m s p q +ℤ pos 1) below (up_abs (step_at m s p q) step.0);
      },
    )

-- ---- where a scale that meets m shifted by t fails a row of m shifted by s

abbrev Relieved : Judgements → List ℤ → List ℤ → Tag → Type 0
Relieved m s t tag = (child : List ℤ) × IsRelief m s tag child × Goes m s t child

relieved : (m : Judgements) (s t : List ℤ) (w : List ℤ) (n : ℤ) (tag : Tag) → IsMatrix m → IsLawfulShift m s → IsLawfulShift m t → IsBetween s t
    → IsMetBy (shifted m t) w n → IsRowOf (shifted m s) tag → ¬ RowHolds (shifted m s) w n tag → Relieved m s t tag
relieved m s t w n (Lower p q) h ks kt between met row fails =
    elim (le_or_gt (step_at m s p q) (step_at m t p q)) [
      | inl le ↦ absurd (fails (smaller_bound n (pos (range_at (shifted m s) p q).lo) (pos (range_at (shifted m t) p q).lo) (difference w p q) met.scale.den_pos
          (let a = lo_is m s p q h ks row.0 in let b = lo_is m t p q h kt row.0 in omega (arith, lin, a, b, le)) (met.meets.lower p q row.0)))
      | inr gt ↦ let g = goes_down m s t p q h ks between row.0 gt in (moved_by m s p q (negsuc 0), g.0, g.1)
    ]
relieved m s t w n (Zero p q) h ks kt between met row fails =
    elim (le_or_gt (step_at m t p q) (step_at m s p q)) [
      | inl le ↦ absurd (fails (met.meets.zero p q row.0
          (let a = hi_is m s p q h ks row.0 in let b = hi_is m t p q h kt row.0 in let c = row.1 in omega (arith, lin, a, b, c, le))))
      | inr gt ↦ let g = goes_up m s t p q h ks between row.0 gt in (moved_by m s p q (pos 1), g.0, g.1)
    ]
relieved m s t w n (Cross p q x y) h ks kt between met row fails =
    elim (le_or_gt (step_at m s p q) (step_at m t p q)) [
      | inr gt ↦ let g = goes_down m s t p q h ks between row.0 gt in (moved_by m s p q (negsuc 0), inl g.0, g.1)
      | inl left ↦ elim (le_or_gt (step_at m t x y) (step_at m s x y)) [
        | inr gt ↦ let g = goes_up m s t x y h ks between row.1 gt in (moved_by m s x y (pos 1), inr g.0, g.1)
        | inl right ↦ absurd (holds left right)
      ]
    ]
  where
    holds : step_at m s p q ≤ℤ step_at m t p q → step_at m t x y ≤ℤ step_at m s x y → ⊥
    holds left right =
        let a = lo_is m s p q h ks row.0 in
        let b = lo_is m t p q h kt row.0 in
        let c = hi_is m s x y h ks row.1 in
        let d = hi_is m t x y h kt row.1 in
        let e = row.2 in
        let stands : (range_at (shifted m t) x y).hi < (range_at (shifted m t) p q).lo = omega (arith, lin, a, b, c, d, e, left, right) in
        fails (smaller_bound n (pos (range_at (shifted m s) p q).lo -ℤ pos (range_at (shifted m s) x y).hi)
        (pos (range_at (shifted m t) p q).lo -ℤ pos (range_at (shifted m t) x y).hi) (difference w p q -ℤ difference w x y) met.scale.den_pos
        (omega (arith, lin, a, b, c, d, left, right)) (met.meets.cross p q x y row.0 row.1 stands))
relieved m s t w n (Order p) h ks kt between met row fails = absurd row

-- ---- the conflict

-- values that meet a matrix never rise
never_rises : (m : Judgements) (w : List ℤ) (n : ℤ) → IsMetBy m w n → NeverRises m w
never_rises m w n met p one below =
    let h = met.meets.lower p (p + 1) (one, omega arith, omega arith) in
    let k = mul_le (pos 0) (pos (range_at m p (p + 1)).lo) n (le_of_lt (pos 0) n met.scale.den_pos) (omega (arith, lin)) in
    let c = *ℤ_comm (pos (range_at m p (p + 1)).lo) n in
    let z = lib.IntN.zero-*ℤ n in
    omega (arith, lin, h, k, c, z)

pub conflicts_lead : (m : Judgements) (s t : List ℤ) (cert : Cert) → IsMatrix m → 2 ≤ m.size → IsFarkasCertificate (problem_of (shifted m s)) cert
    → IsRepair m t → IsBetween s t → LeadsTo m s cert t
conflicts_lead m s t cert h two refutes repair between =
    let w : List ℤ = repair.consistent.0 in
    let n : ℤ = repair.consistent.1.0 in
    let met : IsMetBy (shifted m t) w n = repair.consistent.1.1 in
    let scale : IsScale (shifted m s) w n = record { den_pos = met.scale.den_pos; each = met.scale.each; last = met.scale.last } in
    let falls : NeverRises (shifted m s) w = never_rises (shifted m t) w n met in
    let failed = fails_named_row (shifted m s) cert two refutes w n scale falls in
    let lawful = IsLawfulShift-between m s t h repair.lawful between in
    let row = IsRowOf-at (shifted m s) _ failed.tag failed.named in
    let r = relieved m s t w n failed.tag h lawful repair.lawful between met row failed.fails in
    record {
      child = r.0;
      is_child = record {
        entry = failed.place;
        tag = failed.tag;
        inside = failed.inside;
        positive = failed.positive;
        named = failed.named;
        relief = r.1;
        lawful = IsLawfulShift-between m r.0 t h repair.lawful r.2.between;
      };
      between = r.2.between;
      total = r.2.total;
    }

-- ---- any child

down_total : (m : Judgements) (s : List ℤ) (p q : ℕ) (c : List ℤ) → IsMatrix m → IsLawfulShift m s → IsPair m.size p q → IsDown m s p q c
    → shift_total c ≡ shift_total s + 1
down_total m s p q c h k pair d =
    let below : place m.size p q < length s = subst (λ n. place m.size p q < n) (sym (lawful_length m.cells s k)) (pair_place m p q h pair) in
    ap shift_total d.1 ∙ total_set s (place m.size p q) (step_at m s p q +ℤ negsuc 0) below (down_abs (step_at m s p q) d.0)

up_total : (m : Judgements) (s : List ℤ) (p q : ℕ) (c : List ℤ) → IsMatrix m → IsLawfulShift m s → IsPair m.size p q → IsUp m s p q c
    → shift_total c ≡ shift_total s + 1
up_total m s p q c h k pair d =
    let below : place m.size p q < length s = subst (λ n. place m.size p q < n) (sym (lawful_length m.cells s k)) (pair_place m p q h pair) in
    ap shift_total d.1 ∙ total_set s (place m.size p q) (step_at m s p q +ℤ pos 1) below (up_abs (step_at m s p q) d.0)

relief_total : (m : Judgements) (s : List ℤ) (tag : Tag) (c : List ℤ) → IsMatrix m → IsLawfulShift m s → IsRowOf (shifted m s) tag → IsRelief m s tag c
    → shift_total c ≡ shift_total s + 1
relief_total m s (Lower p q) c h k row d = down_total m s p q c h k row.0 d
relief_total m s (Zero p q) c h k row d = up_total m s p q c h k row.0 d
relief_total m s (Cross p q x y) c h k row (inl d) = down_total m s p q c h k row.0 d
relief_total m s (Cross p q x y) c h k row (inr d) = up_total m s x y c h k row.1 d
relief_total m s (Order p) c h k row d = absurd row

-- a child moves by one more
pub child_total : (m : Judgements) (s : List ℤ) (cert : Cert) (c : List ℤ) → IsMatrix m → IsLawfulShift m s → IsChild m s cert c
    → shift_total c ≡ shift_total s + 1
child_total m s cert c h k child = relief_total m s child.tag c h k (IsRowOf-at (shifted m s) _ child.tag child.named) child.relief
