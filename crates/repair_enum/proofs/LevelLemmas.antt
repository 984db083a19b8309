-- Levels of shifts: from one to the next, and what the last one holds.
use Rattle.std.proofs.Common.{◌≡◌, ◌↔◌, ℕ, zero, suc, ◌+◌, ◌<◌, ◌≤◌, ℤ, pos, List, [], ◌∷◌, length, replicate, refl, sym, ap, subst, ◌∙◌, arith}
use Rattle.std.specs.Prelude.{Contains}
use Rattle.std.proofs.lemmas.List.{get_or-map, length-map}
use Rattle.frac128.specs.declared.problem.Cert.{Cert}
use Rattle.judgement_matrix.specs.Matrix.{Judgements, IsMatrix}
use Rattle.judgement_matrix.specs.declared.shift.Shift.{Shift}
use Rattle.judgement_matrix.specs.Repair.{IsLawfulShift, IsBetween, shifted, shift_total, IsRepair, IsLeastRepair, IsNearShift, IsUndercutByNone}
use Rattle.judgement_matrix.proofs.LawfulLemmas.{lawful_length}
use Rattle.judgement_matrix.proofs.ShiftLemmas.{IsLawfulShift-zeros}
use Rattle.cert_check.proofs.FailsLemmas.{farkas_refutes_scales}
use Rattle.repair_enum.specs.Children.{LeadsTo}
use Rattle.repair_enum.specs.Levels.{no_shift, AreLevels, Ends, Covers, AreOfTotal, shifts_of, AreRefuted, AreChildren}
use Rattle.repair_enum.proofs.BetweenLemmas.{total_le, total_same, zeros_between, zeros_total}
use Rattle.repair_enum.proofs.ConflictLemmas.{conflicts_lead, child_total}

-- the entry of a shift of a level
record Listed (level : List (Shift × Cert)) (s : Shift) : Type 0 where
  entry : Shift × Cert
  listed : Contains level entry
  is : entry.0 ≡ s

listed : (level : List (Shift × Cert)) (s : Shift) → Contains (shifts_of level) s → Listed level s
listed [] s c = absurd (let below = c.1 in omega arith)
listed (e ∷ level) s (zero, below, is) = record { entry = e; listed = (0, omega arith, refl); is = is }
listed (e ∷ level) s (suc k, below, is) =
    let rest = listed level s (k, omega arith, is) in
    let there = rest.listed in
    record { entry = rest.entry; listed = (suc there.0, (let l = there.1 in omega arith), there.2); is = rest.is }

-- no shift of a refuted level is a repair
pub none_is_repair : (m : Judgements) (level : List (Shift × Cert)) → 2 ≤ m.size → AreRefuted m level → (s : Shift) → Contains (shifts_of level) s → ¬ IsRepair m s.by
none_is_repair m level two refuted s c repair =
    let l = listed level s c in
    let none = farkas_refutes_scales (shifted m l.entry.0.by) l.entry.1 two (refuted l.entry l.listed) in
    let met = subst (λ (z : Shift). IsRepair m z.by) (sym l.is) repair in
    let some = met.consistent in
    none some.0 some.1.0 some.1.1

-- the shift of zeros alone
pub first_level : (m : Judgements) → Covers m 0 (no_shift m ∷ [])
first_level m t repair most = record {
  shift = no_shift m;
  listed = (0, omega arith, refl);
  total = zeros_total (length m.cells);
  between = subst (λ n. IsBetween (replicate n (pos 0)) t) (lawful_length m.cells t repair.lawful) (zeros_between t);
}

-- the step: what each repair of at least k has
step : (m : Judgements) (k : ℕ) (level : List (Shift × Cert)) → IsMatrix m → 2 ≤ m.size → Covers m k (shifts_of level) → AreRefuted m level
    → (t : List ℤ) → IsRepair m t → k ≤ shift_total t
    → (e : Shift × Cert) × Contains level e × (shift_total e.0.by ≡ k) × LeadsTo m e.0.by e.1 t
step m k level h two covers refuted t repair most =
    let c = covers t repair most in
    let l = listed level c.shift c.listed in
    let between : IsBetween l.entry.0.by t = subst (λ (z : Shift). IsBetween z.by t) (sym l.is) c.between in
    (l.entry, l.listed, ap (λ (z : Shift). shift_total z.by) l.is ∙ c.total, conflicts_lead m l.entry.0.by t l.entry.1 h two (refuted l.entry l.listed) repair between)

-- the children cover
pub level_step : (m : Judgements) (k : ℕ) (level : List (Shift × Cert)) (next : List Shift) → IsMatrix m → 2 ≤ m.size → Covers m k (shifts_of level)
    → AreRefuted m level → AreChildren m level next → Covers m (k + 1) next
level_step m k level next h two covers refuted children t repair most =
    let s = step m k level h two covers refuted t repair (omega arith) in
    let to = s.3 in
    record {
      shift = record { by = to.child };
      listed = (children (record { by = to.child })).1 (record { from = s.0; listed = s.1; is_child = to.is_child });
      total = to.total ∙ ap (λ n. n + 1) s.2;
      between = to.between;
    }

-- and no repair moves by less
pub undercut_step : (m : Judgements) (k : ℕ) (level : List (Shift × Cert)) → IsMatrix m → 2 ≤ m.size → Covers m k (shifts_of level) → AreRefuted m level
    → IsUndercutByNone m k → IsUndercutByNone m (k + 1)
undercut_step m k level h two covers refuted none t repair =
    let s = step m k level h two covers refuted t repair (none t repair) in
    let to = s.3 in
    let more = total_le to.child t to.between in
    let total = to.total in
    let of_k = s.2 in
    omega arith

-- the first level with a repair: its repairs are the least ones
pub least_are : (m : Judgements) (k : ℕ) (shifts : List Shift) → Covers m k shifts → AreOfTotal k shifts → IsUndercutByNone m k
    → (s : Shift) → Contains shifts s → IsRepair m s.by → (t : Shift) → (Contains shifts t × IsRepair m t.by) ↔ IsLeastRepair m t.by
least_are m k shifts covers totals none s c repair t = (to, from)
  where
    to : Contains shifts t × IsRepair m t.by → IsLeastRepair m t.by
    to h = record { repair = h.1; least = subst (IsUndercutByNone m) (sym (totals t h.0)) none }

    from : IsLeastRepair m t.by → Contains shifts t × IsRepair m t.by
    from h =
        let most : k ≤ shift_total t.by = none t.by h.repair in
        let least : shift_total t.by ≤ shift_total s.by = h.least s.by repair in
        let of_k : shift_total s.by ≡ k = totals s c in
        let found = covers t.by h.repair most in
        let total = found.total in
        let same : found.shift.by ≡ t.by = total_same found.shift.by t.by found.between (omega arith) in
        (subst (λ (z : List ℤ). Contains shifts (record { by = z })) same found.listed, h.repair)

-- an empty level: no repair of its total or more
pub none_left : (m : Judgements) (k : ℕ) → Covers m k [] → (t : List ℤ) → k ≤ shift_total t → ¬ IsRepair m t
none_left m k covers t most repair = let c = covers t repair most in let l = c.listed in let below = l.1 in absurd (omega arith)

-- ---- all levels

start : (m : Judgements) → IsMatrix m → Ends m 0 (no_shift m ∷ [])
start m h = record {
  lawful = λ s c. first s c (λ z. IsLawfulShift m z.by) (IsLawfulShift-zeros m h);
  totals = λ s c. first s c (λ z. shift_total z.by ≡ 0) (zeros_total (length m.cells));
  covers = first_level m;
  none_below = λ t repair. omega arith;
}
  where
    first : (s : Shift) → Contains (no_shift m ∷ []) s → (P : Shift → Type 0) → P (no_shift m) → P s
    first s (zero, below, is) P p = subst P is p
    first s (suc k, below, is) P p = absurd (omega arith)

next_ends : (m : Judgements) (k : ℕ) (level : List (Shift × Cert)) (next : List Shift) → IsMatrix m → 2 ≤ m.size → Ends m k (shifts_of level)
    → AreRefuted m level → AreChildren m level next → Ends m (k + 1) next
next_ends m k level next h two ends refuted children = record {
  lawful = λ s c. let child = (children s).0 c in let i = child.is_child in i.lawful;
  totals = λ s c.
      let child = (children s).0 c in
      let from = contains_from child.from child.listed in
      child_total m child.from.0.by child.from.1 s.by h (ends.lawful child.from.0 from) child.is_child ∙ ap (λ n. n + 1) (ends.totals child.from.0 from);
  covers = level_step m k level next h two ends.covers refuted children;
  none_below = undercut_step m k level h two ends.covers refuted ends.none_below;
}
  where
    contains_from : (e : Shift × Cert) → Contains level e → Contains (shifts_of level) e.0
    contains_from e c = (
      c.0,
      subst (λ n. c.0 < n) (sym (length-map level (λ (x : Shift × Cert). x.0))) c.1,
      get_or-map (λ (x : Shift × Cert). x.0) level c.0 e e.0 c.1 ∙ ap (λ (x : Shift × Cert). x.0) c.2,
    )

ends_from : (m : Judgements) (k : ℕ) (shifts : List Shift) (levels : List (List (Shift × Cert))) (last : List Shift) → IsMatrix m → 2 ≤ m.size
    → Ends m k shifts → AreLevels m shifts levels last → Ends m (k + length levels) last
ends_from m k shifts [] last h two ends are = let d : k ≡ k + 0 = omega arith in subst (λ n. Ends m n last) d (subst (Ends m k) are ends)
ends_from m k shifts (level ∷ levels) last h two ends are =
    let d : k + 1 + length levels ≡ k + suc (length levels) = omega arith in
    let next = are.2.0 in
    subst (λ n. Ends m n last) d
    (ends_from m (k + 1) next levels last h two
    (next_ends m k level next h two (subst (Ends m k) (sym are.0) ends) are.1 (let n = are.2.1 in n.children)) are.2.2)

-- after levels from the shift of zeros on
pub levels_end : (m : Judgements) (levels : List (List (Shift × Cert))) (last : List Shift) → IsMatrix m → 2 ≤ m.size
    → AreLevels m (no_shift m ∷ []) levels last → Ends m (length levels) last
levels_end m levels last h two are =
    let d : 0 + length levels ≡ length levels = omega arith in
    subst (λ n. Ends m n last) d (ends_from m 0 (no_shift m ∷ []) levels last h two (start m h) are)

-- the repairs that follow the last level are exactly the least ones, where there is one
pub levels_find : (m : Judgements) (levels : List (List (Shift × Cert))) (last : List Shift) → IsMatrix m → 2 ≤ m.size
    → AreLevels m (no_shift m ∷ []) levels last → (s : Shift) → Contains last s → IsRepair m s.by
    → (t : Shift) → (Contains last t × IsRepair m t.by) ↔ IsLeastRepair m t.by
levels_find m levels last h two are =
    let e = levels_end m levels last h two are in least_are m (length levels) last e.covers e.totals e.none_below

-- where nothing follows, there is no repair at all
pub levels_empty : (m : Judgements) (levels : List (List (Shift × Cert))) → IsMatrix m → 2 ≤ m.size
    → AreLevels m (no_shift m ∷ []) levels [] → (t : List ℤ) → ¬ IsRepair m t
levels_empty m levels h two are t repair =
    let e = levels_end m levels [] h two are in none_left m (length levels) e.covers t (e.none_below t repair) repair

-- the shifts that follow at most 4 levels are near
pub shifts_near : (m : Judgements) (k : ℕ) (shifts : List Shift) → Ends m k shifts → k ≤ 4 → (s : Shift) → Contains shifts s → IsNearShift m s.by
shifts_near m k shifts e most s c =
    let t = e.totals s c in
    record { lawful = e.lawful s c; most = omega (arith, t, most); least = subst (IsUndercutByNone m) (sym t) e.none_below }

-- after five levels no shift of at most 4 is a repair
pub too_far : (m : Judgements) (shifts : List Shift) → Ends m 5 shifts → (t : List ℤ) → shift_total t ≤ 4 → ¬ IsRepair m t
too_far m shifts e t most repair = let more = e.none_below t repair in absurd (omega arith)
