use Rattle.std.proofs.Common.{◌≡◌, ◌∙◌, ◌++◌, ◌∷◌, [], ◌+◌, ◌<◌, ℤ, pos, List, length, take, get_or, refl, sym, ap, subst, rules, arith}
use Rattle.std.specs.Prelude.{Some, slice_get, Contains}
use Rattle.std.proofs.lemmas.List.{take_more}
use Rattle.judgement_matrix.specs.declared.tag.Tag.{Tag}
use Rattle.judgement_matrix.specs.declared.tag.Tag.TheVariants.{Lower}
use Rattle.lp_macbeth.specs.Rows.{judged_rows}
use Rattle.cert_check.specs.First.{IsFirstFailing}
use Rattle.cert_check.specs.Rows.{AreNamed, AreRows, IsRowAt}
use Rattle.cert_check.proofs.ColumnLemmas.{below-next}
use Rattle.cert_check.proofs.FarkasLemmas.{back}
use Rattle.cert_check.proofs.NamingLemmas.{AreNamed-next, AreRows-named, Contains-at}
use Rattle.cert_check.proofs.placing.place.Goals as goal

pub loop-i-init : goal.loop-i-init
loop-i-init c = record {
  named = subst (λ on. AreNamed c.args.matrix.now [] on) (sym c.new-on.ensures.items) refl;
  rows = λ k below. absurd (omega arith);
}

pub returns-in_default-clause-placed : goal.returns-in_default-clause-placed
returns-in_default-clause-placed c =
    let entry : Tag × ℤ = get_or c.args.text.now.on c.loop-i.i (Lower 0 0, pos 0) in
    let inside : c.loop-i.i < length c.args.text.now.on = omega (arith, ap length c.as_slice-entries.ensures) in
    let here = subst (λ (on : List (Tag × ℤ)). ¬ Contains c.as_slice.result.now (get_or on c.loop-i.i (Lower 0 0, pos 0)).0)
    c.as_slice-entries.ensures c.in_default.ensures in
    let none = subst (λ tags. ¬ Contains tags entry.0) (c.as_slice.ensures.value ∙ c.in_ok-tags.ensures.tags) here in (
      omega arith,
      subst (IsFirstFailing (IsRowAt c.args.matrix.now c.args.text.now.on) (length c.args.text.now.on)) (sym (back c.loop-i.i))
          (record { below = inside; fails = none; hold = c.loop-i.invariant.rows }),
    )

pub loop-i-preserved : goal.loop-i-preserved
loop-i-preserved c =
    let entry : Tag × ℤ = get_or c.args.text.now.on c.loop-i.i (Lower 0 0, pos 0) in
    let inside : c.loop-i.i < length c.args.text.now.on = omega (arith, ap length c.as_slice-entries.ensures) in
    let here = subst (λ (on : List (Tag × ℤ)). slice_get c.as_slice.result.now c.in-Some.entry.0 ≡ Some (get_or on c.loop-i.i (Lower 0 0, pos 0)).0)
    c.as_slice-entries.ensures c.in-Some.ensures.0 in
    let multiplier = subst (λ (on : List (Tag × ℤ)). c.in-Some.entry.1 ≡ (get_or on c.loop-i.i (Lower 0 0, pos 0)).1)
    c.as_slice-entries.ensures c.in-Some.ensures.1 in
    let items : c.push.new.self.items ≡ c.loop-i.on.items ++ c.in-Some.entry ∷ [] = search rules in
    let tag = subst (λ tags. slice_get tags c.in-Some.entry.0 ≡ Some entry.0) (c.as_slice.ensures.value ∙ c.in_ok-tags.ensures.tags) here in
    record {
      named = subst (λ on. AreNamed c.args.matrix.now (take (c.loop-i.i + 1) c.args.text.now.on) on) (sym items)
          (subst (λ named. AreNamed c.args.matrix.now named (c.loop-i.on.items ++ c.in-Some.entry ∷ []))
          (sym (take_more c.args.text.now.on c.loop-i.i (Lower 0 0, pos 0) inside))
          (AreNamed-next c.args.matrix.now (take c.loop-i.i c.args.text.now.on)
          c.loop-i.on.items entry c.in-Some.entry tag multiplier c.loop-i.invariant.named));
      rows = below-next (IsRowAt c.args.matrix.now c.args.text.now.on) c.loop-i.i c.loop-i.invariant.rows
          (Contains-at (judged_rows c.args.matrix.now) c.in-Some.entry.0 entry.0 tag);
    }

pub returns-clause-rows : goal.returns-clause-rows
returns-clause-rows c =
    subst (AreRows c.args.matrix.now) (sym c.make.ensures)
    (AreRows-named c.args.matrix.now (take c.loop-i.i c.args.text.now.on) c.loop-i.on.items c.loop-i.invariant.named)
