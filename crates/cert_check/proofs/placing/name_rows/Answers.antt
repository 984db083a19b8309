use Rattle.std.proofs.Common.{◌≡◌, ◌∙◌, ◌++◌, ◌∷◌, [], ◌+◌, ◌<◌, ℕ, ℤ, pos, List, length, map, take, get_or, refl, sym, ap, subst, rules, arith}
use Rattle.std.specs.Prelude.{Some, slice_get, All}
use Rattle.std.proofs.lemmas.List.{take_more}
use Rattle.judgement_matrix.specs.declared.tag.Tag.{Tag}
use Rattle.lp_macbeth.specs.Rows.{judged_rows}
use Rattle.cert_check.specs.Rows.{AreNamed}
use Rattle.cert_check.specs.Text.{HasTagText}
use Rattle.cert_check.proofs.NamingLemmas.{AreNamed-next, tag_of_entry, named_texts}
use Rattle.cert_check.proofs.placing.name_rows.Goals as goal

pub loop-i-init : goal.loop-i-init
loop-i-init c = subst (λ on. AreNamed c.args.matrix.now on []) (sym c.new-on.ensures.items) refl

pub loop-i-preserved : goal.loop-i-preserved
loop-i-preserved c =
    let m = c.args.matrix.now in
    let on = c.args.cert.now.on in
    let i = c.loop-i.i in
    let entry : ℕ × ℤ = get_or on i (0, pos 0) in
    let inside : i < length on = omega (arith, ap length c.as_slice-entries.ensures) in
    let multiplier = subst (λ (on : List (ℕ × ℤ)). c.named_entry.result.1 ≡ (get_or on i (0, pos 0)).1)
    c.as_slice-entries.ensures c.named_entry.ensures.multiplier in
    let items : c.push.new.self.items ≡ c.loop-i.on.items ++ c.named_entry.result ∷ [] = search rules in
    let tags = subst (λ (on : List (ℕ × ℤ)). map (λ tag. Some tag) c.in_ok-tags.tags.items ≡ map (λ (e : ℕ × ℤ). slice_get (judged_rows m) e.0) on)
    c.as_slice-entries.ensures c.in_ok-tags.ensures in
    let read : get_or c.in_ok-tags.tags.items i c.index.result.now ≡ c.named_entry.result.0 = sym (c.named_entry.ensures.tag ∙ c.index.ensures) in
    let tag : slice_get (judged_rows m) entry.0 ≡ Some c.named_entry.result.0 =
    tag_of_entry m c.in_ok-tags.tags.items on i c.index.result.now tags inside ∙ ap (λ tag. Some tag) read in
    subst (λ named. AreNamed m named (take (i + 1) on)) (sym items)
    (subst (AreNamed m (c.loop-i.on.items ++ c.named_entry.result ∷ [])) (sym (take_more on i (0, pos 0) inside))
    (AreNamed-next m c.loop-i.on.items (take i on) c.named_entry.result entry tag (sym multiplier) c.loop-i.invariant))

pub returns-clause-printable : goal.returns-clause-printable
returns-clause-printable c one = record {
  den_one = λ e. let is = one e in search rules;
  tags =
      subst (λ on. All (λ (entry : Tag × ℤ). HasTagText entry.0) on) (sym c.make.ensures)
      (named_texts c.args.matrix.now c.loop-i.on.items (take c.loop-i.i c.args.cert.now.on) c.loop-i.invariant);
}
