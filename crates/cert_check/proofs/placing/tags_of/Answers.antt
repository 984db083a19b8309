use Rattle.std.proofs.Common.{◌≡◌, ◌∙◌, ℕ, ℤ, List, map, ap, subst, IfOk, arith}
use Rattle.std.specs.Prelude.{Option, Some}
use Rattle.std.proofs.lemmas.List.{take_all}
use Rattle.judgement_matrix.specs.declared.tag.Tag.{Tag}
use Rattle.lp_macbeth.specs.Rows.{judged_rows}
use Rattle.cert_check.proofs.NamingLemmas.{All-positions, rows_at}
use Rattle.cert_check.proofs.placing.tags_of.Goals as goal

pub tags_at-requires : goal.tags_at-requires
tags_at-requires c =
    let entries = c.args.entries.now in
    let all = c.as_slice.ensures.value ∙ c.loop-entry.invariant
    ∙ ap (map (λ (e : ℕ × ℤ). e.0)) (take_all c.loop-entry.entry-index entries (omega arith)) in
    All-positions c.args.matrix.now entries c.as_slice.result.now all c.requires

pub returns : goal.returns
returns c =
    let entries = c.args.entries.now in
    let all = c.as_slice.ensures.value ∙ c.loop-entry.invariant
    ∙ ap (map (λ (e : ℕ × ℤ). e.0)) (take_all c.loop-entry.entry-index entries (omega arith)) in
    subst (λ (rows : List (Option Tag)). IfOk c.tags_at.result (λ tags. map (λ tag. Some tag) tags.items ≡ rows))
    (rows_at (judged_rows c.args.matrix.now) entries c.as_slice.result.now all) c.tags_at.ensures
