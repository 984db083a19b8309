use Rattle.std.proofs.Common.{◌≡◌, ◌∙◌, ap, ap₂, sym, subst₂, length, replicate, map, pos, ℕ, ℤ, List, rules}
use Rattle.frac128.specs.Entries.{entries_from}
use Rattle.frac128.specs.Problem.{AreRowMultipliers}
use Rattle.lp_macbeth.specs.Threshold.{threshold_rows}
use Rattle.lp_macbeth.specs.Passing.{own_weights, with_entries, ranges}
use Rattle.lp_macbeth.proofs.CarryLemmas.{threshold_weights, own_numbers, carried, proves_entries}
use Rattle.lp_macbeth.proofs.translation.translate.Goals as goal

pub weights-requires : goal.weights-requires
weights-requires c =
    let m = c.args.matrix.now in
    let count : length c.as_slice.result.now ≡ length (threshold_rows m) = ap length (c.as_slice.ensures.value ∙ c.in_ok-tags.ensures.tags) in
    subst₂ AreRowMultipliers (sym count) (sym c.as_slice-2.ensures) (proves_entries m c.args.cert.now c.requires.cert)

pub returns : goal.returns
returns c =
    let m = c.args.matrix.now in
    let cert = c.args.cert.now in
    let count : length c.as_slice.result.now ≡ length (threshold_rows m) = ap length (c.as_slice.ensures.value ∙ c.in_ok-tags.ensures.tags) in
    let weights : c.in_ok-weights.weights.items ≡ threshold_weights m cert.on =
    c.in_ok-weights.ensures ∙ ap₂ (λ n on. with_entries (replicate n 0) on) count c.as_slice-2.ensures in
    let own : c.in_ok-own.own.items ≡ own_weights (ranges m) (threshold_weights m cert.on) =
    c.in_ok-own.ensures ∙ ap₂ own_weights (c.as_slice-3.ensures.value ∙ c.in_ok-ranges.ensures) weights in
    let whole : List ℕ → List (ℕ × ℤ) = λ ws. entries_from 0 (map (λ w. pos w) ws) in
    let on : c.in_ok-entries.field-0 ≡ entries_from 0 (own_numbers m cert.on) =
    c.in_ok-entries.ensures ∙ ap whole (c.as_slice-4.ensures.value ∙ own) in
    carried m c.size.ensures.matrix cert _ c.in_ok-entries.field-0 (search rules) on
