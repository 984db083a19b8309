use Rattle.std.proofs.Common.{◌≡◌, ◌+◌, ℕ, ℤ, pos, List, length, map, replicate, ap, ap₂, sym, subst₂, ◌∙◌, rules}
use Rattle.frac128.specs.Entries.{entries_from}
use Rattle.frac128.specs.Problem.{AreRowMultipliers}
use Rattle.lp_macbeth.specs.ClosedThreshold.{closed_threshold_rows}
use Rattle.lp_macbeth.specs.Passing.{closed_weights, with_entries, ranges}
use Rattle.lp_macbeth.proofs.ClosedCertLemmas.{form_weights, closed_numbers, carried_is}
use Rattle.lp_macbeth.proofs.closed_translation.carried.Goals as goal

pub weights-requires : goal.weights-requires
weights-requires c =
    let m = c.args.matrix.now in
    let count : length c.as_slice.result.now ≡ length (closed_threshold_rows m) = ap length (c.as_slice.ensures.value ∙ c.in_ok-tags.ensures.tags) in
    subst₂ AreRowMultipliers (ap (λ n. n + c.args.named) (sym count)) (sym c.as_slice-2.ensures) c.requires.cert

pub returns : goal.returns
returns c =
    let m = c.args.matrix.now in
    let cert = c.args.cert.now in
    let named : ℕ = c.args.named in
    let count : length c.as_slice.result.now ≡ length (closed_threshold_rows m) = ap length (c.as_slice.ensures.value ∙ c.in_ok-tags.ensures.tags) in
    let weights : c.in_ok-weights.weights.items ≡ form_weights m named cert.on =
    c.in_ok-weights.ensures ∙ ap₂ (λ n on. with_entries (replicate (n + named) 0) on) count c.as_slice-2.ensures in
    let own : c.in_ok-own.own.items ≡ closed_weights (ranges m) named (form_weights m named cert.on) =
    c.in_ok-own.ensures ∙ ap₂ (λ rs ws. closed_weights rs named ws) (c.as_slice-3.ensures.value ∙ c.in_ok-ranges.ensures) weights in
    let whole : List ℕ → List (ℕ × ℤ) = λ ws. entries_from 0 (map (λ w. pos w) ws) in
    let on : c.in_ok-entries.field-0 ≡ entries_from 0 (closed_numbers m named cert.on) =
    c.in_ok-entries.ensures ∙ ap whole (c.as_slice-4.ensures.value ∙ own) in
    carried_is m named cert _ c.in_ok-entries.field-0 (search rules) on
