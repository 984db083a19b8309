use Rattle.open_dominance.specs.Gap.{gap_form}
use Rattle.open_dominance.proofs.GapLemmas.{found_by, run_found}
use Rattle.open_dominance.proofs.closed_gap.gap_apart.Goals as goal

pub returns-in-Ok-clause-found : goal.returns-in-Ok-clause-found
returns-in-Ok-clause-found c =
    let a = c.args in
    let d = a.criterion.now in
    let run = c.in-Ok.ensures.1 in
    let good = c.good-good.ensures.value in
    let neutral = c.neutral-neutral.ensures.value in
    let reach = c.reach-reach.ensures.value in
    let matrix = c.matrix.ensures.value in
    let form = rw (good, neutral, reach, matrix) at c.in_ok-form.ensures in
    found_by d a.a a.b c.gap_of_outcome.result (run_found (gap_form d a.a a.b) c.in_ok-form.form _ run.0 form c.gap_of_outcome.ensures.end run.1)
    c.gap_of_outcome.ensures.read
