use Rattle.std.proofs.Common.{◌≡◌, ◌<◌, ◌-◌, suc, None, take, remove, get_or, ap, ◌∙◌, rules, arith}
use Rattle.std.proofs.lemmas.Slice.{put_mid-rotated}
use Rattle.model_core.specs.declared.limits.TheConstants.{CRITERIA}
use Rattle.model_core.proofs.RowLemmas.{take-removed}
use Rattle.model_core.proofs.row.Row.remove.Goals as goal

pub returns : goal.returns
returns c =
    let row = c.self.inside.places in
    let width = c.self.inside.width in
    let at = c.args.at in
    let within : at < width = search rules in
    let one_less : suc (width - 1) ≡ width = omega arith in
    ap (take (width - 1)) (put_mid-rotated at (CRITERIA - at) row c.rotate_left.new.self None (omega arith) (omega arith) c.rotate_left.ensures.after)
    ∙ take-removed (width - 1) row at (get_or row at None) (omega arith) (omega arith)
    ∙ ap (λ n. remove (take n row) at) one_less ∙ ap (λ xs. remove xs at) c.self.view_is
