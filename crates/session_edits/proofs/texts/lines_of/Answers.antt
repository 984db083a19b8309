use Rattle.std.proofs.Common.{◌≡◌, map, rules}
use Rattle.session_edits.specs.Texts.{lines_between}
use Rattle.session_edits.proofs.SplitLemmas.{pieces_are_lines}
use Rattle.session_edits.proofs.texts.lines_of.Goals as goal

pub texts_of-requires : goal.texts_of-requires
texts_of-requires c =
    let split : map (λ piece. piece.now) c.deref.result.now ≡ lines_between c.args.text.now = search rules in
    pieces_are_lines c.deref.result.now c.args.text.now split
