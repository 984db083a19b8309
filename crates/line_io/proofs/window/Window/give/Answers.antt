use Rattle.std.proofs.Common.{◌∙◌, length, drop, sym, ap, arith}
use Rattle.line_io.proofs.WindowLemmas.{drop_range, length_range}
use Rattle.line_io.proofs.window.Window.give.Goals as goal

pub returns-clause-in_hand : goal.returns-clause-in_hand
returns-clause-in_hand c =
    let w = c.self.inside in
    let held = length_range w.bytes.items w.start w.end (omega arith) (omega arith) in
    sym (drop_range w.bytes.items w.start c.args.through w.end (omega (arith, held, ap (λ h. length h.in_hand) c.self.view_is)))
    ∙ ap (λ h. drop c.args.through h.in_hand) c.self.view_is
