use Rattle.std.proofs.Common.{◌∙◌, ◌+◌, ◌≤◌, length, slice_range, drop, sym, ap, subst, arith}
use Rattle.line_io.specs.Window.{IsFirstNewline}
use Rattle.line_io.proofs.WindowLemmas.{drop_range, length_range}
use Rattle.line_io.proofs.window.Window.newline_from.Goals as goal

pub returns : goal.returns
returns c =
    let w = c.self.inside in
    let held = length_range w.bytes.items w.start w.end (omega arith) (omega arith) in
    let within : w.start + c.args.from ≤ w.end = omega (arith, held, ap (λ h. length h.in_hand) c.self.view_is) in
    subst (λ l. IsFirstNewline l c.newline_at.result)
    (ap (λ l. slice_range l (w.start + c.args.from) w.end) c.as_slice-bytes.ensures.value
    ∙ sym (drop_range w.bytes.items w.start c.args.from w.end within) ∙ ap (λ h. drop c.args.from h.in_hand) c.self.view_is)
    c.newline_at.ensures
