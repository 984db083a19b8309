use Rattle.std.proofs.Common.{◌∙◌, ◌+◌, ◌-◌, ◌≤◌, ◌++◌, length, slice_range, ap, arith}
use Rattle.line_io.proofs.WindowLemmas.{range-append, range_front, length_range}
use Rattle.line_io.proofs.window.Window.fill.Goals as goal

pub returns-clause-taken : goal.returns-clause-taken
returns-clause-taken g c =
    let w = c.self.inside in
    let bytes = c.take_at.new.bytes.items in
    let held = w.end - w.start in
    let k = c.in_ok-count.count in
    let in_hand = length_range w.bytes.items w.start w.end (omega arith) (omega arith) in
    let within : held + k ≤ length bytes = omega (arith, c.in_ok-count.ensures.taken.0, in_hand, ap (λ h. length h.in_hand) c.self.view_is) in
    let front = range_front bytes held ∙ c.take_at.ensures.before ∙ c.move_to_front.ensures.moved ∙ ap (λ h. h.in_hand) c.self.view_is in (
      c.in_ok-count.ensures.taken.0,
      record {
        bytes = slice_range bytes held (held + k);
        count_is = length_range bytes held (held + k) (omega arith) within ∙ omega arith;
        took = c.in_ok-count.ensures.taken.1;
        behind = range-append bytes 0 held (held + k) (omega arith) (omega arith) ∙ ap (λ l. l ++ slice_range bytes held (held + k)) front;
      },
    )
