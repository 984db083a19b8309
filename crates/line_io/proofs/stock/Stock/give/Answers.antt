use Rattle.std.proofs.Common.{◌≡◌, ◌∙◌, ℕ, ◌+◌, ◌-◌, ◌≤◌, List, ◌++◌, length, take, drop, slice_range, sym, ap, arith, take_at, take-append-drop, drop-drop, length-drop}
use Rattle.line_io.proofs.WindowLemmas.{length_range}
use Rattle.line_io.proofs.stock.Stock.give.Goals as goal

-- what was copied to the front, and what follows it
front_and_rest : (bytes part tail : List ℕ) (at k : ℕ) → part ≡ slice_range bytes at (at + k) → at + k ≤ length bytes
    → drop at bytes ≡ take k (part ++ tail) ++ drop (at + k) bytes
front_and_rest bytes part tail at k is within =
    let span : at + k - at ≡ k = omega arith in
    let front : part ≡ take k (drop at bytes) = is ∙ ap (λ n. take n (drop at bytes)) span in
    let len : length part ≡ k = ap length is ∙ length_range bytes at (at + k) (omega arith) within ∙ span in
    sym (take-append-drop k (drop at bytes)) ∙ ap (λ l. l ++ drop k (drop at bytes)) (sym (take_at part tail k len ∙ front))
    ∙ ap (λ l. take k (part ++ tail) ++ l) (drop-drop k at bytes)

pub returns-clause-given : goal.returns-clause-given
returns-clause-given c =
    let s = c.self.inside in
    let within : s.at + c.args.count ≤ length s.bytes.items =
    omega (arith, c.requires.left, ap length c.self.view_is, length-drop s.at s.bytes.items) in
    sym c.self.view_is ∙ front_and_rest s.bytes.items _ (drop c.args.count c.args.into.now) s.at c.args.count
    (c.copy_from_slice.ensures.after ∙ ap (λ l. slice_range l s.at (s.at + c.args.count)) c.deref.ensures.value) within
