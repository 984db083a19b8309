use Rattle.line_io.proofs.WindowLemmas.{line-of_return, line-of_other}
use Rattle.line_io.proofs.window.len_without_return.Goals as goal

pub returns-in-Some-clause-value : goal.returns-in-Some-clause-value
returns-in-Some-clause-value c =
    line-of_return c.args.piece.now c.in-Some.b.now c.in-Some.ensures.value c.if-b-eq-RETURN.true

pub returns-in-Some-2-clause-value : goal.returns-in-Some-2-clause-value
returns-in-Some-2-clause-value c =
    line-of_other c.args.piece.now c.in-Some.b.now c.in-Some.ensures.value c.if-b-eq-RETURN.false
