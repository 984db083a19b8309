use Rattle.line_io.proofs.CursorLemmas.{Reaches-gives}
use Rattle.line_io.proofs.cursor.Cursor.advance.Goals as goal

pub returns-in-Ok : goal.returns-in-Ok
returns-in-Ok g c =
    let same = c.give.ensures.same in
    Reaches-gives _ _ _ _ _ _ _ c.in-Ok.piece _ c.give.result c.in_default.is c.in-Ok.ensures c.give.ensures.rest same.0 same.1 same.2 c.give.ensures.found
