use Rattle.std.proofs.Common.{◌≡◌, ◌++◌, drop, map}
use Rattle.session_edits.proofs.texts.texts_of.Given as goal

abbrev pub invariant-loop-piece : goal.invariant-loop-piece
invariant-loop-piece l = l.some.items ++ map (λ piece. piece.now) (drop l.piece-index l.pieces) ≡ map (λ piece. piece.now) l.pieces
