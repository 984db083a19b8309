-- What stands between newlines has none.
use Rattle.std.proofs.Common.{◌≡◌, ℕ, ◌==◌, Bool, true, false, List, [], ◌∷◌, map, IsTrue, refl, sym, subst, Bor}
use Rattle.std.specs.Prelude.{All}
use Rattle.std.specs.List.{AllByRecursion, onto_first}
use Rattle.std.proofs.lemmas.List.Splits.{slice_split-cons_yes, slice_split-cons_no}
use Rattle.std.proofs.lemmas.List.Elements.{All-from_recursion}
use Rattle.table_csv.specs.Lines.{is_line}
use Rattle.session_edits.specs.Texts.{lines_between}

abbrev IsLine : List ℕ → Type 0
IsLine line = IsTrue (is_line line)

newline : ℕ → Bool
newline byte = byte == 10

onto : (x : ℕ) (parts : List (List ℕ)) → (x == 10) ≡ false → AllByRecursion IsLine parts → AllByRecursion IsLine (onto_first x parts)
onto x [] e h = (rw e refl, tt)
onto x (part ∷ parts) e h = (rw e h.0, h.1)

each_piece : (text : List ℕ) → AllByRecursion IsLine (lines_between text)
each_piece [] = (refl, tt)
each_piece (x ∷ text) = by_byte (x == 10) refl (each_piece text)
  where
    by_byte : (b : Bool) → (x == 10) ≡ b → AllByRecursion IsLine (lines_between text) → AllByRecursion IsLine (lines_between (x ∷ text))
    by_byte true e others = rw (slice_split-cons_yes (λ byte. byte == 10) x text e) (refl, others)
    by_byte false e others = rw (slice_split-cons_no (λ byte. byte == 10) x text e) (onto x (lines_between text) e others)

of_pieces : (pieces : List (Bor (List ℕ))) → AllByRecursion IsLine (map (λ piece. piece.now) pieces)
    → AllByRecursion (λ piece. IsLine piece.now) pieces
of_pieces [] h = tt
of_pieces (piece ∷ pieces) h = (h.0, of_pieces pieces h.1)

pub pieces_are_lines : (pieces : List (Bor (List ℕ))) (text : List ℕ) → map (λ piece. piece.now) pieces ≡ lines_between text
    → All (λ piece. IsTrue (is_line piece.now)) pieces
pieces_are_lines pieces text e =
    All-from_recursion (λ piece. IsLine piece.now) pieces (of_pieces pieces (subst (AllByRecursion IsLine) (sym e) (each_piece text)))
