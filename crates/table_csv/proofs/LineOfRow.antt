-- The lines of a table are those that have its rows' texts with their newlines.
use Rattle.std.proofs.Common.{◌≡◌, ℕ, ◌-◌, List, [], ◌∷◌, length, map, take, refl, ap, ap₂, sym, subst, ◌∙◌, arith}
use Rattle.std.proofs.lemmas.List.{length-append}
use Rattle.std.proofs.Math.Seq.{take-append_seam}
use Rattle.csv.specs.Writing.{default_writer, row_text}
use Rattle.table_csv.specs.Lines.{ended, lines_of, AreLinesOf}

-- what stands before the newline
front_of : (line text : List ℕ) → ended line ≡ text → line ≡ take (length text - 1) text
front_of line text e = subst (λ (t : List ℕ). line ≡ take (length t - 1) t) e (sym front)
  where
    count : length (ended line) - 1 ≡ length line
    count = let both = length-append line (10 ∷ []) in omega (arith, both)

    front : take (length (ended line) - 1) (ended line) ≡ line
    front = ap (λ (n : ℕ). take n (ended line)) count ∙ take-append_seam line (10 ∷ [])

pub lines_are : (table : List (List (List ℕ))) (lines : List (List ℕ)) → AreLinesOf table lines → lines ≡ lines_of table
lines_are [] [] e = refl
lines_are (row ∷ table) [] e = absurd (cc)
lines_are [] (line ∷ lines) e = absurd (cc)
lines_are (row ∷ table) (line ∷ lines) e =
    let first : ended line ≡ row_text default_writer row = cc in
    let others : map ended lines ≡ map (row_text default_writer) table = cc in
    ap₂ ◌∷◌ (front_of line (row_text default_writer row) first) (lines_are table lines others)
