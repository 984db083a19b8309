-- How many turns a run can take.
use Rattle.std.specs.Prelude.{ℕ, zero, suc, length}
use Rattle.integers.specs.Counting.{choose}
use Rattle.lex_simplex.specs.Tableau.{Tableau}
use Rattle.lex_simplex.specs.Turn.{turn, next, ended}

-- the turns from the tableau on, at most so many
abbrev pub turns_within : ℕ → Tableau → ℕ
turns_within zero t = 0
turns_within (suc most) t = elim (turn t) [ next s ↦ suc (turns_within most s) | ended end ↦ 0 ]

-- the ways to choose as many quantities as there are columns
abbrev pub choices_of : Tableau → ℕ
choices_of t = choose (length t.rows) (length t.columns)

-- the turns from the tableau on
abbrev pub turns_to_go : Tableau → ℕ
turns_to_go t = turns_within (choices_of t) t
