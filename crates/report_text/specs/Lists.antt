-- Replies that are lists.
use Rattle.std.specs.Prelude.{ℕ, List, ◌++◌, map, Option, Some, None, codes}
use Rattle.std.specs.Fmt.{decimal}
use Rattle.report_text.specs.Lines.{counted}
use Rattle.report_text.specs.Names.{quoted, two_names}

abbrev pub pair_line : List ℕ × List ℕ → List ℕ
pair_line pair = two_names pair.0 pair.1

-- pairs of options
abbrev pub dominances_lines : List (List ℕ × List ℕ) → List (List ℕ)
dominances_lines pairs = counted (codes "dominances") (map pair_line pairs)

-- a group, and the group above it
abbrev pub group_line : List ℕ × Option (List ℕ) → List ℕ
group_line (name, None) = quoted name
group_line (name, Some above) = quoted name ++ codes " under " ++ quoted above

-- a criterion in its group
abbrev pub placed_line : List ℕ × List ℕ → List ℕ
placed_line placed = codes "criterion " ++ quoted placed.0 ++ codes " in " ++ quoted placed.1

abbrev pub groups_lines : List (List ℕ × Option (List ℕ)) → List (List ℕ × List ℕ) → List (List ℕ)
groups_lines groups placed = counted (codes "groups") (map group_line groups) ++ map placed_line placed

-- how many pivots were made, before the number of results kept
abbrev pub pivots_words : ℕ → List ℕ
pivots_words pivots = codes "stats pivots " ++ decimal pivots ++ codes " kept"

abbrev pub stats_line : ℕ → ℕ → List ℕ
stats_line pivots kept = pivots_words pivots ++ codes " " ++ decimal kept
