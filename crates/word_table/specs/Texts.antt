-- The texts of this program.
use Rattle.std.specs.Prelude.{ℕ, List, [], ◌∷◌, codes}

-- the words of the commands, in this order
abbrev pub command_words : List (List ℕ)
command_words =
    codes "load" ∷ codes "option" ∷ codes "drop-option" ∷ codes "criterion" ∷ codes "drop-criterion" ∷ codes "refs" ∷
    codes "judge" ∷ codes "unjudge" ∷ codes "perform" ∷ codes "weigh-order" ∷ codes "weigh" ∷ codes "unweigh" ∷
    codes "reach" ∷ codes "import" ∷ codes "undo" ∷ codes "matrix" ∷ codes "rows" ∷ codes "fits" ∷ codes "scale" ∷
    codes "cert" ∷ codes "verify" ∷ codes "repairs" ∷ codes "anchored" ∷ codes "slack" ∷ codes "weights" ∷
    codes "wcert" ∷ codes "wrepairs" ∷ codes "scores" ∷ codes "dominance" ∷ codes "dcert" ∷ codes "dominances" ∷
    codes "export" ∷ codes "dump" ∷ codes "stats" ∷ codes "quit" ∷ codes "group" ∷ codes "drop-group" ∷
    codes "place" ∷ codes "unplace" ∷ codes "groups" ∷ codes "subtotals" ∷ []

-- the categories of difference with their words
abbrev pub words_by_category : List (ℕ × List ℕ)
words_by_category =
    (0, codes "no") ∷ (1, codes "very-weak") ∷ (2, codes "weak") ∷ (3, codes "moderate") ∷ (4, codes "strong") ∷
    (5, codes "very-strong") ∷ (6, codes "extreme") ∷ []

-- the refusals: their numbers with their texts
abbrev pub texts_by_number : List (ℕ × List ℕ)
texts_by_number =
    (1, codes "line too long") ∷ (2, codes "not UTF-8") ∷ (3, codes "unknown command") ∷
    (4, codes "wrong number of words") ∷ (5, codes "bad name") ∷ (6, codes "bad number") ∷
    (7, codes "bad category") ∷ (8, codes "unknown option") ∷ (9, codes "unknown criterion") ∷
    (10, codes "unknown element") ∷ (11, codes "name taken") ∷ (12, codes "limit reached") ∷
    (13, codes "against the listed order") ∷ (14, codes "not a permutation") ∷
    (15, codes "block cut by the end of input") ∷ (16, codes "block too large") ∷ (17, codes "bad JSON") ∷
    (18, codes "bad model or table") ∷ (19, codes "bad certificate text") ∷ (20, codes "nothing to undo") ∷
    (21, codes "performance missing") ∷ (22, codes "inconsistent") ∷ (23, codes "flat") ∷
    (24, codes "reach too small") ∷ (25, codes "too far") ∷ (26, codes "too long") ∷ (27, codes "too wide") ∷
    (28, codes "unknown group") ∷ (29, codes "levels not in order") ∷ (30, codes "no levels") ∷
    (31, codes "outside the levels") ∷ (32, codes "unknown judge") ∷ (33, codes "joins are closed") ∷ []
