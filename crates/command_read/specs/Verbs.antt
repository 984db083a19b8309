-- The commands by their first words.
use Rattle.std.specs.Prelude.{ℕ, List, [], ◌∷◌, Option, map, slice_get, codes}
use Rattle.std.specs.Option.{option_and_then}
use Rattle.word_table.specs.Words.{find_word}
use Rattle.word_table.specs.declared.tables.TheConstants.{COMMANDS}
use Rattle.command_read.specs.declared.verb.Verb.{Verb}
use Rattle.command_read.specs.declared.verb.Verb.TheVariants as verb
use Rattle.command_read.specs.declared.verb.TheConstants.{VERBS}

-- the command with this word
abbrev pub verb_of : List ℕ → Option Verb
verb_of word = option_and_then (λ place. slice_get VERBS place) (find_word (map (λ w. w.now) COMMANDS) word)

-- each command with its word
abbrev pub verb_words : List (List ℕ × Verb)
verb_words =
    (codes "load", verb.Load) ∷ (codes "option", verb.Option) ∷ (codes "drop-option", verb.DropOption) ∷
    (codes "criterion", verb.Criterion) ∷ (codes "drop-criterion", verb.DropCriterion) ∷ (codes "refs", verb.Refs) ∷
    (codes "judge", verb.Judge) ∷ (codes "unjudge", verb.Unjudge) ∷ (codes "perform", verb.Perform) ∷
    (codes "weigh-order", verb.WeighOrder) ∷ (codes "weigh", verb.Weigh) ∷ (codes "unweigh", verb.Unweigh) ∷
    (codes "reach", verb.Reach) ∷ (codes "import", verb.Import) ∷ (codes "undo", verb.Undo) ∷
    (codes "matrix", verb.Matrix) ∷ (codes "rows", verb.Rows) ∷ (codes "fits", verb.Fits) ∷
    (codes "scale", verb.Scale) ∷ (codes "cert", verb.Cert) ∷ (codes "verify", verb.Verify) ∷
    (codes "repairs", verb.Repairs) ∷ (codes "anchored", verb.Anchored) ∷ (codes "slack", verb.Slack) ∷
    (codes "weights", verb.Weights) ∷ (codes "wcert", verb.Wcert) ∷ (codes "wrepairs", verb.Wrepairs) ∷
    (codes "scores", verb.Scores) ∷ (codes "dominance", verb.Dominance) ∷ (codes "dcert", verb.Dcert) ∷
    (codes "dominances", verb.Dominances) ∷ (codes "export", verb.Export) ∷ (codes "dump", verb.Dump) ∷
    (codes "stats", verb.Stats) ∷ (codes "quit", verb.Quit) ∷ (codes "group", verb.Group) ∷
    (codes "drop-group", verb.DropGroup) ∷ (codes "place", verb.Place) ∷ (codes "unplace", verb.Unplace) ∷
    (codes "groups", verb.Groups) ∷ (codes "subtotals", verb.Subtotals) ∷ []
