-- Rows of closed problems as words, and the least cost of such a problem, as certificates of dominance have them.
use Rattle.std.specs.Prelude.{ℕ, ℤ, List, ◌++◌, codes}
use Rattle.std.specs.Fmt.{decimal, signed_decimal}
use Rattle.integers.specs.Fraction.{Fraction}
use Rattle.frac128.specs.Text.{frac_text}
use Rattle.cert_check.specs.declared.dominance.OpenTag.{OpenTag}
use Rattle.cert_check.specs.declared.dominance.OpenTag.TheVariants.{Zero, Cross, AnchorUp, AnchorDown, ReachUp, ReachDown, SumUp, SumDown}

-- the positions of two elements
abbrev pub positions_words : ℕ → ℕ → List ℕ
positions_words p q = decimal p ++ codes " " ++ decimal q

-- a row of a closed problem
abbrev pub open_tag_words : OpenTag → List ℕ
open_tag_words (Zero p q) = codes "zero " ++ positions_words p q
open_tag_words (Cross p q x y) = codes "cross " ++ positions_words p q ++ codes " " ++ positions_words x y
open_tag_words AnchorUp = codes "anchor-up"
open_tag_words AnchorDown = codes "anchor-down"
open_tag_words ReachUp = codes "reach-up"
open_tag_words ReachDown = codes "reach-down"
open_tag_words SumUp = codes "sum-up"
open_tag_words SumDown = codes "sum-down"

-- and its multiplier
abbrev pub open_line : OpenTag × ℤ → List ℕ
open_line entry = open_tag_words entry.0 ++ codes " " ++ signed_decimal entry.1

-- the least cost of a problem, before the multipliers that show it
abbrev pub proof_words : Fraction → ℤ → List ℕ
proof_words value den = codes " least " ++ frac_text value ++ codes " den " ++ signed_decimal den ++ codes " rows"
