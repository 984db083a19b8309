-- A certificate that names rows by their tags, and the same one by their positions in the problem of a matrix.
use Rattle.std.specs.Prelude.{◌≡◌, ℕ, ◌+◌, ◌-◌, ◌<◌, ◌≤◌, List, length, map, get_or, ℤ, pos, ◌≤ℤ◌, ◌<ℤ◌, All, ⊤, Option, Some, slice_get, Contains}
use Rattle.frac128.specs.declared.problem.Cert.{Cert}
use Rattle.judgement_matrix.specs.Matrix.{Judgements}
use Rattle.judgement_matrix.specs.Scale.{difference}
use Rattle.judgement_matrix.specs.Rows.{RowHolds}
use Rattle.judgement_matrix.specs.declared.tag.Tag.{Tag}
use Rattle.judgement_matrix.specs.declared.tag.Tag.TheVariants.{Lower}
use Rattle.lp_macbeth.specs.Rows.{judged_rows}
use Rattle.cert_check.specs.Entries.{entry_at}
use Rattle.cert_check.specs.First.{IsFirstFailing}
use Rattle.cert_check.specs.declared.text.CertText.{CertText}
use Rattle.cert_check.specs.declared.placing.Placed.{Placed}
use Rattle.cert_check.specs.declared.placing.Placed.TheVariants.{Cert as Known, NoRow}

-- an entry by its tag
abbrev pub by_tag : Tag × ℤ → Option Tag × ℤ
by_tag e = (Some e.0, e.1)

-- an entry by the tag of the row at its position
abbrev pub by_place : Judgements → ℕ × ℤ → Option Tag × ℤ
by_place m e = (slice_get (judged_rows m) e.0, e.1)

-- the row at each position has the tag, and the multipliers are the same
abbrev pub AreNamed : Judgements → List (Tag × ℤ) → List (ℕ × ℤ) → Type 0
AreNamed m named placed = map (by_place m) placed ≡ map by_tag named

-- the same certificate in both writings, but for what it claims
pub record IsNamed (m : Judgements) (text : CertText) (cert : Cert) : Type 0 where
  pub den : text.den ≡ cert.den
  pub on : AreNamed m text.on cert.on

-- the tag of the entry at a place, from 0 on, is a row
abbrev pub IsRowAt : Judgements → List (Tag × ℤ) → ℕ → Type 0
IsRowAt m on i = Contains (judged_rows m) (get_or on i (Lower 0 0, pos 0)).0

-- the certificate by positions, or the number of the first entry, from 1 on, whose tag is no row
abbrev pub IsPlaced : Judgements → CertText → Placed → Type 0
IsPlaced m text (Known cert) = IsNamed m text cert
IsPlaced m text (NoRow k) = (1 ≤ k) × IsFirstFailing (IsRowAt m text.on) (length text.on) (k - 1)

-- the row of each entry is one of the problem of the matrix
abbrev pub AreRows : Judgements → List (ℕ × ℤ) → Type 0
AreRows m on = All (λ (e : ℕ × ℤ). e.0 < length (judged_rows m)) on

-- and so of what was placed
abbrev pub HasRows : Judgements → Placed → Type 0
HasRows m (Known cert) = AreRows m cert.on
HasRows m (NoRow k) = ⊤

-- no number is below the next
abbrev pub NeverRises : Judgements → List ℤ → Type 0
NeverRises m w = (p : ℕ) → 1 ≤ p → p < m.size → pos 0 ≤ℤ difference w p (p + 1)

-- the scale w over n fails a row that the certificate names with a multiplier above 0
pub record FailsNamedRow (m : Judgements) (cert : Cert) (w : List ℤ) (n : ℤ) : Type 0 where
  pub place : ℕ
  pub tag : Tag
  pub inside : place < length cert.on
  pub positive : pos 0 <ℤ (entry_at cert.on place).1
  pub named : slice_get (judged_rows m) (entry_at cert.on place).0 ≡ Some tag
  pub fails : ¬ RowHolds m w n tag
