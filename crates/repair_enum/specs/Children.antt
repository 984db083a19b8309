-- The children of a shift by a certificate that refutes it: what one step further may relieve (this project's own).
use Rattle.std.specs.Prelude.{◌≡◌, ◌⊎◌, ℕ, ◌+◌, ◌<◌, ℤ, pos, negsuc, ◌+ℤ◌, ◌≤ℤ◌, ◌<ℤ◌, List, length, Some, slice_get, slice_set}
use Rattle.frac128.specs.declared.problem.Cert.{Cert}
use Rattle.judgement_matrix.specs.Matrix.{Judgements, place}
use Rattle.judgement_matrix.specs.Repair.{IsLawfulShift, IsBetween, step_at, shifted, shift_total}
use Rattle.judgement_matrix.specs.declared.tag.Tag.{Tag}
use Rattle.judgement_matrix.specs.declared.tag.Tag.TheVariants.{Lower, Zero, Cross, Order}
use Rattle.lp_macbeth.specs.Rows.{judged_rows}
use Rattle.cert_check.specs.Entries.{entry_at}

-- the same shift but for one pair, which is moved by so much more
abbrev pub moved_by : Judgements → List ℤ → ℕ → ℕ → ℤ → List ℤ
moved_by m shift p q by = slice_set shift (place m.size p q) (step_at m shift p q +ℤ by)

-- one pair is moved down by one more; it was not moved up
abbrev pub IsDown : Judgements → List ℤ → ℕ → ℕ → List ℤ → Type 0
IsDown m shift p q child = (step_at m shift p q ≤ℤ pos 0) × (child ≡ moved_by m shift p q (negsuc 0))

-- one pair is moved up by one more; it was not moved down
abbrev pub IsUp : Judgements → List ℤ → ℕ → ℕ → List ℤ → Type 0
IsUp m shift p q child = (pos 0 ≤ℤ step_at m shift p q) × (child ≡ moved_by m shift p q (pos 1))

-- a step that relieves a row: the pair that is to be far apart down, the pair that is to be close up
abbrev pub IsRelief : Judgements → List ℤ → Tag → List ℤ → Type 0
IsRelief m shift (Lower p q) child = IsDown m shift p q child
IsRelief m shift (Zero p q) child = IsUp m shift p q child
IsRelief m shift (Cross p q x y) child = IsDown m shift p q child ⊎ IsUp m shift x y child
IsRelief m shift (Order p) child = ⊥

-- a lawful shift that relieves a row which the certificate of the shift names with a multiplier above 0
pub record IsChild (m : Judgements) (shift : List ℤ) (cert : Cert) (child : List ℤ) : Type 0 where
  pub entry : ℕ
  pub tag : Tag
  pub inside : entry < length cert.on
  pub positive : pos 0 <ℤ (entry_at cert.on entry).1
  pub named : slice_get (judged_rows (shifted m shift)) (entry_at cert.on entry).0 ≡ Some tag
  pub relief : IsRelief m shift tag child
  pub lawful : IsLawfulShift m child

-- a child of the shift lies between no shift and a repair, one step further than the shift
pub record LeadsTo (m : Judgements) (shift : List ℤ) (cert : Cert) (repair : List ℤ) : Type 0 where
  pub child : List ℤ
  pub is_child : IsChild m shift cert child
  pub between : IsBetween child repair
  pub total : shift_total child ≡ shift_total shift + 1
