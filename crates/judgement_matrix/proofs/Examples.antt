-- The definitions at small matrices, by computation.
use Rattle.std.proofs.Common.{◌≡◌, true, false, pos, neg_ℤ, [], ◌∷◌, refl}
use Rattle.judgement_matrix.specs.Range.{bounds, full}
use Rattle.judgement_matrix.specs.Matrix.{Judgements, unjudged, judged, cleared}
use Rattle.judgement_matrix.specs.Change.{grown, without}
use Rattle.judgement_matrix.specs.Rows.{rows}
use Rattle.judgement_matrix.specs.Least.{order_key}
use Rattle.judgement_matrix.specs.Repair.{shifted, shift_total, IsShiftBefore}
use Rattle.judgement_matrix.specs.declared.tag.Tag.TheVariants.{Lower, Cross, Order}

-- A over B 3, A over C 4, B over C 2
abbrev abc : Judgements
abc = judged (judged (judged (unjudged 3) 1 2 (bounds 3 3)) 1 3 (bounds 4 4)) 2 3 (bounds 2 2)

abc_rows : rows abc ≡ Lower 1 2 ∷ Lower 1 3 ∷ Lower 2 3 ∷ Cross 1 2 2 3 ∷ Cross 1 3 1 2 ∷ Cross 1 3 2 3 ∷ Order 1 ∷ Order 2 ∷ []
abc_rows = refl

key_of_four : order_key (pos 9 ∷ pos 5 ∷ pos 2 ∷ pos 0 ∷ []) ≡ pos 9 ∷ pos 2 ∷ pos 5 ∷ []
key_of_four = refl

key_of_one : order_key (pos 0 ∷ []) ≡ pos 0 ∷ []
key_of_one = refl

-- the new element is the third of four
grown_abc : (grown abc).cells ≡ (bounds 3 3, true) ∷ (full, false) ∷ (bounds 4 4, true) ∷ (full, false) ∷ (bounds 2 2, true) ∷ (full, false) ∷ []
grown_abc = refl

grown_one : grown (unjudged 1) ≡ unjudged 2
grown_one = refl

without_first : without abc 1 ≡ judged (unjudged 2) 1 2 (bounds 2 2)
without_first = refl

without_second : without abc 2 ≡ judged (unjudged 2) 1 2 (bounds 4 4)
without_second = refl

without_last : without abc 3 ≡ judged (unjudged 2) 1 2 (bounds 3 3)
without_last = refl

cleared_abc : cleared (cleared (cleared abc 1 2) 1 3) 2 3 ≡ unjudged 3
cleared_abc = refl

shifted_abc : shifted abc (pos 1 ∷ neg_ℤ (pos 2) ∷ pos 0 ∷ []) ≡ judged (judged (judged (unjudged 3) 1 2 (bounds 4 4)) 1 3 (bounds 2 2)) 2 3 (bounds 2 2)
shifted_abc = refl

total : shift_total (pos 1 ∷ neg_ℤ (pos 2) ∷ pos 0 ∷ []) ≡ 3
total = refl

before : IsShiftBefore (neg_ℤ (pos 1) ∷ pos 5 ∷ []) (pos 0 ∷ neg_ℤ (pos 3) ∷ [])
before = refl
