-- Entries that a loop lists, one number after the other.
use lib.ListN.{length-replicate}
use Rattle.std.specs.Ordering.{int_eq}
use Rattle.std.proofs.Math.Seq.{drop-cons}
use Rattle.std.proofs.lemmas.List.{drop_all, take_more_set}
use Rattle.std.proofs.Common.{◌≡◌, true, false, ℕ, zero, suc, ◌+◌, ◌<◌, ◌≤◌, length, get_or, set, take, drop, replicate, List, [], ◌∷◌, ◌++◌, ℤ, pos, refl, sym, ap, ap₂, ◌∙◌, arith, add-one, append_assoc, append-nil}
use Rattle.frac128.specs.Entries.{entries_from}
use Rattle.lex_simplex.specs.Cells.{AreListed}

-- a weight of 0 gives no entry
entries-zero : (i : ℕ) (w : ℤ) (ws : List ℤ) → int_eq w (pos 0) ≡ true → entries_from i (w ∷ ws) ≡ entries_from (suc i) ws
entries-zero i w ws z = ap (λ b. elim b [ true ↦ entries_from (suc i) ws | false ↦ (i, w) ∷ entries_from (suc i) ws ]) z

-- another gives its own
entries-other : (i : ℕ) (w : ℤ) (ws : List ℤ) → int_eq w (pos 0) ≡ false → entries_from i (w ∷ ws) ≡ (i, w) ∷ entries_from (suc i) ws
entries-other i w ws n = ap (λ b. elim b [ true ↦ entries_from (suc i) ws | false ↦ (i, w) ∷ entries_from (suc i) ws ]) n

-- the weights from a place on
from_place : (ws : List ℤ) (i : ℕ) (w : ℤ) → i < length ws → w ≡ get_or ws i w → drop i ws ≡ w ∷ drop (i + 1) ws
from_place ws i w l read = drop-cons ws i w l ∙ ap₂ (λ x n. x ∷ drop n ws) (sym read) (sym (add-one i))

-- a loop's step at a weight of 0
pub entries_skip : (ws : List ℤ) (i : ℕ) (w : ℤ) (on now all : List (ℕ × ℤ)) → i < length ws → w ≡ get_or ws i w → int_eq w (pos 0) ≡ true → now ≡ on
    → on ++ entries_from i (drop i ws) ≡ all → now ++ entries_from (i + 1) (drop (i + 1) ws) ≡ all
entries_skip ws i w on now all l read z kept so_far =
    ap₂ (λ o n. o ++ entries_from n (drop (i + 1) ws)) kept (add-one i)
    ∙ ap (λ e. on ++ e) (sym (ap (entries_from i) (from_place ws i w l read) ∙ entries-zero i w (drop (i + 1) ws) z))
    ∙ so_far

-- and at another
pub entries_put : (ws : List ℤ) (i : ℕ) (w : ℤ) (on now all : List (ℕ × ℤ)) → i < length ws → w ≡ get_or ws i w → int_eq w (pos 0) ≡ false
    → now ≡ on ++ (i, w) ∷ [] → on ++ entries_from i (drop i ws) ≡ all → now ++ entries_from (i + 1) (drop (i + 1) ws) ≡ all
entries_put ws i w on now all l read n put so_far =
    ap₂ (λ o m. o ++ entries_from m (drop (i + 1) ws)) put (add-one i)
    ∙ append_assoc on ((i, w) ∷ []) (entries_from (suc i) (drop (i + 1) ws))
    ∙ ap (λ e. on ++ e) (sym (ap (entries_from i) (from_place ws i w l read) ∙ entries-other i w (drop (i + 1) ws) n))
    ∙ so_far

-- zeros have none
entries_from-zeros : (i n : ℕ) → entries_from i (replicate n (pos 0)) ≡ []
entries_from-zeros i zero = refl
entries_from-zeros i (suc n) = entries_from-zeros (suc i) n

-- so none of the entries are those of zeros
pub AreListed-zeros : (cells : List ℤ) (entries : List (ℕ × ℤ)) (width : ℕ) → cells ≡ replicate width (pos 0) → length entries ≡ width
    → AreListed cells entries 0
AreListed-zeros cells entries width is long = record {
  room = omega (arith, ap length is, length-replicate width (pos 0), long);
  few = omega arith;
  listed = sym (ap (entries_from 0) is ∙ entries_from-zeros 0 width);
}
