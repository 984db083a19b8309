-- The text of a range reads back as the range.
use Rattle.std.proofs.Common.{◌≡◌, ℕ, suc, zero, ◌≤◌, arith, Bool, true, false, ◌&&◌, ◌==◌, Option, None, Some, nat_le, if◌then◌else◌, refl, sym, ap, ◌∙◌}
use Rattle.std.proofs.lemmas.Bool.Decides.{nat_tests}
use Rattle.judgement_matrix.specs.Range.{Bounds, IsRange, bounds}
use Rattle.model_core.specs.Categories.{range_of, range_text}

-- what holds at 0 to 6
pub below_seven : (P : ℕ → Type 0) → P 0 → P 1 → P 2 → P 3 → P 4 → P 5 → P 6 → (n : ℕ) → n ≤ 6 → P n
below_seven P a b c d e f g zero h = a
below_seven P a b c d e f g (suc zero) h = b
below_seven P a b c d e f g (suc (suc zero)) h = c
below_seven P a b c d e f g (suc (suc (suc zero))) h = d
below_seven P a b c d e f g (suc (suc (suc (suc zero)))) h = e
below_seven P a b c d e f g (suc (suc (suc (suc (suc zero))))) h = f
below_seven P a b c d e f g (suc (suc (suc (suc (suc (suc zero)))))) h = g
below_seven P a b c d e f g (suc (suc (suc (suc (suc (suc (suc n))))))) h = absurd (omega arith)

is_same : Option Bounds → ℕ → ℕ → Bool
is_same None lo hi = false
is_same (Some range) lo hi = (range.lo == lo) && (range.hi == hi)

reads_back : ℕ → ℕ → Bool
reads_back lo hi = if nat_le lo hi then is_same (range_of (range_text (bounds lo hi))) lo hi else true

all_read_back : (lo hi : ℕ) → lo ≤ 6 → hi ≤ 6 → reads_back lo hi ≡ true
unfolding reads_back is_same
all_read_back lo hi low high = below_seven (λ l. reads_back l hi ≡ true)
    (below_seven (λ h. reads_back 0 h ≡ true) refl refl refl refl refl refl refl hi high)
    (below_seven (λ h. reads_back 1 h ≡ true) refl refl refl refl refl refl refl hi high)
    (below_seven (λ h. reads_back 2 h ≡ true) refl refl refl refl refl refl refl hi high)
    (below_seven (λ h. reads_back 3 h ≡ true) refl refl refl refl refl refl refl hi high)
    (below_seven (λ h. reads_back 4 h ≡ true) refl refl refl refl refl refl refl hi high)
    (below_seven (λ h. reads_back 5 h ≡ true) refl refl refl refl refl refl refl hi high)
    (below_seven (λ h. reads_back 6 h ≡ true) refl refl refl refl refl refl refl hi high)
    lo low

both : (a b : Bool) → (a && b) ≡ true → (a ≡ true) × (b ≡ true)
both true b h = (refl, h)
both false b h = cc

same_range : (r : Option Bounds) (lo hi : ℕ) → is_same r lo hi ≡ true → r ≡ Some (bounds lo hi)
unfolding is_same
same_range None lo hi h = cc
same_range (Some range) lo hi h =
    let parts = both (range.lo == lo) (range.hi == hi) h in
    let los : range.lo ≡ lo = let e = parts.0 in grind (arith, nat_tests) in
    let his : range.hi ≡ hi = let e = parts.1 in grind (arith, nat_tests) in
    λ i. Some (bounds (los i) (his i))

pub range_again : (range : Bounds) → IsRange range → range_of (range_text range) ≡ Some range
unfolding reads_back
range_again range is =
    let low : range.lo ≤ range.hi = is.0 in
    let high : range.hi ≤ 6 = is.1 in
    let test : nat_le range.lo range.hi ≡ true = grind (arith, nat_tests) in
    same_range (range_of (range_text range)) range.lo range.hi
    (ap (λ b. if b then is_same (range_of (range_text range)) range.lo range.hi else true) (sym test)
    ∙ all_read_back range.lo range.hi (omega arith) high)
