-- Numbers in a row: `numbers_from`, tests of them, and the first that passes one.
use Rattle.std.specs.List.{list_all}
use Rattle.std.specs.List.Sorted.{IsStrictlyIncreasing}
use Rattle.std.proofs.lemmas.Bool.{cases_eq, cond-true, cond-false}
use Rattle.std.proofs.lemmas.Bool.Decides.{Decides-by_and}
use Rattle.std.proofs.Common.{◌≡◌, ◌≢◌, ◌⊎◌, inl, inr, ◌↔◌, ℕ, zero, suc, ◌+◌, ◌-◌, ◌<◌, ◌≤◌, length, get_or, Bool, true, false, cond, Decides, ◌∷◌, All, Contains, find, Some, None, refl, sym, ap, subst, ◌∙◌, arith}
use Rattle.integers.specs.Counting.{numbers_from}

-- the numbers from a on are as many as asked for
pub length-numbers_from : (a n : ℕ) → length (numbers_from a n) ≡ n
length-numbers_from a zero = refl
length-numbers_from a (suc n) = ap suc (length-numbers_from (suc a) n)

-- each number from a on, by its place
pub get_or-numbers_from : (a n k d : ℕ) → k < n → get_or (numbers_from a n) k d ≡ a + k
get_or-numbers_from a zero k d h = absurd (omega arith)
get_or-numbers_from a (suc n) zero d h = omega arith
get_or-numbers_from a (suc n) (suc k) d h = get_or-numbers_from (suc a) n k d (omega arith) ∙ omega arith

-- they rise
pub IsStrictlyIncreasing-numbers_from : (a n : ℕ) → IsStrictlyIncreasing (numbers_from a n)
IsStrictlyIncreasing-numbers_from a n k l =
    let below : k + 1 < n = omega (arith, length-numbers_from a n) in
    omega (arith, get_or-numbers_from a n k 0 (omega arith), get_or-numbers_from a n (k + 1) 0 below)

-- each is below the end
pub numbers_from-below : (a n : ℕ) → All (λ x. x < a + n) (numbers_from a n)
numbers_from-below a n k d l =
    let below : k < n = omega (arith, length-numbers_from a n) in
    omega (arith, get_or-numbers_from a n k d below)

-- each number between the first and the end is there
pub Contains-numbers_from : (a n x : ℕ) → a ≤ x → x < a + n → Contains (numbers_from a n) x
Contains-numbers_from a n x l h =
    let k : ℕ = x - a in
    let below : k < n = omega arith in
    (k, omega (arith, length-numbers_from a n), get_or-numbers_from a n k x below ∙ omega arith)

-- the numbers that are left begin with the next one
pub numbers_from-next : (i n : ℕ) → i < n → numbers_from i (n - i) ≡ i ∷ numbers_from (i + 1) (n - (i + 1))
numbers_from-next i n h =
    let size : n - i ≡ suc (n - (i + 1)) = omega arith in
    let more : suc i ≡ i + 1 = omega arith in
    ap (numbers_from i) size ∙ ap (λ k. i ∷ numbers_from k (n - (i + 1))) more

-- ---- tests of all of them

-- what holds of the numbers below n, as a list and one by one
pub All-numbers : (P : ℕ → Type 0) (n : ℕ) → All P (numbers_from 0 n) ↔ ((k : ℕ) → k < n → P k)
All-numbers P n = (
  λ h k below. subst P (get_or-numbers_from 0 n k k below ∙ omega arith) (h k k (subst (λ m. k < m) (sym (length-numbers_from 0 n)) below)),
  λ h k d below. let l : k < n = omega (arith, length-numbers_from 0 n) in subst P (sym (get_or-numbers_from 0 n k d l ∙ omega arith)) (h k l),
)

-- a test of all numbers below n
pub Decides-numbers : (p : ℕ → Bool) (P : ℕ → Type 0) → ((k : ℕ) → Decides (p k) (P k)) → (n : ℕ)
    → Decides (list_all p (numbers_from 0 n)) ((k : ℕ) → k < n → P k)
Decides-numbers p P each n =
    let all = Decides-by_and p P (list_all p) each refl (λ _ _. refl) (numbers_from 0 n) in
    let one = All-numbers P n in
    (λ e. one.0 (all.0 e), λ h. all.1 (one.1 h))

-- ---- the first that passes

-- the number found is in the range and passes
pub find-numbers_some : (p : ℕ → Bool) (a n e : ℕ) → find p (numbers_from a n) ≡ Some e → (a ≤ e) × (e < a + n) × (p e ≡ true)
find-numbers_some p a zero e h = absurd (cc h)
find-numbers_some p a (suc n) e h = step (p a) refl h (find-numbers_some p (suc a) n e)
  where
    step : (b : Bool) → p a ≡ b → cond b (Some a) (find p (numbers_from (suc a) n)) ≡ Some e
        → (find p (numbers_from (suc a) n) ≡ Some e → (suc a ≤ e) × (e < suc a + n) × (p e ≡ true)) → (a ≤ e) × (e < a + suc n) × (p e ≡ true)
    step true t h later = let s : a ≡ e = cc h in (omega arith, omega arith, subst (λ k. p k ≡ true) s t)
    step false t h later = let r = later h in (omega (arith, r.0), omega (arith, r.1), r.2)

-- a number in the range that passes is found where no other number passes
pub find-numbers_is : (p : ℕ → Bool) (a n e : ℕ) → a ≤ e → e < a + n → p e ≡ true → ((f : ℕ) → f < a + n → f ≢ e → p f ≡ false)
    → find p (numbers_from a n) ≡ Some e
find-numbers_is p a zero e low high passes fails = absurd (omega arith)
find-numbers_is p a (suc n) e low high passes fails =
    step (cases_eq a e) (λ apart. find-numbers_is p (suc a) n e (omega arith) (omega arith) passes (λ f l. fails f (omega arith)))
  where
    step : (a ≡ e) ⊎ (a ≢ e) → (a ≢ e → find p (numbers_from (suc a) n) ≡ Some e) → cond (p a) (Some a) (find p (numbers_from (suc a) n)) ≡ Some e
    step (inl s) later = cond-true (p a) (Some a) (find p (numbers_from (suc a) n)) (subst (λ k. p k ≡ true) (sym s) passes) ∙ ap Some s
    step (inr apart) later = cond-false (p a) (Some a) (find p (numbers_from (suc a) n)) (fails a (omega arith) apart) ∙ later apart

-- none is found where none passes
pub find-numbers_none : (p : ℕ → Bool) (a n : ℕ) → ((f : ℕ) → f < a + n → p f ≡ false) → find p (numbers_from a n) ≡ None
find-numbers_none p a zero fails = refl
find-numbers_none p a (suc n) fails =
    cond-false (p a) (Some a) (find p (numbers_from (suc a) n)) (fails a (omega arith)) ∙ find-numbers_none p (suc a) n (λ f l. fails f (omega arith))
