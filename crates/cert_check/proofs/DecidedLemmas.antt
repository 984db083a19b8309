-- Facts of which it is settled whether they hold, and things of which it is settled whether there are any.
use Rattle.std.proofs.Common.{◌≡◌, ◌⊎◌, inl, inr, ℕ, ◌<◌, ◌≤◌, List, [], ◌∷◌, Bool, true, false, ℤ, ◌<ℤ◌, ◌≤ℤ◌, refl, arith}
use Rattle.std.specs.Prelude.{All, bytes_eq}
use Rattle.std.specs.Bool.{Decides}
use Rattle.std.specs.Int.Signed.{clash_ℤ}
use Rattle.std.proofs.lemmas.Bool.{cases_lt}
use Rattle.std.proofs.lemmas.Bool.Decides.{Decides-int_eq, not_from_Decides}
use Rattle.std.proofs.lemmas.Int.{by_lt_z}
use Rattle.std.proofs.lemmas.List.Elements.{All-nil, All-cons, All-head, All-tail}
use Rattle.std.proofs.lemmas.Slice.Eq.{bytes_eq-Decides}
use Rattle.std.specs.Ordering.{int_eq}

-- ---- facts

-- the fact holds, or it doesn't
abbrev pub Decided : Type 0 → Type 0
Decided P = P ⊎ ¬ P

-- by a test
pub decided_by : {P : Type 0} (test : Bool) → Decides test P → Decided P
decided_by true d = inl (d.0 refl)
decided_by false d = inr (not_from_Decides false d refl)

-- both of two facts
pub decided_both : {P Q : Type 0} → Decided P → Decided Q → Decided (P × Q)
decided_both (inl p) (inl q) = inl (p, q)
decided_both (inr not) q = inr (λ both. not both.0)
decided_both (inl p) (inr not) = inr (λ both. not both.1)

-- a fact that is the same as another
pub decided_same : {P Q : Type 0} → (P → Q) → (Q → P) → Decided P → Decided Q
decided_same to back (inl p) = inl (to p)
decided_same to back (inr not) = inr (λ q. not (back q))

-- a fact of each item of a list
pub decided_all : {A : Type 0} (P : A → Type 0) → ((x : A) → Decided (P x)) → (xs : List A) → Decided (All P xs)
decided_all P each [] = inl (All-nil P)
decided_all P each (x ∷ xs) =
    decided_same (λ both. All-cons P x xs both.0 both.1) (λ all. (All-head P x xs all, All-tail P x xs all)) (decided_both (each x) (decided_all P each xs))

-- two numbers
pub decided_less : (a b : ℕ) → Decided (a < b)
decided_less a b = by_order (cases_lt a b)
  where
    by_order : (a < b) ⊎ (b ≤ a) → Decided (a < b)
    by_order (inl less) = inl less
    by_order (inr most) = inr (λ less. omega arith)

-- two whole numbers
pub decided_same_int : (x y : ℤ) → Decided (x ≡ y)
decided_same_int x y = decided_by (int_eq x y) (Decides-int_eq x y)

pub decided_less_int : (x y : ℤ) → Decided (x <ℤ y)
decided_less_int x y = by_lt_z x y inl (λ most. inr (λ less. clash_ℤ less most))

pub decided_most_int : (x y : ℤ) → Decided (x ≤ℤ y)
decided_most_int x y = by_lt_z y x (λ less. inr (λ most. clash_ℤ less most)) inl

-- two texts
pub decided_text : (a b : List ℕ) → Decided (a ≡ b)
decided_text a b = decided_by (bytes_eq a b) (bytes_eq-Decides a b)

-- ---- things

-- there is one, or there is none
abbrev pub OneOrNone : {A : Type 0} → (A → Type 0) → Type 0
OneOrNone {A} Is = ((x : A) × Is x) ⊎ ((x : A) → ¬ Is x)
