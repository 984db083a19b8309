-- What takes, puts and faults do one after another.
use Rattle.std.proofs.Common.{◌≡◌, ◌⊎◌, ℕ, ◌<◌, ◌≤◌, List, [], ◌++◌, Option, None, Some, refl, sym, ap, ◌∙◌, inl, inr, append_assoc, arith}
use Rattle.std.proofs.Math.Nat.{eq-or-lt_of_le}
use Rattle.std.proofs.lemmas.List.{append-nil}
use Rattle.line_io.specs.Outside.{Took, Put, Rose}

-- nothing leaves a source
pub Took-nil : (a : Option (List ℕ)) → Took a a []
Took-nil None = tt
Took-nil (Some xs) = refl

-- what left a source in two takes
pub Took-append : (a b c : Option (List ℕ)) (xs ys : List ℕ) → Took a b xs → Took b c ys → Took a c (xs ++ ys)
Took-append None None None xs ys p q = tt
Took-append None None (Some z) xs ys p q = absurd q
Took-append None (Some y) c xs ys p q = absurd p
Took-append (Some x) None c xs ys p q = absurd p
Took-append (Some x) (Some y) None xs ys p q = absurd q
Took-append (Some x) (Some y) (Some z) xs ys p q = p ∙ ap (λ l. xs ++ l) q ∙ sym (append_assoc xs ys z)

-- where nothing left, what is left is as before
pub Took-same : (a b : Option (List ℕ)) → Took a b [] → b ≡ a
Took-same None None p = refl
Took-same None (Some y) p = absurd p
Took-same (Some x) None p = absurd p
Took-same (Some x) (Some y) p = ap Some (sym p)

-- nothing came into a sink
pub Put-nil : (a : Option (List ℕ)) → Put a a []
Put-nil None = tt
Put-nil (Some xs) = sym (append-nil xs)

-- what came into a sink in two puts
pub Put-append : (a b c : Option (List ℕ)) (xs ys : List ℕ) → Put a b xs → Put b c ys → Put a c (xs ++ ys)
Put-append a b None xs ys p q = tt
Put-append a None (Some z) xs ys p q = absurd q
Put-append None (Some y) (Some z) xs ys p q = absurd p
Put-append (Some x) (Some y) (Some z) xs ys p q = q ∙ ap (λ l. l ++ ys) p ∙ append_assoc x xs ys

-- a count that did not fall and then rose has risen
pub Rose-earlier : (a b c : ℕ) → a ≤ b → Rose b c → Rose a c
Rose-earlier a b c le (inl less) = inl (omega arith)
Rose-earlier a b c le (inr top) = inr top
