-- What `==` tells of lists, rows, problems and certificates: that the two are one.
use Rattle.std.specs.Bool.{Decides}
use Rattle.std.specs.Ordering.{int_eq}
use Rattle.std.specs.Cmp.{signed_Decides, unsigned_Decides}
use Rattle.std.specs.Cmp.Lexicographic.{pointwise, pointwise_decides}
use Rattle.std.specs.Cmp.Rules.{signed_items}
use Rattle.std.proofs.Common.{◌≡◌, Bool, true, false, ◌&&◌, nat_eq, ℕ, ℤ, refl, ap, arith}
use Rattle.frac128.specs.Problem.{ProblemData}
use Rattle.frac128.specs.Equality.{is_same_row, is_same_problem}
use Rattle.frac128.specs.declared.problem.Cert.{Cert}
use Rattle.frac128.specs.declared.problem.Row.{Row}

-- two tests that decide one fact each decide both
pub both_Decides : (a b : Bool) (P Q : Type 0) → Decides a P → Decides b Q → Decides (a && b) (P × Q)
both_Decides true b P Q h k = (λ e. (h.0 refl, k.0 e), λ p. k.1 p.1)
both_Decides false b P Q h k = (λ e. absurd (grind arith), λ p. h.1 p.0)

-- pairs of a position and a number
pair_Decides : (x y : ℕ × ℤ) → Decides (nat_eq x.0 y.0 && int_eq x.1 y.1) (x ≡ y)
pair_Decides x y =
    let h = both_Decides (nat_eq x.0 y.0) (int_eq x.1 y.1) (x.0 ≡ y.0) (x.1 ≡ y.1) (unsigned_Decides x.0 y.0) (signed_Decides x.1 y.1) in
    (λ e. let p = h.0 e in λ i. (p.0 i, p.1 i), λ e. h.1 (ap (λ (z : ℕ × ℤ). z.0) e, ap (λ (z : ℕ × ℤ). z.1) e))

pub row_Decides : (a b : Row) → Decides (is_same_row a b) (a ≡ b)
row_Decides a b =
    let h =
    both_Decides (pointwise int_eq a.coefs b.coefs) (int_eq a.bound b.bound) (a.coefs ≡ b.coefs) (a.bound ≡ b.bound) (signed_items a.coefs b.coefs)
    (signed_Decides a.bound b.bound) in
    (λ e. let p = h.0 e in λ i. record { coefs = p.0 i; bound = p.1 i }, λ e. h.1 (ap (λ (r : Row). r.coefs) e, ap (λ (r : Row). r.bound) e))

pub cert_Decides : (a b : Cert) → Decides (int_eq a.den b.den && pointwise (λ (x y : ℕ × ℤ). nat_eq x.0 y.0 && int_eq x.1 y.1) a.on b.on) (a ≡ b)
cert_Decides a b =
    let h =
    both_Decides (int_eq a.den b.den) (pointwise (λ (x y : ℕ × ℤ). nat_eq x.0 y.0 && int_eq x.1 y.1) a.on b.on) (a.den ≡ b.den) (a.on ≡ b.on)
    (signed_Decides a.den b.den) (pointwise_decides pair_Decides a.on b.on) in
    (λ e. let p = h.0 e in λ i. record { den = p.0 i; on = p.1 i }, λ e. h.1 (ap (λ (c : Cert). c.den) e, ap (λ (c : Cert). c.on) e))

pub problem_Decides : (p q : ProblemData) → Decides (is_same_problem p q) (p ≡ q)
problem_Decides p q =
    let lists =
    both_Decides (pointwise int_eq p.cost q.cost) (pointwise is_same_row p.rows q.rows) (p.cost ≡ q.cost) (p.rows ≡ q.rows) (signed_items p.cost q.cost)
    (pointwise_decides row_Decides p.rows q.rows) in
    let h =
    both_Decides (nat_eq p.vars q.vars) (pointwise int_eq p.cost q.cost && pointwise is_same_row p.rows q.rows) (p.vars ≡ q.vars)
    ((p.cost ≡ q.cost) × (p.rows ≡ q.rows)) (unsigned_Decides p.vars q.vars) lists in (
      λ e. let k = h.0 e in λ i. record { vars = k.0 i; cost = k.1.0 i; rows = k.1.1 i },
      λ e. h.1
          (ap (λ (r : ProblemData). r.vars) e, (ap (λ (r : ProblemData). r.cost) e, ap (λ (r : ProblemData). r.rows) e)),
    )
