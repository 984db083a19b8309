-- The search proves this too, in 12 seconds more.
use borrow.Author.Tests.{eqb-true, eq-eqb}
use mir.Syntax.{w64, w128}
use mir.Val.{SFits, to_z, of_z}
use Rattle.std.proofs.lemmas.Int.{to_z-of_z}
use Rattle.std.proofs.Common.{◌≡◌, ◌↔◌, ℤ, ◌*ℤ◌, IsTrue, nat_eq, sym, ap, ap₂, ◌∙◌}
use Rattle.integers.proofs.is_same_fraction.Goals as goal

-- a comparison of bits is one of the numbers
same_test : (r s x y : ℤ) → SFits w128 r → SFits w128 s → r ≡ x → s ≡ y → IsTrue (nat_eq (of_z w128 r) (of_z w128 s)) ↔ (x ≡ y)
same_test r s x y f g p q = (
  λ t. sym p ∙ sym (to_z-of_z w128 r f) ∙ ap (to_z w128) (eqb-true (of_z w128 r) (of_z w128 s) t) ∙ to_z-of_z w128 s g ∙ q,
  λ e. eq-eqb (of_z w128 r) (of_z w128 s) (ap (of_z w128) (p ∙ e ∙ sym q)),
)

pub returns : goal.returns
returns c =
    let left = c.wide_product.ensures ∙ ap₂ (λ x y. x *ℤ y) (to_z-of_z w64 c.args.a c.ranges.a) (to_z-of_z w64 c.args.d c.ranges.d) in
    let right = c.wide_product-2.ensures ∙ ap₂ (λ x y. x *ℤ y) (to_z-of_z w64 c.args.c c.ranges.c) (to_z-of_z w64 c.args.b c.ranges.b) in
    same_test c.wide_product.result c.wide_product-2.result (c.args.a *ℤ c.args.d) (c.args.c *ℤ c.args.b) (record { sfits = c.wide_product.type_inv })
    (record { sfits = c.wide_product-2.type_inv }) left right
