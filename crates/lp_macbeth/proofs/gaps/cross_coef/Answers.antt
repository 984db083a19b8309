use Rattle.std.proofs.Common.{◌≡◌, rules}
use Rattle.lp_macbeth.proofs.CoefLemmas.{cross_coef, same_bits, upper_bit, lower_bit}
use Rattle.lp_macbeth.proofs.gaps.cross_coef.Goals as goal

pub returns-then-above-below : goal.returns-then-above-below
returns-then-above-below c =
    let a = c.args in
    let same : c.is_between-above.result ≡ c.is_between-below.result = search rules in
    cross_coef a.n a.left.0 a.left.1 a.right.0 a.right.1 a.place c.is_between-above.result c.is_between-below.result
    c.requires.left c.requires.right c.is_between-above.ensures c.is_between-below.ensures _ (same_bits _ _ same)

pub returns-then-above : goal.returns-then-above
returns-then-above c =
    let a = c.args in
    let apart : ¬ (c.is_between-above.result ≡ c.is_between-below.result) = search rules in
    cross_coef a.n a.left.0 a.left.1 a.right.0 a.right.1 a.place c.is_between-above.result c.is_between-below.result
    c.requires.left c.requires.right c.is_between-above.ensures c.is_between-below.ensures _ (upper_bit _ _ apart c.if-above.true)

pub returns-else-above : goal.returns-else-above
returns-else-above c =
    let a = c.args in
    let apart : ¬ (c.is_between-above.result ≡ c.is_between-below.result) = search rules in
    cross_coef a.n a.left.0 a.left.1 a.right.0 a.right.1 a.place c.is_between-above.result c.is_between-below.result
    c.requires.left c.requires.right c.is_between-above.ensures c.is_between-below.ensures _ (lower_bit _ _ apart c.if-above.false)
