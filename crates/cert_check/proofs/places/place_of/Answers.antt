use Rattle.std.proofs.Common.{◌≡◌, ◌<◌, ◌≤◌, ℕ, length, get_or, true, false, subst, rules, arith}
use Rattle.judgement_matrix.specs.declared.tag.Tag.TheVariants.{Lower}
use Rattle.cert_check.specs.Places.{rank, is_same_tag}
use Rattle.cert_check.proofs.PlaceLemmas.{place-found, place-missing}
use Rattle.cert_check.proofs.places.place_of.Goals.{else-place-tags-via-then-place-tags+else-is_same_tag, else-place-tags-via-else-place-tags}
use Rattle.cert_check.proofs.places.place_of.Goals as goal

pub returns-then-is_same_tag : goal.returns-then-is_same_tag
returns-then-is_same_tag c =
    let tags = c.args.tags.now in
    let i = c.below-place.result in
    let lower = subst (λ n. (k : ℕ) → k < i → rank (get_or tags k (Lower 0 0)) < n) c.rank.ensures c.below-place.ensures.below in
    let here : is_same_tag c.args.tag (get_or tags i (Lower 0 0)) ≡ true = search rules in
    place-found tags c.args.tag i c.if-place-tags.true lower here

pub returns : goal.returns
returns c =
    let tags = c.args.tags.now in
    let i = c.below-place.result in
    let lower = subst (λ n. (k : ℕ) → k < i → rank (get_or tags k (Lower 0 0)) < n) c.rank.ensures c.below-place.ensures.below in
    let higher = subst (λ n. (k : ℕ) → i ≤ k → k < length tags → n ≤ rank (get_or tags k (Lower 0 0))) c.rank.ensures c.below-place.ensures.rest in
    place-missing tags c.args.tag i c.requires lower higher
    (elim c.else-place-tags.branch [
      | else-place-tags-via-then-place-tags+else-is_same_tag w ↦ (
          let other : is_same_tag c.args.tag (get_or tags i (Lower 0 0)) ≡ false = search rules in
          λ _. other)
      | else-place-tags-via-else-place-tags w ↦ λ l. absurd (omega (arith, l, w.if-place-tags.false))
    ])
