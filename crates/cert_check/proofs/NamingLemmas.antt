-- Entries by tags and by positions, one by one.
use Rattle.std.proofs.Common.{◌≡◌, ℕ, zero, suc, ◌<◌, length, get_or, map, List, [], ◌∷◌, ◌++◌, ℤ, pos, All, sym, ap, ap₂, subst, ◌∙◌, arith}
use Rattle.std.specs.Prelude.{Option, Some, None, slice_get, slice_index_or, Contains, filter, nat_lt, nat_le, ◌==◌}
use Rattle.std.proofs.lemmas.List.Elements.{All-nil, All-cons, All-append}
use Rattle.std.proofs.lemmas.List.{map-append, length-map, get_or-map}
use Rattle.std.proofs.lemmas.Simd.{map-map}
use Rattle.std.proofs.lemmas.Option.{get_or_from_slice_get, slice_get_within}
use Rattle.judgement_matrix.specs.Matrix.{Judgements, pairs, range_at}
use Rattle.judgement_matrix.specs.Rows.{lower_rows, zero_rows, cross_rows, cross_rows_of, cross_rows_under}
use Rattle.judgement_matrix.specs.declared.tag.Tag.{Tag}
use Rattle.judgement_matrix.specs.declared.tag.Tag.TheVariants.{Lower, Zero, Cross, Order}
use Rattle.lp_macbeth.specs.Rows.{judged_rows}
use Rattle.cert_check.specs.Rows.{AreNamed, AreRows, by_tag, by_place}
use Rattle.cert_check.specs.Text.{HasTagText}

-- equal in both parts
same_entry : (s t : Option Tag) (y z : ℤ) → s ≡ t → y ≡ z → ◌≡◌ {A = Option Tag × ℤ} (s, y) (t, z)
same_entry s t y z h k = λ i. (h i, k i)

-- one more entry in both writings
pub AreNamed-next : (m : Judgements) (named : List (Tag × ℤ)) (placed : List (ℕ × ℤ)) (a : Tag × ℤ) (b : ℕ × ℤ) → slice_get (judged_rows m) b.0 ≡ Some a.0
    → b.1 ≡ a.1
    → AreNamed m named placed → AreNamed m (named ++ a ∷ []) (placed ++ b ∷ [])
AreNamed-next m named placed a b tag multiplier h =
    map-append (by_place m) placed (b ∷ [])
    ∙ ap₂ (λ (l : List (Option Tag × ℤ)) (e : Option Tag × ℤ). l ++ e ∷ []) h (same_entry (slice_get (judged_rows m) b.0) (Some a.0) b.1 a.1 tag multiplier)
    ∙ sym (map-append by_tag named (a ∷ []))

-- a tag that stands at a place
pub Contains-at : (tags : List Tag) (k : ℕ) (tag : Tag) → slice_get tags k ≡ Some tag → Contains tags tag
Contains-at tags k tag h = (k, slice_get_within tags k tag h, get_or_from_slice_get tags k tag tag h)

-- what has a tag stands on a row

first_tag : List (Option Tag × ℤ) → Option Tag
first_tag [] = None
first_tag (e ∷ es) = e.0

others : List (Option Tag × ℤ) → List (Option Tag × ℤ)
others [] = []
others (e ∷ es) = es

on_row : (m : Judgements) (named : List (Tag × ℤ)) (placed : List (ℕ × ℤ)) → AreNamed m named placed
    → (k : ℕ) (d : ℕ × ℤ) → k < length placed → (slice_index_or placed k d).0 < length (judged_rows m)
unfolding first_tag others
on_row m named [] h k d below = absurd (omega arith)
on_row m [] (p ∷ placed) h k d below = cc
on_row m (t ∷ named) (p ∷ placed) h zero d below = slice_get_within (judged_rows m) p.0 t.0 (ap first_tag h)
on_row m (t ∷ named) (p ∷ placed) h (suc k) d below = on_row m named placed (ap others h) k d (omega arith)

pub AreRows-named : (m : Judgements) (named : List (Tag × ℤ)) (placed : List (ℕ × ℤ)) → AreNamed m named placed → AreRows m placed
AreRows-named m named placed h = on_row m named placed h

-- ---- the tags of entries

-- their positions are those of rows
pub All-positions : (m : Judgements) (placed : List (ℕ × ℤ)) (positions : List ℕ) → positions ≡ map (λ (e : ℕ × ℤ). e.0) placed → AreRows m placed
    → All (λ i. i < length (judged_rows m)) positions
All-positions m placed positions are h k d below =
    let inside : k < length placed = omega (arith, ap length are, length-map placed (λ (e : ℕ × ℤ). e.0)) in
    subst (λ i. i < length (judged_rows m))
    (sym (ap (λ l. get_or l k d) are ∙ get_or-map (λ (e : ℕ × ℤ). e.0) placed k (0, pos 0) d inside)) (h k (0, pos 0) inside)

-- the rows at their positions
pub rows_at : (rows : List Tag) (placed : List (ℕ × ℤ)) (positions : List ℕ) → positions ≡ map (λ (e : ℕ × ℤ). e.0) placed
    → map (slice_get rows) positions ≡ map (λ (e : ℕ × ℤ). slice_get rows e.0) placed
rows_at rows placed positions are = ap (map (slice_get rows)) are ∙ map-map (slice_get rows) (λ (e : ℕ × ℤ). e.0) placed

-- the tag of one
pub tag_of_entry : (m : Judgements) (tags : List Tag) (placed : List (ℕ × ℤ)) (i : ℕ) (d : Tag)
    → map Some tags ≡ map (λ (e : ℕ × ℤ). slice_get (judged_rows m) e.0) placed → i < length placed
    → slice_get (judged_rows m) (get_or placed i (0, pos 0)).0 ≡ Some (get_or tags i d)
tag_of_entry m tags placed i d is inside =
    let many : length tags ≡ length placed =
    sym (length-map tags (λ tag. Some tag)) ∙ ap length is ∙ length-map placed (λ (e : ℕ × ℤ). slice_get (judged_rows m) e.0) in
    let here : i < length tags = omega arith in
    sym (get_or-map (λ (e : ℕ × ℤ). slice_get (judged_rows m) e.0) placed i (0, pos 0) None inside)
    ∙ ap (λ l. get_or l i None) (sym is) ∙ get_or-map (λ tag. Some tag) tags i d None here

-- ---- tags of rows that a text may hold

abbrev HaveText : List Tag → Type 0
HaveText tags = All HasTagText tags

lowers : (ps : List (ℕ × ℕ)) → HaveText (map (λ pair. Lower pair.0 pair.1) ps)
lowers [] = All-nil HasTagText
lowers (p ∷ ps) = All-cons HasTagText (Lower p.0 p.1) (map (λ pair. Lower pair.0 pair.1) ps) tt (lowers ps)

zeros : (ps : List (ℕ × ℕ)) → HaveText (map (λ pair. Zero pair.0 pair.1) ps)
zeros [] = All-nil HasTagText
zeros (p ∷ ps) = All-cons HasTagText (Zero p.0 p.1) (map (λ pair. Zero pair.0 pair.1) ps) tt (zeros ps)

crosses_under : (left : ℕ × ℕ) (ps : List (ℕ × ℕ)) → HaveText (map (λ right. Cross left.0 left.1 right.0 right.1) ps)
crosses_under left [] = All-nil HasTagText
crosses_under left (p ∷ ps) =
    All-cons HasTagText (Cross left.0 left.1 p.0 p.1) (map (λ right. Cross left.0 left.1 right.0 right.1) ps) tt (crosses_under left ps)

crosses : (m : Judgements) (lefts rights : List (ℕ × ℕ)) → HaveText (cross_rows_of m lefts rights)
crosses m [] rights = All-nil HasTagText
crosses m (left ∷ lefts) rights =
    All-append HasTagText (cross_rows_under m left rights) (cross_rows_of m lefts rights)
    (crosses_under left (filter (λ right. nat_lt (range_at m right.0 right.1).hi (range_at m left.0 left.1).lo) rights)) (crosses m lefts rights)

judged : (m : Judgements) → HaveText (judged_rows m)
judged m =
    All-append HasTagText (lower_rows m ++ zero_rows m) (cross_rows m)
    (All-append HasTagText (lower_rows m) (zero_rows m) (lowers (filter (λ pair. nat_le 1 (range_at m pair.0 pair.1).lo) (pairs m.size)))
    (zeros (filter (λ pair. (range_at m pair.0 pair.1).hi == 0) (pairs m.size))))
    (crosses m (pairs m.size) (pairs m.size))

-- the tag at a place
text_at : (tags : List Tag) (k : ℕ) (tag : Tag) → HaveText tags → slice_get tags k ≡ Some tag → HasTagText tag
text_at tags k tag h at =
    subst HasTagText (get_or_from_slice_get tags k tag (Order 0) at) (h k (Order 0) (slice_get_within tags k tag at))

pub named_texts : (m : Judgements) (named : List (Tag × ℤ)) (placed : List (ℕ × ℤ)) → AreNamed m named placed
    → All (λ (e : Tag × ℤ). HasTagText e.0) named
named_texts m [] placed h = All-nil (λ (e : Tag × ℤ). HasTagText e.0)
named_texts m (e ∷ named) [] h = absurd (cc)
named_texts m (e ∷ named) (p ∷ placed) h =
    let first : ◌≡◌ {A = Option Tag × ℤ} (by_place m p) (by_tag e) = cc in
    let rest : map (by_place m) placed ≡ map by_tag named = cc in
    let tag : slice_get (judged_rows m) p.0 ≡ Some e.0 = ap (λ (x : Option Tag × ℤ). x.0) first in
    All-cons (λ (x : Tag × ℤ). HasTagText x.0) e named (text_at (judged_rows m) p.0 e.0 (judged m) tag) (named_texts m named placed rest)
