-- Loops that fill a list as they go over another one: a step, and the end.
use Rattle.std.proofs.Common.{◌≡◌, ℕ, ◌+◌, ◌-◌, ◌<◌, ◌≤◌, List, [], ◌∷◌, ◌++◌, length, get_or, take, drop, map, replicate, All, append-nil, sym, ap, ap₂, subst, ◌∙◌, arith, add-one}
use Rattle.std.proofs.Math.Seq.{drop-cons}
use Rattle.std.proofs.lemmas.List.{append_assoc, at_drop_all, take_all}
use Rattle.std.proofs.lemmas.List.Elements.{All-append, All-cons, All-nil}
use Rattle.integers.proofs.Loops.{push_next, join_next}

-- what is left begins with the item at the place
pub rest_next : {A : Type 0} (xs : List A) (i : ℕ) (d : A) → i < length xs → drop i xs ≡ get_or xs i d ∷ drop (i + 1) xs
rest_next xs i d below = drop-cons xs i d below ∙ ap (λ k. get_or xs i d ∷ drop k xs) (sym (add-one i))

-- the same for an item that was read
pub rest_item : {A : Type 0} (xs : List A) (i : ℕ) (x : A) → i < length xs → x ≡ get_or xs i x → drop i xs ≡ x ∷ drop (i + 1) xs
rest_item xs i x below read = rest_next xs i x below ∙ ap (λ y. y ∷ drop (i + 1) xs) (sym read)

-- an item for each: one more
pub map_next : {A B : Type 0} (f : A → B) (xs : List A) (i : ℕ) (d : A) (done all now : List B) (y : B) → i < length xs
    → done ++ map f (drop i xs) ≡ all → y ≡ f (get_or xs i d) → now ≡ done ++ y ∷ [] → now ++ map f (drop (i + 1) xs) ≡ all
map_next f xs i d done all now y below so_far is made =
    push_next done all (map f (drop i xs)) (map f (drop (i + 1) xs)) now y so_far
    (ap (map f) (rest_next xs i d below) ∙ ap (λ z. z ∷ map f (drop (i + 1) xs)) (sym is)) made

-- some items for each: one piece more
pub piece_next : {A B : Type 0} (f : List A → List B) → ((ps qs : List A) → f (ps ++ qs) ≡ f ps ++ f qs) → (xs : List A) (i : ℕ) (d : A) (done all now : List B)
    → i < length xs → done ++ f (drop i xs) ≡ all → now ≡ done ++ f (get_or xs i d ∷ []) → now ++ f (drop (i + 1) xs) ≡ all
piece_next f joins xs i d done all now below so_far made =
    join_next done all (f (drop i xs)) (f (drop (i + 1) xs)) now (f (get_or xs i d ∷ [])) so_far
    (ap f (rest_next xs i d below) ∙ joins (get_or xs i d ∷ []) (drop (i + 1) xs)) made

-- nothing is left
pub all_done : {A B : Type 0} (f : List A → List B) (xs : List A) (i : ℕ) (done all : List B) → f [] ≡ [] → length xs ≤ i
    → done ++ f (drop i xs) ≡ all → done ≡ all
all_done f xs i done all none past so_far =
    sym (append-nil done) ∙ ap (λ l. done ++ l) (sym none ∙ sym (at_drop_all f xs i past)) ∙ so_far

-- what holds of all and of one more
pub All-more : {A : Type 0} (P : A → Type 0) (done now : List A) (x : A) → All P done → P x → now ≡ done ++ x ∷ [] → All P now
All-more P done now x all one made = subst (All P) (sym made) (All-append P done (x ∷ []) all (All-cons P x [] one (All-nil P)))

-- all are done
pub taken_all : {A B : Type 0} (f : List A → B) (xs : List A) (i : ℕ) (now : B) → length xs ≤ i → now ≡ f (take i xs) → now ≡ f xs
taken_all f xs i now past so_far = so_far ∙ ap f (take_all i xs past)

-- as many copies as are left
pub copies_done : {A : Type 0} (i n : ℕ) (x : A) (done all : List A) → n ≤ i → done ++ replicate (n - i) x ≡ all → done ≡ all
copies_done i n x done all past so_far =
    let none : n - i ≡ 0 = omega arith in
    sym (append-nil done) ∙ ap (λ k. done ++ replicate k x) (sym none) ∙ so_far

-- two more items
pub two_more : {A : Type 0} (done one two : List A) (x y a b : A) → one ≡ done ++ x ∷ [] → two ≡ one ++ y ∷ [] → x ≡ a → y ≡ b → two ≡ done ++ a ∷ b ∷ []
two_more done one two x y a b first second x_is y_is =
    second ∙ ap (λ l. l ++ y ∷ []) first ∙ append_assoc done (x ∷ []) (y ∷ []) ∙ ap₂ (λ u v. done ++ u ∷ v ∷ []) x_is y_is
