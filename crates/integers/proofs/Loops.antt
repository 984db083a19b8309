-- Lists that a loop changes place by place, the front done and the rest as it was, or fills piece by piece.
use lib.ListN.{length-append}
use Rattle.std.proofs.lemmas.List.{append_assoc, get_or_default, length-map, length-take, length-drop}
use Rattle.std.proofs.Common.{◌≡◌, ℕ, zero, suc, ◌+◌, ◌-◌, ◌<◌, length, get_or, set, map, take, drop, replicate, List, [], ◌∷◌, ◌++◌, ℤ, pos, ◌-ℤ◌, ◌*ℤ◌, refl, sym, ap, ap₂, ◌∙◌, arith, add-one}
use Rattle.integers.specs.Vector.{row_step}

-- ---- each element to f of it

-- the element at the place is as it was
pub map_front-at : {A : Type 0} (f : A → A) (xs : List A) (i : ℕ) (d : A) → get_or (map f (take i xs) ++ drop i xs) i d ≡ get_or xs i d
map_front-at f [] zero d = refl
map_front-at f [] (suc i) d = refl
map_front-at f (x ∷ xs) zero d = refl
map_front-at f (x ∷ xs) (suc i) d = map_front-at f xs i d

-- the next element is done
pub map_front-set : {A : Type 0} (f : A → A) (xs : List A) (i : ℕ) (d : A) → i < length xs
    → set (map f (take i xs) ++ drop i xs) i (f (get_or xs i d)) ≡ map f (take (suc i) xs) ++ drop (suc i) xs
map_front-set f [] i d h = absurd (omega arith)
map_front-set f (x ∷ xs) zero d h = refl
map_front-set f (x ∷ xs) (suc i) d h = ap (λ l. f x ∷ l) (map_front-set f xs i d (omega arith))

-- a loop's step: the element read at the place is f's argument
pub map_front-next : {A : Type 0} (f : A → A) (xs now : List A) (i : ℕ) (x y : A) → i < length xs → now ≡ map f (take i xs) ++ drop i xs → x ≡ get_or now i x
    → y ≡ f x → set now i y ≡ map f (take (i + 1) xs) ++ drop (i + 1) xs
map_front-next f xs now i x y h is read done =
    let was : x ≡ get_or xs i x = read ∙ ap (λ l. get_or l i x) is ∙ map_front-at f xs i x in
    ap₂ (λ l z. set l i z) is (done ∙ ap f was) ∙ map_front-set f xs i x h ∙ ap (λ n. map f (take n xs) ++ drop n xs) (sym (add-one i))

-- as many elements as before
pub map_front-length : {A : Type 0} (f : A → A) (xs now : List A) (i : ℕ) → now ≡ map f (take i xs) ++ drop i xs → length now ≡ length xs
map_front-length f xs now i is =
    ap length is ∙ length-append (map f (take i xs)) (drop i xs) ∙ omega (arith, length-map (take i xs) f, length-take i xs, length-drop i xs)

-- the element read is the one that was there
pub map_front-was : {A : Type 0} (f : A → A) (xs now : List A) (i : ℕ) (d : A) → now ≡ map f (take i xs) ++ drop i xs → get_or now i d ≡ get_or xs i d
map_front-was f xs now i d is = ap (λ l. get_or l i d) is ∙ map_front-at f xs i d

-- the next element is done
pub map_front-done : {A : Type 0} (f : A → A) (xs now : List A) (i : ℕ) (d : A) → i < length xs → now ≡ map f (take i xs) ++ drop i xs
    → set now i (f (get_or now i d)) ≡ map f (take (i + 1) xs) ++ drop (i + 1) xs
map_front-done f xs now i d h is =
    ap₂ (λ l z. set l i (f z)) is (map_front-was f xs now i d is) ∙ map_front-set f xs i d h ∙ ap (λ n. map f (take n xs) ++ drop n xs) (sym (add-one i))

-- ---- a row step

-- the number at the place is as it was
pub step_front-at : (p q : ℤ) (xs ys : List ℤ) (i : ℕ) → i < length xs → i < length ys
    → get_or (row_step p q (take i xs) (take i ys) ++ drop i xs) i (pos 0) ≡ get_or xs i (pos 0)
step_front-at p q xs [] i h k = absurd (omega arith)
step_front-at p q (x ∷ xs) (y ∷ ys) zero h k = refl
step_front-at p q [] (y ∷ ys) i h k = absurd (omega arith)
step_front-at p q (x ∷ xs) (y ∷ ys) (suc i) h k = step_front-at p q xs ys i (omega arith) (omega arith)

-- the next number is done
pub step_front-set : (p q : ℤ) (xs ys : List ℤ) (i : ℕ) → i < length xs → i < length ys
    → set (row_step p q (take i xs) (take i ys) ++ drop i xs) i (p *ℤ get_or xs i (pos 0) -ℤ q *ℤ get_or ys i (pos 0))
    ≡ row_step p q (take (suc i) xs) (take (suc i) ys) ++ drop (suc i) xs
step_front-set p q [] ys i h k = absurd (omega arith)
step_front-set p q (x ∷ xs) [] i h k = absurd (omega arith)
step_front-set p q (x ∷ xs) (y ∷ ys) zero h k = refl
step_front-set p q (x ∷ xs) (y ∷ ys) (suc i) h k = ap (λ l. (p *ℤ x -ℤ q *ℤ y) ∷ l) (step_front-set p q xs ys i (omega arith) (omega arith))

-- the number read is the one that was there
pub step_front-was : (p q : ℤ) (xs ys now : List ℤ) (i : ℕ) (x : ℤ) → i < length now → i < length xs → i < length ys
    → now ≡ row_step p q (take i xs) (take i ys) ++ drop i xs → x ≡ get_or now i x → x ≡ get_or xs i (pos 0)
step_front-was p q xs ys now i x l h k is read = read ∙ get_or_default now i x (pos 0) l ∙ ap (λ l. get_or l i (pos 0)) is ∙ step_front-at p q xs ys i h k

-- a loop's step: the numbers read at the place
pub step_front-next : (p q : ℤ) (xs ys now : List ℤ) (i : ℕ) (x y z : ℤ) → i < length now → i < length xs → i < length ys
    → now ≡ row_step p q (take i xs) (take i ys) ++ drop i xs → x ≡ get_or now i x → y ≡ get_or ys i y → z ≡ p *ℤ x -ℤ q *ℤ y
    → set now i z ≡ row_step p q (take (i + 1) xs) (take (i + 1) ys) ++ drop (i + 1) xs
step_front-next p q xs ys now i x y z l h k is read other done =
    ap₂ (λ l w. set l i w) is (done ∙ ap₂ (λ a b. p *ℤ a -ℤ q *ℤ b) (step_front-was p q xs ys now i x l h k is read) (other ∙ get_or_default ys i y (pos 0) k))
    ∙ step_front-set p q xs ys i h k ∙ ap (λ n. row_step p q (take n xs) (take n ys) ++ drop n xs) (sym (add-one i))

-- ---- lists that are filled

-- the copies that are left begin with one
pub replicate-next : {A : Type 0} (i n : ℕ) (x : A) → i < n → replicate (n - i) x ≡ x ∷ replicate (n - (i + 1)) x
replicate-next i n x h =
    let size : n - i ≡ suc (n - (i + 1)) = omega arith in
    ap (λ k. replicate k x) size

-- one item more, and the rest
pub push_next : {A : Type 0} (done all rest more now : List A) (x : A) → done ++ rest ≡ all → rest ≡ x ∷ more → now ≡ done ++ x ∷ [] → now ++ more ≡ all
push_next done all rest more now x is first made = ap (λ l. l ++ more) made ∙ append_assoc done (x ∷ []) more ∙ ap (λ l. done ++ l) (sym first) ∙ is

-- one piece more, and the rest
pub join_next : {A : Type 0} (done all rest more now row : List A) → done ++ rest ≡ all → rest ≡ row ++ more → now ≡ done ++ row → now ++ more ≡ all
join_next done all rest more now row is first made = ap (λ l. l ++ more) made ∙ append_assoc done row more ∙ ap (λ l. done ++ l) (sym first) ∙ is
