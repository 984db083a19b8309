-- Replies to entries, one after another.
use Rattle.std.proofs.Common.{◌≡◌, ℕ, zero, suc, Option, Some, None, slice_get, subst, Bool, true, false, ◌||◌, cond, List, [], ◌∷◌, ◌++◌, length, take, refl, sym, ap, ◌∙◌, append_assoc}
use Rattle.std.specs.List.{list_any}
use Rattle.std.proofs.lemmas.Bool.{true≢false}
use Rattle.std.proofs.lemmas.List.{append-nil, take_at}
use Rattle.std.proofs.lemmas.List.Folds.{list_any-append}
use Rattle.transcript.specs.Entry.{Entry}
use Rattle.transcript.specs.Rules.{Rules, IsAnswer, IsKept, IsTotal}
use Rattle.transcript.specs.Transcript.{up_to_quit, Answers, HasReply}

no_quit_parts : (a b : Bool) → (a || b) ≡ false → (a ≡ false) × (b ≡ false)
no_quit_parts true b h = absurd (true≢false h)
no_quit_parts false b h = (refl, h)

module _ {S : Type 0} (rules : Rules S) where
  -- the answers to entries, and to those behind them
  pub Answers-append : (state mid next : S) (xs ys : List Entry) (s t : List ℕ) → Answers rules state xs s mid → Answers rules mid ys t next
      → Answers rules state (xs ++ ys) (s ++ t) next
  Answers-append state mid next [] ys s t (none, same) h = rw (none, ← same) h
  Answers-append state mid next (x ∷ xs) ys s t (reply, after, others, answer, is, rest) h =
      (reply, after, others ++ t, answer, ap (λ (u : List ℕ). u ++ t) is ∙ append_assoc reply others t, Answers-append after mid next xs ys others t rest h)

  -- the answer to one entry
  pub Answers-one : (state next : S) (entry : Entry) (reply : List ℕ) → IsAnswer rules state entry reply next → Answers rules state (entry ∷ []) reply next
  Answers-one state next entry reply answer = (reply, next, [], answer, sym (append-nil reply), (refl, refl))

  -- some answers to the entries
  pub record Some_answers (state : S) (entries : List Entry) : Type 0 where
    pub text : List ℕ
    pub next : S
    pub answers : Answers rules state entries text next

  -- an answer in a state that holds
  pub answered : IsKept rules → (state next : S) (entry : Entry) (text : List ℕ) → rules.holds state → rules.answers state entry text next
      → IsAnswer rules state entry text next
  answered keeps state next entry text holds answer =
      record { before = holds; answer = answer; after = keeps state next entry text holds answer }

  -- in a state that holds there always are some
  pub answers_exist : IsKept rules → IsTotal rules → (state : S) (entries : List Entry) → rules.holds state → Some_answers state entries
  answers_exist keeps total state [] holds = record { text = []; next = state; answers = (refl, refl) }
  answers_exist keeps total state (entry ∷ entries) holds =
      let a = total state entry holds in
      let is = answered keeps state a.1 entry a.0 holds a.2 in
      let h = answers_exist keeps total a.1 entries is.after in
      record { text = a.0 ++ h.text; next = h.next; answers = (a.0, a.1, h.text, is, refl, h.answers) }

module _ (quits : Entry → Bool) where
  -- where none of the first entries is `quit`, they all come before it
  pub up_to_quit-append : (xs ys : List Entry) → list_any quits xs ≡ false → up_to_quit quits (xs ++ ys) ≡ xs ++ up_to_quit quits ys
  up_to_quit-append [] ys none = refl
  up_to_quit-append (x ∷ xs) ys none =
      let h = no_quit_parts (quits x) (list_any quits xs) none in
      rw h.0 (ap (λ (t : List Entry). x ∷ t) (up_to_quit-append xs ys h.1))

  pub up_to_quit-all : (xs : List Entry) → list_any quits xs ≡ false → up_to_quit quits xs ≡ xs
  up_to_quit-all xs none = ap (up_to_quit quits) (sym (append-nil xs)) ∙ up_to_quit-append xs [] none ∙ append-nil xs

  -- the first `quit` ends the entries
  pub up_to_quit-quit : (xs : List Entry) (x : Entry) (ys : List Entry) → list_any quits xs ≡ false → quits x ≡ true
      → up_to_quit quits (xs ++ x ∷ [] ++ ys) ≡ xs ++ x ∷ []
  up_to_quit-quit xs x ys none quit =
      ap (up_to_quit quits) (append_assoc xs (x ∷ []) ys) ∙ up_to_quit-append xs (x ∷ ys) none ∙ ap (λ (t : List Entry). xs ++ t) (rw quit refl)

  pub has_quit-push : (xs : List Entry) (x : Entry) → list_any quits xs ≡ false → quits x ≡ false → list_any quits (xs ++ x ∷ []) ≡ false
  has_quit-push xs x none other = list_any-append quits xs (x ∷ []) ∙ rw (none, other) refl

  pub has_quit-found : (xs : List Entry) (x : Entry) (ys : List Entry) → list_any quits xs ≡ false → quits x ≡ true → list_any quits (xs ++ x ∷ [] ++ ys) ≡ true
  has_quit-found xs x ys none quit =
      ap (list_any quits) (append_assoc xs (x ∷ []) ys) ∙ list_any-append quits xs (x ∷ ys) ∙ rw (none, quit) refl

  -- the entries that were answered are the first
  pub take_answered : (xs ys : List Entry) → list_any quits xs ≡ false → take (length xs) (up_to_quit quits (xs ++ ys)) ≡ xs
  take_answered xs ys none = ap (take (length xs)) (up_to_quit-append xs ys none) ∙ take_at xs (up_to_quit quits ys) (length xs) refl

  -- the first entry of some is answered, and those behind it up to `quit`
  abbrev pub behind : Entry → List Entry → List Entry
  behind entry more = cond (quits entry) [] (up_to_quit quits more)

  pub up_to_quit-cons : (entry : Entry) (more : List Entry) → up_to_quit quits (entry ∷ more) ≡ entry ∷ behind entry more
  up_to_quit-cons entry more = elim (quits entry) as
      (λ (b : Bool). cond b (entry ∷ []) (entry ∷ up_to_quit quits more) ≡ entry ∷ cond b [] (up_to_quit quits more)) [ true ↦ refl | false ↦ refl ]

-- each entry that was answered has its reply
pub has_reply : {S : Type 0} (rules : Rules S) (state next : S) (entries : List Entry) (text : List ℕ) (k : ℕ) (entry : Entry)
    → Answers rules state entries text next → slice_get entries k ≡ Some entry → HasReply rules entry text
has_reply rules state next [] text zero entry answers at = absurd (let e = at in cc)
has_reply rules state next [] text (suc k) entry answers at = absurd (let e = at in cc)
has_reply rules state next (x ∷ entries) text zero entry (reply, after, others, answer, is, rest) at =
    let same : x ≡ entry = cc in record {
      before = state;
      after = after;
      reply = reply;
      answer = subst (λ e. IsAnswer rules state e reply after) same answer;
      front = [];
      rest = others;
      stands = is;
    }
has_reply rules state next (x ∷ entries) text (suc k) entry (reply, after, others, answer, is, rest) at =
    let h = has_reply rules after next entries others k entry rest at in record {
      before = h.before;
      after = h.after;
      reply = h.reply;
      answer = h.answer;
      front = reply ++ h.front;
      rest = h.rest;
      stands = is ∙ ap (λ (t : List ℕ). reply ++ t) h.stands ∙ sym (append_assoc reply (h.front ++ h.reply) h.rest)
          ∙ ap (λ (t : List ℕ). t ++ h.rest) (sym (append_assoc reply h.front h.reply));
    }
