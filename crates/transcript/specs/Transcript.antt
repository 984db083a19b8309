-- What a service writes for its entries.
use Rattle.std.specs.Prelude.{◌≡◌, ℕ, Bool, List, [], ◌∷◌, ◌++◌, if◌then◌else◌}
use Rattle.std.specs.List.{list_any}
use Rattle.transcript.specs.Entry.{Entry}
use Rattle.transcript.specs.Rules.{Rules, IsAnswer}
use Rattle.transcript.specs.Entries.{AreEntries}

-- the entries up to and with the first accepted `quit`
abbrev pub up_to_quit : (Entry → Bool) → List Entry → List Entry
up_to_quit quits [] = []
up_to_quit quits (entry ∷ entries) = if quits entry then entry ∷ [] else entry ∷ up_to_quit quits entries

-- the text is that of the replies to the entries, one after another, from the first state to the last, each an answer in
-- a state that holds
abbrev pub Answers : {S : Type 0} → Rules S → S → List Entry → List ℕ → S → Type 0
Answers rules state [] text next = (text ≡ []) × (next ≡ state)
Answers {S} rules state (entry ∷ entries) text next =
    (reply : List ℕ) × (after : S) × (others : List ℕ)
    × IsAnswer rules state entry reply after × (text ≡ reply ++ others) × Answers rules after entries others next

-- the text is a transcript of the entries of a service that began in this state
pub record Replies {S : Type 0} (rules : Rules S) (first : S) (entries : List Entry) (text : List ℕ) : Type 0 where
  pub last : S
  pub begins : rules.holds first
  pub answers : Answers rules first entries text last

-- a transcript of the bytes, whose end was seen or not; an accepted `quit` is among their entries or not
pub record IsTranscript {S : Type 0} (rules : Rules S) (first : S) (ended quits : Bool) (bytes text : List ℕ) : Type 0
  where
    pub entries : List Entry
    pub are : AreEntries rules.takes_block ended bytes entries
    pub quit : list_any rules.quits entries ≡ quits
    pub replies : Replies rules first (up_to_quit rules.quits entries) text

-- in the text a reply stands at its place that is the answer to this entry, from a state that holds to one that holds
pub record HasReply {S : Type 0} (rules : Rules S) (entry : Entry) (text : List ℕ) : Type 0 where
  pub before : S
  pub after : S
  pub reply : List ℕ
  pub answer : IsAnswer rules before entry reply after
  pub front : List ℕ
  pub rest : List ℕ
  pub stands : text ≡ front ++ reply ++ rest
