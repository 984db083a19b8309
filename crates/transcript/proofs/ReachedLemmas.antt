-- How far a run has come after some turns.
use Rattle.std.proofs.Common.{◌≡◌, ℕ, ◌+◌, ◌-◌, ◌^◌, ◌<◌, ◌≤◌, Bool, true, false, List, [], ◌∷◌, ◌++◌, length, Option, None, refl, sym, ap, ◌∙◌, subst, length-append, arith}
use Rattle.std.specs.List.{list_any}
use Rattle.std.proofs.lemmas.Bool.{true≢false}
use Rattle.line_io.proofs.OutsideLemmas.{Took-nil, Took-append, Took-same, Put-nil, Put-append}
use Rattle.transcript.specs.Entry.{Entry}
use Rattle.transcript.specs.Rules.{Rules, IsKept}
use Rattle.transcript.specs.Reading.{Position}
use Rattle.transcript.specs.Transcript.{Answers}
use Rattle.line_io.specs.Lines.{Progress, start, Takes}
use Rattle.line_io.specs.Outside.{Change, change, Took, Put, IsAtEnd}
use Rattle.transcript.specs.Turn.{Turns}
use Rattle.transcript.specs.declared.turn.Turn.TheVariants.{Goes}
use Rattle.transcript.proofs.EntriesLemmas.{IsRead, reads_none, reads_more}
use Rattle.transcript.proofs.TranscriptLemmas.{Answers-append, Answers-one, answered, has_quit-push}

-- the end was seen by a take at the end, before the limit
abbrev pub EndsRightly : Progress → Option (List ℕ) → Type 0
EndsRightly p left = p.ended ≡ true → IsAtEnd left × (p.taken < 2 ^ 30)

-- what was taken and written so far, the entries that it gave, and their answers
pub record Reached {S : Type 0} (rules : Rules S) (first : S) (source sink : Change) (p : Position) (state : S) : Type 0 where
  pub bytes : List ℕ
  pub text : List ℕ
  pub entries : List Entry
  pub took : Took source.told_old source.told_new bytes
  pub put : Put sink.told_old sink.told_new text
  pub read : IsRead rules.takes_block p.progress.ended bytes entries p.progress.in_hand
  pub counted : p.progress.taken ≡ length bytes
  pub no_fault : p.fault ≡ None
  pub no_quit : list_any rules.quits entries ≡ false
  pub begins : rules.holds first
  pub holds : rules.holds state
  pub answers : Answers rules first entries text state
  pub ends : EndsRightly p.progress source.told_new
  pub source_faults : source.faults_old ≤ source.faults_new
  pub sink_faults : sink.faults_old ≤ sink.faults_new

pub reached_start : {S : Type 0} (rules : Rules S) (first : S) (left : Option (List ℕ)) (m : ℕ) (held : Option (List ℕ)) (n : ℕ) (p : Position) (s : S)
    → p.progress ≡ start → p.fault ≡ None → s ≡ first → rules.holds first
    → Reached rules first (change left left m m) (change held held n n) p s
reached_start rules first left m held n p s begins none is_first holds = record {
  bytes = [];
  text = [];
  entries = [];
  took = Took-nil left;
  put = Put-nil held;
  read = rw begins (reads_none rules.takes_block);
  counted = ap (λ (q : Progress). q.taken) begins;
  no_fault = none;
  no_quit = refl;
  begins = holds;
  holds = subst rules.holds (sym is_first) holds;
  answers = (refl, is_first);
  ends = λ e. absurd (true≢false (sym e ∙ ap (λ (q : Progress). q.ended) begins));
  source_faults = omega arith;
  sink_faults = omega arith;
}

-- a call that goes on from where the end was seen rightly
pub ends_more : (p q : Progress) (a b : Option (List ℕ)) (m n : ℕ) (bytes : List ℕ) → EndsRightly p a → Takes p q (change a b m n) bytes → EndsRightly q b
ends_more p q a b m n bytes before goes now = by_before p.ended refl
  where
    by_before : (ended : Bool) → p.ended ≡ ended → IsAtEnd b × (q.taken < 2 ^ 30)
    by_before true e =
        let none = goes.none_after_end e in
        let same = Took-same a b (subst (Took a b) none goes.took) in
        let was = before e in
        (subst IsAtEnd (sym same) was.0, omega (arith, goes.counted, ap length none, was.1))
    by_before false e = goes.end_seen e now

-- a source or a sink before all calls and after the last, and before and after the last
abbrev pub later : Change → Option (List ℕ) → ℕ → Change
later all told n = change all.told_old told all.faults_old n

abbrev pub call : Change → Option (List ℕ) → ℕ → Change
call all told n = change all.told_new told all.faults_new n

-- one entry more
pub reached_more : {S : Type 0} (rules : Rules S) (keeps : IsKept rules) (first : S) (source sink : Change) (p q : Position) (b : Option (List ℕ)) (m : ℕ) (held : Option (List ℕ))
    (n : ℕ) (s t : S) → Reached rules first source sink p s
    → Turns rules p q (call source b m) s t (call sink held n) Goes → Reached rules first (later source b m) (later sink held n) q t
reached_more rules keeps first source sink p q b m held n s t reach turns =
    let g = turns.does.1 in
    let a = turns.does.2 in
    let is = answered rules keeps s t q.entry a.text reach.holds a.answer in
    record {
      bytes = reach.bytes ++ turns.bytes;
      text = reach.text ++ a.text;
      entries = reach.entries ++ q.entry ∷ [];
      took = Took-append source.told_old source.told_new b reach.bytes turns.bytes reach.took turns.goes.took;
      put = Put-append sink.told_old sink.told_new held reach.text a.text reach.put a.put;
      read = reads_more rules.takes_block p.progress.ended q.progress.ended reach.bytes turns.bytes reach.entries p.progress.in_hand q.entry q.progress.in_hand
          reach.read
          turns.goes.none_after_end turns.goes.stays_ended g.shorter g.first;
      counted = omega (arith, turns.goes.counted, reach.counted, length-append reach.bytes turns.bytes);
      no_fault = turns.does.0;
      no_quit = has_quit-push rules.quits reach.entries q.entry reach.no_quit a.quit;
      begins = reach.begins;
      holds = is.after;
      answers = Answers-append rules first s t reach.entries (q.entry ∷ []) reach.text a.text reach.answers (Answers-one rules s t q.entry a.text is);
      ends = ends_more p.progress q.progress source.told_new b source.faults_new m turns.bytes reach.ends turns.goes;
      source_faults = omega (arith, reach.source_faults, turns.goes.faults);
      sink_faults = omega (arith, reach.sink_faults, turns.sink_faults);
    }

-- the measure of the loop
pub turns_smaller : {S : Type 0} (rules : Rules S) (p q : Position) (source : Change) (s t : S) (sink : Change) → Turns rules p q source s t sink Goes
    → (2 ^ 30 - q.progress.taken) + length q.progress.in_hand < (2 ^ 30 - p.progress.taken) + length p.progress.in_hand
turns_smaller rules p q source s t sink turns =
    omega (arith, turns.goes.counted, turns.goes.within, turns.does.1.shorter, length-append p.progress.in_hand turns.bytes)
