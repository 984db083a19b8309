-- What the end of a run tells, for each status.
use Rattle.std.proofs.Common.{◌≡◌, ◌⊎◌, ℕ, Bool, true, false, List, [], ◌∷◌, ◌++◌, length, Option, refl, sym, ap, ◌∙◌, subst, inl, inr, append_assoc, length-append, arith}
use Rattle.std.specs.List.{list_any}
use Rattle.std.proofs.lemmas.Bool.{true≢false}
use Rattle.std.proofs.lemmas.List.{append-nil}
use Rattle.line_io.proofs.OutsideLemmas.{Took-nil, Took-append, Put-nil, Put-append, Rose-earlier}
use Rattle.transcript.specs.Entry.{Entry}
use Rattle.transcript.specs.Rules.{Rules, IsKept, IsTotal}
use Rattle.transcript.specs.Entries.{AreEntries}
use Rattle.transcript.specs.Transcript.{up_to_quit, Answers, Replies, IsTranscript}
use Rattle.line_io.specs.Lines.{Progress, Takes, IsOver}
use Rattle.line_io.specs.Outside.{Change, change, Put, Rose}
use Rattle.transcript.specs.Reading.{Position, GivesEntry}
use Rattle.transcript.specs.Turn.{IsAnswered, IsCutShort, Turns}
use Rattle.transcript.specs.Table.{IsAtTheEnd, MayBeEnded, Tells, IsTold, Runs}
use Rattle.transcript.specs.declared.status.Status.{Status}
use Rattle.transcript.specs.declared.status.Status.TheVariants.{Done, BadWords, ReadFault, WriteFault, NoMemory, InputLimit}
use Rattle.transcript.specs.declared.turn.Turn.TheVariants.{Ends}
use Rattle.transcript.proofs.EntriesLemmas.{reads_more, reads_taken, reads_over, reads_open, no_entries, GoesOn, goes_on}
use Rattle.transcript.proofs.TranscriptLemmas.{Answers-append, Answers-one, answered, answers_exist, behind, up_to_quit-cons, up_to_quit-append, up_to_quit-all, up_to_quit-quit, has_quit-found, take_answered}
use Rattle.transcript.proofs.ReachedLemmas.{Reached, EndsRightly, call, later, ends_more}
use Rattle.transcript.proofs.TableLemmas.{runs}

-- nothing written more
put_none : (a b c : Option (List ℕ)) (text : List ℕ) → Put a b text → Put b c [] → Put a c text
put_none a b c text p q = subst (Put a c) (append-nil text) (Put-append a b c text [] p q)

-- the end is where nothing is left, before the limit
at_the_end : (q : Progress) (b : Option (List ℕ)) (bytes : List ℕ) → EndsRightly q b → q.ended ≡ true → q.taken ≡ length bytes → IsAtTheEnd bytes b
at_the_end q b bytes ends seen counted = let h = ends seen in (omega (arith, h.1, counted), h.0)

module _ {S : Type 0} (rules : Rules S) (first : S) where
  -- entries without a `quit`, all of them answered
  all_replies : (entries : List Entry) (text : List ℕ) (state : S) → rules.holds first → list_any rules.quits entries ≡ false
      → Answers rules first entries text state → Replies rules first (up_to_quit rules.quits entries) text
  all_replies entries text state begins none answers =
      record { last = state; begins = begins; answers = subst (λ (es : List Entry). Answers rules first es text state) (sym (up_to_quit-all rules.quits entries none)) answers }

  -- nothing was taken and nothing written, since memory ran out
  pub nothing_told : rules.holds first → (left held : Option (List ℕ)) (m n o r : ℕ) → IsTold rules first NoMemory (change left left m n) (change held held o r)
  nothing_told begins left held m n o r = record {
    bytes = [];
    text = [];
    took = Took-nil left;
    put = Put-nil held;
    tells = record {
      ended = false;
      may_be = λ e. absurd (true≢false (sym e));
      entries = [];
      are = no_entries rules.takes_block false;
      count = 0;
      replies = record { last = first; begins = begins; answers = (refl, refl) };
    };
  }

  module _ (keeps : IsKept rules) (total : IsTotal rules) (source sink : Change) (p q : Position) (b : Option (List ℕ)) (m : ℕ) (held : Option (List ℕ)) (n : ℕ) (s t : S)
      (reach : Reached rules first source sink p s) (taken : List ℕ)
      (goes : Takes p.progress q.progress (change source.told_new b source.faults_new m) taken) where
    -- the bytes and the text of all calls
    told_more : (status : Status) (text : List ℕ) → Put sink.told_old held text → Tells rules first status (reach.bytes ++ taken) b text
        → IsTold rules first status (change source.told_old b source.faults_old m) (change sink.told_old held sink.faults_old n)
    told_more status text put tells = record {
      bytes = reach.bytes ++ taken;
      text = text;
      took = Took-append source.told_old source.told_new b reach.bytes taken reach.took goes.took;
      put = put;
      tells = tells;
    }

    counted : q.progress.taken ≡ length (reach.bytes ++ taken)
    counted = omega (arith, goes.counted, reach.counted, length-append reach.bytes taken)

    may_be : (seen : Bool) → (seen ≡ true → q.progress.ended ≡ true) → MayBeEnded seen (reach.bytes ++ taken) b
    may_be seen if_seen = λ e.
        at_the_end q.progress b (reach.bytes ++ taken) (ends_more p.progress q.progress source.told_new b source.faults_new m taken reach.ends goes)
        (if_seen e) counted

    silently : (status : Status) → Put sink.told_new held [] → Tells rules first status (reach.bytes ++ taken) b reach.text
        → IsTold rules first status (change source.told_old b source.faults_old m) (change sink.told_old held sink.faults_old n)
    silently status silent tells = told_more status reach.text (put_none sink.told_old sink.told_new held reach.text reach.put silent) tells

    -- the entries so far are those of the bytes
    so_far : (ended : Bool) → AreEntries rules.takes_block ended (reach.bytes ++ taken) reach.entries
        → IsTranscript rules first ended false (reach.bytes ++ taken) reach.text
    so_far ended are = record {
      entries = reach.entries;
      are = are;
      quit = reach.no_quit;
      replies = all_replies reach.entries reach.text s reach.begins reach.no_quit
          reach.answers;
    }

    -- all entries were given
    over : IsOver p.progress q.progress (p.progress.in_hand ++ taken) → Put sink.told_new held []
        → IsTold rules first Done (change source.told_old b source.faults_old m) (change sink.told_old held sink.faults_old n)
    over none silent =
        silently Done silent (inl (
          false,
          may_be true (λ e. none.ended) refl,
          so_far true (reads_over rules.takes_block q.progress.ended (reach.bytes ++ taken) reach.entries (p.progress.in_hand ++ taken)
              (reads_taken rules.takes_block p.progress.ended q.progress.ended reach.bytes taken reach.entries p.progress.in_hand reach.read
              goes.none_after_end goes.stays_ended) none.nothing_left),
        ))

    -- no whole entry was left to answer
    open_end : q.progress.ended ≡ false → AreEntries rules.takes_block false (p.progress.in_hand ++ taken) []
        → IsTranscript rules first false false (reach.bytes ++ taken) reach.text
    open_end unseen none =
        so_far false (reads_open rules.takes_block q.progress.ended (reach.bytes ++ taken) reach.entries (p.progress.in_hand ++ taken)
        (reads_taken rules.takes_block p.progress.ended q.progress.ended reach.bytes taken reach.entries p.progress.in_hand reach.read goes.none_after_end
        goes.stays_ended) unseen none)

    -- memory ran out: the text is that of the first entries
    no_memory : Put sink.told_new held []
        → IsTold rules first NoMemory (change source.told_old b source.faults_old m) (change sink.told_old held sink.faults_old n)
    no_memory silent =
        let h = goes_on rules.takes_block q.progress.ended (reach.bytes ++ taken) reach.entries (p.progress.in_hand ++ taken)
        (reads_taken rules.takes_block p.progress.ended q.progress.ended reach.bytes taken reach.entries p.progress.in_hand reach.read goes.none_after_end
        goes.stays_ended) in
        silently NoMemory silent (record {
          ended = h.seen;
          may_be = may_be h.seen h.if_seen;
          entries = reach.entries ++ h.more;
          are = h.are;
          count = length reach.entries;
          replies = record {
            last = s;
            begins = reach.begins;
            answers = subst (λ (es : List Entry). Answers rules first es reach.text s) (sym (take_answered rules.quits reach.entries h.more reach.no_quit))
                reach.answers;
          };
        })

    -- one entry more was given, and the entries go on behind it
    further : GivesEntry rules.takes_block q.progress (p.progress.in_hand ++ taken) q.entry
        → GoesOn rules.takes_block q.progress.ended (reach.bytes ++ taken) (reach.entries ++ q.entry ∷ [])
    further g =
        goes_on rules.takes_block q.progress.ended (reach.bytes ++ taken) (reach.entries ++ q.entry ∷ []) q.progress.in_hand
        (reads_more rules.takes_block p.progress.ended q.progress.ended reach.bytes taken reach.entries p.progress.in_hand q.entry q.progress.in_hand reach.read
        goes.none_after_end goes.stays_ended g.shorter g.first)

    -- a transcript that ends with `quit`
    by_end : (bytes : List ℕ) (left : Option (List ℕ)) (text : List ℕ) (seen : Bool) → MayBeEnded seen bytes left
        → IsTranscript rules first seen true bytes text → Tells rules first Done bytes left text
    by_end bytes left text true may transcript = inl (true, may refl, transcript)
    by_end bytes left text false may transcript = inr transcript

    quit : GivesEntry rules.takes_block q.progress (p.progress.in_hand ++ taken) q.entry → IsAnswered rules s q.entry t (call sink held n) true
        → IsTold rules first Done (change source.told_old b source.faults_old m) (change sink.told_old held sink.faults_old n)
    quit g a =
        let text = reach.text ++ a.text in
        let h = further g in
        told_more Done text (Put-append sink.told_old sink.told_new held reach.text a.text reach.put a.put)
        (by_end (reach.bytes ++ taken) b text h.seen (may_be h.seen h.if_seen) (record {
          entries = reach.entries ++ q.entry ∷ [] ++ h.more;
          are = h.are;
          quit = has_quit-found rules.quits reach.entries q.entry h.more reach.no_quit a.quit;
          replies = record {
            last = t;
            begins = reach.begins;
            answers = subst (λ (es : List Entry). Answers rules first es text t)
                (sym (up_to_quit-quit rules.quits reach.entries q.entry h.more reach.no_quit a.quit))
                (Answers-append rules first s t reach.entries (q.entry ∷ []) reach.text a.text reach.answers (Answers-one rules s t q.entry a.text (answered rules keeps s t q.entry a.text reach.holds a.answer)));
          };
        }))

    -- a reply was cut short: the text is the start of a transcript
    cut_short : GivesEntry rules.takes_block q.progress (p.progress.in_hand ++ taken) q.entry → IsCutShort rules s q.entry (call sink held n)
        → IsTold rules first WriteFault (change source.told_old b source.faults_old m) (change sink.told_old held sink.faults_old n)
    cut_short g a =
        let front = a.front in
        let text = reach.text ++ front.written in
        let h = further g in
        let rest = behind rules.quits q.entry h.more in
        let is = answered rules keeps s a.next q.entry a.text reach.holds a.answer in
        let tail = answers_exist rules keeps total a.next rest is.after in
        let all = reach.entries ++ q.entry ∷ [] ++ h.more in
        let all_is : up_to_quit rules.quits all ≡ reach.entries ++ (q.entry ∷ rest) =
        ap (up_to_quit rules.quits) (append_assoc reach.entries (q.entry ∷ []) h.more)
        ∙ up_to_quit-append rules.quits reach.entries (q.entry ∷ h.more) reach.no_quit
        ∙ ap (λ (es : List Entry). reach.entries ++ es) (up_to_quit-cons rules.quits q.entry h.more) in
        let whole : text ++ (front.rest ++ tail.text) ≡ reach.text ++ (a.text ++ tail.text) =
        append_assoc reach.text front.written (front.rest ++ tail.text)
        ∙ ap (λ (u : List ℕ). reach.text ++ u) (sym (append_assoc front.written front.rest tail.text) ∙ ap (λ (u : List ℕ). u ++ tail.text) (sym front.split))
        in
        let answers : Answers rules first (reach.entries ++ (q.entry ∷ rest)) (reach.text ++ (a.text ++ tail.text)) tail.next =
        Answers-append rules first s tail.next reach.entries (q.entry ∷ rest) reach.text (a.text ++ tail.text) reach.answers
        (a.text, a.next, tail.text, is, refl, tail.answers) in
        told_more WriteFault text (Put-append sink.told_old sink.told_new held reach.text front.written reach.put front.put)
        (record {
          ended = h.seen;
          quits = list_any rules.quits all;
          may_be = may_be h.seen h.if_seen;
          others = front.rest ++ tail.text;
          transcript = record {
            entries = all;
            are = h.are;
            quit = refl;
            replies = record {
              last = tail.next;
              begins = reach.begins;
              answers = subst (λ (es : List Entry). Answers rules first es (text ++ (front.rest ++ tail.text)) tail.next) (sym all_is)
                  (subst (λ (u : List ℕ). Answers rules first (reach.entries ++ (q.entry ∷ rest)) u tail.next) (sym whole) answers);
            };
          };
        })

  -- the last turn of a run, whatever its status
  pub ends_told : IsKept rules → IsTotal rules → (source sink : Change) (p q : Position) (b : Option (List ℕ)) (m : ℕ) (held : Option (List ℕ)) (n : ℕ) (s t : S)
      → Reached rules first source sink p s → (status : Status)
      → Turns rules p q (call source b m) s t (call sink held n) (Ends status)
      → IsTold rules first status (change source.told_old b source.faults_old m) (change sink.told_old held sink.faults_old n)
  ends_told keeps total source sink p q b m held n s t reach Done turns = by_turn turns.does
    where
      by_turn : (IsOver p.progress q.progress (p.progress.in_hand ++ turns.bytes) × Put sink.told_new held [])
          ⊎ (GivesEntry rules.takes_block q.progress (p.progress.in_hand ++ turns.bytes) q.entry × IsAnswered rules s q.entry t (call sink held n) true)
          → IsTold rules first Done (change source.told_old b source.faults_old m) (change sink.told_old held sink.faults_old n)
      by_turn (inl (none, silent)) = over keeps total source sink p q b m held n s t reach turns.bytes turns.goes none silent
      by_turn (inr (g, a)) = quit keeps total source sink p q b m held n s t reach turns.bytes turns.goes g a
  ends_told keeps total source sink p q b m held n s t reach ReadFault turns =
      let f = turns.does.0 in
      silently keeps total source sink p q b m held n s t reach turns.bytes turns.goes ReadFault turns.does.1 (
        omega (arith, f.below_limit, counted keeps total source sink p q b m held n s t reach turns.bytes turns.goes),
        open_end keeps total source sink p q b m held n s t reach turns.bytes turns.goes f.not_ended f.no_entry,
      )
  ends_told keeps total source sink p q b m held n s t reach WriteFault turns =
      cut_short keeps total source sink p q b m held n s t reach turns.bytes turns.goes turns.does.0 turns.does.1
  ends_told keeps total source sink p q b m held n s t reach NoMemory turns = no_memory keeps total source sink p q b m held n s t reach turns.bytes turns.goes turns.does
  ends_told keeps total source sink p q b m held n s t reach InputLimit turns =
      let f = turns.does.0 in
      silently keeps total source sink p q b m held n s t reach turns.bytes turns.goes InputLimit turns.does.1 (
        sym (counted keeps total source sink p q b m held n s t reach turns.bytes turns.goes) ∙ f.at_limit,
        open_end keeps total source sink p q b m held n s t reach turns.bytes turns.goes f.not_ended f.no_entry,
      )
  ends_told keeps total source sink p q b m held n s t reach BadWords turns = absurd turns.does

  -- its status has its causes
  rose_read : (source sink : Change) (p q : Position) (b : Option (List ℕ)) (m : ℕ) (held : Option (List ℕ)) (n : ℕ) (s t : S)
      → Reached rules first source sink p s → (status : Status)
      → Turns rules p q (call source b m) s t (call sink held n) (Ends status) → status ≡ ReadFault → Rose source.faults_old m
  rose_read source sink p q b m held n s t reach ReadFault turns is = Rose-earlier source.faults_old source.faults_new m reach.source_faults turns.does.0.rose
  rose_read source sink p q b m held n s t reach Done turns is = absurd (cc)
  rose_read source sink p q b m held n s t reach BadWords turns is = absurd (cc)
  rose_read source sink p q b m held n s t reach WriteFault turns is = absurd (cc)
  rose_read source sink p q b m held n s t reach NoMemory turns is = absurd (cc)
  rose_read source sink p q b m held n s t reach InputLimit turns is = absurd (cc)

  rose_write : (source sink : Change) (p q : Position) (b : Option (List ℕ)) (m : ℕ) (held : Option (List ℕ)) (n : ℕ) (s t : S)
      → Reached rules first source sink p s → (status : Status)
      → Turns rules p q (call source b m) s t (call sink held n) (Ends status) → status ≡ WriteFault → Rose sink.faults_old n
  rose_write source sink p q b m held n s t reach WriteFault turns is = Rose-earlier sink.faults_old sink.faults_new n reach.sink_faults turns.does.1.front.rose
  rose_write source sink p q b m held n s t reach Done turns is = absurd (cc)
  rose_write source sink p q b m held n s t reach BadWords turns is = absurd (cc)
  rose_write source sink p q b m held n s t reach ReadFault turns is = absurd (cc)
  rose_write source sink p q b m held n s t reach NoMemory turns is = absurd (cc)
  rose_write source sink p q b m held n s t reach InputLimit turns is = absurd (cc)

  pub ends_run : IsKept rules → IsTotal rules → (source sink : Change) (p q : Position) (b : Option (List ℕ)) (m : ℕ) (held : Option (List ℕ)) (n : ℕ) (s t : S)
      → Reached rules first source sink p s → (status : Status)
      → Turns rules p q (call source b m) s t (call sink held n) (Ends status) → Runs rules first status (later source b m) (later sink held n)
  ends_run keeps total source sink p q b m held n s t reach status turns =
      runs rules first status (later source b m) (later sink held n) (ends_told keeps total source sink p q b m held n s t reach status turns)
      (rose_read source sink p q b m held n s t reach status turns) (rose_write source sink p q b m held n s t reach status turns)

  -- nothing happened, since memory ran out
  pub never_runs : rules.holds first → (left held : Option (List ℕ)) (m n : ℕ) → Runs rules first NoMemory (change left left m m) (change held held n n)
  never_runs begins left held m n = runs rules first NoMemory (change left left m m) (change held held n n) (nothing_told begins left held m m n n) (λ is. absurd (cc))
      (λ is. absurd (cc))
