-- What the table of statuses says together with the causes of faults, and of the input's limit.
use Rattle.std.proofs.Common.{◌≡◌, ◌⊎◌, ℕ, ◌<◌, Bool, true, false, List, length, take, Option, None, Some, refl, sym, ap, ◌∙◌, subst, inl, inr, length-append, take_at, arith}
use Rattle.std.specs.List.{list_any}
use Rattle.std.proofs.lemmas.Bool.{true≢false}
use Rattle.line_io.specs.Outside.{Change, Took, Rose, IsAtEnd}
use Rattle.line_io.specs.declared.lines.TheConstants.{INPUT_LIMIT}
use Rattle.transcript.specs.Rules.{Rules}
use Rattle.transcript.specs.Transcript.{IsTranscript}
use Rattle.transcript.specs.Table.{IsTold, HasQuit, EndsInTime, Runs}
use Rattle.transcript.specs.declared.status.Status.{Status}
use Rattle.transcript.specs.declared.status.Status.TheVariants.{Done, BadWords, ReadFault, WriteFault, NoMemory, InputLimit}
use Rattle.transcript.proofs.EntriesLemmas.{one_list}

module _ {S : Type 0} (rules : Rules S) where
  -- a transcript of entries without a `quit`
  pub no_quit : (first : S) (bytes text : List ℕ) → IsTranscript rules first false false bytes text → ¬ HasQuit rules bytes
  no_quit first bytes text t (entries, are, quit) =
      true≢false (sym quit ∙ ap (list_any rules.quits) (one_list rules.takes_block false bytes entries t.entries are t.are) ∙ t.quit)

  -- all that may be taken was taken from a source that ends in time: a `quit` is among it
  quit_in_time : (a b : Option (List ℕ)) (bytes : List ℕ) → Took a b bytes → EndsInTime rules a → length bytes ≡ INPUT_LIMIT → HasQuit rules bytes
  quit_in_time None b bytes took ends is = absurd ends
  quit_in_time (Some all) None bytes took ends is = absurd took
  quit_in_time (Some all) (Some left) bytes took (inl short) is = absurd (omega (arith, ap length took, length-append bytes left, is, short))
  quit_in_time (Some all) (Some left) bytes took (inr h) is = subst (HasQuit rules) (ap (take INPUT_LIMIT) took ∙ take_at bytes left INPUT_LIMIT is) h

  completes : (first : S) (status : Status) (source sink : Change) → IsTold rules first status source sink
      → (status ≡ ReadFault → Rose source.faults_old source.faults_new)
      → (status ≡ WriteFault → Rose sink.faults_old sink.faults_new) → ¬ Rose source.faults_old source.faults_new → ¬ Rose sink.faults_old sink.faults_new
      → EndsInTime rules source.told_old → (status ≡ Done) ⊎ (status ≡ NoMemory)
  completes first Done source sink told read write no_read no_write ends = inl refl
  completes first NoMemory source sink told read write no_read no_write ends = inr refl
  completes first BadWords source sink told read write no_read no_write ends = absurd told.tells
  completes first ReadFault source sink told read write no_read no_write ends = absurd (no_read (read refl))
  completes first WriteFault source sink told read write no_read no_write ends = absurd (no_write (write refl))
  completes first InputLimit source sink told read write no_read no_write ends =
      absurd (no_quit first told.bytes told.text told.tells.1 (quit_in_time source.told_old source.told_new told.bytes told.took ends told.tells.0))

  pub runs : (first : S) (status : Status) (source sink : Change) → IsTold rules first status source sink
      → (status ≡ ReadFault → Rose source.faults_old source.faults_new)
      → (status ≡ WriteFault → Rose sink.faults_old sink.faults_new) → Runs rules first status source sink
  runs first status source sink told read write =
      record { told = told; read_fault = read; write_fault = write; complete = completes first status source sink told read write }

  -- where all that may be taken was taken, and no `quit` is among it
  pub at_limit : (first : S) (status : Status) (source sink : Change) → (told : IsTold rules first status source sink) → length told.bytes ≡ INPUT_LIMIT
      → ¬ HasQuit rules told.bytes
      → (status ≡ InputLimit) ⊎ (status ≡ WriteFault) ⊎ (status ≡ NoMemory)
  at_limit first InputLimit source sink told is none = inl refl
  at_limit first WriteFault source sink told is none = inr (inl refl)
  at_limit first NoMemory source sink told is none = inr (inr refl)
  at_limit first BadWords source sink told is none = absurd told.tells
  at_limit first ReadFault source sink told is none = absurd (omega (arith, told.tells.0, is))
  at_limit first Done source sink told is none = by_end told.tells
    where
      by_end : ((quits : Bool) × ((length told.bytes < INPUT_LIMIT) × IsAtEnd source.told_new) × IsTranscript rules first true quits told.bytes told.text) ⊎
          IsTranscript rules first false true told.bytes told.text
          → (Done ≡ InputLimit) ⊎ (Done ≡ WriteFault) ⊎ (Done ≡ NoMemory)
      by_end (inl (quits, (short, over), t)) = absurd (omega (arith, short, is))
      by_end (inr t) = absurd (none (t.entries, t.are, t.quit))

  pub only_limit : (first : S) (status : Status) (source sink : Change) → (told : IsTold rules first status source sink) → status ≡ InputLimit
      → (length told.bytes ≡ INPUT_LIMIT) × (¬ HasQuit rules told.bytes)
  only_limit first InputLimit source sink told is = (told.tells.0, no_quit first told.bytes told.text told.tells.1)
  only_limit first Done source sink told is = absurd (cc)
  only_limit first BadWords source sink told is = absurd (cc)
  only_limit first ReadFault source sink told is = absurd (cc)
  only_limit first WriteFault source sink told is = absurd (cc)
  only_limit first NoMemory source sink told is = absurd (cc)
