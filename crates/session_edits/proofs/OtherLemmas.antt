-- Each command that is none of those that `apply` names, and isn't done later, is an edit.
use Rattle.std.proofs.Common.{◌≡◌, ℕ, List, false, Some, None, Result, Ok, Err, refl}
use Rattle.integers.specs.Fraction.{Fraction}
use Rattle.command_read.specs.Later.{is_done_later}
use Rattle.command_read.specs.declared.block.Held.{Held}
use Rattle.command_read.specs.declared.command.Command.{Command}
use Rattle.command_read.specs.declared.command.Command.TheVariants as command
use Rattle.model_core.specs.Edits.{Edit, add_option, drop_option, add_criterion, drop_criterion, set_refs, judge, unjudge, perform, set_order, weigh, unweigh, set_reach, add_group, drop_group, place}
use Rattle.report_text.specs.declared.reply.Reply.{Reply}
use Rattle.session_state.specs.State.{SessionState}
use Rattle.session_edits.specs.Edits.{edit_of, AnswersEdit}
use Rattle.session_edits.specs.Answer.{Answer, Replies}

-- what is answered by one query is answered by another that says the same
alike : {E : Type 0} (P Q : Reply → SessionState → Type 0) → ((r : Reply) (next : SessionState) → P r next → Q r next) → (s : SessionState)
    (result : Result Reply E) (new : SessionState) → Replies P s result new → Replies Q s result new
alike P Q h s (Ok r) new is = h r new is
alike P Q h s (Err e) new is = is

-- the command is none of these
pub record IsOther (c : Command) : Type 0 where
  pub not-Undo : c ≡ command.Undo → ⊥
  pub not-Matrix : (a : List ℕ) → c ≡ command.Matrix a → ⊥
  pub not-Rows : (a : List ℕ) → c ≡ command.Rows a → ⊥
  pub not-Fits : (a : List ℕ) (b : List Fraction) → c ≡ command.Fits a b → ⊥
  pub not-Scale : (a : List ℕ) → c ≡ command.Scale a → ⊥
  pub not-Cert : (a : List ℕ) → c ≡ command.Cert a → ⊥
  pub not-Verify : (a : List ℕ) (b : Held) → c ≡ command.Verify a b → ⊥
  pub not-Anchored : (a : List ℕ) → c ≡ command.Anchored a → ⊥
  pub not-Slack : (a : List ℕ) (b : List ℕ) → c ≡ command.Slack a b → ⊥
  pub not-Weights : c ≡ command.Weights → ⊥
  pub not-Wcert : c ≡ command.Wcert → ⊥
  pub not-Scores : c ≡ command.Scores → ⊥
  pub not-Stats : c ≡ command.Stats → ⊥
  pub not-Quit : c ≡ command.Quit → ⊥
  pub not-Groups : c ≡ command.Groups → ⊥
  pub not-Subtotals : (a : List ℕ) → c ≡ command.Subtotals a → ⊥
  pub not-Load : (a : Held) → c ≡ command.Load a → ⊥
  pub not-Dump : c ≡ command.Dump → ⊥
  pub not-Import : (a : List ℕ) (b : Held) → c ≡ command.Import a b → ⊥
  pub not-ExportMatrix : (a : List ℕ) → c ≡ command.ExportMatrix a → ⊥
  pub not-ExportAnchored : (a : List ℕ) → c ≡ command.ExportAnchored a → ⊥
  pub not-ExportWeights : c ≡ command.ExportWeights → ⊥
  pub not-ExportScores : c ≡ command.ExportScores → ⊥

pub other_answers : {E : Type 0} (s : SessionState) (c : Command) (result : Result Reply E) (new : SessionState) → IsOther c → is_done_later c ≡ false
    → ((edit : Edit) → edit_of c ≡ Some edit → Replies (AnswersEdit s edit) s result new) → Replies (Answer s c) s result new
other_answers s command.Undo result new other later h = absurd (other.not-Undo refl)
other_answers s (command.Matrix a) result new other later h = absurd (other.not-Matrix a refl)
other_answers s (command.Rows a) result new other later h = absurd (other.not-Rows a refl)
other_answers s (command.Fits a b) result new other later h = absurd (other.not-Fits a b refl)
other_answers s (command.Scale a) result new other later h = absurd (other.not-Scale a refl)
other_answers s (command.Cert a) result new other later h = absurd (other.not-Cert a refl)
other_answers s (command.Verify a b) result new other later h = absurd (other.not-Verify a b refl)
other_answers s (command.Anchored a) result new other later h = absurd (other.not-Anchored a refl)
other_answers s (command.Slack a b) result new other later h = absurd (other.not-Slack a b refl)
other_answers s command.Weights result new other later h = absurd (other.not-Weights refl)
other_answers s command.Wcert result new other later h = absurd (other.not-Wcert refl)
other_answers s command.Scores result new other later h = absurd (other.not-Scores refl)
other_answers s command.Stats result new other later h = absurd (other.not-Stats refl)
other_answers s command.Quit result new other later h = absurd (other.not-Quit refl)
other_answers s command.Groups result new other later h = absurd (other.not-Groups refl)
other_answers s (command.Subtotals a) result new other later h = absurd (other.not-Subtotals a refl)
other_answers s (command.Load a) result new other later h = absurd (other.not-Load a refl)
other_answers s (command.Import a b) result new other later h = absurd (other.not-Import a b refl)
other_answers s (command.Repairs a) result new other later h = absurd (let e = later in cc)
other_answers s command.Wrepairs result new other later h = absurd (let e = later in cc)
other_answers s (command.Dominance a b) result new other later h = absurd (let e = later in cc)
other_answers s (command.Dcert a b) result new other later h = absurd (let e = later in cc)
other_answers s command.Dominances result new other later h = absurd (let e = later in cc)
other_answers s (command.ExportMatrix a) result new other later h = absurd (other.not-ExportMatrix a refl)
other_answers s (command.ExportAnchored a) result new other later h = absurd (other.not-ExportAnchored a refl)
other_answers s command.ExportWeights result new other later h = absurd (other.not-ExportWeights refl)
other_answers s command.ExportScores result new other later h = absurd (other.not-ExportScores refl)
other_answers s command.Dump result new other later h = absurd (other.not-Dump refl)
other_answers s (command.Option a) result new other later h =
    alike (AnswersEdit s (add_option a)) (Answer s (command.Option a)) (λ r next k. k) s result new (h (add_option a) refl)
other_answers s (command.DropOption a) result new other later h =
    alike (AnswersEdit s (drop_option a)) (Answer s (command.DropOption a)) (λ r next k. k) s result new (h (drop_option a) refl)
other_answers s (command.Criterion a b) result new other later h =
    alike (AnswersEdit s (add_criterion a b)) (Answer s (command.Criterion a b)) (λ r next k. k) s result new (h (add_criterion a b) refl)
other_answers s (command.DropCriterion a) result new other later h =
    alike (AnswersEdit s (drop_criterion a)) (Answer s (command.DropCriterion a)) (λ r next k. k) s result new (h (drop_criterion a) refl)
other_answers s (command.Refs a b c) result new other later h =
    alike (AnswersEdit s (set_refs a b c)) (Answer s (command.Refs a b c)) (λ r next k. k) s result new (h (set_refs a b c) refl)
other_answers s (command.Judge a b c d) result new other later h =
    alike (AnswersEdit s (judge a b c d)) (Answer s (command.Judge a b c d)) (λ r next k. k) s result new (h (judge a b c d) refl)
other_answers s (command.Unjudge a b c) result new other later h =
    alike (AnswersEdit s (unjudge a b c)) (Answer s (command.Unjudge a b c)) (λ r next k. k) s result new (h (unjudge a b c) refl)
other_answers s (command.Perform a b c) result new other later h =
    alike (AnswersEdit s (perform a b c)) (Answer s (command.Perform a b c)) (λ r next k. k) s result new (h (perform a b c) refl)
other_answers s (command.WeighOrder a) result new other later h =
    alike (AnswersEdit s (set_order a)) (Answer s (command.WeighOrder a)) (λ r next k. k) s result new (h (set_order a) refl)
other_answers s (command.Weigh a b c) result new other later h =
    alike (AnswersEdit s (weigh a b c)) (Answer s (command.Weigh a b c)) (λ r next k. k) s result new (h (weigh a b c) refl)
other_answers s (command.Unweigh a b) result new other later h =
    alike (AnswersEdit s (unweigh a b)) (Answer s (command.Unweigh a b)) (λ r next k. k) s result new (h (unweigh a b) refl)
other_answers s (command.Reach a b) result new other later h =
    alike (AnswersEdit s (set_reach a b)) (Answer s (command.Reach a b)) (λ r next k. k) s result new (h (set_reach a b) refl)
other_answers s (command.Group a b) result new other later h =
    alike (AnswersEdit s (add_group a b)) (Answer s (command.Group a b)) (λ r next k. k) s result new (h (add_group a b) refl)
other_answers s (command.DropGroup a) result new other later h =
    alike (AnswersEdit s (drop_group a)) (Answer s (command.DropGroup a)) (λ r next k. k) s result new (h (drop_group a) refl)
other_answers s (command.Place a b) result new other later h =
    alike (AnswersEdit s (place a (Some b))) (Answer s (command.Place a b)) (λ r next k. k) s result new (h (place a (Some b)) refl)
other_answers s (command.Unplace a) result new other later h =
    alike (AnswersEdit s (place a None)) (Answer s (command.Unplace a)) (λ r next k. k) s result new (h (place a None) refl)
