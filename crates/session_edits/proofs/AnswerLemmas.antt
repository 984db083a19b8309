-- What is told of an option that was found, and of the text of a certificate.
use Rattle.std.proofs.Common.{◌≡◌, List, [], ◌∷◌, ℕ, Some, Result, Ok, Err, refl, subst, sym}
use Rattle.std.specs.Result.{IfOk}
use Rattle.judgement_matrix.specs.Matrix.{Judgements}
use Rattle.std.specs.Option.{option_map}
use Rattle.model_core.specs.Finding.{find_option, find_criterion}
use Rattle.report_text.specs.declared.reply.Reply.{Reply}
use Rattle.session_state.specs.State.{SessionState, matrix_of}
use Rattle.session_state.specs.declared.subject.Subject.{Subject}
use Rattle.session_state.specs.declared.subject.Subject.TheVariants.{Criterion}
use Rattle.session_edits.specs.Subjects.{criterion_named}
use Rattle.session_edits.specs.Answer.{Replies, Of}
use Rattle.session_edits.specs.Matrices.{TellsOfText, ReadsCertificate}
use Rattle.session_edits.specs.Scores.{TellsSubtotals, WhereWeighed, checked_subtotals}

pub found_option : {E : Type 0} (s : SessionState) (name : List ℕ) (o : ℕ) (r : Result Reply E) (new : SessionState) → find_option s.model name ≡ Some o
    → Replies (WhereWeighed s (o ∷ []) (checked_subtotals s.model o)) s r new → Replies (TellsSubtotals s (find_option s.model name)) s r new
found_option s name o r new found h = subst (λ p. Replies (TellsSubtotals s p) s r new) (sym found) (told r h)
  where
    told : {E : Type 0} (r : Result Reply E) → Replies (WhereWeighed s (o ∷ []) (checked_subtotals s.model o)) s r new → Replies (TellsSubtotals s (Some o)) s r new
    told (Ok reply) h = h
    told (Err e) h = h

pub told_of_text : {E : Type 0} (s : SessionState) (subject : Subject) (bytes : List ℕ) (m : Judgements) (r : Result Reply E)
    → m ≡ matrix_of s.model subject → IfOk r (TellsOfText m bytes) → Replies (ReadsCertificate s subject bytes) s r s
told_of_text s subject bytes m (Ok reply) is told = (subst (λ n. TellsOfText n bytes reply) is told, refl)
told_of_text s subject bytes m (Err e) is told = refl

-- a question about a criterion that was found
pub found_criterion : {E : Type 0} (s : SessionState) (name : List ℕ) (c : ℕ) (Query : Subject → Reply → SessionState → Type 0) (r : Result Reply E)
    (new : SessionState) → find_criterion s.model name ≡ Some c → Replies (Query (Criterion c)) s r new
    → Replies (Of s (criterion_named s.model name) Query) s r new
found_criterion s name c Query r new found h = subst (λ p. Replies (Of s (option_map Criterion p) Query) s r new) (sym found) (told r h)
  where
    told : {E : Type 0} (r : Result Reply E) → Replies (Query (Criterion c)) s r new → Replies (Of s (Some (Criterion c)) Query) s r new
    told (Ok reply) h = h
    told (Err e) h = h
