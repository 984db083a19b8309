use Rattle.std.proofs.Common.{◌≡◌, ◌∙◌, ap}
use Rattle.model_core.specs.State.{ModelState}
use Rattle.session_state.specs.State.{matrix_of}
use Rattle.session_edits.proofs.AnswerLemmas.{told_of_text}
use Rattle.session_edits.proofs.session.Session.verify_text.Goals as goal

pub returns-clause-answer : goal.returns-clause-answer
returns-clause-answer c =
    let is : c.matrix.result.now ≡ matrix_of c.args.self.now.model c.args.subject =
    c.matrix.ensures.value ∙ ap (λ (m : ModelState). matrix_of m c.args.subject) c.model.ensures in
    told_of_text c.args.self.now c.args.subject c.args.bytes.now c.matrix.result.now c.text_reply.result is c.text_reply.ensures.value
