use Rattle.std.proofs.Common.{sym, ◌∙◌, ap₂}
use Rattle.model_core.specs.Finding.{find_criterion}
use Rattle.session_edits.specs.Answer.{AsksSlack}
use Rattle.session_edits.proofs.AnswerLemmas.{found_criterion}
use Rattle.session_edits.proofs.session.Session.slack.Goals as goal

pub returns-in-Some-clause-answer : goal.returns-in-Some-clause-answer
returns-in-Some-clause-answer c =
    found_criterion c.args.self.now c.args.name.now c.in-Some.at (AsksSlack c.args.self.now c.args.element.now) c.slack_of.result c.slack_of.new.self
    (sym (ap₂ find_criterion c.model.ensures c.as_bytes.ensures.value) ∙ sym c.find_criterion.ensures.place ∙ c.in-Some.is) c.slack_of.ensures.answer
