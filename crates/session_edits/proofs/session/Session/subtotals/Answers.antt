use Rattle.std.proofs.Common.{rules}
use Rattle.session_edits.proofs.AnswerLemmas.{found_option}
use Rattle.session_edits.proofs.session.Session.subtotals.Goals as goal

pub returns-clause-answer : goal.returns-clause-answer
returns-clause-answer c =
    found_option c.args.self.now c.args.name.now c.in-Some.option c.subtotals_of.result c.subtotals_of.new.self (search rules) c.subtotals_of.ensures.answer
