use Rattle.std.proofs.Common.{◌≡◌, subst}
use Rattle.std.specs.Result.{IfOk}
use Rattle.macbeth_cli.specs.Session.{AnswersParsed, is_quit}
use Rattle.macbeth_cli.proofs.session.answer_entry.Goals as goal

pub returns-clause-text : goal.returns-clause-text
returns-clause-text c =
    subst (λ p. IfOk c.answer_parsed-answered.result (λ answered. AnswersParsed c.args.session.now p answered.text.items c.answer_parsed-answered.new.session))
    c.in_ok-parsed.ensures.parsed c.answer_parsed-answered.ensures.text

pub returns-clause-ends : goal.returns-clause-ends
returns-clause-ends c =
    subst (λ p. IfOk c.answer_parsed-answered.result (λ answered. answered.ends ≡ is_quit p)) c.in_ok-parsed.ensures.parsed c.answer_parsed-answered.ensures.ends
