use Rattle.std.proofs.Common.{◌≡◌, subst, sym}
use Rattle.std.specs.Result.{IfOk}
use Rattle.session_edits.specs.Scales.{checked_worth, checked_room, told}
use Rattle.session_edits.proofs.scales.told.Goals as goal

pub returns-in-Worth-clause-value : goal.returns-in-Worth-clause-value
returns-in-Worth-clause-value c =
    subst (λ q. IfOk c.reply_of.result (λ r. r ≡ told c.args.model.now c.args.subject q c.args.basic.now)) (sym c.in-Worth.is)
    (c.reply_of.ensures.value (checked_worth c.args.model.now c.args.subject c.args.basic.now) c.worth_told.ensures.value)

pub returns-in-Worth-clause-printable : goal.returns-in-Worth-clause-printable
returns-in-Worth-clause-printable c =
    c.reply_of.ensures.printable c.worth_told.ensures.printable (checked_worth c.args.model.now c.args.subject c.args.basic.now) c.worth_told.ensures.value

pub returns-in-Slack-clause-value : goal.returns-in-Slack-clause-value
returns-in-Slack-clause-value c =
    subst (λ q. IfOk c.reply_of-in-Slack.result (λ r. r ≡ told c.args.model.now c.args.subject q c.args.basic.now)) (sym c.in-Slack.is)
    (c.reply_of-in-Slack.ensures.value (checked_room c.args.model.now c.args.subject c.in-Slack.element c.args.basic.now) c.slack_told.ensures.value)

pub returns-in-Slack-clause-printable : goal.returns-in-Slack-clause-printable
returns-in-Slack-clause-printable c =
    c.reply_of-in-Slack.ensures.printable c.slack_told.ensures.printable
    (checked_room c.args.model.now c.args.subject c.in-Slack.element c.args.basic.now) c.slack_told.ensures.value
