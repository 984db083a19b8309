use Rattle.std.proofs.Common.{◌≡◌, false, sym, ◌∙◌}
use Rattle.command_read.specs.Later.{is_done_later}
use Rattle.session_edits.proofs.OtherLemmas.{IsOther, other_answers}
use Rattle.session_edits.proofs.session.Session.apply.Goals as goal

pub returns-in_default : goal.returns-in_default
returns-in_default c =
    let later : is_done_later c.args.command.now ≡ false = sym c.is_done_later.ensures ∙ c.if-is_done_later.false in
    let other : IsOther c.args.command.now = record {
      not-Undo = c.in_default.not-Undo;
      not-Matrix = c.in_default.not-Matrix;
      not-Rows = c.in_default.not-Rows;
      not-Fits = c.in_default.not-Fits;
      not-Scale = c.in_default.not-Scale;
      not-Cert = c.in_default.not-Cert;
      not-Verify = c.in_default.not-Verify;
      not-Anchored = c.in_default.not-Anchored;
      not-Slack = c.in_default.not-Slack;
      not-Weights = c.in_default.not-Weights;
      not-Wcert = c.in_default.not-Wcert;
      not-Scores = c.in_default.not-Scores;
      not-Stats = c.in_default.not-Stats;
      not-Quit = c.in_default.not-Quit;
      not-Groups = c.in_default.not-Groups;
      not-Subtotals = c.in_default.not-Subtotals;
      not-Load = c.in_default.not-Load;
      not-Dump = c.in_default.not-Dump;
      not-Import = c.in_default.not-Import;
      not-ExportMatrix = c.in_default.not-ExportMatrix;
      not-ExportAnchored = c.in_default.not-ExportAnchored;
      not-ExportWeights = c.in_default.not-ExportWeights;
      not-ExportScores = c.in_default.not-ExportScores;
    } in
    record {
      answer = other_answers c.args.self.now c.args.command.now c.edit.result c.edit.new.self other later c.edit.ensures.answer;
      printable = c.edit.ensures.printable;
    }
