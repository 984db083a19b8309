use Rattle.std.proofs.Common.{◌≡◌, Some, None, Ok, Err, rules}
use Rattle.judgement_matrix.specs.Rows.{rows, IsTagAmong}
use Rattle.judgement_matrix.specs.Walk.{row_fails, first_stop}
use Rattle.judgement_matrix.specs.declared.tag.Fit.TheVariants.{Meets, Fails}
use Rattle.judgement_matrix.proofs.AmongLemmas.{every-rows}
use Rattle.judgement_matrix.proofs.SearchLemmas.{search-among}
use Rattle.judgement_matrix.proofs.ValueLemmas.{answer_is, answer_meets, answer_refused}
use Rattle.judgement_matrix.proofs.matrix.Matrix.meets.Goals as goal

pub returns-in_err-tag-clause-answer : goal.returns-in_err-tag-clause-answer
returns-in_err-tag-clause-answer c =
    let m = c.args.self.now in
    let fs = c.args.values.now in
    let e : Err c.in_err-tag.field-0.0 ≡ first_stop (row_fails m fs) (rows m) = search rules in
    answer_refused m fs c.in_err-tag.field-0.0 c.from_residual.result c.are_fractions.ensures c.requires e c.from_residual.ensures.0

pub returns-in-Some-clause-answer : goal.returns-in-Some-clause-answer
returns-in-Some-clause-answer c =
    let m = c.args.self.now in
    let fs = c.args.values.now in
    let e : Ok (Some c.in-Some.tag) ≡ first_stop (row_fails m fs) (rows m) = search rules in
    answer_is m fs (Ok (Some c.in-Some.tag)) c.are_fractions.ensures c.requires e

pub returns-in-Some-clause-meets : goal.returns-in-Some-clause-meets
returns-in-Some-clause-meets c =
    let m = c.args.self.now in
    let fs = c.args.values.now in
    let e : Ok (Some c.in-Some.tag) ≡ first_stop (row_fails m fs) (rows m) = search rules in
    answer_meets m fs (Fails c.in-Some.tag) (answer_is m fs (Ok (Some c.in-Some.tag)) c.are_fractions.ensures c.requires e)

pub returns-in-Some-clause-among : goal.returns-in-Some-clause-among
returns-in-Some-clause-among c =
    let m = c.args.self.now in
    let fs = c.args.values.now in
    let e : first_stop (row_fails m fs) (rows m) ≡ Ok (Some c.in-Some.tag) = search rules in
    search-among (row_fails m fs) (IsTagAmong m.size) (rows m) c.in-Some.tag (every-rows m) e

pub returns-in-None-clause-answer : goal.returns-in-None-clause-answer
returns-in-None-clause-answer c =
    let m = c.args.self.now in
    let fs = c.args.values.now in
    let e : Ok None ≡ first_stop (row_fails m fs) (rows m) = search rules in
    answer_is m fs (Ok None) c.are_fractions.ensures c.requires e

pub returns-in-None-clause-meets : goal.returns-in-None-clause-meets
returns-in-None-clause-meets c =
    let m = c.args.self.now in
    let fs = c.args.values.now in
    let e : Ok None ≡ first_stop (row_fails m fs) (rows m) = search rules in
    answer_meets m fs Meets (answer_is m fs (Ok None) c.are_fractions.ensures c.requires e)
