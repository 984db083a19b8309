use Rattle.std.proofs.Common.{◌∙◌, sym, ap}
use Rattle.lex_simplex.specs.Turn.{next}
use Rattle.lex_simplex.proofs.Choices.Laws.{leaving-some, is-entering}
use Rattle.lex_simplex.proofs.Runs.OneTurn.{turn_is_next, turn_is_too_wide}
use Rattle.lex_simplex.proofs.turn.turn.Goals as goal

pub pivot-requires-clause-column : goal.pivot-requires-clause-column
pivot-requires-clause-column c = is-entering c.args.cells.now c.in-Some.row c.in-Some-entering.column (sym c.in-Some-entering.ensures)

pub returns-in-Ok : goal.returns-in-Ok
returns-in-Ok c =
    let leaves = (leaving-some c.args.cells.now c.in-Some.row).0 (sym c.in-Some.ensures) in
    let enters = is-entering c.args.cells.now c.in-Some.row c.in-Some-entering.column (sym c.in-Some-entering.ensures) in
    let made = c.in-Ok.ensures in (
      turn_is_next c.args.cells.now c.in-Some.row c.in-Some-entering.column leaves enters made.done.ok.in_range
          ∙ ap next (sym made.done.value_is),
      made.workable,
    )

pub returns-in-Err : goal.returns-in-Err
returns-in-Err c =
    let leaves = (leaving-some c.args.cells.now c.in-Some.row).0 (sym c.in-Some.ensures) in
    let enters = is-entering c.args.cells.now c.in-Some.row c.in-Some-entering.column (sym c.in-Some-entering.ensures) in
    turn_is_too_wide c.args.cells.now c.in-Some.row c.in-Some-entering.column leaves enters (λ h. c.in-Err.ensures.done.too_wide (record { in_range = h }))
