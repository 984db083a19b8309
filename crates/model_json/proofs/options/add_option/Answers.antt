use Rattle.std.proofs.Common.{◌≡◌, Some, None, get_or, replicate, length, Ok, sym, ap, ◌∙◌, arith, rules}
use Rattle.model_core.specs.Edits.{with_option, with_performance}
use Rattle.model_json.specs.Reading.{with_row}
use Rattle.model_json.proofs.StepLemmas.{same_ok}
use Rattle.model_json.proofs.OptionLemmas.{none_else, first_none, first_all, performed_too, not_performed}
use Rattle.model_json.proofs.options.add_option.Goals as goal

pub row-init : goal.row-init
row-init c =
    let m = c.args.model.now in
    let row = c.args.row.now in
    sym (same_ok (with_option m c.args.name) c.push_option.new.model c.in_ok-push_option.ensures)
    ∙ ap (with_row m c.args.name) (ap (λ n. replicate n None) (sym c.requires.each) ∙ first_none row)

pub row-preserved-in_default : goal.row-preserved-in_default
row-preserved-in_default c =
    let none : get_or c.args.row.now c.row.criterion None ≡ None = none_else (get_or c.args.row.now c.row.criterion None) c.in_default.not-Some in
    c.row.invariant ∙ not_performed c.args.model.now c.args.name c.args.row.now c.row.criterion none

pub row-preserved : goal.row-preserved
row-preserved c =
    let here : get_or c.args.row.now c.row.criterion None ≡ Some c.in-Some.element = search rules in
    let o = c.options-option.result in
    let last : o ≡ length c.args.model.now.performances = c.options-option.ensures.each ∙ sym c.what_a_model_keeps.ensures.rows in
    sym (same_ok (with_performance c.row.model o c.row.criterion c.in-Some.element) c.perform.new.model c.in_ok-perform.ensures)
    ∙ ap (λ m. with_performance m o c.row.criterion c.in-Some.element) c.row.invariant
    ∙ performed_too c.args.model.now c.args.name c.args.row.now c.row.criterion o c.in-Some.element last here

pub returns : goal.returns
returns c = ap Ok (sym (c.row.invariant ∙ ap (with_row c.args.model.now c.args.name) (first_all c.args.row.now c.row.criterion (omega arith))))
