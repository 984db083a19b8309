use Rattle.std.proofs.Common.{arith, refl, [], ◌∷◌, ◌++◌, length-append}
use Rattle.std.specs.List.{IsDistinct}
use Rattle.std.specs.Cmp.Lexicographic.{nat_list_eq_equiv}
use Rattle.std.proofs.lemmas.Map.Keys.{IsDistinct-push}
use Rattle.std.proofs.lemmas.Result.{err_from_is_err_and}
use Rattle.model_json.specs.Reading.{element_of}
use Rattle.model_json.proofs.Loops.{goes_on, ends, is_done}
use Rattle.model_json.proofs.criteria.read_each_element.Goals as goal

pub values-init : goal.values-init
unfolding IsDistinct
values-init c = rw c.new-elements.ensures.items (record { left = refl; each = refl; few = omega arith; apart = tt })

pub returns-in_err-element-clause-names : goal.returns-in_err-element-clause-names
returns-in_err-element-clause-names c =
    let p = err_from_is_err_and c.from_residual.result c.from_residual.ensures.1 in
    let read = rw c.deref.ensures.value at c.in_err-element.ensures.name in
    rw (p.1, p.2) (ends (element_of c.args.i) [] c.args.values.now c.values.j c.values.elements.items c.values.invariant.left
    c.index-values-j.result c.values-test.true c.index-values-j.is c.in_err-element.field-0.0 read)

pub values-preserved : goal.values-preserved
values-preserved c =
    let before = c.values.elements.items in
    let element = c.in_ok-element.element in
    let read = rw c.deref.ensures.value at c.in_ok-element.ensures.name in
    let free = rw c.deref.ensures.value at c.in_ok-element.ensures.free in
    rw c.in_ok-push.ensures.items (record {
      left = goes_on (element_of c.args.i) [] c.args.values.now c.values.j before c.values.invariant.left
          c.index-values-j.result c.values-test.true c.index-values-j.is (before ++ element ∷ []) read;
      each = omega (arith, length-append before (element ∷ []), c.values.invariant.each);
      few = omega (arith, c.in_ok-element.ensures.few);
      apart = IsDistinct-push nat_list_eq_equiv before element c.values.invariant.apart free;
    })

pub returns-clause-names : goal.returns-clause-names
returns-clause-names c = is_done (element_of c.args.i) [] c.args.values.now c.values.j c.values.elements.items c.values.invariant.left (omega arith)
