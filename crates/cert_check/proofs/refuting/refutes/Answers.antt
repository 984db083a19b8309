use Rattle.std.proofs.Common.{◌≡◌, All, IsTrue, sym, ap, subst, subst₂, ◌∙◌, rules}
use Rattle.frac128.specs.Problem.{ProblemData}
use Rattle.frac128.specs.declared.problem.Cert.{Cert}
use Rattle.judgement_matrix.specs.Rows.{IsTagAmong}
use Rattle.lp_macbeth.specs.Rows.{problem_on}
use Rattle.cert_check.specs.Refuting.{TellsWhetherFarkas, AreRowsInOrder}
use Rattle.cert_check.proofs.RefutingLemmas.{own_tags, tags_among, tells, not_in_order}
use Rattle.cert_check.proofs.refuting.refutes.Goals as goal

pub returns-then-not-are_rows_in_order : goal.returns-then-not-are_rows_in_order
returns-then-not-are_rows_in_order c =
    not_in_order c.args.matrix.now c.args.entries.now c.size.ensures.matrix
    (λ are. let is : IsTrue c.are_rows_in_order.result = c.are_rows_in_order.ensures.1 are in let not = c.if-not-are_rows_in_order.true in absurd (cc))

pub problem_of_tags-requires-clause-tags : goal.problem_of_tags-requires-clause-tags
problem_of_tags-requires-clause-tags c =
    let are : AreRowsInOrder c.args.matrix.now c.args.entries.now = c.are_rows_in_order.ensures.0 (search rules) in
    subst (All (IsTagAmong c.args.matrix.now.size)) (sym (c.as_slice.ensures.value ∙ c.in_ok-tags.ensures))
    (tags_among c.args.matrix.now c.args.entries.now are)

pub returns : goal.returns
returns c =
    let m = c.args.matrix.now in
    let on = c.args.entries.now in
    let are : AreRowsInOrder m on = c.are_rows_in_order.ensures.0 (search rules) in
    let problem : c.in_ok-problem.problem ≡ problem_on m (own_tags on) =
    c.in_ok-problem.ensures ∙ ap (problem_on m) (c.as_slice.ensures.value ∙ c.in_ok-tags.ensures) in
    let told = c.is_farkas.ensures in
    tells m on c.size.ensures.matrix are c.is_farkas.result
    (subst₂ (λ (p : ProblemData) (cert : Cert). TellsWhetherFarkas p cert c.is_farkas.result) problem (search rules) told)
