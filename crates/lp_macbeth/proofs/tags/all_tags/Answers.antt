use Rattle.std.proofs.Common.{◌≡◌, subst, sym, rules, All}
use Rattle.judgement_matrix.specs.Rows.{rows, IsTagAmong}
use Rattle.lp_macbeth.proofs.TagLemmas.{All-rows}
use Rattle.lp_macbeth.proofs.tags.all_tags.Goals as goal

pub returns-clause-among : goal.returns-clause-among
returns-clause-among c =
    let is : c.push_order.new.tags.items ≡ rows c.args.matrix.now = search rules in
    subst (All (IsTagAmong c.args.matrix.now.size)) (sym is) (All-rows c.args.matrix.now)
