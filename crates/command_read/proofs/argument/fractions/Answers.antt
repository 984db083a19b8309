use Rattle.std.proofs.Common.{◌≡◌, ◌++◌, ◌∷◌, [], sym, rules}
use Rattle.command_read.specs.Words.{words}
use Rattle.command_read.specs.Parts.{fractions}
use Rattle.command_read.proofs.FractionLemmas.{fractions_more}
use Rattle.command_read.proofs.argument.fractions.Goals as goal

pub loop-word-preserved : goal.loop-word-preserved
loop-word-preserved c =
    let items : c.push.new.self.items ≡ c.loop-word.all.items ++ c.in_ok-fraction.field-0 ∷ [] = search rules in
    let so_far = rw c.in-Some.ensures.words at c.loop-word.invariant in
    let all = fractions (words c.args.text.now) in
    rw items (fractions_more c.loop-word.all.items c.in-Some.word.now (words c.in-Some.after.now) c.in_ok-fraction.field-0 all c.in_ok-fraction.ensures so_far)
