use Rattle.command_read.proofs.form.group.Goals as goal

pub returns-in-None-split_word : goal.returns-in-None-split_word
returns-in-None-split_word c = rw (c.in_ok-x.ensures, c.in-Some.ensures.words, c.in-None-split_word.ensures.words) c.sub_group.ensures
