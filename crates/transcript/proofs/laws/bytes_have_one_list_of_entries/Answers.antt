use Rattle.transcript.proofs.EntriesLemmas.{entries_exist, one_list}
use Rattle.transcript.proofs.laws.bytes_have_one_list_of_entries.Goals as goal

pub returns-clause-some : goal.returns-clause-some
returns-clause-some c = λ takes ended bytes. entries_exist takes ended bytes

pub returns-clause-one : goal.returns-clause-one
returns-clause-one c = λ takes ended bytes xs ys a b. one_list takes ended bytes xs ys a b
