use Rattle.table_csv.proofs.FaultlessLemmas.{faultless_stand, stand_faultless}
use Rattle.table_csv.proofs.laws.faultless_tables.Goals as goal

pub returns : goal.returns
returns c = λ names records. (faultless_stand names records, stand_faultless names records)
