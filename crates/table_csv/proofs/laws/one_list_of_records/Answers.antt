use Rattle.table_csv.proofs.RecordLemmas.{one_reading}
use Rattle.table_csv.proofs.RecordExistence.{every_text_has_records}
use Rattle.table_csv.proofs.laws.one_list_of_records.Goals as goal

pub returns : goal.returns
returns c = record { some = every_text_has_records; one = one_reading }
