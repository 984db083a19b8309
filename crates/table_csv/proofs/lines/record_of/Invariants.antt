use Rattle.std.proofs.Common.{◌≡◌, [], take, true}
use Rattle.std.specs.List.{list_all}
use Rattle.csv.specs.Records.{fields_of, partial_of}
use Rattle.model_core.specs.Names.{is_text}
use Rattle.table_csv.proofs.lines.record_of.Given as goal

abbrev pub invariant-loop-field : goal.invariant-loop-field
invariant-loop-field l = record {
  done : fields_of l.record ≡ take l.field-index l.row;
  clean : partial_of l.record ≡ [];
  texts : list_all is_text (take l.field-index l.row) ≡ true;
}
