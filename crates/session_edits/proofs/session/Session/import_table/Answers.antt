use Rattle.std.proofs.Common.{◌≡◌, length, rules}
use Rattle.session_edits.specs.Subjects.{names_of}
use Rattle.session_edits.proofs.TextLemmas.{size_named, imported_size}
use Rattle.session_edits.proofs.session.Session.import_table.Goals as goal

pub set_matrix-requires : goal.set_matrix-requires
set_matrix-requires c =
    let each : length c.args.self.now.model.order ≡ length c.args.self.now.model.criteria = search rules in
    let size : c.in-Ok.matrix.size ≡ length (names_of c.args.self.now.model c.args.subject) = search (rules, imported_size) in
    rw (size_named c.args.self.now.model c.args.name.now c.args.subject c.requires.named each) size
