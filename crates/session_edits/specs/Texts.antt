-- The commands about whole texts: a model as JSON, judgements and values as tables.
use Rattle.std.specs.Prelude.{◌≡◌, ℕ, ◌==◌, List, codes, Result, Ok, Err}
use Rattle.std.specs.List.{slice_split}
use Rattle.judgement_matrix.specs.Matrix.{Judgements}
use Rattle.model_core.specs.State.{ModelState}
use Rattle.model_core.specs.Edits.{set_matrix}
use Rattle.model_json.specs.Text.{load_of}
use Rattle.model_json.specs.Writing.{dump_text}
use Rattle.model_json.specs.declared.fault.LoadFault.{LoadFault}
use Rattle.model_json.specs.declared.fault.LoadFault.TheVariants as load_fault
use Rattle.table_csv.specs.Lines.{lines_of}
use Rattle.table_csv.specs.Table.{Imports}
use Rattle.table_csv.specs.Layout.{matrix_table, value_table}
use Rattle.table_csv.specs.declared.fault.TableFault.{TableFault}
use Rattle.table_csv.specs.declared.fault.TableFault.TheVariants as table_fault
use Rattle.command_read.specs.declared.block.Held.{Held}
use Rattle.report_text.specs.declared.reply.Detail.TheVariants as detail
use Rattle.report_text.specs.declared.reply.Reply.{Reply}
use Rattle.report_text.specs.declared.reply.Reply.TheVariants as reply
use Rattle.session_state.specs.State.{SessionState, matrix_of, changed}
use Rattle.session_state.specs.declared.subject.Subject.{Subject}
use Rattle.session_edits.specs.Subjects.{names_of}
use Rattle.session_edits.specs.Edits.{Shows, Refuses, Accepts, AnswersEdit, OfBlock}
use Rattle.session_edits.specs.declared.refusal.TheConstants.{BAD_JSON, BAD_MODEL}

-- ---- `load` and `dump`

-- the session goes on to the model, or the refusal says why there is none
abbrev pub AnswersRead : SessionState → Result ModelState LoadFault → Reply → SessionState → Type 0
AnswersRead s (Ok m) r next = Accepts (changed s m) r next
AnswersRead s (Err load_fault.BadJson) r next = Refuses s BAD_JSON r next
AnswersRead s (Err (load_fault.BadModel pointer)) r next = Shows s (reply.Refused BAD_MODEL (detail.At pointer)) r next
-- no text gives this
AnswersRead s (Err load_fault.NoMemory) r next = ⊥

abbrev pub ReadsModel : SessionState → List ℕ → Reply → SessionState → Type 0
ReadsModel s bytes r next = AnswersRead s (load_of bytes) r next

-- what stands between the newlines of a text
abbrev pub lines_between : List ℕ → List (List ℕ)
lines_between text = slice_split (λ byte. byte == 10) text

abbrev pub dump_reply : ModelState → Reply
dump_reply m = reply.Dump (lines_between (dump_text m))

-- ---- `import`

-- the matrix of a table takes the place of the one of this name, or the first fault of the table is told
abbrev pub AnswersTable : SessionState → List ℕ → Result Judgements TableFault → Reply → SessionState → Type 0
AnswersTable s name (Ok matrix) r next = AnswersEdit s (set_matrix name matrix) r next
AnswersTable s name (Err (table_fault.BadTable line field)) r next =
    Shows s (reply.Refused BAD_MODEL (detail.Cell line field)) r next
-- no table gives this
AnswersTable s name (Err table_fault.NoMemory) r next = ⊥

abbrev pub ReadsTable : SessionState → List ℕ → Subject → List ℕ → Reply → SessionState → Type 0
ReadsTable s name subject bytes r next =
    (read : Result Judgements TableFault) × Imports (names_of s.model subject) bytes read
    × AnswersTable s name read r next

abbrev pub ImportsInto : SessionState → List ℕ → Held → Subject → Reply → SessionState → Type 0
ImportsInto s name block subject r next = OfBlock s block (ReadsTable s name subject) r next

-- ---- `export`

abbrev pub csv_reply : List (List (List ℕ)) → Reply
csv_reply table = reply.Csv (lines_of table)

-- the judgements of a matrix as a table
abbrev pub judged_table : ModelState → Subject → Reply
judged_table m subject = csv_reply (matrix_table (names_of m subject) (matrix_of m subject))

-- the table of the values that a reply shows; a refusal stays itself
abbrev pub table_reply : Reply → Reply
table_reply (reply.Anchored names values) = csv_reply (value_table (codes "element") names values)
table_reply (reply.Weights names values) = csv_reply (value_table (codes "criterion") names values)
table_reply (reply.Scores names values) = csv_reply (value_table (codes "option") names values)
table_reply other = other

-- what a query shows, as a table
abbrev pub AsTable : (Reply → SessionState → Type 0) → Reply → SessionState → Type 0
AsTable Query r next = (shown : Reply) × Query shown next × (r ≡ table_reply shown)
