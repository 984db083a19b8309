-- Lines, and replies of whose parts none has a newline in it.
use Rattle.std.specs.Prelude.{ℕ, List, Option, Some, None, All, IsTrue, ⊤}
pub use Rattle.word_table.specs.Lines.{is_line}
use Rattle.report_text.specs.declared.reply.Detail.{Detail}
use Rattle.report_text.specs.declared.reply.Detail.TheVariants as detail
use Rattle.report_text.specs.declared.reply.Head.{Head}
use Rattle.report_text.specs.declared.reply.Head.TheVariants as head
use Rattle.report_text.specs.declared.reply.Reply.{Reply}
use Rattle.report_text.specs.declared.reply.Reply.TheVariants as reply

-- no byte is a newline
abbrev pub IsLine : List ℕ → Type 0
IsLine line = IsTrue (is_line line)

-- a name beside something else
abbrev pub IsNamed : {A : Type 0} → List ℕ × A → Type 0
IsNamed entry = IsLine entry.0

-- two names
abbrev pub AreNamed : List ℕ × List ℕ → Type 0
AreNamed pair = IsLine pair.0 × IsLine pair.1

-- a group, and the group above it where there is one
abbrev pub IsGroup : List ℕ × Option (List ℕ) → Type 0
IsGroup (name, None) = IsLine name
IsGroup (name, Some above) = IsLine name × IsLine above

-- the names and the place of a detail
abbrev pub HasLine : Detail → Type 0
HasLine (detail.At pointer) = IsLine pointer
HasLine (detail.Missing option criterion) = IsLine option × IsLine criterion
HasLine (detail.Place criterion) = IsLine criterion
HasLine (detail.Reach criterion span reach) = IsLine criterion
HasLine other = ⊤

-- the name in a part's head
abbrev pub IsHeaded : Head → Type 0
IsHeaded (head.Criterion name) = IsLine name
IsHeaded head.Weighting = ⊤

-- the names, the texts and the place of a reply
abbrev pub HasLines : Reply → Type 0
HasLines (reply.Refused number detail) = HasLine detail
HasLines (reply.Matrix names judged) = All IsLine names
HasLines (reply.Rows names rows) = All IsLine names
HasLines (reply.Fails names tag) = All IsLine names
HasLines (reply.Scale names values cert) = All IsLine names
HasLines (reply.Repairs names total shifts) = All IsLine names
HasLines (reply.Anchored names values) = All IsLine names
HasLines (reply.Weights names values) = All IsLine names
HasLines (reply.Scores names values) = All IsLine names
HasLines (reply.Not gap scales weights) = All IsNamed scales × All IsNamed weights
HasLines (reply.DomCert least parts) = All (λ part. IsHeaded part.head) parts
HasLines (reply.Dominances pairs) = All AreNamed pairs
HasLines (reply.Csv lines) = All IsLine lines
HasLines (reply.Dump lines) = All IsLine lines
HasLines (reply.Groups groups placed) = All IsGroup groups × All AreNamed placed
HasLines (reply.Subtotals parts total) = All IsNamed parts
HasLines other = ⊤
