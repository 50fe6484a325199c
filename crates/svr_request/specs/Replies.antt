-- The text of replies: each one line, without spaces, ended by LF.
use Rattle.std.specs.Prelude.{ℕ, ◌≤◌, List, [], ◌∷◌, ◌++◌, flat_map, length, codes, Option, Some, None}
use Rattle.std.specs.Fmt.{decimal}
use Rattle.svr_num.specs.declared.hit.Hit.{Hit}
use Rattle.svr_request.specs.declared.refusal.Refusal.{Refusal}
use Rattle.svr_request.specs.declared.refusal.Refusal.TheVariants as refusal
use Rattle.svr_request.specs.declared.reply.Fault.{Fault}
use Rattle.svr_request.specs.declared.reply.Fault.TheVariants as fault
use Rattle.svr_request.specs.declared.reply.Reply.{Reply}
use Rattle.svr_request.specs.declared.reply.Reply.TheVariants.{Accepted, Left, Found, Refused, Faulted}

-- the member with the number of a load's record, if there is one
abbrev pub record_text : Option ℕ → List ℕ
record_text None = []
record_text (Some n) = codes ",\"record\":" ++ decimal n

-- the name of a refusal in quotes, and its further members
abbrev pub refusal_text : Refusal → List ℕ
refusal_text refusal.LineTooLong = codes "\"line-too-long\""
refusal_text refusal.NotJson = codes "\"not-json\""
refusal_text refusal.UnknownOp = codes "\"unknown-op\""
refusal_text refusal.BadShape = codes "\"bad-shape\""
refusal_text refusal.NoSchema = codes "\"no-schema\""
refusal_text refusal.SchemaSet = codes "\"schema-set\""
refusal_text (refusal.BadSchema rule) = codes "\"bad-schema\",\"rule\":" ++ decimal rule
refusal_text refusal.NoTable = codes "\"no-table\""
refusal_text (refusal.BadCsv n) = codes "\"bad-csv\",\"record\":" ++ decimal n
refusal_text (refusal.BadRow column) = codes "\"bad-row\",\"column\":" ++ decimal column
refusal_text (refusal.TextTooLong n) = codes "\"text-too-long\"" ++ record_text n
refusal_text (refusal.KeyExists n) = codes "\"key-exists\"" ++ record_text n
refusal_text refusal.NoRow = codes "\"no-row\""
refusal_text (refusal.TableFull n) = codes "\"table-full\"" ++ record_text n
refusal_text (refusal.TextFull n) = codes "\"text-full\"" ++ record_text n
refusal_text refusal.NoTerms = codes "\"no-terms\""
refusal_text refusal.TooManyTerms = codes "\"too-many-terms\""
refusal_text refusal.BadK = codes "\"bad-k\""
refusal_text refusal.Merging = codes "\"merging\""
refusal_text refusal.NoMerge = codes "\"no-merge\""
refusal_text refusal.MergeUnbuilt = codes "\"merge-unbuilt\""
refusal_text refusal.JournalFull = codes "\"journal-full\""
refusal_text refusal.Memory = codes "\"memory\""

abbrev pub fault_text : Fault → List ℕ
fault_text fault.Read = codes "\"read\""
fault_text (fault.Damaged page) = codes "\"damaged\",\"page\":" ++ decimal page
fault_text fault.Write = codes "\"write\""
fault_text fault.Memory = codes "\"memory\""

-- a hit: its id and its score
abbrev pub hit_text : Hit → List ℕ
hit_text hit = codes "[" ++ decimal hit.id ++ codes "," ++ decimal hit.score ++ codes "]"

-- a hit behind a comma
abbrev pub more_text : Hit → List ℕ
more_text hit = codes "," ++ hit_text hit

-- hits, with a comma between each two
abbrev pub hits_text : List Hit → List ℕ
hits_text [] = []
hits_text (hit ∷ hits) = hit_text hit ++ flat_map more_text hits

-- the line of a reply, with its line feed
abbrev pub text_of : Reply → List ℕ
text_of (Accepted n) = codes "{\"ok\":" ++ decimal n ++ codes "}\n"
text_of (Left n) = codes "{\"left\":" ++ decimal n ++ codes "}\n"
text_of (Found answer) = codes "{\"hits\":[" ++ hits_text answer.hits ++ codes "],\"groups\":" ++ decimal answer.groups ++ codes "}\n"
text_of (Refused why) = codes "{\"error\":" ++ refusal_text why ++ codes "}\n"
text_of (Faulted f) = codes "{\"fault\":" ++ fault_text f ++ codes "}\n"

-- there is room for 1,000 hits
abbrev pub IsPrintable : Reply → Type 0
IsPrintable (Found answer) = length answer.hits ≤ 1000
IsPrintable _ = Unit {0}
