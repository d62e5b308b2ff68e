-- The lines of a report, word for word: what the words of each line say, or the cause of the first word that can't stand
-- there (this project's profile).
use Rattle.std.specs.Prelude.{ℕ, suc, ◌-◌, Bool, not, ◌==◌, nat_le, List, [], ◌∷◌, ◌++◌, length, codes, bytes_eq, slice_get, is_some, Option, Some, None, unwrap_or, option_map, Result, Ok, Err, if◌then◌else◌}
use Rattle.std.specs.Str.Parse.{digits_value}
use Rattle.vg_model.specs.declared.kinds.DropError.{DropError}
use Rattle.vg_model.specs.declared.kinds.DropError.TheVariants.{Congestion}
use Rattle.vg_model.specs.Errors.{error_number}
use Rattle.vg_report.specs.declared.errors.ReportCause.{ReportCause}
use Rattle.vg_report.specs.declared.errors.ReportCause.TheVariants as causes
use Rattle.vg_report.specs.declared.reports.PacketEnd.{PacketEnd}
use Rattle.vg_report.specs.declared.reports.PacketEnd.TheVariants as ends
use Rattle.vg_report.specs.declared.reports.PacketLine.{PacketLine}
use Rattle.vg_report.specs.declared.reports.Report.{Report}
use Rattle.vg_report.specs.Lawful.{names, number_of, error_place}
use Rattle.vg_report.specs.Words.{name_of, is_decimal, number_within, legs_of, error_of}

-- the words of a line that are still to be read
abbrev pub Words : Type 0
Words = List (List ℕ)

-- a form takes words from the front: a value and the words behind, or the cause of the first word that can't stand there
abbrev pub Form : Type 0 → Type 0
Form X = Words → Result (X × Words) ReportCause

-- a form reads on behind what was read; a cause stays
abbrev pub read_on : {X Y : Type 0} → Result (X × Words) ReportCause → (X → Form Y) → Result (Y × Words) ReportCause
read_on (Ok found) form = form found.0 found.1
read_on (Err cause) form = Err cause

-- one form behind the other
infixl 10 ◌>>=◌
abbrev pub ◌>>=◌ : {X Y : Type 0} → Form X → (X → Form Y) → Form Y
first >>= next = λ words. read_on (first words) next

-- no word, and this value
abbrev pub gives : {X : Type 0} → X → Form X
gives x words = Ok (x, words)

-- no word, and this cause
abbrev pub fails : {X : Type 0} → ReportCause → Form X
fails cause words = Err cause

-- this value where there is one, or a cause
abbrev pub or_else : {X : Type 0} → Option X → ReportCause → Form X
or_else (Some x) cause words = Ok (x, words)
or_else None cause words = Err cause

-- no word where a test holds, or a cause
abbrev pub only_where : Bool → ReportCause → Form (Unit {0})
only_where test cause = or_else (if test then Some tt else None) cause

-- the end of the line: a word there is one too many
abbrev pub end_of_line : Form (Unit {0})
end_of_line [] = Ok (tt, [])
end_of_line (word ∷ words) = Err causes.Form

-- any word; it is missing at the end of the line, and where it is empty
abbrev pub a_word : Form (List ℕ)
a_word [] = Err causes.Form
a_word (word ∷ words) = if length word == 0 then Err causes.Form else Ok (word, words)

-- a word of a class, and the cause where another word stands there
abbrev pub a_word_of : {X : Type 0} → (List ℕ → Option X) → ReportCause → Form X
a_word_of class cause = do
  word ← a_word
  or_else (class word) cause

-- a fixed word
abbrev pub fixed : List ℕ → Form (Unit {0})
fixed text = a_word_of (λ word. if bytes_eq word text then Some tt else None) causes.Form

-- a number in its spelling and its range
abbrev pub a_number : (least most : ℕ) → Form ℕ
a_number least most = a_word_of (number_within least most) causes.Number

-- a running number, of which one is next: a number of another spelling is none, and any other is out of order
abbrev pub a_running_number : (next : ℕ) → Form (Unit {0})
a_running_number next = do
  word ← a_word
  _ ← only_where (is_decimal word) causes.Number
  only_where (digits_value 10 word == next) causes.Order

-- a name that none of these is
abbrev pub a_new_name : List (List ℕ) → Form (List ℕ)
a_new_name taken = do
  name ← a_word_of name_of causes.Unknown
  _ ← only_where (not (is_some (number_of taken name))) causes.Unknown
  gives name

-- a name that is one of these
abbrev pub a_declared_name : List (List ℕ) → Form (List ℕ)
a_declared_name declared = do
  name ← a_word_of name_of causes.Unknown
  _ ← only_where (is_some (number_of declared name)) causes.Unknown
  gives name

-- the word for an error
abbrev pub an_error : Form DropError
an_error = a_word_of error_of causes.Unknown

-- the error is that of a full queue
abbrev pub is_congestion : DropError → Bool
is_congestion error = error_number error == error_number Congestion

-- the greatest count, and the greatest number of frames that a queue accepted
abbrev pub most_counted : ℕ
most_counted = 0x7fff_ffff_ffff_ffff

abbrev pub most_accepted : ℕ
most_accepted = 0x3fff_ffff_ffff_ffff

-- `vgd report 1`
abbrev pub title_form : Form (Unit {0})
title_form = do
  _ ← fixed (codes "vgd")
  _ ← fixed (codes "report")
  _ ← fixed (codes "1")
  end_of_line

-- a fixed word and a number in its range, as `packets 3`
abbrev pub count_form : List ℕ → (least most : ℕ) → Form ℕ
count_form word least most = do
  _ ← fixed word
  number ← a_number least most
  _ ← end_of_line
  gives number

-- behind `interface`: `I NAME tx COUNT`
abbrev pub interface_form : List (List ℕ × ℕ) → Form (List ℕ × ℕ)
interface_form interfaces = do
  _ ← a_running_number (length interfaces)
  name ← a_new_name (names interfaces)
  _ ← fixed (codes "tx")
  count ← a_number 0 most_counted
  _ ← end_of_line
  gives (name, count)

-- behind `node`: `I NAME COUNT`
abbrev pub node_form : List (List ℕ × ℕ) → Form (List ℕ × ℕ)
node_form nodes = do
  _ ← a_running_number (length nodes)
  name ← a_new_name (names nodes)
  count ← a_number 0 most_counted
  _ ← end_of_line
  gives (name, count)

-- the error line before, if there is one
abbrev pub last_error : List (List ℕ × DropError × ℕ) → Option (List ℕ × DropError × ℕ)
last_error errors = slice_get errors (length errors - 1)

-- the number of a name among these; 0 where it is none of them
abbrev pub place_in : List (List ℕ) → List ℕ → ℕ
place_in declared name = unwrap_or (number_of declared name) 0

-- the number of the node of the error line before: no node of a lower number is next
abbrev pub least_node : List (List ℕ) → List (List ℕ × DropError × ℕ) → ℕ
least_node nodes errors = unwrap_or (option_map (λ entry. place_in nodes entry.0) (last_error errors)) 0

-- the place behind that of the error line before: no error of a lower place is next
abbrev pub least_place : List (List ℕ) → List (List ℕ × DropError × ℕ) → ℕ
least_place nodes errors = unwrap_or (option_map (λ entry. suc (error_place nodes entry)) (last_error errors)) 0

-- a declared node that doesn't come before that of the error line before
abbrev pub a_next_node : List (List ℕ) → List (List ℕ × DropError × ℕ) → Form (List ℕ)
a_next_node nodes errors = do
  node ← a_declared_name nodes
  _ ← only_where (nat_le (least_node nodes errors) (place_in nodes node)) causes.Order
  gives node

-- an error that at this node comes behind the error line before
abbrev pub a_next_error : List (List ℕ) → List (List ℕ × DropError × ℕ) → (node : List ℕ) → Form DropError
a_next_error nodes errors node = do
  error ← an_error
  _ ← only_where (nat_le (least_place nodes errors) (error_place nodes (node, error, 0))) causes.Order
  gives error

-- behind `error`: `NODE ERROR COUNT`, by node number, then in the order of the errors
abbrev pub error_form : List (List ℕ) → List (List ℕ × DropError × ℕ) → Form (List ℕ × DropError × ℕ)
error_form nodes errors = do
  node ← a_next_node nodes errors
  error ← a_next_error nodes errors node
  count ← a_number 1 most_counted
  _ ← end_of_line
  gives (node, error, count)

-- behind `tx`: `NAME`
abbrev pub sent_form : (interfaces : List (List ℕ)) → Form (Option ℕ × PacketEnd)
sent_form interfaces = do
  interface ← a_declared_name interfaces
  gives (None, ends.Tx interface)

-- behind `drop`: `NODE ERROR` with another error than congestion
abbrev pub dropped_form : (nodes : List (List ℕ)) → Form (Option ℕ × PacketEnd)
dropped_form nodes = do
  node ← a_declared_name nodes
  error ← an_error
  _ ← only_where (not (is_congestion error)) causes.Form
  gives (None, ends.Dropped node error)

-- behind `congested`: `T drop NODE congestion`
abbrev pub congested_form : (nodes : List (List ℕ)) → Form (Option ℕ × PacketEnd)
congested_form nodes = do
  accepted ← a_number 0 most_accepted
  _ ← fixed (codes "drop")
  node ← a_declared_name nodes
  error ← an_error
  _ ← only_where (is_congestion error) causes.Form
  gives (Some accepted, ends.Dropped node error)

-- how a packet ended, and how many frames a full queue had accepted that was the end
abbrev pub an_end_by : (interfaces nodes : List (List ℕ)) → List ℕ → Form (Option ℕ × PacketEnd)
an_end_by interfaces nodes word =
    if bytes_eq word (codes "tx") then sent_form interfaces
    else if bytes_eq word (codes "drop") then dropped_form nodes
    else if bytes_eq word (codes "congested") then congested_form nodes
    else fails causes.Form

abbrev pub an_end : (interfaces nodes : List (List ℕ)) → Form (Option ℕ × PacketEnd)
an_end interfaces nodes = do
  word ← a_word
  an_end_by interfaces nodes word

-- behind `packet`: `I LEGS END`
abbrev pub packet_form : Report → Form PacketLine
packet_form r = do
  _ ← a_running_number (length r.packets)
  legs ← a_word_of (legs_of r.workers r.generations) causes.Number
  end ← an_end (names r.interfaces) (names r.nodes)
  _ ← end_of_line
  gives (record { legs = legs; congested = end.0; end = end.1 })

-- the most nodes of a trace
abbrev pub longest_trace : ℕ
longest_trace = 272

-- these names, and those that stand up to the end of the line: each is declared, and one too many can't stand there
abbrev pub with_names : (declared : List (List ℕ)) → List (List ℕ) → Form (List (List ℕ))
with_names declared names [] = Ok (names, [])
with_names declared names (word ∷ words) =
    if nat_le longest_trace (length names) then Err causes.Form
    else read_on (a_declared_name declared (word ∷ [])) (λ name _. with_names declared (names ++ name ∷ []) words)

-- behind `trace`: `I NODES`
abbrev pub trace_form : Report → Form (List (List ℕ))
trace_form r = do
  _ ← a_running_number (length r.traces)
  first ← a_declared_name (names r.nodes)
  with_names (names r.nodes) (first ∷ [])
