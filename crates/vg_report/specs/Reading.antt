-- Which report a text is, or the first line that can't stand where it stands, and the first fault in it from left to right
-- (this project's profile).
use Rattle.std.specs.Prelude.{◌≡◌, ℕ, suc, Bool, ◌&&◌, ◌==◌, nat_lt, List, [], ◌∷◌, ◌++◌, length, codes, Result, Ok, Err, if◌then◌else◌}
use Rattle.vg_report.specs.declared.errors.ReportCause.{ReportCause}
use Rattle.vg_report.specs.declared.errors.ReportCause.TheVariants as causes
use Rattle.vg_report.specs.declared.errors.ReportError.{ReportError}
use Rattle.vg_report.specs.declared.kinds.LineKind.{LineKind}
use Rattle.vg_report.specs.declared.kinds.LineKind.TheVariants as kinds
use Rattle.vg_report.specs.declared.reading.Head.{Head}
use Rattle.vg_report.specs.declared.reports.Report.{Report}
use Rattle.vg_report.specs.Forms.{Words, Form, ◌>>=◌, gives, only_where, a_word_of, end_of_line, title_form, count_form, interface_form, node_form, error_form, packet_form, trace_form}
use Rattle.vg_report.specs.Kinds.{kind_of}
use Rattle.vg_report.specs.Lawful.{names}
use Rattle.vg_report.specs.Words.{words}

-- a text: its lines, each without the line feed that ends it, and what stands behind the last line feed
pub record Text : Type 0 where
  pub lines : List (List ℕ)
  pub tail : List ℕ

-- a byte other than a line feed in front
abbrev pub onto : ℕ → List (List ℕ) → List ℕ → Text
onto byte [] tail = record { lines = []; tail = byte ∷ tail }
onto byte (line ∷ lines) tail = record { lines = (byte ∷ line) ∷ lines; tail = tail }

-- a byte in front
abbrev pub with_byte : ℕ → Text → Text
with_byte byte text = if byte == 10 then record text { lines = [] ∷ text.lines } else onto byte text.lines text.tail

-- the lines of bytes
abbrev pub text_of : List ℕ → Text
text_of [] = record { lines = []; tail = [] }
text_of (byte ∷ bytes) = with_byte byte (text_of bytes)

-- the most interfaces, nodes and traces
abbrev pub most_interfaces : ℕ
most_interfaces = 16

abbrev pub most_nodes : ℕ
most_nodes = 64

abbrev pub most_traces : ℕ
most_traces = 256

-- a line of this kind may follow a report so far, of so many packets in all: 1 to 16 interfaces, then 1 to 64 nodes, then
-- errors, then all packets, then traces, not more than packets, then `end`
abbrev pub may_follow : (packets : ℕ) → Report → LineKind → Bool
may_follow packets r kinds.Interface = nat_lt (length r.interfaces) most_interfaces && length r.nodes == 0
may_follow packets r kinds.Node =
    nat_lt 0 (length r.interfaces) && nat_lt (length r.nodes) most_nodes && length r.errors == 0 && length r.packets == 0
may_follow packets r kinds.Error = nat_lt 0 (length r.nodes) && length r.packets == 0
may_follow packets r kinds.Packet = nat_lt 0 (length r.nodes) && nat_lt (length r.packets) packets
may_follow packets r kinds.Trace = length r.packets == packets && nat_lt (length r.traces) packets && nat_lt (length r.traces) most_traces
may_follow packets r kinds.End = nat_lt 0 (length r.nodes) && length r.packets == packets

-- what a line says: the report goes on with it, or it is whole
pub data Said : Type 0 where
  Further : Report → Said
  Whole : Said

-- behind the first word: a line of a kind
abbrev pub line_form : LineKind → Report → Form Said
line_form kinds.Interface r = do
  entry ← interface_form r.interfaces
  gives (Further (record r { interfaces = r.interfaces ++ entry ∷ [] }))
line_form kinds.Node r = do
  entry ← node_form r.nodes
  gives (Further (record r { nodes = r.nodes ++ entry ∷ [] }))
line_form kinds.Error r = do
  entry ← error_form (names r.nodes) r.errors
  gives (Further (record r { errors = r.errors ++ entry ∷ [] }))
line_form kinds.Packet r = do
  packet ← packet_form r
  gives (Further (record r { packets = r.packets ++ packet ∷ [] }))
line_form kinds.Trace r = do
  trace ← trace_form r
  gives (Further (record r { traces = r.traces ++ trace ∷ [] }))
line_form kinds.End r = do
  _ ← end_of_line
  gives Whole

-- a line behind the first five
abbrev pub said_form : (packets : ℕ) → Report → Form Said
said_form packets r = do
  kind ← a_word_of kind_of causes.Form
  _ ← only_where (may_follow packets r kind) causes.Form
  line_form kind r

-- a refusal
abbrev pub refused : {X : Type 0} → (line : ℕ) → ReportCause → Result X ReportError
refused line cause = Err (record { line = line; cause = cause })

-- the text from a line on, and the number of that line, from 1
pub record Rest : Type 0 where
  pub number : ℕ
  pub text : Text

-- the rest behind a line
abbrev pub behind : (number : ℕ) → List (List ℕ) → (tail : List ℕ) → Rest
behind number lines tail = record { number = suc number; text = record { lines = lines; tail = tail } }

-- what a form reads of a line, and what follows it
abbrev pub with_read : {X Y : Type 0} → (number : ℕ) → (X → Result Y ReportError) → Result (X × Words) ReportCause → Result Y ReportError
with_read number next (Ok found) = next found.0
with_read number next (Err cause) = refused number cause

-- what stands behind the last line feed: its own is missing there, where no word is at fault. So the text that ends with a line
-- feed and before `end` is refused at the line behind its last, where the first word is missing
abbrev pub cut_off : {X Y : Type 0} → (number : ℕ) → Result (X × Words) ReportCause → Result Y ReportError
cut_off number (Ok found) = refused number causes.Form
cut_off number (Err cause) = refused number cause

-- a line of this form
abbrev pub line_at : {X : Type 0} → Form X → (number : ℕ) → List (List ℕ) → (tail : List ℕ) → Result (X × Rest) ReportError
line_at form number (line ∷ lines) tail = with_read number (λ x. Ok (x, behind number lines tail)) (form (words line))
line_at form number [] tail = cut_off number (form (words tail))

abbrev pub a_line : {X : Type 0} → Form X → Rest → Result (X × Rest) ReportError
a_line form rest = line_at form rest.number rest.text.lines rest.text.tail

-- the report is whole, and the text ends there
abbrev pub ended : Report → (number : ℕ) → List (List ℕ) → (tail : List ℕ) → Result Report ReportError
ended r number (line ∷ lines) tail = refused number causes.Form
ended r number [] (byte ∷ bytes) = refused number causes.Form
ended r number [] [] = Ok r

-- with what a line says
abbrev pub with_said : Result Report ReportError → (Report → Result Report ReportError) → Said → Result Report ReportError
with_said whole further Whole = whole
with_said whole further (Further next) = further next

-- the lines behind the first five, of so many packets in all, that go on with a report so far
abbrev pub body_at : (packets : ℕ) → Report → (number : ℕ) → List (List ℕ) → (tail : List ℕ) → Result Report ReportError
body_at packets r number (line ∷ lines) tail =
    with_read number (with_said (ended r (suc number) lines tail) (λ next. body_at packets next (suc number) lines tail))
    (said_form packets r (words line))
body_at packets r number [] tail = cut_off number (said_form packets r (words tail))

abbrev pub body : (packets : ℕ) → Report → Rest → Result Report ReportError
body packets r rest = body_at packets r rest.number rest.text.lines rest.text.tail

-- what follows a line; a refusal stays
abbrev pub then_lines : {X Y : Type 0} → Result (X × Rest) ReportError → (X → Rest → Result Y ReportError) → Result Y ReportError
then_lines (Ok found) next = next found.0 found.1
then_lines (Err error) next = Err error

-- one line behind the other
infixl 10 ◌>>>◌
abbrev pub ◌>>>◌ : {X Y : Type 0} → (Rest → Result (X × Rest) ReportError) → (X → Rest → Result Y ReportError) → Rest → Result Y ReportError
first >>> next = λ rest. then_lines (first rest) next

-- no line, and this value
abbrev pub gives_head : Head → Rest → Result (Head × Rest) ReportError
gives_head head rest = Ok (head, rest)

-- the first five lines
abbrev pub head_of : Rest → Result (Head × Rest) ReportError
head_of =
    a_line title_form
    >>> λ _. a_line (count_form (codes "workers") 1 8)
    >>> λ workers. a_line (count_form (codes "buffers") 0 16384)
    >>> λ buffers. a_line (count_form (codes "generations") 1 1000)
    >>> λ generations. a_line (count_form (codes "packets") 0 65536)
    >>> λ packets. gives_head (record { workers = workers; buffers = buffers; generations = generations; packets = packets })

-- a report with nothing behind its first five lines
abbrev pub begun : Head → Report
begun head = record {
  workers = head.workers;
  buffers = head.buffers;
  generations = head.generations;
  interfaces = [];
  nodes = [];
  errors = [];
  packets = [];
  traces = [];
}

-- the report of the lines behind the first five
abbrev pub report_behind : Head → Rest → Result Report ReportError
report_behind head rest = body head.packets (begun head) rest

-- the report that a text is, or the line and the cause of its refusal
abbrev pub report_of : List ℕ → Result Report ReportError
report_of bytes = (head_of >>> report_behind) (record { number = 1; text = text_of bytes })

-- the answer is this refusal; memory may run out in place of any answer, and no line is named then
abbrev pub IsRefusal : Result Report ReportError → (line : ℕ) → ReportCause → Type 0
IsRefusal this line causes.Memory = line ≡ 0
IsRefusal this line cause = this ≡ refused line cause

-- this is what is answered, but for want of memory
abbrev pub Answers : Result Report ReportError → Result Report ReportError → Type 0
Answers this (Ok report) = this ≡ Ok report
Answers this (Err error) = IsRefusal this error.line error.cause

-- what is answered of a text, but for want of memory
abbrev pub AnswersRead : List ℕ → Result Report ReportError → Type 0
AnswersRead bytes answer = Answers (report_of bytes) answer
