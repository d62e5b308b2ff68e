-- The text of a report (this project's profile).
use Rattle.std.specs.Prelude.{ℕ, suc, List, [], ◌∷◌, ◌++◌, length, map, flat_map, codes, decimal, Option, Some, None}
use Rattle.std.specs.List.{join_with_byte}
use Rattle.vg_model.specs.declared.kinds.DropError.{DropError}
use Rattle.vg_model.specs.declared.fates.Leg.{Leg}
use Rattle.vg_model.specs.Errors.{error_word}
use Rattle.vg_report.specs.declared.reports.Report.{Report}
use Rattle.vg_report.specs.declared.reports.PacketLine.{PacketLine}
use Rattle.vg_report.specs.declared.reports.PacketEnd.{PacketEnd}
use Rattle.vg_report.specs.declared.reports.PacketEnd.TheVariants as ends

-- a line is its words
abbrev pub Line : Type 0
Line = List (List ℕ)

-- words are parted by one space, and a line ends with a line feed
abbrev pub line_text : Line → List ℕ
line_text words = join_with_byte 32 words ++ 10 ∷ []

-- the words of a line that follow its first, each behind its space
abbrev pub further : Line → List ℕ
further words = flat_map (λ word. 32 ∷ word) words

-- a line for each element, with its number from this one on
abbrev pub numbered : {X : Type 0} → (ℕ → X → Line) → ℕ → List X → List Line
numbered f number [] = []
numbered f number (x ∷ xs) = f number x ∷ numbered f (suc number) xs

-- `vgd report 1`
abbrev pub first_line : Line
first_line = codes "vgd" ∷ codes "report" ∷ codes "1" ∷ []

-- a word and a number, as `packets 3`
abbrev pub count_line : List ℕ → ℕ → Line
count_line word n = word ∷ decimal n ∷ []

-- the lines that stand once, in front of the others
abbrev pub head_lines : Report → List Line
head_lines r =
    first_line
    ∷ count_line (codes "workers") r.workers
    ∷ count_line (codes "buffers") r.buffers
    ∷ count_line (codes "generations") r.generations
    ∷ count_line (codes "packets") (length r.packets)
    ∷ []

-- `interface I NAME tx COUNT`
abbrev pub interface_line : ℕ → List ℕ × ℕ → Line
interface_line i entry = codes "interface" ∷ decimal i ∷ entry.0 ∷ codes "tx" ∷ decimal entry.1 ∷ []

-- `node I NAME COUNT`
abbrev pub node_line : ℕ → List ℕ × ℕ → Line
node_line i entry = codes "node" ∷ decimal i ∷ entry.0 ∷ decimal entry.1 ∷ []

-- `error NODE ERROR COUNT`
abbrev pub error_line : List ℕ × DropError × ℕ → Line
error_line entry = codes "error" ∷ entry.0 ∷ error_word entry.1 ∷ decimal entry.2 ∷ []

-- `worker:generation`
abbrev pub leg_text : Leg → List ℕ
leg_text leg = decimal leg.worker ++ 58 ∷ decimal leg.generation

-- the legs of a packet in one word, parted by commas
abbrev pub legs_word : List Leg → List ℕ
legs_word legs = join_with_byte 44 (map leg_text legs)

-- `congested T`, where a full queue was the end
abbrev pub congested_words : Option ℕ → Line
congested_words None = []
congested_words (Some accepted) = codes "congested" ∷ decimal accepted ∷ []

-- `tx NAME`, or `drop NODE ERROR`
abbrev pub end_words : PacketEnd → Line
end_words (ends.Tx interface) = codes "tx" ∷ interface ∷ []
end_words (ends.Dropped node error) = codes "drop" ∷ node ∷ error_word error ∷ []

-- the end of the line of a packet that was transmitted on this interface, from the space in front of it on
abbrev pub sent_end : List ℕ → List ℕ
sent_end interface = further (end_words (ends.Tx interface)) ++ 10 ∷ []

-- `packet I LEGS END`
abbrev pub packet_line : ℕ → PacketLine → Line
packet_line i p = codes "packet" ∷ decimal i ∷ legs_word p.legs ∷ (congested_words p.congested ++ end_words p.end)

-- `trace I NODES`
abbrev pub trace_line : ℕ → List (List ℕ) → Line
trace_line i names = codes "trace" ∷ decimal i ∷ names

-- `end`
abbrev pub last_line : Line
last_line = codes "end" ∷ []

-- the lines of a report
abbrev pub lines : Report → List Line
lines r =
    head_lines r
    ++ numbered interface_line 0 r.interfaces
    ++ numbered node_line 0 r.nodes
    ++ map error_line r.errors
    ++ numbered packet_line 0 r.packets
    ++ numbered trace_line 0 r.traces
    ++ last_line ∷ []

-- the text of a report
abbrev pub text : Report → List ℕ
text r = flat_map line_text (lines r)
