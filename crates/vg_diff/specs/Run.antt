-- What a call finds and prints.
use Rattle.std.specs.Prelude.{◌≡◌, ◌↔◌, ◌⊎◌, ℕ, ◌+◌, ◌<◌, true, ◌++◌, List, [], length, map, flat_map, take, Option, Some, None, option_map, Ok}
use Rattle.std.specs.Borrow.{Bor}
use Rattle.std.specs.List.Sorted.{IsPermutation}
use Rattle.vg_capture.specs.declared.captures.Capture.{Capture}
use Rattle.vg_capture.specs.declared.captures.Captured.{Captured}
use Rattle.vg_match.specs.declared.fields.Field.{Field}
use Rattle.vg_match.specs.declared.ranges.Range.{Range}
use Rattle.vg_match.specs.Diffs.{Packets, IsDiff, AllMatch, meant_keys}
use Rattle.vg_match.specs.Sides.{seen, left_out}
use Rattle.vg_outside.specs.Files.{Files}
use Rattle.vg_plan.specs.Plan.{Planned}
use Rattle.vg_report.specs.declared.reports.Report.{Report}
use Rattle.vg_report.specs.Reading.{report_of}
use Rattle.vg_diff.specs.declared.answers.Manner.{Manner}
use Rattle.vg_diff.specs.declared.input.Input.{Input}
use Rattle.vg_diff.specs.declared.lines.Findings.{Findings}
use Rattle.vg_diff.specs.declared.refusals.Refusal.{Refusal}
use Rattle.vg_diff.specs.declared.refusals.Refusal.TheVariants as refusals
use Rattle.vg_diff.specs.Asked.{Text, Ask, texts, asked, router_of}
use Rattle.vg_diff.specs.Answers.{IsText}
use Rattle.vg_diff.specs.Files.{IsInput, has_packets_of}
use Rattle.vg_diff.specs.Numbers.{starts_of, sent_numbers, dropped_numbers, frames_of_numbers}
use Rattle.vg_diff.specs.Orders.{AreReordered}
use Rattle.vg_diff.specs.Refusals.{status_of, line_of}
use Rattle.vg_diff.specs.Linux.{commands_text}
use Rattle.vg_diff.specs.Scripts.{MakesPlanAt}
use Rattle.vg_diff.specs.Stops.{Faults, faults_of, IsCause, IsRouterCause, input_causes}

-- ---- what is printed

-- where the sink's bytes are known, these were added
abbrev pub Appends : Option (List ℕ) → Option (List ℕ) → List ℕ → Type 0
Appends before after bytes = after ≡ option_map (λ all. all ++ bytes) before

-- where the sink's bytes are known, a front of these was added that is not all of them
abbrev pub AppendsFront : Option (List ℕ) → Option (List ℕ) → List ℕ → Type 0
AppendsFront before after bytes = (n : ℕ) × (n < length bytes) × Appends before after (take n bytes)

-- ---- what is found

-- the bytes of captured packets
abbrev pub packet_bytes : List Captured → List (List ℕ)
packet_bytes packets = map (λ (packet : Captured). packet.bytes) packets

-- the bytes of the packets of captures, one behind the other
abbrev pub all_bytes : List Capture → List (List ℕ)
all_bytes captures = flat_map (λ (capture : Capture). packet_bytes capture.packets) captures

-- the terms of a comparison: the fields that may differ, the ranges of addresses to which it is limited, and how it is printed
pub record Terms : Type 0 where
  pub ignored : List Field
  pub only : List Range
  pub manner : Manner

-- what is compared: the packets that had to come; those that came, and the numbers of the first packet of each of their savefiles but the first;
-- what became of the run's packets; and those that had to be dropped as far as they are known, with their numbers in the run
pub record Compared : Type 0 where
  pub wanted : List (List ℕ)
  pub got : List (List ℕ)
  pub starts : List ℕ
  pub report : Report
  pub dropped : List (List ℕ)
  pub numbers : List ℕ

abbrev pub packets_of : Terms → Compared → Packets
packets_of terms compared = record { only = terms.only; wanted = compared.wanted; got = compared.got; dropped = compared.dropped }

-- what is printed speaks of this difference of these packets, by their numbers in the run, their savefiles and the report, of what is left out
-- on either side, and of the pairs that came in another order
pub record IsFound (terms : Terms) (compared : Compared) (found : Findings) : Type 0 where
  pub wanted_are : seen found.wanted.now ≡ compared.wanted
  pub got_are : seen found.got.now ≡ compared.got
  pub is_diff : IsDiff terms.ignored (packets_of terms compared) found.diff.now
  pub ignored_are : found.ignored.now ≡ terms.ignored
  pub starts_are : found.starts.now ≡ compared.starts
  pub report_is : found.report.now ≡ compared.report
  pub sent_are : found.sent.now ≡ sent_numbers compared.report
  pub dropped_are : found.dropped.now ≡ compared.numbers
  pub wanted_noise : found.noise.0 ≡ left_out terms.only compared.wanted
  pub got_noise : found.noise.1 ≡ left_out terms.only compared.got
  pub reordered : AreReordered found.wanted.now found.starts.now found.diff.now.same.items found.reordered

-- each packet of either side stands in one count: it is left out, the same, or differs in one way
pub record AddUp (compared : Compared) (found : Findings) : Type 0 where
  pub wanted_sum : length found.diff.now.same.items + (length found.diff.now.changed.items + length found.diff.now.missing.items) + found.noise.0
      ≡ length compared.wanted
  pub got_sum : length found.diff.now.same.items + (length found.diff.now.changed.items + (length found.diff.now.there.items
      + length found.diff.now.extra.items)) + found.noise.1 ≡ length compared.got

-- the status and the text that say how these packets differ. The status is 0 where none does, else 9. It is 0 exactly where both sides have the
-- same packets that are meant, as often each, up to what is ignored
pub record IsAnswer (terms : Terms) (compared : Compared) (status : ℕ) (text : List ℕ) : Type 0 where
  pub found : Findings
  pub is_found : IsFound terms compared found
  pub add_up : AddUp compared found
  pub is_text : IsText terms.manner found text
  pub either : (status ≡ 0) ⊎ (status ≡ 9)
  pub all_match : (status ≡ 0) ↔ AllMatch found.diff.now
  pub exactly : (status ≡ 0) ↔ IsPermutation (meant_keys terms.ignored terms.only compared.wanted) (meant_keys terms.ignored terms.only compared.got)

-- what is asked for
abbrev pub terms_of : Ask → Terms
terms_of ask = record { ignored = ask.ignored; only = ask.only; manner = ask.manner }

-- the packets that the report says were dropped, by their numbers and by their frames, where the run's capture is known
abbrev pub known_numbers : Option Capture → Report → List ℕ
known_numbers None report = []
known_numbers (Some capture) report = dropped_numbers report

abbrev pub known_frames : Option Capture → Report → List (List ℕ)
known_frames None report = []
known_frames (Some capture) report = frames_of_numbers (packet_bytes capture.packets) (dropped_numbers report)

-- what is compared of files that hold this and this report, with this capture of the run
abbrev pub compared_with : Option Capture → Input → Report → Compared
compared_with capture input report = record {
  wanted = packet_bytes input.tx.packets;
  got = all_bytes input.others.items;
  starts = starts_of input.others.items;
  report = report;
  dropped = known_frames capture report;
  numbers = known_numbers capture report;
}

abbrev pub compared_in : Input → Report → Compared
compared_in input report = compared_with input.capture input report

-- the text is that of a report which has as many packets as the files, and this status and this text say how the packets differ
pub record AnswersIn (terms : Terms) (input : Input) (status : ℕ) (text : List ℕ) : Type 0 where
  pub report : Report
  pub is_report : report_of input.text ≡ Ok report
  pub fits : has_packets_of report (sent_numbers report) input ≡ true
  pub is_answer : IsAnswer terms (compared_in input report) status text

-- the files that are asked for hold a run's savefile and report and another router's savefiles, and this status and this text say how their
-- packets differ
pub record Answers (files : Option Files) (ask : Ask) (status : ℕ) (text : List ℕ) : Type 0 where
  pub input : Input
  pub is_input : IsInput files ask input
  pub answers_in : AnswersIn (terms_of ask) input status text

-- ---- a call

-- a call: its words, and of the folder its files where it names them, and how often calls on a name have failed
pub record Call : Type 0 where
  pub words : List Text
  pub files : Option Files
  pub faults : Faults

-- a call, by what its contract sees of it
abbrev pub called : List (Bor (List ℕ)) → Option Files → (before after : List ℕ → ℕ) → Call
called words files before after = record { words = texts words; files = files; faults = faults_of before after }

-- the words ask for a comparison, and this status and this text say how the packets of the files differ
pub record IsCompared (call : Call) (status : ℕ) (text : List ℕ) : Type 0 where
  pub ask : Ask
  pub is_ask : asked call.words ≡ Some ask
  pub answers : Answers call.files ask status text

-- the file of this name holds a script that makes a plan, and this text has the commands for its first graph
pub record IsRouterOf (files : Option Files) (script : Text) (status : ℕ) (text : List ℕ) : Type 0 where
  pub plan : Planned
  pub makes : MakesPlanAt files script plan
  pub is_status : status ≡ 0
  pub is_text : text ≡ commands_text plan

-- the words ask for the kernel's router of a script, and these are its status and its text
abbrev pub IsRouter : Call → ℕ → List ℕ → Type 0
IsRouter call status text = (script : Text) × (router_of call.words ≡ Some script) × IsRouterOf call.files script status text

-- what the words ask for was found
abbrev pub IsFoundBy : Call → ℕ → List ℕ → Type 0
IsFoundBy call status text = IsCompared call status text ⊎ IsRouter call status text

-- the words ask for nothing that there is; or what they ask for is refused
abbrev pub IsRefused : Call → Refusal → Type 0
IsRefused call refusal =
    ((refusal ≡ refusals.Usage) × (router_of call.words ≡ None) × (asked call.words ≡ None))
    ⊎ (((ask : Ask) × (asked call.words ≡ Some ask) × IsCause (input_causes call.files call.faults ask) refusal)
    ⊎ ((script : Text) × (router_of call.words ≡ Some script) × IsRouterCause call.files call.faults script refusal))

-- what is due at the end of a call, a status and a text to print: what was found, or the line of a refusal
abbrev pub IsDue : Call → ℕ → List ℕ → Type 0
IsDue call status text =
    IsFoundBy call status text ⊎ ((refusal : Refusal) × (status ≡ status_of refusal) × IsRefused call refusal × (text ≡ line_of refusal))
