-- Which reports are lawful (this project's profile).
use Rattle.std.specs.Prelude.{◌≡◌, ◌↔◌, ℕ, suc, ◌+◌, ◌*◌, ◌<◌, ◌≤◌, ◌^◌, List, [], ◌∷◌, length, map, bytes_eq, Option, None, IsSome, IfSome, unwrap_or}
use Rattle.std.specs.List.{AllByRecursion, IsDistinct}
use Rattle.vg_model.specs.declared.kinds.DropError.{DropError}
use Rattle.vg_model.specs.declared.kinds.DropError.TheVariants.{Congestion}
use Rattle.vg_model.specs.Edit.{place_of}
use Rattle.vg_model.specs.Errors.{error_number, all_errors}
use Rattle.vg_model.specs.Name.{IsName}
use Rattle.vg_report.specs.declared.reports.Report.{Report}
use Rattle.vg_report.specs.declared.reports.PacketLine.{PacketLine}
use Rattle.vg_report.specs.declared.reports.PacketEnd.{PacketEnd}
use Rattle.vg_report.specs.declared.reports.PacketEnd.TheVariants as ends

-- the names of a list of counts
abbrev pub names : List (List ℕ × ℕ) → List (List ℕ)
names counts = map (λ entry. entry.0) counts

-- the number under which a name is declared
abbrev pub number_of : List (List ℕ) → List ℕ → Option ℕ
number_of declared name = place_of (λ n. n) name declared

-- a name is one of those declared
abbrev pub IsDeclared : List (List ℕ) → List ℕ → Type 0
IsDeclared declared name = IsSome (number_of declared name)

-- one to so many names, all different, with counts below 2^63
pub record AreNamed (most : ℕ) (counts : List (List ℕ × ℕ)) : Type 0 where
  pub some : 1 ≤ length counts
  pub few : length counts ≤ most
  pub are_names : AllByRecursion (λ entry. IsName entry.0) counts
  pub differ : IsDistinct bytes_eq (names counts)
  pub small : AllByRecursion (λ entry. entry.1 < 2 ^ 63) counts

-- the place of an error's line among all that could be: by node number, then by error
abbrev pub error_place : List (List ℕ) → List ℕ × DropError × ℕ → ℕ
error_place nodes entry = length all_errors * unwrap_or (number_of nodes entry.0) 0 + error_number entry.1

-- errors from this place on, in their order and each once, at declared nodes, with counts above 0
abbrev pub AreErrorsFrom : List (List ℕ) → ℕ → List (List ℕ × DropError × ℕ) → Type 0
AreErrorsFrom nodes least [] = Unit {0}
AreErrorsFrom nodes least (entry ∷ entries) =
    IsDeclared nodes entry.0 × (0 < entry.2) × (entry.2 < 2 ^ 63) × (least ≤ error_place nodes entry)
    × AreErrorsFrom nodes (suc (error_place nodes entry)) entries

-- the names of an end are declared, and a count of accepted frames stands exactly with a drop by congestion
abbrev pub IsEndLawful : List (List ℕ) → List (List ℕ) → Option ℕ → PacketEnd → Type 0
IsEndLawful interfaces nodes congested (ends.Tx interface) = IsDeclared interfaces interface × (congested ≡ None)
IsEndLawful interfaces nodes congested (ends.Dropped node error) = IsDeclared nodes node × (IsSome congested ↔ (error ≡ Congestion))

-- a packet has one to four legs, on workers and under generations that the report has, and a lawful end
pub record IsPacketLawful (r : Report) (p : PacketLine) : Type 0 where
  pub some : 1 ≤ length p.legs
  pub few : length p.legs ≤ 4
  pub workers : AllByRecursion (λ l. l.worker < r.workers) p.legs
  pub generations : AllByRecursion (λ l. l.generation < r.generations) p.legs
  pub congested : IfSome p.congested (λ t. t < 2 ^ 62)
  pub end : IsEndLawful (names r.interfaces) (names r.nodes) p.congested p.end

-- a trace is 1 to 272 declared nodes
pub record IsTraceLawful (nodes : List (List ℕ)) (trace : List (List ℕ)) : Type 0 where
  pub some : 1 ≤ length trace
  pub few : length trace ≤ 272
  pub declared : AllByRecursion (IsDeclared nodes) trace

-- a report that may be
pub record IsLawful (r : Report) : Type 0 where
  pub workers : (1 ≤ r.workers) × (r.workers ≤ 8)
  pub buffers : r.buffers ≤ 16384
  pub generations : (1 ≤ r.generations) × (r.generations ≤ 1000)
  pub interfaces : AreNamed 16 r.interfaces
  pub nodes : AreNamed 64 r.nodes
  pub errors : AreErrorsFrom (names r.nodes) 0 r.errors
  pub few_packets : length r.packets ≤ 65536
  pub packets : AllByRecursion (IsPacketLawful r) r.packets
  pub few_traces : (length r.traces ≤ 256) × (length r.traces ≤ length r.packets)
  pub traces : AllByRecursion (IsTraceLawful (names r.nodes)) r.traces
