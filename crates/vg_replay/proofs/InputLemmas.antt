-- For the clauses of `take_leg`, `go_on`, `Underway::{begin, take_on}` and `replay`: an input, as it is read.
use Rattle.std.proofs.Common.{◌≡◌, ℕ, ◌<◌, Bool, true, false, List, [], ◌∷◌, length, get_or, map, refl, sym, ap, ◌∙◌, arith}
use Rattle.std.specs.Prelude.{Option, Some, slice_get, option_map, ◌==◌, Result, Ok, Err, OnOk}
use Rattle.std.specs.List.{AllByRecursion}
use Rattle.std.proofs.lemmas.Bool.{eqb-true, eq-eqb, false≢true}
use Rattle.std.proofs.lemmas.List.{length-map}
use Rattle.std.proofs.lemmas.Option.{slice_get-get_or, slice_get-map}
use Rattle.vg_model.specs.declared.fates.Leg.{Leg}
use Rattle.vg_model.specs.Journey.{Choice}
use Rattle.vg_model.specs.Visit.{Visit}
use Rattle.vg_model.specs.Valid.{IsKindSet}
use Rattle.vg_capture.specs.declared.captures.Captured.{Captured}
use Rattle.vg_plan.specs.Plan.{IsGeneration}
use Rattle.vg_report.specs.declared.reports.PacketLine.{PacketLine}
use Rattle.vg_replay.specs.Replays.{task_of, IsInput}
use Rattle.vg_replay.specs.Tasks.{choice_of}
use Rattle.vg_replay.specs.declared.inputs.Input.{Input}
use Rattle.vg_replay.proofs.CourseLemmas.{generations}
use Rattle.vg_replay.proofs.WalkLemmas.{IsSound, choice_read}

-- a list whose length is tested
pub is_none : {X : Type 0} (read list : List X) (empty : Bool) → read ≡ list → empty ≡ (length read == 0) → empty ≡ true → list ≡ []
is_none read list empty same test yes_empty = sym same ∙ by read (eqb-true (length read) 0 (sym test ∙ yes_empty))
  where
    by : {X : Type 0} (xs : List X) → length xs ≡ 0 → xs ≡ []
    by [] e = refl
    by (x ∷ xs) e = absurd (omega (arith, e))

pub is_some : {X : Type 0} (read list : List X) (empty : Bool) → read ≡ list → empty ≡ (length read == 0) → empty ≡ false → list ≡ [] → ⊥
is_some read list empty same test not_empty none = false≢true (sym not_empty ∙ test ∙ eq-eqb (length read) 0 (ap length (same ∙ none)))

-- what follows where a call succeeds
pub on_ok : {X E : Type 0} (r : Result X E) (P Q : Type 0) → OnOk r P → (P → Q) → OnOk r Q
on_ok (Ok x) P Q p f = f p
on_ok (Err e) P Q p f = tt

-- the choice of a line with these legs and this count
abbrev pub with_legs : List Leg → Option ℕ → Choice
with_legs legs accepted = record { generations = generations legs; accepted = accepted }

-- the choice of a packet, as its line is read
pub choice_at : (lines : List PacketLine) (number : ℕ) (line : PacketLine) (legs : List Leg) → slice_get lines number ≡ Some line → legs ≡ line.legs
    → slice_get (map choice_of lines) number ≡ Some (with_legs legs line.congested)
choice_at lines number line legs e same = choice_read lines number line e ∙ ap (λ (ls : List Leg). Some (with_legs ls line.congested)) (sym same)

-- its bytes
pub bytes_at : (packets : List Captured) (number : ℕ) (bytes : List ℕ) → option_map (λ (p : Captured). p.bytes) (slice_get packets number) ≡ Some bytes
    → slice_get (map (λ (p : Captured). p.bytes) packets) number ≡ Some bytes
bytes_at packets number bytes e = slice_get-map (λ (p : Captured). p.bytes) packets number ∙ e

-- the generation of a leg that is there
pub leg_generation : (legs : List Leg) (k : ℕ) (d : Leg) → k < length legs → slice_get (generations legs) k ≡ Some (get_or legs k d).generation
leg_generation legs k d within =
    slice_get-map (λ (l : Leg). l.generation) legs k ∙ ap (option_map (λ (l : Leg). l.generation)) (slice_get-get_or legs k d within)

pub many_generations : (legs : List Leg) → length (generations legs) ≡ length legs
many_generations legs = length-map legs (λ (l : Leg). l.generation)

-- the task of an input
pub task_long : (visit : Visit) (input : Input) → length (task_of visit input).packets ≡ length input.capture.now.packets
task_long visit input = length-map input.capture.now.packets (λ (p : Captured). p.bytes)

pub task_lines : (visit : Visit) (input : Input) → IsInput input → length (task_of visit input).choices ≡ length (task_of visit input).packets
task_lines visit input is = length-map input.lines.now choice_of ∙ is.lines ∙ sym (task_long visit input)

pub sound_task : (visit : Visit) (input : Input) → IsKindSet visit → AllByRecursion IsGeneration input.plan.now.graphs → IsInput input → IsSound (task_of visit input)
sound_task visit input kinds graphs is = record { kinds = kinds; graphs = graphs; workers = (let h = is.workers.0 in omega (arith, h)) }
