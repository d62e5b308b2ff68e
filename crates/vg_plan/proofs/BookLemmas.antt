-- For the clauses of `Plan::{limits, book}`: the limits of all generations, in one pass.
use Rattle.std.proofs.Common.{◌≡◌, ℕ, ◌+◌, ◌<◌, ◌≤◌, Bool, List, [], ◌∷◌, ◌++◌, length, map, get_or, refl, sym, ap, ap₂, ◌∙◌, arith}
use Rattle.std.specs.Prelude.{zip}
use Rattle.std.specs.List.{enumerate_from, range_with_len}
use Rattle.std.specs.List.Sorted.{IsNonDecreasing}
use Rattle.std.proofs.lemmas.Option.{slice_get-get_or}
use Rattle.std.proofs.lemmas.List.FromFn.{map-range_with_len_more, length-map-range_with_len, length-enumerate_from}
use Rattle.std.proofs.lemmas.List.{length-map}
use Rattle.vg_model.specs.Graph.{Graph}
use Rattle.vg_capture.specs.declared.captures.Capture.{Capture}
use Rattle.vg_capture.specs.declared.captures.Captured.{Captured}
use Rattle.vg_script.specs.declared.scripts.Script.{Script}
use Rattle.vg_plan.specs.Plan.{Planned, limit_of, limits_of, windows, IsPlan}
use Rattle.vg_plan.specs.Times.{AreTimes}
use Rattle.vg_script.specs.Events.{Event, events}
use Rattle.vg_plan.proofs.GenerationLemmas.{length_graphs}
use Rattle.vg_plan.proofs.WindowLemmas.{limit_by_front, limit_of_last}
use Rattle.vg_plan.specs.Front.{stamp_in, IsFront}

-- so many packets are passed, all of them earlier than the events from this one on
pub record ArePassed (nanos : Bool) (packets : List Captured) (times : List ℕ) (n early : ℕ) : Type 0 where
  pub within : early ≤ length packets
  pub before : (i k : ℕ) → i < early → n ≤ k → k < length times → stamp_in nanos packets i < stamp_in nanos packets 0 + get_or times k 0

-- the packets in front of the first that an event finds are earlier than later events too
pub passed_next : (nanos : Bool) (packets : List Captured) (times : List ℕ) (n front : ℕ) → IsNonDecreasing times
    → IsFront nanos packets (stamp_in nanos packets 0 + get_or times n 0) front → ArePassed nanos packets times (n + 1) front
passed_next nanos packets times n front rising is = record {
  within = is.within;
  before = λ i k early from last.
      let first : stamp_in nanos packets i < stamp_in nanos packets 0 + get_or times n 0 = is.early i early in
      let rises : get_or times n 0 ≤ get_or times k 0 = rising n k 0 (omega arith) last in
      omega arith;
}

-- numbered graphs with a number for each
zip_numbered : (f : ℕ → ℕ) (n : ℕ) (gs : List Graph) → zip gs (map (λ (g : ℕ × Graph). f g.0) (enumerate_from n gs)) ≡ map {B = Graph × ℕ} (λ (g : ℕ × Graph). (g.1, f g.0)) (enumerate_from n gs)
zip_numbered f n [] = refl
zip_numbered f n (g ∷ gs) = ap (λ rest. (g, f n) ∷ rest) (zip_numbered f (n + 1) gs)

pub windows_are : (plan : Planned) (capture : Capture) → zip plan.graphs (limits_of plan capture) ≡ windows plan capture
windows_are plan capture = zip_numbered (limit_of plan.script capture) 0 plan.graphs

-- the numbers of a list
numbers_are : (f : ℕ → ℕ) (n : ℕ) (gs : List Graph) → map (λ (g : ℕ × Graph). f g.0) (enumerate_from n gs) ≡ map f (range_with_len n (length gs))
numbers_are f n [] = refl
numbers_are f n (g ∷ gs) = ap (λ rest. f n ∷ rest) (numbers_are f (n + 1) gs)

-- the limits up to an event are found
pub record AreFound (script : Script) (times : List ℕ) (capture : Capture) (limits : List ℕ) (n early : ℕ) : Type 0 where
  pub so_far : limits ≡ map (limit_of script capture) (range_with_len 0 n)
  pub passed : ArePassed capture.nanos capture.packets times n early

-- one limit more
pub found_next : (script : Script) (times : List ℕ) (capture : Capture) (limits after : List ℕ) (n early front : ℕ) → AreTimes script times → AreFound script times capture limits n early
    → n < length times → IsFront capture.nanos capture.packets (stamp_in capture.nanos capture.packets 0 + get_or times n 0) front → after ≡ limits ++ front ∷ []
    → AreFound script times capture after (n + 1) front
found_next script times capture limits after n early front are found below is pushed = record {
  so_far = pushed ∙ (ap₂ (λ xs x. xs ++ x ∷ []) found.so_far (limit_by_front script times capture n (get_or times n 0) front are (slice_get-get_or times n 0 below) is)
      ∙ sym (map-range_with_len_more (limit_of script capture) 0 n n (omega arith)));
  passed = passed_next capture.nanos capture.packets times n front are.rising is;
}

-- and that of the last generation
pub found_all : (plan : Planned) (times : List ℕ) (capture : Capture) (limits after : List ℕ) (n early count : ℕ) → IsPlan plan → AreTimes plan.script times → AreFound plan.script times capture limits n early
    → n ≡ length times → count ≡ length capture.packets → after ≡ limits ++ count ∷ [] → after ≡ limits_of plan capture
found_all plan times capture limits after n early count is are found last counted pushed =
    let graphs : length plan.graphs ≡ n + 1 = omega (arith, length_graphs plan is, ap length are.are, length-map (events plan.script) (λ (e : Event). e.time)) in
    pushed
    ∙ (ap₂ (λ xs x. xs ++ x ∷ []) found.so_far (counted ∙ limit_of_last plan.script times capture n are (omega arith))
    ∙ (sym (map-range_with_len_more (limit_of plan.script capture) 0 n n (omega arith))
    ∙ (ap (λ m. map (limit_of plan.script capture) (range_with_len 0 m)) (sym graphs) ∙ sym (numbers_are (limit_of plan.script capture) 0 plan.graphs))))

-- there are as many limits as graphs
pub length-limits_of : (plan : Planned) (capture : Capture) → length (limits_of plan capture) ≡ length plan.graphs
length-limits_of plan capture = length-map (enumerate_from 0 plan.graphs) (λ (g : ℕ × Graph). limit_of plan.script capture g.0) ∙ length-enumerate_from 0 plan.graphs

pub length_found : (script : Script) (times : List ℕ) (capture : Capture) (limits : List ℕ) (n early : ℕ) → AreFound script times capture limits n early → length limits ≡ n
length_found script times capture limits n early found = ap length found.so_far ∙ length-map-range_with_len (limit_of script capture) 0 n
