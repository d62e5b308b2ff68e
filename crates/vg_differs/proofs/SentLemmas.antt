-- For `sent_of`, `lines_of`, `visits_of` and `traces_of`: what packets send, their lines and the nodes that they visited, one by one.
use Rattle.std.proofs.Common.{◌≡◌, ℕ, suc, ◌+◌, List, [], ◌∷◌, ◌++◌, map, take, drop, refl, sym, ap, ◌∙◌, arith}
use Rattle.std.specs.Prelude.{Some, slice_get}
use Rattle.std.specs.List.{AllByRecursion}
use Rattle.std.proofs.Math.Seq.{drop-cons}
use Rattle.std.proofs.lemmas.List.{map_push}
use Rattle.std.proofs.lemmas.Option.{slice_get_within, get_or_from_slice_get}
use Rattle.vg_model.specs.Graph.{Graph}
use Rattle.vg_model.specs.Leg.{Outcome, Sent, Dropped, Handed}
use Rattle.vg_model.specs.Journey.{Course}
use Rattle.vg_report.specs.declared.reports.PacketLine.{PacketLine}
use Rattle.vg_check.specs.Reports.{line_by, lines_by, trace_of, with_count}
use Rattle.vg_check.specs.Saves.{sent_first, sent_from}
use Rattle.vg_check.proofs.EntryLemmas.{next_entry}

-- a list from a place on begins with what stands there
from_get : {X : Type 0} (xs : List X) (k : ℕ) (x : X) → slice_get xs k ≡ Some x → drop k xs ≡ x ∷ drop (k + 1) xs
from_get xs k x at =
    drop-cons xs k x (slice_get_within xs k x at)
    ∙ ap (λ y. y ∷ drop (suc k) xs) (get_or_from_slice_get xs k x x at)
    ∙ ap (λ n. x ∷ drop n xs) (let e : suc k ≡ k + 1 = omega arith in e)

-- what one packet sends stands in front of what the others send
first_sent : (k : ℕ) (bytes : List ℕ) (o : Outcome) (others : List (ℕ × List ℕ)) → sent_first k bytes o others ≡ sent_first k bytes o [] ++ others
first_sent k bytes (Sent interface) others = refl
first_sent k bytes (Dropped node error) others = refl
first_sent k bytes (Handed node worker) others = refl

pub sent_next : (trips : List Course) (k : ℕ) (t : Course) → slice_get trips k ≡ Some t
    → sent_from k (drop k trips) ≡ sent_first k t.packet.bytes t.outcome [] ++ sent_from (k + 1) (drop (k + 1) trips)
sent_next trips k t at =
    ap (sent_from k) (from_get trips k t at)
    ∙ first_sent k t.packet.bytes t.outcome (sent_from (suc k) (drop (k + 1) trips))
    ∙ ap (λ n. sent_first k t.packet.bytes t.outcome [] ++ sent_from n (drop (k + 1) trips)) (let e : suc k ≡ k + 1 = omega arith in e)

-- the line of a packet stands in front of those of the others
pub line_next : (g : Graph) (lines : List PacketLine) (trips : List Course) (k : ℕ) (line : PacketLine) (t : Course) → slice_get lines k ≡ Some line → slice_get trips k ≡ Some t
    → map with_count (lines_by g (drop k lines) (drop k trips))
    ≡ with_count (line_by g line.congested t) ∷ map with_count (lines_by g (drop (k + 1) lines) (drop (k + 1) trips))
line_next g lines trips k line t at there =
    let front = from_get lines k line at in
    let first = from_get trips k t there in
    λ i. map with_count (lines_by g (front i) (first i))

-- a mapped list with one more
pub pushed_items : {V X : Type 0} (f : V → X) (before after : List V) (one : V) → after ≡ before ++ one ∷ [] → map f after ≡ map f before ++ f one ∷ []
pushed_items f before after one e = ap (map f) e ∙ map_push f before one

-- the nodes that one packet more visited
pub visits_next : (trips : List Course) (k : ℕ) (t : Course) {so_far : List (List ℕ)} {one : List ℕ} → slice_get trips k ≡ Some t
    → so_far ≡ map trace_of (take k trips) → one ≡ trace_of t → so_far ++ one ∷ [] ≡ map trace_of (take (k + 1) trips)
visits_next trips k t at front visited =
    (λ i. front i ++ visited i ∷ []) ∙ sym (ap (map trace_of) (next_entry trips k t at) ∙ map_push trace_of (take k trips) t)

-- what holds of each mapped, holds of all
pub all_mapped : {X Y : Type 0} (P : Y → Type 0) (f : X → Y) (xs : List X) → AllByRecursion (λ x. P (f x)) xs → AllByRecursion P (map f xs)
all_mapped P f [] all = tt
all_mapped P f (x ∷ xs) all = (all.0, all_mapped P f xs all.1)

-- what is mapped twice
pub mapped_twice : {X Y Z : Type 0} (f : X → Y) (g : Y → Z) (xs : List X) → map g (map f xs) ≡ map (λ x. g (f x)) xs
mapped_twice f g [] = refl
mapped_twice f g (x ∷ xs) = ap (λ l. g (f x) ∷ l) (mapped_twice f g xs)
