-- For `is_reported` and the comparisons that it calls: lists that are compared place by place, and reports part by part.
use Rattle.std.proofs.Common.{◌≡◌, ℕ, zero, suc, ◌+◌, ◌<◌, ◌≤◌, List, [], ◌∷◌, ◌++◌, length, map, get_or, take, sym, ap, subst, ◌∙◌, arith}
use Rattle.std.specs.Prelude.{Some, option_map, slice_get}
use Rattle.std.proofs.lemmas.List.{take_all}
use Rattle.std.proofs.lemmas.Option.{none-some, same_Some, slice_get-map, slice_get-get_or, slice_get_within, get_or_from_slice_get}
use Rattle.vg_model.specs.declared.kinds.Interface.{Interface}
use Rattle.vg_model.specs.Graph.{Graph, Node, with_routes}
use Rattle.vg_model.specs.Journey.{Course}
use Rattle.vg_replay.specs.declared.replaying.Replayed.{Replayed}
use Rattle.vg_report.specs.declared.reports.PacketLine.{PacketLine}
use Rattle.vg_report.specs.declared.reports.Report.{Report}
use Rattle.vg_check.specs.Output.{node_name}
use Rattle.vg_check.specs.Reports.{counted, all_made, line_by, lines_by, trace_of, reported}
use Rattle.vg_check.proofs.EntryLemmas.{next_entry, lines_more, lines_with_routes}

-- what is read of a list
pub read_at : {X : Type 0} (xs : List X) (k : ℕ) (x : X) → k < length xs → x ≡ get_or xs k x → slice_get xs k ≡ Some x
read_at xs k x below read = slice_get-get_or xs k x below ∙ ap Some (sym read)

-- lists that are the same at one place more
pub same_next : {X : Type 0} (xs ys : List X) (k : ℕ) (x y : X) → slice_get xs k ≡ Some x → slice_get ys k ≡ Some y → x ≡ y → take k xs ≡ take k ys → take (k + 1) xs ≡ take (k + 1) ys
same_next xs ys k x y at other same so_far = next_entry xs k x at ∙ (λ i. so_far i ++ same i ∷ []) ∙ sym (next_entry ys k y other)

-- lists that differ at a place
pub differ_at : {X : Type 0} (xs ys : List X) (k : ℕ) (x y : X) → slice_get xs k ≡ Some x → slice_get ys k ≡ Some y → (x ≡ y → ⊥) → xs ≡ ys → ⊥
differ_at xs ys k x y at other apart e = apart (same_Some _ _ (sym at ∙ ap (λ l. slice_get l k) e ∙ other))

-- lists that are the same at each place
pub same_all : {X : Type 0} (xs ys : List X) (k : ℕ) → length xs ≤ k → length ys ≤ k → take k xs ≡ take k ys → xs ≡ ys
same_all xs ys k one other so_far = sym (take_all k xs one) ∙ so_far ∙ take_all k ys other

-- what a mapped list has at a place
pub mapped_at : {X Y : Type 0} (f : X → Y) (xs : List X) (k : ℕ) (x : X) → slice_get xs k ≡ Some x → slice_get (map f xs) k ≡ Some (f x)
mapped_at f xs k x at = slice_get-map f xs k ∙ ap (option_map f) at

-- and the front of a list
pub taken_at : {X : Type 0} (n : ℕ) (xs : List X) (k : ℕ) (x : X) → k < n → slice_get xs k ≡ Some x → slice_get (take n xs) k ≡ Some x
taken_at zero xs k x below at = absurd (omega (arith, below))
taken_at (suc n) [] k x below at = at
taken_at (suc n) (y ∷ xs) zero x below at = at
taken_at (suc n) (y ∷ xs) (suc k) x below at = taken_at n xs k x (omega (arith, below)) at

-- the line of a packet
lines_at : (g : Graph) (k : ℕ) (lines : List PacketLine) (trips : List Course) (line : PacketLine) (t : Course) → slice_get lines k ≡ Some line → k < length trips → t ≡ get_or trips k t
    → slice_get (lines_by g lines trips) k ≡ Some (line_by g line.congested t)
lines_at g k [] trips line t at within read = absurd (none-some line at)
lines_at g k (l ∷ lines) [] line t at within read = absurd (omega (arith, within))
lines_at g zero (l ∷ lines) (s ∷ trips) line t at within read =
    let same : l ≡ line = same_Some l line at in
    let there : s ≡ t = sym read in
    λ i. Some (line_by g (same i).congested (there i))
lines_at g (suc k) (l ∷ lines) (s ∷ trips) line t at within read = lines_at g k lines trips line t at (omega (arith, within)) read

-- lines that are those of packets at one place more
pub lines_next : (g : Graph) (k : ℕ) (lines : List PacketLine) (trips : List Course) (line : PacketLine) (t : Course) → slice_get lines k ≡ Some line → slice_get trips k ≡ Some t
    → line ≡ line_by g line.congested t → take k lines ≡ lines_by g (take k lines) (take k trips) → take (k + 1) lines ≡ lines_by g (take (k + 1) lines) (take (k + 1) trips)
lines_next g k lines trips line t at there same so_far =
    next_entry lines k line at ∙ (λ i. so_far i ++ same i ∷ [])
    ∙ sym (lines_more g k lines trips line t at (slice_get_within trips k t there) (sym (get_or_from_slice_get trips k t t there)))

-- a line that is not that of its packet
pub lines_differ : (g : Graph) (k : ℕ) (lines : List PacketLine) (trips : List Course) (line : PacketLine) (t : Course) → slice_get lines k ≡ Some line → slice_get trips k ≡ Some t
    → (line ≡ line_by g line.congested t → ⊥) → lines ≡ lines_by g lines trips → ⊥
lines_differ g k lines trips line t at there apart e =
    apart (same_Some _ _ (sym at ∙ ap (λ l. slice_get l k) e ∙ lines_at g k lines trips line t at (slice_get_within trips k t there) (sym (get_or_from_slice_get trips k t t there))))

-- lines that are all those of packets
pub lines_all : (g : Graph) (k : ℕ) (lines : List PacketLine) (trips : List Course) → length lines ≤ k → length trips ≤ k → take k lines ≡ lines_by g (take k lines) (take k trips) → lines ≡ lines_by g lines trips
lines_all g k lines trips one other so_far =
    let all = take_all k lines one in
    let whole = take_all k trips other in
    sym all ∙ so_far ∙ (λ i. lines_by g (all i) (whole i))

-- the parts of a report are those of what came of packets, by this graph
abbrev pub AreParts : Graph → Report → Replayed → Type 0
AreParts g report replayed =
    (report.interfaces ≡ counted (λ (interface : Interface). interface.name) g.interfaces replayed.counts.sends)
    × (report.nodes ≡ counted (λ (node : Node). node.name) g.nodes replayed.counts.visits)
    × (report.errors ≡ all_made g.nodes replayed.counts.drops)
    × (report.packets ≡ lines_by g report.packets replayed.trips)
    × (report.traces ≡ map (λ (t : Course). map (node_name g) (trace_of t)) (take (length report.traces) replayed.trips))

-- this graph is the last one, but for the routes
abbrev pub IsLastOf : Graph → Replayed → Type 0
IsLastOf g replayed = with_routes g replayed.last.routes replayed.last.routes6 ≡ replayed.last

-- lines by this graph are lines by the last one
lines_of_last : (g : Graph) (report : Report) (replayed : Replayed)
    → lines_by g report.packets replayed.trips ≡ lines_by (with_routes g replayed.last.routes replayed.last.routes6) report.packets replayed.trips
lines_of_last g report replayed = lines_with_routes g replayed.last.routes replayed.last.routes6 report.packets replayed.trips

-- then the report is
pub whole_report : (g : Graph) (report : Report) (replayed : Replayed) → IsLastOf g replayed → AreParts g report replayed → report ≡ reported report replayed
whole_report g report replayed last h =
    let whole : Graph = with_routes g replayed.last.routes replayed.last.routes6 in
    let routed : AreParts whole report replayed = (h.0, h.1, h.2, h.3 ∙ lines_of_last g report replayed, h.4) in
    let parts : AreParts replayed.last report replayed = subst (λ (g : Graph). AreParts g report replayed) last routed in
    λ i. record {
      workers = report.workers;
      buffers = report.buffers;
      generations = report.generations;
      interfaces = parts.0 i;
      nodes = parts.1 i;
      errors = parts.2 i;
      packets = parts.3 i;
      traces = parts.4 i;
    }

-- and the other way round
pub report_parts : (g : Graph) (report : Report) (replayed : Replayed) → IsLastOf g replayed → report ≡ reported report replayed → AreParts g report replayed
report_parts g report replayed last e =
    let whole : Graph = with_routes g replayed.last.routes replayed.last.routes6 in
    let parts : AreParts replayed.last report replayed = (
      ap (λ (r : Report). r.interfaces) e,
      ap (λ (r : Report). r.nodes) e,
      ap (λ (r : Report). r.errors) e,
      ap (λ (r : Report). r.packets) e,
      ap (λ (r : Report). r.traces) e,
    ) in
    let routed : AreParts whole report replayed = subst (λ (g : Graph). AreParts g report replayed) (sym last) parts in
    (routed.0, routed.1, routed.2, routed.3 ∙ sym (lines_of_last g report replayed), routed.4)
