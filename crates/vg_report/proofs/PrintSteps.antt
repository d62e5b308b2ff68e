-- For `written_is_read_back` and `texts_differ`:
-- The lines of a lawful report, read one by one.
use Rattle.std.proofs.Common.{◌≡◌, ℕ, suc, ◌^◌, ◌<◌, ◌≤◌, true, ◌&&◌, eqb, ltb, List, [], ◌∷◌, ◌++◌, length, map, refl, sym, ap, subst, ◌∙◌, arith, append-nil, append_assoc, length-append, lt-ltb}
use Rattle.std.proofs.lemmas.Bool.{and_from, eq-eqb}
use Rattle.std.specs.List.{AllByRecursion, IsDistinct}
use Rattle.std.specs.Prelude.{Option, Some, None, Ok, bytes_eq, option_map, unwrap_or}
use Rattle.vg_model.specs.declared.kinds.DropError.{DropError}
use Rattle.vg_model.specs.Name.{IsName}
use Rattle.vg_report.specs.declared.errors.ReportCause.TheVariants as causes
use Rattle.vg_report.specs.declared.kinds.LineKind.{LineKind}
use Rattle.vg_report.specs.declared.kinds.LineKind.TheVariants as kinds
use Rattle.vg_report.specs.declared.reports.PacketLine.{PacketLine}
use Rattle.vg_report.specs.declared.reports.Report.{Report}
use Rattle.vg_report.specs.Forms.{Words, read_on, gives, only_where, a_word_of, last_error, least_place, place_in}
use Rattle.vg_report.specs.Kinds.{kind_word, kind_of}
use Rattle.vg_report.specs.Lawful.{names, AreNamed, error_place, AreErrorsFrom, IsPacketLawful, IsTraceLawful, IsLawful}
use Rattle.vg_report.specs.Reading.{may_follow, Said, Further, line_form, said_form, most_interfaces, most_nodes, most_traces}
use Rattle.vg_report.specs.Text.{Line, numbered, interface_line, node_line, error_line, packet_line, trace_line}
use Rattle.vg_report.proofs.BodyLemmas.{error_small}
use Rattle.vg_report.proofs.LineShows.{IsNewEntry}
use Rattle.vg_report.proofs.ListLemmas.{all_split, none_found, distinct_front}
use Rattle.vg_report.proofs.PrintForms.{declared_is_name, interface_reads, node_reads, error_line_reads, packet_reads, trace_reads}
use Rattle.vg_report.proofs.PrintWords.{reads_then, class_reads}
use Rattle.vg_report.proofs.StepLemmas.{body_lines, next_place, place_is, IsErrorEntry}

-- lines that are read in order, each going on with the report so far
abbrev pub Steps : (total : ℕ) → Report → List Line → Report → Type 0
Steps total r [] next = r ≡ next
Steps total r (ws ∷ wss) next = (mid : Report) × (said_form total r ws ≡ Ok (Further mid, [])) × Steps total mid wss next

steps_append : (total : ℕ) (a b : List Line) (r mid next : Report) → Steps total r a mid → Steps total mid b next → Steps total r (a ++ b) next
steps_append total [] b r mid next h k = subst (λ q. Steps total q b next) (sym h) k
steps_append total (ws ∷ a) b r mid next h k = (h.0, h.1, steps_append total a b h.0 mid next h.2 k)

-- a line of a kind
kind_is_read : (kind : LineKind) → kind_of (kind_word kind) ≡ Some kind
kind_is_read kinds.Interface = refl
kind_is_read kinds.Node = refl
kind_is_read kinds.Error = refl
kind_is_read kinds.Packet = refl
kind_is_read kinds.Trace = refl
kind_is_read kinds.End = refl

kind_some : (kind : LineKind) → 0 < length (kind_word kind)
kind_some kinds.Interface = omega arith
kind_some kinds.Node = omega arith
kind_some kinds.Error = omega arith
kind_some kinds.Packet = omega arith
kind_some kinds.Trace = omega arith
kind_some kinds.End = omega arith

pub said_reads : (total : ℕ) (r : Report) (kind : LineKind) (ws : Words) (said : Said) → may_follow total r kind ≡ true → line_form kind r ws ≡ Ok (said, [])
    → said_form total r (kind_word kind ∷ ws) ≡ Ok (said, [])
said_reads total r kind ws said may h =
    reads_then _ (a_word_of kind_of causes.Form (kind_word kind ∷ ws)) kind ws (Ok (said, []))
    (class_reads kind_of causes.Form (kind_word kind) kind ws (kind_some kind) (kind_is_read kind))
    (ap (λ b. read_on (only_where b causes.Form ws) (λ (x : Unit {0}). line_form kind r)) may ∙ h)

-- a list of a report that grows to its whole, a line for each element
grow_steps : {X : Type 0} (total : ℕ) (put : List X → Report) (line : ℕ → X → Line) (P : List X → Type 0)
    → ((xs : List X) (y : X) (ys : List X) → P (xs ++ y ∷ ys) → said_form total (put xs) (line (length xs) y) ≡ Ok (Further (put (xs ++ y ∷ [])), []))
    → (ys xs : List X) → P (xs ++ ys) → Steps total (put xs) (numbered line (length xs) ys) (put (xs ++ ys))
grow_steps total put line P one [] xs h = ap put (sym (append-nil xs))
grow_steps total put line P one (y ∷ ys) xs h =
    let rest = grow_steps total put line P one ys (xs ++ y ∷ []) (subst P (sym (append_assoc xs (y ∷ []) ys)) h) in
    let long : length (xs ++ y ∷ []) ≡ suc (length xs) = omega (arith, length-append xs (y ∷ [])) in (
      put (xs ++ y ∷ []),
      one xs y ys h,
      subst (λ zs. Steps total (put (xs ++ y ∷ [])) (numbered line (suc (length xs)) ys) (put zs)) (append_assoc xs (y ∷ []) ys)
          (subst (λ n. Steps total (put (xs ++ y ∷ [])) (numbered line n ys) (put ((xs ++ y ∷ []) ++ ys))) long rest),
    )

-- the names of a list that is cut
names_cut : (xs : List (List ℕ × ℕ)) (y : List ℕ × ℕ) (ys : List (List ℕ × ℕ)) → names (xs ++ y ∷ ys) ≡ names xs ++ y.0 ∷ names ys
names_cut [] y ys = refl
names_cut (x ∷ xs) y ys = ap (λ r. x.0 ∷ r) (names_cut xs y ys)

new_entry : (most : ℕ) (xs : List (List ℕ × ℕ)) (y : List ℕ × ℕ) (ys : List (List ℕ × ℕ)) → AreNamed most (xs ++ y ∷ ys) → IsNewEntry xs y
new_entry most xs y ys h = record {
  name = (all_split (λ e. IsName e.0) xs (y ∷ ys) h.are_names).1.0;
  new = none_found y.0 0 (names xs) (distinct_front (names xs) y.0 (names ys) (subst (IsDistinct bytes_eq) (names_cut xs y ys) h.differ));
  small = (all_split (λ e. e.1 < 2 ^ 63) xs (y ∷ ys) h.small).1.0;
}

room : {X : Type 0} (most : ℕ) (xs : List X) (y : X) (ys : List X) → length (xs ++ y ∷ ys) ≤ most → length xs < most
room most xs y ys few = omega (arith, few, length-append xs (y ∷ ys))

-- the report with these lists
abbrev pub state : Report → (interfaces nodes : List (List ℕ × ℕ)) → List (List ℕ × DropError × ℕ) → List PacketLine → List (List (List ℕ)) → Report
state r is ns es ps ts = record r { interfaces = is; nodes = ns; errors = es; packets = ps; traces = ts }

interface_step : (total : ℕ) (r : Report) (xs : List (List ℕ × ℕ)) (y : List ℕ × ℕ) (ys : List (List ℕ × ℕ)) → AreNamed 16 (xs ++ y ∷ ys)
    → said_form total (state r xs [] [] [] []) (interface_line (length xs) y) ≡ Ok (Further (state r (xs ++ y ∷ []) [] [] [] []), [])
interface_step total r xs y ys h =
    let few = room 16 xs y ys h.few in
    said_reads total (state r xs [] [] [] []) kinds.Interface _ (Further (state r (xs ++ y ∷ []) [] [] [] []))
    (and_from (ltb (length xs) most_interfaces) true (lt-ltb (length xs) most_interfaces few) refl)
    (ap (λ a. read_on a (λ (entry : List ℕ × ℕ). gives (Further (state r (xs ++ entry ∷ []) [] [] [] [])))) (interface_reads xs y (omega (arith, few)) (new_entry 16 xs y ys h)))

node_step : (total : ℕ) (r : Report) → 0 < length r.interfaces → (xs : List (List ℕ × ℕ)) (y : List ℕ × ℕ) (ys : List (List ℕ × ℕ)) → AreNamed 64 (xs ++ y ∷ ys)
    → said_form total (state r r.interfaces xs [] [] []) (node_line (length xs) y) ≡ Ok (Further (state r r.interfaces (xs ++ y ∷ []) [] [] []), [])
node_step total r some xs y ys h =
    let few = room 64 xs y ys h.few in
    said_reads total (state r r.interfaces xs [] [] []) kinds.Node _ (Further (state r r.interfaces (xs ++ y ∷ []) [] [] []))
    (and_from ((ltb 0 (length r.interfaces) && ltb (length xs) most_nodes) && true) true
    (and_from (ltb 0 (length r.interfaces) && ltb (length xs) most_nodes) true
    (and_from (ltb 0 (length r.interfaces)) (ltb (length xs) most_nodes) (lt-ltb 0 (length r.interfaces) some) (lt-ltb (length xs) most_nodes few)) refl) refl)
    (ap (λ a. read_on a (λ (entry : List ℕ × ℕ). gives (Further (state r r.interfaces (xs ++ entry ∷ []) [] [] [])))) (node_reads xs y (omega (arith, few)) (new_entry 64 xs y ys h)))

-- errors in their order
abbrev IsNextError : List (List ℕ) → ℕ → List ℕ × DropError × ℕ → Type 0
IsNextError nodes least entry = IsErrorEntry nodes entry × (least ≤ error_place nodes entry)

error_at : (nodes : List (List ℕ)) (least : ℕ) (xs : List (List ℕ × DropError × ℕ)) (y : List ℕ × DropError × ℕ) (ys : List (List ℕ × DropError × ℕ))
    → AreErrorsFrom nodes least (xs ++ y ∷ ys) → IsNextError nodes (next_place nodes least xs) y
error_at nodes least [] y ys h = ((h.0, h.1, h.2), h.3)
error_at nodes least (x ∷ xs) y ys h = error_at nodes (suc (error_place nodes x)) xs y ys h.4

node_before : (nodes : List (List ℕ)) (o : Option (List ℕ × DropError × ℕ)) (y : List ℕ × DropError × ℕ)
    → unwrap_or (option_map (λ e. suc (error_place nodes e)) o) 0 ≤ error_place nodes y → unwrap_or (option_map (λ e. place_in nodes e.0) o) 0 ≤ place_in nodes y.0
node_before nodes (Some e) y h = omega (arith, h, error_small y.1)
node_before nodes None y h = omega arith

error_step : (total : ℕ) (r : Report) → 0 < length r.nodes → AllByRecursion IsName (names r.nodes)
    → (xs : List (List ℕ × DropError × ℕ)) (y : List ℕ × DropError × ℕ) (ys : List (List ℕ × DropError × ℕ)) → AreErrorsFrom (names r.nodes) 0 (xs ++ y ∷ ys)
    → said_form total (state r r.interfaces r.nodes xs [] []) (error_line y) ≡ Ok (Further (state r r.interfaces r.nodes (xs ++ y ∷ []) [] []), [])
error_step total r some is xs y ys h =
    let at = error_at (names r.nodes) 0 xs y ys h in
    let place : least_place (names r.nodes) xs ≤ error_place (names r.nodes) y = subst (λ n. n ≤ error_place (names r.nodes) y) (sym (place_is (names r.nodes) xs)) at.1 in
    said_reads total (state r r.interfaces r.nodes xs [] []) kinds.Error _ (Further (state r r.interfaces r.nodes (xs ++ y ∷ []) [] []))
    (and_from (ltb 0 (length r.nodes)) true (lt-ltb 0 (length r.nodes) some) refl)
    (ap (λ a. read_on a (λ (entry : List ℕ × DropError × ℕ). gives (Further (state r r.interfaces r.nodes (xs ++ entry ∷ []) [] []))))
    (error_line_reads (names r.nodes) xs y (declared_is_name (names r.nodes) y.0 is at.0.0) at.0.0 at.0.1 at.0.2 (node_before (names r.nodes) (last_error xs) y place) place))

-- packets
abbrev ArePackets : Report → ℕ → List PacketLine → Type 0
ArePackets r total ps = AllByRecursion (IsPacketLawful r) ps × (length ps ≤ total)

packet_step : (total : ℕ) (r : Report) → total ≤ 65536 → r.workers ≤ 8 → r.generations ≤ 1000 → 0 < length r.nodes → AllByRecursion IsName (names r.interfaces) → AllByRecursion IsName (names r.nodes)
    → (xs : List PacketLine) (y : PacketLine) (ys : List PacketLine) → ArePackets r total (xs ++ y ∷ ys)
    → said_form total (state r r.interfaces r.nodes r.errors xs []) (packet_line (length xs) y) ≡ Ok (Further (state r r.interfaces r.nodes r.errors (xs ++ y ∷ []) []), [])
packet_step total r few workers generations some is is' xs y ys h =
    let less = room total xs y ys h.1 in
    let good = (all_split (IsPacketLawful r) xs (y ∷ ys) h.0).1.0 in
    said_reads total (state r r.interfaces r.nodes r.errors xs []) kinds.Packet _ (Further (state r r.interfaces r.nodes r.errors (xs ++ y ∷ []) []))
    (and_from (ltb 0 (length r.nodes)) (ltb (length xs) total) (lt-ltb 0 (length r.nodes) some) (lt-ltb (length xs) total less))
    (ap (λ a. read_on a (λ (p : PacketLine). gives (Further (state r r.interfaces r.nodes r.errors (xs ++ p ∷ []) []))))
    (packet_reads (state r r.interfaces r.nodes r.errors xs []) y (omega (arith, less, few)) (omega (arith, workers)) (omega (arith, generations)) is is'
    (record { some = good.some; few = good.few; workers = good.workers; generations = good.generations; congested = good.congested; end = good.end })))

-- traces
abbrev AreTraces : Report → List (List (List ℕ)) → Type 0
AreTraces r ts = AllByRecursion (IsTraceLawful (names r.nodes)) ts × (length ts ≤ 256) × (length ts ≤ length r.packets)

trace_step : (r : Report) → AllByRecursion IsName (names r.nodes) → (xs : List (List (List ℕ))) (y : List (List ℕ)) (ys : List (List (List ℕ))) → AreTraces r (xs ++ y ∷ ys)
    → said_form (length r.packets) (state r r.interfaces r.nodes r.errors r.packets xs) (trace_line (length xs) y)
    ≡ Ok (Further (state r r.interfaces r.nodes r.errors r.packets (xs ++ y ∷ [])), [])
trace_step r is xs y ys h =
    let total = length r.packets in
    let few = room 256 xs y ys h.1 in
    let less = room (length r.packets) xs y ys h.2 in
    said_reads (length r.packets) (state r r.interfaces r.nodes r.errors r.packets xs) kinds.Trace _ (Further (state r r.interfaces r.nodes r.errors r.packets (xs ++ y ∷ [])))
    (and_from (eqb (length r.packets) (length r.packets) && ltb (length xs) (length r.packets)) (ltb (length xs) most_traces)
    (and_from (eqb (length r.packets) (length r.packets)) (ltb (length xs) (length r.packets)) (eq-eqb (length r.packets) (length r.packets) refl) (lt-ltb (length xs) (length r.packets) less))
    (lt-ltb (length xs) most_traces few))
    (ap (λ a. read_on a (λ (t : List (List ℕ)). gives (Further (state r r.interfaces r.nodes r.errors r.packets (xs ++ t ∷ [])))))
    (trace_reads (state r r.interfaces r.nodes r.errors r.packets xs) y (omega (arith, few)) is (all_split (IsTraceLawful (names r.nodes)) xs (y ∷ ys) h.0).1.0))

-- all lines behind the first five
numbered_errors : (n : ℕ) (es : List (List ℕ × DropError × ℕ)) → numbered (λ i. error_line) n es ≡ map error_line es
numbered_errors n [] = refl
numbered_errors n (e ∷ es) = ap (λ r. error_line e ∷ r) (numbered_errors (suc n) es)

pub names_are : (counts : List (List ℕ × ℕ)) → AllByRecursion (λ entry. IsName entry.0) counts → AllByRecursion IsName (names counts)
names_are [] h = tt
names_are (c ∷ cs) h = (h.0, names_are cs h.1)

pub all_steps : (r : Report) → IsLawful r → Steps (length r.packets) (state r [] [] [] [] []) (body_lines r) r
all_steps r h =
    let total = length r.packets in
    let some_interfaces = h.interfaces.some in
    let some_nodes = h.nodes.some in
    let workers = h.workers in
    let generations = h.generations in
    let is = names_are r.interfaces h.interfaces.are_names in
    let is' = names_are r.nodes h.nodes.are_names in
    let a = numbered interface_line 0 r.interfaces in
    let b = numbered node_line 0 r.nodes in
    let c = map error_line r.errors in
    let d = numbered packet_line 0 r.packets in
    let e = numbered trace_line 0 r.traces in
    let s0 = state r [] [] [] [] [] in
    let s1 = state r r.interfaces [] [] [] [] in
    let s2 = state r r.interfaces r.nodes [] [] [] in
    let s3 = state r r.interfaces r.nodes r.errors [] [] in
    let s4 = state r r.interfaces r.nodes r.errors r.packets [] in
    steps_append (length r.packets) (((a ++ b) ++ c) ++ d) e s0 s4 r
    (steps_append (length r.packets) ((a ++ b) ++ c) d s0 s3 s4
    (steps_append (length r.packets) (a ++ b) c s0 s2 s3
    (steps_append (length r.packets) a b s0 s1 s2
    (grow_steps (length r.packets) (λ xs. state r xs [] [] [] []) interface_line (AreNamed 16) (interface_step (length r.packets) r) r.interfaces [] h.interfaces)
    (grow_steps (length r.packets) (λ xs. state r r.interfaces xs [] [] []) node_line (AreNamed 64) (node_step (length r.packets) r (omega (arith, some_interfaces))) r.nodes [] h.nodes))
    (subst (λ ls. Steps (length r.packets) s2 ls s3) (numbered_errors 0 r.errors)
    (grow_steps (length r.packets) (λ xs. state r r.interfaces r.nodes xs [] []) (λ i. error_line) (AreErrorsFrom (names r.nodes) 0)
    (error_step (length r.packets) r (omega (arith, some_nodes)) is') r.errors [] h.errors)))
    (grow_steps (length r.packets) (λ xs. state r r.interfaces r.nodes r.errors xs []) packet_line (ArePackets r (length r.packets))
    (packet_step (length r.packets) r h.few_packets workers.1 generations.1 (omega (arith, some_nodes)) is is') r.packets [] (h.packets, omega arith)))
    (grow_steps (length r.packets) (λ xs. state r r.interfaces r.nodes r.errors r.packets xs) trace_line (AreTraces r) (trace_step r is') r.traces []
    (h.traces, h.few_traces.0, h.few_traces.1))
