-- For `read_is_lawful` and `written_is_read_back`: a line that goes on with a report so far.
use Rattle.std.proofs.Common.{◌≡◌, ℕ, zero, suc, ◌+◌, ◌-◌, ◌^◌, ◌<◌, ◌≤◌, true, ◌&&◌, eqb, ltb, List, [], ◌∷◌, ◌++◌, length, map}
use Rattle.std.proofs.Common.{refl, sym, ap, subst, ◌∙◌, arith, ltb-true, eqb-true, append-nil, append_assoc, add-zero, length-append}
use Rattle.std.proofs.lemmas.Bool.{and_parts}
use Rattle.std.specs.List.{AllByRecursion, IsDistinct}
use Rattle.std.specs.Prelude.{Option, Some, None, IfSome, codes, bytes_eq, slice_get, option_map, unwrap_or}
use Rattle.vg_model.specs.declared.kinds.DropError.{DropError}
use Rattle.vg_model.specs.Name.{IsName}
use Rattle.vg_report.specs.declared.errors.ReportCause.TheVariants as causes
use Rattle.vg_report.specs.declared.kinds.LineKind.{LineKind}
use Rattle.vg_report.specs.declared.kinds.LineKind.TheVariants as kinds
use Rattle.vg_report.specs.declared.reports.PacketLine.{PacketLine}
use Rattle.vg_report.specs.declared.reports.Report.{Report}
use Rattle.vg_report.specs.Answers.{lines_read}
use Rattle.vg_report.specs.Forms.{Words, only_where, end_of_line, a_word_of, interface_form, node_form, least_place, error_form, packet_form, trace_form}
use Rattle.vg_report.specs.Kinds.{kind_word, all_kinds, kind_of}
use Rattle.vg_report.specs.Lawful.{names, IsDeclared, error_place, AreErrorsFrom, IsPacketLawful, IsTraceLawful}
use Rattle.vg_report.specs.Reading.{may_follow, Said, Further, Whole, line_form, said_form, most_interfaces, most_nodes, most_traces}
use Rattle.vg_report.specs.SoFar.{AreNamedSoFar, IsSoFar}
use Rattle.vg_report.specs.Text.{Line, numbered, interface_line, node_line, error_line, packet_line, trace_line, last_line}
use Rattle.vg_report.proofs.LineShows.{joined, IsNewEntry, IsInterface, shown_interface, IsNode, shown_node, IsErrorLine, shown_error_line, IsPacketOf, shown_packet, IsTraceOf, shown_trace}
use Rattle.vg_report.proofs.ListLemmas.{all_append, all_weaken, map_append, bytes_eq_true, none_named, distinct_append}
use Rattle.vg_report.proofs.ShowLemmas.{Shown, shown_then, shown_only, shown_end, shown_class, found_passes}

-- the lines of a report so far behind its first five
abbrev pub body_lines : Report → List Line
body_lines r =
    numbered interface_line 0 r.interfaces ++ numbered node_line 0 r.nodes ++ map error_line r.errors ++ numbered packet_line 0 r.packets
    ++ numbered trace_line 0 r.traces

-- the line with these words goes on with a report
pub record IsStep (total : ℕ) (r : Report) (words : Line) (next : Report) : Type 0 where
  pub so_far : IsSoFar total next
  pub lines : body_lines next ≡ body_lines r ++ words ∷ []
  pub read : lines_read next ≡ suc (lines_read r)
  pub head : (next.workers ≡ r.workers) × (next.buffers ≡ r.buffers) × (next.generations ≡ r.generations)

-- a list without elements
pub empty : {X : Type 0} (xs : List X) → length xs ≡ 0 → xs ≡ []
empty [] h = refl
empty (x ∷ xs) h = absurd (omega (arith, h))

-- none of what comes later, where there is nothing that comes first
none_later : (later first : ℕ) → (0 < later → 0 < first) → first ≡ 0 → later ≡ 0
none_later zero first h none = refl
none_later (suc n) first h none = let some : 0 < first = h (omega arith) in absurd (omega (arith, some, none))

-- no trace before the last packet
no_trace : (traces packets total : ℕ) → (0 < traces → packets ≡ total) → packets < total → traces ≡ 0
no_trace zero packets total h less = refl
no_trace (suc n) packets total h less = let all : packets ≡ total = h (omega arith) in absurd (omega (arith, all, less))

-- no trace without a packet
no_trace_alone : (traces packets total : ℕ) → (0 < traces → packets ≡ total) → traces ≤ total → packets ≡ 0 → traces ≡ 0
no_trace_alone zero packets total h few none = refl
no_trace_alone (suc n) packets total h few none = let all : packets ≡ total = h (omega arith) in absurd (omega (arith, all, few, none))

-- the lines of elements, with one more
pub numbered_one_more : {X : Type 0} (f : ℕ → X → Line) (n : ℕ) (xs : List X) (x : X) → numbered f n (xs ++ x ∷ []) ≡ numbered f n xs ++ f (n + length xs) x ∷ []
numbered_one_more f n [] x = ap (λ m. f m x ∷ []) (sym (add-zero n))
numbered_one_more f n (y ∷ ys) x =
    ap (λ r. f n y ∷ r) (numbered_one_more f (suc n) ys x)
    ∙ ap (λ m. f n y ∷ (numbered f (suc n) ys ++ f m x ∷ [])) (let shifted : suc n + length ys ≡ n + suc (length ys) = omega arith in shifted)

at_length : {X : Type 0} (f : ℕ → X → Line) (xs : List X) (x : X) → numbered f 0 (xs ++ x ∷ []) ≡ numbered f 0 xs ++ f (length xs) x ∷ []
at_length f xs x = numbered_one_more f 0 xs x ∙ ap (λ m. numbered f 0 xs ++ f m x ∷ []) (let same : 0 + length xs ≡ length xs = omega arith in same)

-- a line more at the end of one of five lists of lines, of which those behind are empty
grow_first : (a b c d e : List Line) (x : Line) → b ≡ [] → c ≡ [] → d ≡ [] → e ≡ []
    → ((((a ++ x ∷ []) ++ b) ++ c) ++ d) ++ e ≡ ((((a ++ b) ++ c) ++ d) ++ e) ++ x ∷ []
grow_first a b c d e x h i j k = rw (h, i, j, k) (simp append-nil)

grow_second : (a b c d e : List Line) (x : Line) → c ≡ [] → d ≡ [] → e ≡ []
    → (((a ++ (b ++ x ∷ [])) ++ c) ++ d) ++ e ≡ ((((a ++ b) ++ c) ++ d) ++ e) ++ x ∷ []
grow_second a b c d e x i j k = rw (i, j, k) (simp (append-nil, append_assoc))

grow_third : (a b c d e : List Line) (x : Line) → d ≡ [] → e ≡ []
    → (((a ++ b) ++ (c ++ x ∷ [])) ++ d) ++ e ≡ ((((a ++ b) ++ c) ++ d) ++ e) ++ x ∷ []
grow_third a b c d e x j k = rw (j, k) (simp (append-nil, append_assoc))

grow_fourth : (a b c d e : List Line) (x : Line) → e ≡ []
    → (((a ++ b) ++ c) ++ (d ++ x ∷ [])) ++ e ≡ ((((a ++ b) ++ c) ++ d) ++ e) ++ x ∷ []
grow_fourth a b c d e x k = rw k (simp (append-nil, append_assoc))

grow_fifth : (a b c d e : List Line) (x : Line)
    → (((a ++ b) ++ c) ++ d) ++ (e ++ x ∷ []) ≡ ((((a ++ b) ++ c) ++ d) ++ e) ++ x ∷ []
grow_fifth a b c d e x = simp append_assoc

-- a packet or a trace stays lawful where another list grows
same_packets : (r : Report) (es : List (List ℕ × DropError × ℕ)) (ps : List PacketLine) (ts : List (List (List ℕ))) (xs : List PacketLine)
    → AllByRecursion (IsPacketLawful r) xs → AllByRecursion (IsPacketLawful (record r { errors = es; packets = ps; traces = ts })) xs
same_packets r es ps ts xs =
    all_weaken (IsPacketLawful r) (IsPacketLawful (record r { errors = es; packets = ps; traces = ts }))
    (λ p h. record { some = h.some; few = h.few; workers = h.workers; generations = h.generations; congested = h.congested; end = h.end }) xs

-- a new entry
named_one_more : (most : ℕ) (entries : List (List ℕ × ℕ)) (entry : List ℕ × ℕ) → AreNamedSoFar most entries → length entries < most → IsNewEntry entries entry
    → AreNamedSoFar most (entries ++ entry ∷ [])
named_one_more most entries entry h few new = record {
  few = omega (arith, few, length-append entries (entry ∷ []));
  are_names = all_append (λ e. IsName e.0) entries entry h.are_names new.name;
  differ =
      subst (IsDistinct bytes_eq) (sym (map_append (λ e. e.0) entries entry))
      (distinct_append (names entries) entry.0 (none_named entry.0 0 (names entries) new.new) h.differ);
  small = all_append (λ e. e.1 < 2 ^ 63) entries entry h.small new.small;
}

step_interface : (total : ℕ) (r : Report) (entry : List ℕ × ℕ) → IsSoFar total r → may_follow total r kinds.Interface ≡ true → IsNewEntry r.interfaces entry
    → IsStep total r (interface_line (length r.interfaces) entry) (record r { interfaces = r.interfaces ++ entry ∷ [] })
step_interface total r entry h may new =
    let tests = and_parts (ltb (length r.interfaces) most_interfaces) (eqb (length r.nodes) 0) may in
    let few : length r.interfaces < 16 = ltb-true _ _ tests.0 in
    let no_nodes : length r.nodes ≡ 0 = eqb-true _ _ tests.1 in
    let none : length r.errors + length r.packets ≡ 0 = none_later (length r.errors + length r.packets) (length r.nodes) h.nodes_first no_nodes in
    let no_packets : length r.packets ≡ 0 = omega (arith, none) in
    let nodes = empty r.nodes no_nodes in
    let errors = empty r.errors (omega (arith, none)) in
    let packets = empty r.packets no_packets in
    let traces = empty r.traces (no_trace_alone (length r.traces) (length r.packets) total h.packets_first h.few_traces.1 no_packets) in
    record {
      so_far = record {
        workers = h.workers;
        buffers = h.buffers;
        generations = h.generations;
        announced = h.announced;
        interfaces = named_one_more 16 r.interfaces entry h.interfaces few new;
        nodes = h.nodes;
        errors = h.errors;
        few_packets = h.few_packets;
        packets = subst (AllByRecursion (IsPacketLawful (record r { interfaces = r.interfaces ++ entry ∷ [] }))) (sym packets) tt;
        few_traces = h.few_traces;
        traces = h.traces;
        interfaces_first = λ k. omega (arith, length-append r.interfaces (entry ∷ []));
        nodes_first = h.nodes_first;
        packets_first = h.packets_first;
      };
      lines =
          ap (λ a. (((a ++ numbered node_line 0 r.nodes) ++ map error_line r.errors) ++ numbered packet_line 0 r.packets) ++ numbered trace_line 0 r.traces)
          (at_length interface_line r.interfaces entry)
          ∙ grow_first (numbered interface_line 0 r.interfaces) (numbered node_line 0 r.nodes) (map error_line r.errors) (numbered packet_line 0 r.packets) (numbered trace_line 0 r.traces)
          (interface_line (length r.interfaces) entry) (ap (numbered node_line 0) nodes) (ap (map error_line) errors) (ap (numbered packet_line 0) packets) (ap (numbered trace_line 0) traces);
      read = omega (arith, length-append r.interfaces (entry ∷ []));
      head = (refl, refl, refl);
    }

step_node : (total : ℕ) (r : Report) (entry : List ℕ × ℕ) → IsSoFar total r → may_follow total r kinds.Node ≡ true → IsNewEntry r.nodes entry
    → IsStep total r (node_line (length r.nodes) entry) (record r { nodes = r.nodes ++ entry ∷ [] })
step_node total r entry h may new =
    let tests = and_parts ((ltb 0 (length r.interfaces) && ltb (length r.nodes) most_nodes) && eqb (length r.errors) 0) (eqb (length r.packets) 0) may in
    let tests' = and_parts (ltb 0 (length r.interfaces) && ltb (length r.nodes) most_nodes) (eqb (length r.errors) 0) tests.0 in
    let tests'' = and_parts (ltb 0 (length r.interfaces)) (ltb (length r.nodes) most_nodes) tests'.0 in
    let some : 0 < length r.interfaces = ltb-true _ _ tests''.0 in
    let few : length r.nodes < 64 = ltb-true _ _ tests''.1 in
    let no_errors : length r.errors ≡ 0 = eqb-true _ _ tests'.1 in
    let no_packets : length r.packets ≡ 0 = eqb-true _ _ tests.1 in
    let errors = empty r.errors no_errors in
    let packets = empty r.packets no_packets in
    let traces = empty r.traces (no_trace_alone (length r.traces) (length r.packets) total h.packets_first h.few_traces.1 no_packets) in
    let next = record r { nodes = r.nodes ++ entry ∷ [] } in
    record {
      so_far = record {
        workers = h.workers;
        buffers = h.buffers;
        generations = h.generations;
        announced = h.announced;
        interfaces = h.interfaces;
        nodes = named_one_more 64 r.nodes entry h.nodes few new;
        errors = subst (AreErrorsFrom (names (r.nodes ++ entry ∷ [])) 0) (sym errors) tt;
        few_packets = h.few_packets;
        packets = subst (AllByRecursion (IsPacketLawful (record r { nodes = r.nodes ++ entry ∷ [] }))) (sym packets) tt;
        few_traces = h.few_traces;
        traces = subst (AllByRecursion (IsTraceLawful (names (r.nodes ++ entry ∷ [])))) (sym traces) tt;
        interfaces_first = λ k. some;
        nodes_first = λ k. omega (arith, length-append r.nodes (entry ∷ []));
        packets_first = h.packets_first;
      };
      lines =
          ap (λ b. (((numbered interface_line 0 r.interfaces ++ b) ++ map error_line r.errors) ++ numbered packet_line 0 r.packets) ++ numbered trace_line 0 r.traces)
          (at_length node_line r.nodes entry)
          ∙ grow_second (numbered interface_line 0 r.interfaces) (numbered node_line 0 r.nodes) (map error_line r.errors) (numbered packet_line 0 r.packets) (numbered trace_line 0 r.traces)
          (node_line (length r.nodes) entry) (ap (map error_line) errors) (ap (numbered packet_line 0) packets) (ap (numbered trace_line 0) traces);
      read = omega (arith, length-append r.nodes (entry ∷ []));
      head = (refl, refl, refl);
    }

-- the place behind the last of errors that begin behind a place
abbrev pub next_place : List (List ℕ) → ℕ → List (List ℕ × DropError × ℕ) → ℕ
next_place nodes least [] = least
next_place nodes least (e ∷ es) = next_place nodes (suc (error_place nodes e)) es

abbrev pub behind_last : List (List ℕ) → Option (List ℕ × DropError × ℕ) → ℕ
behind_last nodes o = unwrap_or (option_map (λ e. suc (error_place nodes e)) o) 0

last_is : (nodes : List (List ℕ)) (least : ℕ) (e : List ℕ × DropError × ℕ) (es : List (List ℕ × DropError × ℕ))
    → behind_last nodes (slice_get (e ∷ es) (length (e ∷ es) - 1)) ≡ next_place nodes least (e ∷ es)
last_is nodes least e [] = refl
last_is nodes least e (f ∷ fs) =
    ap (λ n. behind_last nodes (slice_get (e ∷ f ∷ fs) n)) (let same : length (e ∷ f ∷ fs) - 1 ≡ suc (length (f ∷ fs) - 1) = omega arith in same)
    ∙ last_is nodes (suc (error_place nodes e)) f fs

pub place_is : (nodes : List (List ℕ)) (es : List (List ℕ × DropError × ℕ)) → least_place nodes es ≡ next_place nodes 0 es
place_is nodes [] = refl
place_is nodes (e ∷ es) = last_is nodes 0 e es

abbrev pub IsErrorEntry : List (List ℕ) → List ℕ × DropError × ℕ → Type 0
IsErrorEntry nodes entry = IsDeclared nodes entry.0 × (0 < entry.2) × (entry.2 < 2 ^ 63)

errors_one_more : (nodes : List (List ℕ)) (least : ℕ) (es : List (List ℕ × DropError × ℕ)) (entry : List ℕ × DropError × ℕ) → AreErrorsFrom nodes least es
    → IsErrorEntry nodes entry → next_place nodes least es ≤ error_place nodes entry → AreErrorsFrom nodes least (es ++ entry ∷ [])
errors_one_more nodes least [] entry h good place = (good.0, good.1, good.2, place, tt)
errors_one_more nodes least (e ∷ es) entry h good place = (h.0, h.1, h.2, h.3, errors_one_more nodes (suc (error_place nodes e)) es entry h.4 good place)

step_error : (total : ℕ) (r : Report) (entry : List ℕ × DropError × ℕ) → IsSoFar total r → may_follow total r kinds.Error ≡ true
    → IsErrorEntry (names r.nodes) entry → least_place (names r.nodes) r.errors ≤ error_place (names r.nodes) entry
    → IsStep total r (error_line entry) (record r { errors = r.errors ++ entry ∷ [] })
step_error total r entry h may good place =
    let tests = and_parts (ltb 0 (length r.nodes)) (eqb (length r.packets) 0) may in
    let some : 0 < length r.nodes = ltb-true _ _ tests.0 in
    let no_packets : length r.packets ≡ 0 = eqb-true _ _ tests.1 in
    let packets = empty r.packets no_packets in
    let traces = empty r.traces (no_trace_alone (length r.traces) (length r.packets) total h.packets_first h.few_traces.1 no_packets) in
    record {
      so_far = record {
        workers = h.workers;
        buffers = h.buffers;
        generations = h.generations;
        announced = h.announced;
        interfaces = h.interfaces;
        nodes = h.nodes;
        errors = errors_one_more (names r.nodes) 0 r.errors entry h.errors good (subst (λ n. n ≤ error_place (names r.nodes) entry) (place_is (names r.nodes) r.errors) place);
        few_packets = h.few_packets;
        packets = same_packets r (r.errors ++ entry ∷ []) r.packets r.traces r.packets h.packets;
        few_traces = h.few_traces;
        traces = h.traces;
        interfaces_first = h.interfaces_first;
        nodes_first = λ k. some;
        packets_first = h.packets_first;
      };
      lines =
          ap (λ c. (((numbered interface_line 0 r.interfaces ++ numbered node_line 0 r.nodes) ++ c) ++ numbered packet_line 0 r.packets) ++ numbered trace_line 0 r.traces)
          (map_append error_line r.errors entry)
          ∙ grow_third (numbered interface_line 0 r.interfaces) (numbered node_line 0 r.nodes) (map error_line r.errors) (numbered packet_line 0 r.packets) (numbered trace_line 0 r.traces)
          (error_line entry) (ap (numbered packet_line 0) packets) (ap (numbered trace_line 0) traces);
      read = omega (arith, length-append r.errors (entry ∷ []));
      head = (refl, refl, refl);
    }

step_packet : (total : ℕ) (r : Report) (p : PacketLine) → IsSoFar total r → may_follow total r kinds.Packet ≡ true → IsPacketLawful r p
    → IsStep total r (packet_line (length r.packets) p) (record r { packets = r.packets ++ p ∷ [] })
step_packet total r p h may good =
    let tests = and_parts (ltb 0 (length r.nodes)) (ltb (length r.packets) total) may in
    let some : 0 < length r.nodes = ltb-true _ _ tests.0 in
    let few : length r.packets < total = ltb-true _ _ tests.1 in
    let no_traces : length r.traces ≡ 0 = no_trace (length r.traces) (length r.packets) total h.packets_first few in
    let traces = empty r.traces no_traces in
    record {
      so_far = record {
        workers = h.workers;
        buffers = h.buffers;
        generations = h.generations;
        announced = h.announced;
        interfaces = h.interfaces;
        nodes = h.nodes;
        errors = h.errors;
        few_packets = omega (arith, few, length-append r.packets (p ∷ []));
        packets = same_packets r r.errors (r.packets ++ p ∷ []) r.traces (r.packets ++ p ∷ []) (all_append (IsPacketLawful r) r.packets p h.packets good);
        few_traces = h.few_traces;
        traces = h.traces;
        interfaces_first = h.interfaces_first;
        nodes_first = λ k. some;
        packets_first = λ k. absurd (omega (arith, no_traces, k));
      };
      lines =
          ap (λ d. (((numbered interface_line 0 r.interfaces ++ numbered node_line 0 r.nodes) ++ map error_line r.errors) ++ d) ++ numbered trace_line 0 r.traces)
          (at_length packet_line r.packets p)
          ∙ grow_fourth (numbered interface_line 0 r.interfaces) (numbered node_line 0 r.nodes) (map error_line r.errors) (numbered packet_line 0 r.packets) (numbered trace_line 0 r.traces)
          (packet_line (length r.packets) p) (ap (numbered trace_line 0) traces);
      read = omega (arith, length-append r.packets (p ∷ []));
      head = (refl, refl, refl);
    }

step_trace : (total : ℕ) (r : Report) (t : List (List ℕ)) → IsSoFar total r → may_follow total r kinds.Trace ≡ true → IsTraceLawful (names r.nodes) t
    → IsStep total r (trace_line (length r.traces) t) (record r { traces = r.traces ++ t ∷ [] })
step_trace total r t h may good =
    let tests = and_parts (eqb (length r.packets) total && ltb (length r.traces) total) (ltb (length r.traces) most_traces) may in
    let tests' = and_parts (eqb (length r.packets) total) (ltb (length r.traces) total) tests.0 in
    let all : length r.packets ≡ total = eqb-true _ _ tests'.0 in
    let few : length r.traces < total = ltb-true _ _ tests'.1 in
    let few' : length r.traces < 256 = ltb-true _ _ tests.1 in
    record {
      so_far = record {
        workers = h.workers;
        buffers = h.buffers;
        generations = h.generations;
        announced = h.announced;
        interfaces = h.interfaces;
        nodes = h.nodes;
        errors = h.errors;
        few_packets = h.few_packets;
        packets = same_packets r r.errors r.packets (r.traces ++ t ∷ []) r.packets h.packets;
        few_traces = (omega (arith, few', length-append r.traces (t ∷ [])), omega (arith, few, length-append r.traces (t ∷ [])));
        traces = all_append (IsTraceLawful (names r.nodes)) r.traces t h.traces good;
        interfaces_first = h.interfaces_first;
        nodes_first = h.nodes_first;
        packets_first = λ k. all;
      };
      lines =
          ap (λ e. (((numbered interface_line 0 r.interfaces ++ numbered node_line 0 r.nodes) ++ map error_line r.errors) ++ numbered packet_line 0 r.packets) ++ e)
          (at_length trace_line r.traces t)
          ∙ grow_fifth (numbered interface_line 0 r.interfaces) (numbered node_line 0 r.nodes) (map error_line r.errors) (numbered packet_line 0 r.packets) (numbered trace_line 0 r.traces)
          (trace_line (length r.traces) t);
      read = omega (arith, length-append r.traces (t ∷ []));
      head = (refl, refl, refl);
    }

-- a report of which all lines are read
pub record IsDone (total : ℕ) (r : Report) (words : Line) : Type 0 where
  pub last : words ≡ last_line
  pub nodes : 0 < length r.nodes
  pub packets : length r.packets ≡ total

-- what a line says
abbrev pub IsSaid : (total : ℕ) → Report → Line → Said → Words → Type 0
IsSaid total r words (Further next) left = IsStep total r words next
IsSaid total r words Whole left = IsDone total r words

-- the words behind the first of a line of a kind
IsSaidBehind : (total : ℕ) → Report → LineKind → Words → Said → Words → Type 0
IsSaidBehind total r kind ws said left = IsSaid total r (kind_word kind ∷ ws) said left

said_line : (total : ℕ) (r : Report) (kind : LineKind) (ws : Words) → IsSoFar total r → may_follow total r kind ≡ true
    → Shown (IsSaidBehind total r kind ws) (line_form kind r ws)
unfolding IsSaidBehind
said_line total r kinds.Interface ws h may =
    let few = h.interfaces.few in
    shown_then (IsInterface r.interfaces ws) (IsSaidBehind total r kinds.Interface ws) _ (interface_form r.interfaces ws) (shown_interface r.interfaces (omega (arith, few)) ws)
    (λ entry left k. subst (λ words. IsStep total r words (record r { interfaces = r.interfaces ++ entry ∷ [] })) (sym (ap (λ l. codes "interface" ∷ l) k.0)) (step_interface total r entry h may k.1))
said_line total r kinds.Node ws h may =
    let few = h.nodes.few in
    shown_then (IsNode r.nodes ws) (IsSaidBehind total r kinds.Node ws) _ (node_form r.nodes ws) (shown_node r.nodes (omega (arith, few)) ws)
    (λ entry left k. subst (λ words. IsStep total r words (record r { nodes = r.nodes ++ entry ∷ [] })) (sym (ap (λ l. codes "node" ∷ l) k.0)) (step_node total r entry h may k.1))
said_line total r kinds.Error ws h may =
    shown_then (IsErrorLine (names r.nodes) r.errors ws) (IsSaidBehind total r kinds.Error ws) _ (error_form (names r.nodes) r.errors ws) (shown_error_line (names r.nodes) r.errors ws)
    (λ entry left k. subst (λ words. IsStep total r words (record r { errors = r.errors ++ entry ∷ [] })) (sym (ap (λ l. codes "error" ∷ l) k.0))
    (step_error total r entry h may (k.1, k.2, k.3) k.4))
said_line total r kinds.Packet ws h may =
    let few = h.few_packets in
    let announced = h.announced in
    let workers = h.workers in
    let generations = h.generations in
    shown_then (IsPacketOf r ws) (IsSaidBehind total r kinds.Packet ws) _ (packet_form r ws)
    (shown_packet r (omega (arith, few, announced)) (omega (arith, workers)) (omega (arith, generations)) ws)
    (λ p left k. subst (λ words. IsStep total r words (record r { packets = r.packets ++ p ∷ [] })) (sym (ap (λ l. codes "packet" ∷ l) k.0)) (step_packet total r p h may k.1))
said_line total r kinds.Trace ws h may =
    let few = h.few_traces in
    shown_then (IsTraceOf r ws) (IsSaidBehind total r kinds.Trace ws) _ (trace_form r ws) (shown_trace r (omega (arith, few)) ws)
    (λ t left k. subst (λ words. IsStep total r words (record r { traces = r.traces ++ t ∷ [] })) (sym (ap (λ l. codes "trace" ∷ l) k.0)) (step_trace total r t h may k.1))
said_line total r kinds.End ws h may =
    let tests = and_parts (ltb 0 (length r.nodes)) (eqb (length r.packets) total) may in
    shown_then (λ x left. ws ≡ []) (IsSaidBehind total r kinds.End ws) _ (end_of_line ws) (shown_end ws)
    (λ x left e. record { last = ap (λ l. codes "end" ∷ l) e; nodes = ltb-true _ _ tests.0; packets = eqb-true _ _ tests.1 })

-- the kind by the first word
kind_is : (word : List ℕ) → IfSome (kind_of word) (λ kind. (word ≡ kind_word kind) × Unit {0})
kind_is word = by_option (kind_of word) (found_passes (λ kind. bytes_eq word (kind_word kind)) all_kinds)
  where
    by_option : (o : Option LineKind) → IfSome o (λ kind. bytes_eq word (kind_word kind) ≡ true) → IfSome o (λ kind. (word ≡ kind_word kind) × Unit {0})
    by_option (Some kind) e = (bytes_eq_true word (kind_word kind) e, tt)
    by_option None e = tt

pub shown_said : (total : ℕ) (r : Report) (ws : Words) → IsSoFar total r → Shown (IsSaid total r ws) (said_form total r ws)
unfolding IsSaidBehind
shown_said total r ws h =
    shown_then (λ kind l. (ws ≡ kind_word kind ∷ l) × Unit {0}) (IsSaid total r ws) _ (a_word_of kind_of causes.Form ws)
    (shown_class kind_word (λ kind. Unit {0}) kind_of causes.Form (λ k. cc) kind_is ws) (λ kind l1 e1.
    shown_then (λ x l. (may_follow total r kind ≡ true) × (l ≡ l1)) (IsSaid total r ws) _ (only_where (may_follow total r kind) causes.Form l1)
    (shown_only (may_follow total r kind) causes.Form l1 (λ k. cc)) (λ x l2 e2.
    subst (λ words. Shown (IsSaid total r words) (line_form kind r l2)) (sym (joined e1.0 (sym e2.1))) (said_line total r kind l2 h e2.0)))
