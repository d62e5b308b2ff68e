-- For `verdict`: reports with a count at each drop by congestion, and their texts.
use Rattle.std.proofs.Common.{◌≡◌, ◌↔◌, ℕ, suc, Bool, true, false, List, [], ◌∷◌, ◌++◌, length, map, refl, sym, ap, subst, ◌∙◌, arith}
use Rattle.std.specs.Prelude.{Option, Some, None, IsSome, Result, Ok, codes, decimal, flat_map}
use Rattle.std.specs.List.{AllByRecursion}
use Rattle.std.proofs.lemmas.Bool.{false≢true}
use Rattle.std.proofs.lemmas.List.{length-map}
use Rattle.vg_model.specs.declared.kinds.DropError.{DropError}
use Rattle.vg_model.specs.declared.kinds.DropError.TheVariants.{Congestion}
use Rattle.vg_model.specs.declared.fates.Leg.{Leg}
use Rattle.vg_model.specs.Errors.{error_word}
use Rattle.vg_report.specs.declared.errors.ReportCause.{ReportCause}
use Rattle.vg_report.specs.declared.reports.PacketEnd.{PacketEnd}
use Rattle.vg_report.specs.declared.reports.PacketEnd.TheVariants as ends
use Rattle.vg_report.specs.declared.reports.PacketLine.{PacketLine}
use Rattle.vg_report.specs.declared.reports.Report.{Report}
use Rattle.vg_report.specs.Forms.{Words, an_error, is_congestion}
use Rattle.vg_report.specs.Lawful.{IsEndLawful, IsPacketLawful, IsLawful, names}
use Rattle.vg_report.specs.Reading.{Text, text_of}
use Rattle.vg_report.specs.Text.{Line, line_text, numbered, first_line, count_line, head_lines, interface_line, node_line, error_line, legs_word, packet_line, trace_line, last_line, lines, text}
use Rattle.vg_report.specs.Words.{words}
use Rattle.vg_report.proofs.HeadLemmas.{joined_text}
use Rattle.vg_report.proofs.LineShows.{congestion_is}
use Rattle.vg_report.proofs.ListLemmas.{all_split, all_weaken}
use Rattle.vg_report.proofs.PrintTextLemmas.{IsLine, words_of_line, text_of_lines, last_is_line, body_are_lines, head_are_lines, differ}
use Rattle.vg_report.proofs.PrintWords.{each-append, error_reads}
use Rattle.vg_report.proofs.ReadTextLemmas.{lines_are}
use Rattle.vg_report.proofs.StepLemmas.{body_lines}
use Rattle.vg_check.specs.Reports.{zero_where, count_with, with_count, with_counts}

-- ---- lines that have their counts

-- a line with a count at a drop by congestion is itself
abbrev pub IsCounted : PacketLine → Type 0
IsCounted line = count_with line.congested line.end ≡ line.congested

pub counted_drop : (congested : Option ℕ) (node : List ℕ) (error : DropError) → IsSome congested ↔ (error ≡ Congestion) → count_with congested (ends.Dropped node error) ≡ congested
counted_drop (Some accepted) node error h = refl
counted_drop None node error h = by_test (is_congestion error) refl
  where
    by_test : (b : Bool) → is_congestion error ≡ b → zero_where b ≡ None
    by_test true e = absurd (false≢true (h.1 (congestion_is error e)))
    by_test false e = refl

counted_lines : (ps : List PacketLine) → AllByRecursion IsCounted ps → map with_count ps ≡ ps
counted_lines [] all = refl
counted_lines (p ∷ ps) all =
    let here = all.0 in
    let rest = counted_lines ps all.1 in
    λ i. record { legs = p.legs; congested = here i; end = p.end } ∷ rest i

-- so is a report of such lines
pub counted_report : (r : Report) → AllByRecursion IsCounted r.packets → with_counts r ≡ r
counted_report r all = ap (λ (ps : List PacketLine). record r { packets = ps }) (counted_lines r.packets all)

-- a lawful line is one
counted_end : (interfaces nodes : List (List ℕ)) (congested : Option ℕ) (end : PacketEnd) → IsEndLawful interfaces nodes congested end → count_with congested end ≡ congested
counted_end interfaces nodes (Some accepted) (ends.Tx interface) h = refl
counted_end interfaces nodes None (ends.Tx interface) h = refl
counted_end interfaces nodes congested (ends.Dropped node error) h = counted_drop congested node error h.1

counted_of : (one : Report) → IsLawful one → AllByRecursion IsCounted one.packets
counted_of one h =
    all_weaken (IsPacketLawful one) IsCounted (λ p lawful. counted_end (names one.interfaces) (names one.nodes) p.congested p.end lawful.end) one.packets h.packets

-- ---- the lines of a report that is lawful but for counts

without_count : (n : ℕ) (legs : List Leg) (congested : Option ℕ) (end : PacketEnd) → IsLine (packet_line n (record { legs = legs; congested = count_with congested end; end = end }))
    → IsLine (packet_line n (record { legs = legs; congested = congested; end = end }))
without_count n legs (Some accepted) end h = h
without_count n legs None (ends.Tx interface) h = h
without_count n legs None (ends.Dropped node error) h = by_test (is_congestion error) h
  where
    by_test : (b : Bool) → IsLine (packet_line n (record { legs = legs; congested = zero_where b; end = ends.Dropped node error }))
        → IsLine (packet_line n (record { legs = legs; congested = None; end = ends.Dropped node error }))
    by_test true h = let ws = h.words in record { some = omega arith; words = (ws.0, (ws.1.0, (ws.1.1.0, ws.1.1.1.1.1))) }
    by_test false h = h

without_counts : (n : ℕ) (ps : List PacketLine) → AllByRecursion IsLine (numbered packet_line n (map with_count ps)) → AllByRecursion IsLine (numbered packet_line n ps)
without_counts n [] h = tt
without_counts n (p ∷ ps) h = (without_count n p.legs p.congested p.end h.0, without_counts (suc n) ps h.1)

head_with : (r : Report) → head_lines (with_counts r) ≡ head_lines r
head_with r =
    ap (λ n. first_line ∷ count_line (codes "workers") r.workers ∷ count_line (codes "buffers") r.buffers ∷ count_line (codes "generations") r.generations ∷ count_line (codes "packets") n ∷ [])
    (length-map r.packets with_count)

all_lines : (r : Report) → IsLawful (with_counts r) → AllByRecursion IsLine (lines r)
all_lines r h =
    let a = numbered interface_line 0 r.interfaces in
    let b = numbered node_line 0 r.nodes in
    let c = map error_line r.errors in
    let counted = numbered packet_line 0 (map with_count r.packets) in
    let d = numbered packet_line 0 r.packets in
    let e = numbered trace_line 0 r.traces in
    let whole = all_split IsLine (((a ++ b) ++ c) ++ counted) e (body_are_lines (with_counts r) h) in
    let front = all_split IsLine ((a ++ b) ++ c) counted whole.0 in
    let body : AllByRecursion IsLine (body_lines r) =
    each-append IsLine (((a ++ b) ++ c) ++ d) e (each-append IsLine ((a ++ b) ++ c) d front.0 (without_counts 0 r.packets front.1)) whole.1 in
    let head : AllByRecursion IsLine (head_lines r) = subst (AllByRecursion IsLine) (head_with r) (head_are_lines (with_counts r) h) in
    subst (AllByRecursion IsLine) (sym (lines_are r))
    (each-append IsLine (head_lines r) (body_lines r ++ last_line ∷ []) head (each-append IsLine (body_lines r) (last_line ∷ []) body (last_is_line, tt)))

-- ---- a text tells its lines

words_again : (wss : List Line) → AllByRecursion IsLine wss → map words (map joined_text wss) ≡ wss
words_again [] h = refl
words_again (ws ∷ wss) h =
    let first = words_of_line ws h.0 in
    let rest = words_again wss h.1 in
    λ i. first i ∷ rest i

same_lines : (one other : List Line) → AllByRecursion IsLine one → AllByRecursion IsLine other → flat_map line_text one ≡ flat_map line_text other → one ≡ other
same_lines one other h k e =
    sym (words_again one h)
    ∙ ap (λ (t : Text). map words t.lines) (sym (text_of_lines one h) ∙ ap text_of e ∙ text_of_lines other k)
    ∙ words_again other k

-- ---- a lawful report has no line of a drop by congestion without a count

-- a line is none of such a drop
abbrev IsOtherLine : Line → Type 0
IsOtherLine ws = (number legs node : List ℕ) → ws ≡ codes "packet" ∷ number ∷ legs ∷ codes "drop" ∷ node ∷ error_word Congestion ∷ [] → ⊥

other_numbered : {X : Type 0} (f : ℕ → X → Line) → ((n : ℕ) (x : X) → IsOtherLine (f n x)) → (n : ℕ) (xs : List X) → AllByRecursion IsOtherLine (numbered f n xs)
other_numbered f h n [] = tt
other_numbered f h n (x ∷ xs) = (h n x, other_numbered f h (suc n) xs)

other_errors : (es : List (List ℕ × DropError × ℕ)) → AllByRecursion IsOtherLine (map error_line es)
other_errors [] = tt
other_errors (entry ∷ es) = ((λ number legs node e. cc), other_errors es)

other_trace : (n : ℕ) (nodes : List (List ℕ)) → IsOtherLine (trace_line n nodes)
other_trace n nodes number legs node e =
    let first : codes "trace" ≡ codes "packet" = cc in
    let long = ap length first in
    omega (arith, long)

same_error : (error : DropError) → error_word error ≡ error_word Congestion → error ≡ Congestion
same_error error e = by (sym (error_reads error []) ∙ ap (λ word. an_error (word ∷ [])) e ∙ error_reads Congestion [])
  where
    by : ◌≡◌ {A = Result (DropError × Words) ReportCause} (Ok (error, [])) (Ok (Congestion, [])) → error ≡ Congestion
    by e =
        let pair : ◌≡◌ {A = DropError × Words} (error, []) (Congestion, []) = cc in
        ap (λ (p : DropError × Words). p.0) pair

other_packet : (interfaces nodes : List (List ℕ)) (n : ℕ) (legs : List Leg) (congested : Option ℕ) (end : PacketEnd) → IsEndLawful interfaces nodes congested end
    → IsOtherLine (packet_line n (record { legs = legs; congested = congested; end = end }))
other_packet interfaces nodes n legs None (ends.Tx interface) h number word node e = cc
other_packet interfaces nodes n legs (Some accepted) (ends.Tx interface) h number word node e = cc
other_packet interfaces nodes n legs (Some accepted) (ends.Dropped at error) h number word node e = cc
other_packet interfaces nodes n legs None (ends.Dropped at error) h number word node e =
    let same : error_word error ≡ error_word Congestion = cc in
    false≢true (h.1.1 (same_error error same))

other_packets : (r : Report) (n : ℕ) (ps : List PacketLine) → AllByRecursion (IsPacketLawful r) ps → AllByRecursion IsOtherLine (numbered packet_line n ps)
other_packets r n [] all = tt
other_packets r n (p ∷ ps) all = (other_packet (names r.interfaces) (names r.nodes) n p.legs p.congested p.end all.0.end, other_packets r (suc n) ps all.1)

other_lines : (r : Report) → IsLawful r → AllByRecursion IsOtherLine (lines r)
other_lines r h =
    let a = head_lines r in
    let b = numbered interface_line 0 r.interfaces in
    let c = numbered node_line 0 r.nodes in
    let d = map error_line r.errors in
    let e = numbered packet_line 0 r.packets in
    let f = numbered trace_line 0 r.traces in
    let head : AllByRecursion IsOtherLine (head_lines r) =
    ((λ number legs node e. cc), ((λ number legs node e. cc), ((λ number legs node e. cc), ((λ number legs node e. cc), ((λ number legs node e. cc), tt))))) in
    each-append IsOtherLine (((((a ++ b) ++ c) ++ d) ++ e) ++ f) (last_line ∷ [])
    (each-append IsOtherLine ((((a ++ b) ++ c) ++ d) ++ e) f
    (each-append IsOtherLine (((a ++ b) ++ c) ++ d) e
    (each-append IsOtherLine ((a ++ b) ++ c) d
    (each-append IsOtherLine (a ++ b) c
    (each-append IsOtherLine a b head (other_numbered interface_line (λ n x number legs node e. cc) 0 r.interfaces))
    (other_numbered node_line (λ n x number legs node e. cc) 0 r.nodes))
    (other_errors r.errors))
    (other_packets r 0 r.packets h.packets))
    (other_numbered trace_line other_trace 0 r.traces))
    ((λ number legs node e. cc), tt)

-- and where there is none, each line has its count
counted_line : (n : ℕ) (legs : List Leg) (congested : Option ℕ) (end : PacketEnd) → IsOtherLine (packet_line n (record { legs = legs; congested = congested; end = end }))
    → count_with congested end ≡ congested
counted_line n legs (Some accepted) end h = refl
counted_line n legs None (ends.Tx interface) h = refl
counted_line n legs None (ends.Dropped node error) h = by_test (is_congestion error) refl
  where
    by_test : (b : Bool) → is_congestion error ≡ b → zero_where b ≡ None
    by_test true e =
        absurd (h (decimal n) (legs_word legs) node
        (ap (λ error. packet_line n (record { legs = legs; congested = None; end = ends.Dropped node error })) (congestion_is error e)))
    by_test false e = refl

counted_packets : (n : ℕ) (ps : List PacketLine) → AllByRecursion IsOtherLine (numbered packet_line n ps) → AllByRecursion IsCounted ps
counted_packets n [] all = tt
counted_packets n (p ∷ ps) all = (counted_line n p.legs p.congested p.end all.0, counted_packets (suc n) ps all.1)

counted_by_lines : (r : Report) → AllByRecursion IsOtherLine (lines r) → AllByRecursion IsCounted r.packets
counted_by_lines r all =
    let front = ((head_lines r ++ numbered interface_line 0 r.interfaces) ++ numbered node_line 0 r.nodes) ++ map error_line r.errors in
    let packets = numbered packet_line 0 r.packets in
    let traces = numbered trace_line 0 r.traces in
    let whole = all_split IsOtherLine ((front ++ packets) ++ traces) (last_line ∷ []) all in
    let body = all_split IsOtherLine (front ++ packets) traces whole.0 in
    counted_packets 0 r.packets (all_split IsOtherLine front packets body.0).1

-- ---- texts

-- a report that is lawful but for counts, and has the text of a lawful report, is that report
pub same_text : (one other : Report) → IsLawful one → IsLawful (with_counts other) → text one ≡ text other → one ≡ other
same_text one other h k e =
    let one_counted : IsLawful (with_counts one) = subst IsLawful (sym (counted_report one (counted_of one h))) h in
    let same : lines one ≡ lines other = same_lines (lines one) (lines other) (all_lines one one_counted) (all_lines other k) e in
    let counted : AllByRecursion IsCounted other.packets = counted_by_lines other (subst (AllByRecursion IsOtherLine) same (other_lines one h)) in
    differ one other h (subst IsLawful (counted_report other counted) k) e
