-- For `read_is_lawful`, and for `read` of vg_check and `report_of` of vg_why:
-- A report that is read: it is lawful, and its text is the text that was read.
use Rattle.std.proofs.Common.{◌≡◌, ℕ, suc, ◌<◌, Bool, true, false, cond, eqb, List, [], ◌∷◌, ◌++◌, length, map, refl, sym, ap, subst, ◌∙◌, arith, eqb-true, append-nil, append_assoc}
use Rattle.std.proofs.lemmas.List.Splits.{join_with_byte-slice_split}
use Rattle.std.specs.Prelude.{Result, Ok, Err, flat_map}
use Rattle.vg_report.specs.declared.errors.ReportCause.{ReportCause}
use Rattle.vg_report.specs.declared.errors.ReportError.{ReportError}
use Rattle.vg_report.specs.declared.reading.Head.{Head}
use Rattle.vg_report.specs.declared.reports.Report.{Report}
use Rattle.vg_report.specs.Forms.{Words}
use Rattle.vg_report.specs.Lawful.{IsLawful}
use Rattle.vg_report.specs.Reading.{Text, onto, text_of, Rest, Said, Further, Whole, said_form, with_read, cut_off, ended, with_said, body_at, begun, head_of, then_lines, report_behind}
use Rattle.vg_report.specs.RoundTrip.{ReadsLawful}
use Rattle.vg_report.specs.SoFar.{IsSoFar}
use Rattle.vg_report.specs.Text.{Line, line_text, numbered, head_lines, interface_line, node_line, error_line, packet_line, trace_line, last_line, lines, text}
use Rattle.vg_report.specs.Words.{words}
use Rattle.vg_report.proofs.BodyLemmas.{begun_so_far}
use Rattle.vg_report.proofs.HeadLemmas.{ShownAt, joined_text, head_words, IsHeadOf, shown_head}
use Rattle.vg_report.proofs.ShowLemmas.{Shown}
use Rattle.vg_report.proofs.StepLemmas.{body_lines, IsStep, IsDone, IsSaid, shown_said}

-- the bytes of a text
abbrev pub fed : List ℕ → List ℕ
fed line = line ++ 10 ∷ []

abbrev pub bytes_of : Text → List ℕ
bytes_of t = flat_map fed t.lines ++ t.tail

onto_bytes : (byte : ℕ) (ls : List (List ℕ)) (tail : List ℕ) → bytes_of (onto byte ls tail) ≡ byte ∷ (flat_map fed ls ++ tail)
onto_bytes byte [] tail = refl
onto_bytes byte (line ∷ ls) tail = refl

one_byte : (byte : ℕ) (t : Text) (b : Bool) → eqb byte 10 ≡ b
    → bytes_of (cond b (record t { lines = [] ∷ t.lines }) (onto byte t.lines t.tail)) ≡ byte ∷ bytes_of t
one_byte byte t true e = ap (λ n. n ∷ (flat_map fed t.lines ++ t.tail)) (sym (eqb-true byte 10 e))
one_byte byte t false e = onto_bytes byte t.lines t.tail

pub bytes_are : (bytes : List ℕ) → bytes_of (text_of bytes) ≡ bytes
bytes_are [] = refl
bytes_are (byte ∷ bytes) = one_byte byte (text_of bytes) (eqb byte 10) refl ∙ ap (λ r. byte ∷ r) (bytes_are bytes)

-- the lines that go on with a report up to its end
record IsBodyRead (total : ℕ) (r : Report) (ls : List (List ℕ)) (tail : List ℕ) (report : Report) : Type 0 where
  more : List Line
  lines_are : ls ≡ map joined_text more ++ joined_text last_line ∷ []
  tail_is : tail ≡ []
  grown : body_lines report ≡ body_lines r ++ more
  so_far : IsSoFar total report
  some_nodes : 0 < length report.nodes
  all_packets : length report.packets ≡ total
  workers_are : report.workers ≡ r.workers
  buffers_are : report.buffers ≡ r.buffers
  generations_are : report.generations ≡ r.generations

at_end : (total : ℕ) (r : Report) (number : ℕ) (line : List ℕ) (ls : List (List ℕ)) (tail : List ℕ) (report : Report) → IsSoFar total r → IsDone total r (words line)
    → ended r number ls tail ≡ Ok report → IsBodyRead total r (line ∷ ls) tail report
at_end total r number line [] [] report h done e =
    let same : r ≡ report = cc in
    subst (IsBodyRead total r (line ∷ []) []) same (record {
      more = [];
      lines_are = ap (λ l. l ∷ []) (sym (join_with_byte-slice_split 32 line) ∙ ap joined_text done.last);
      tail_is = refl;
      grown = sym (append-nil (body_lines r));
      so_far = h;
      some_nodes = done.nodes;
      all_packets = done.packets;
      workers_are = refl;
      buffers_are = refl;
      generations_are = refl;
    })
at_end total r number line [] (byte ∷ bytes) report h done e = absurd cc
at_end total r number line (l ∷ ls) tail report h done e = absurd cc

one_more : (total : ℕ) (r next : Report) (line : List ℕ) (ls : List (List ℕ)) (tail : List ℕ) (report : Report) → IsStep total r (words line) next
    → IsBodyRead total next ls tail report → IsBodyRead total r (line ∷ ls) tail report
one_more total r next line ls tail report step rest = record {
  more = words line ∷ rest.more;
  lines_are = ap (λ l. l ∷ ls) (sym (join_with_byte-slice_split 32 line)) ∙ ap (λ m. joined_text (words line) ∷ m) rest.lines_are;
  tail_is = rest.tail_is;
  grown = rest.grown ∙ ap (λ ws. ws ++ rest.more) step.lines ∙ append_assoc (body_lines r) (words line ∷ []) rest.more;
  so_far = rest.so_far;
  some_nodes = rest.some_nodes;
  all_packets = rest.all_packets;
  workers_are = rest.workers_are ∙ step.head.0;
  buffers_are = rest.buffers_are ∙ step.head.1;
  generations_are = rest.generations_are ∙ step.head.2;
}

no_tail : (number : ℕ) (r : Result (Said × Words) ReportCause) (report : Report) → cut_off {X = Said} {Y = Report} number r ≡ Ok report → ⊥
no_tail number (Ok found) report e = cc
no_tail number (Err cause) report e = cc

body_is : (total : ℕ) (ls : List (List ℕ)) (tail : List ℕ) (r : Report) (number : ℕ) (report : Report) → IsSoFar total r → body_at total r number ls tail ≡ Ok report
    → IsBodyRead total r ls tail report
body_is total [] tail r number report h e = absurd (no_tail number (said_form total r (words tail)) report e)
body_is total (line ∷ ls) tail r number report h e = by_said (body_is total ls tail) (said_form total r (words line)) (shown_said total r (words line) h) e
  where
    by_said : ((next : Report) (n : ℕ) (q : Report) → IsSoFar total next → body_at total next n ls tail ≡ Ok q → IsBodyRead total next ls tail q)
        → (s : Result (Said × Words) ReportCause) → Shown (IsSaid total r (words line)) s
        → with_read number (with_said (ended r (suc number) ls tail) (λ next. body_at total next (suc number) ls tail)) s ≡ Ok report
        → IsBodyRead total r (line ∷ ls) tail report
    by_said others (Ok (Further next, left)) step e = one_more total r next line ls tail report step (others next (suc number) report step.so_far e)
    by_said others (Ok (Whole, left)) done e = at_end total r (suc number) line ls tail report h done e
    by_said others (Err cause) other e = absurd cc

-- a whole report is lawful
lawful : (total : ℕ) (r : Report) → IsSoFar total r → 0 < length r.nodes → length r.packets ≡ total → IsLawful r
lawful total r h some all =
    let announced = h.announced in
    let traces = h.few_traces in
    record {
      workers = h.workers;
      buffers = h.buffers;
      generations = h.generations;
      interfaces = record {
        some = (let first = h.interfaces_first some in omega (arith, first));
        few = h.interfaces.few;
        are_names = h.interfaces.are_names;
        differ = h.interfaces.differ;
        small = h.interfaces.small;
      };
      nodes = record { some = omega (arith, some); few = h.nodes.few; are_names = h.nodes.are_names; differ = h.nodes.differ; small = h.nodes.small };
      errors = h.errors;
      few_packets = omega (arith, all, announced);
      packets = h.packets;
      few_traces = (omega (arith, traces), omega (arith, traces, all));
      traces = h.traces;
    }

-- the text of lines
fed_lines : (wss : List Line) → flat_map fed (map joined_text wss) ≡ flat_map line_text wss
fed_lines [] = refl
fed_lines (ws ∷ wss) = ap (λ r. (joined_text ws ++ 10 ∷ []) ++ r) (fed_lines wss)

seven : (h i n e p t l : List Line) → h ++ i ++ n ++ e ++ p ++ t ++ l ≡ h ++ ((i ++ n ++ e ++ p ++ t) ++ l)
seven h i n e p t l = simp append_assoc

pub lines_are : (r : Report) → lines r ≡ head_lines r ++ (body_lines r ++ last_line ∷ [])
lines_are r =
    seven (head_lines r) (numbered interface_line 0 r.interfaces) (numbered node_line 0 r.nodes) (map error_line r.errors) (numbered packet_line 0 r.packets)
    (numbered trace_line 0 r.traces) (last_line ∷ [])

same_head : (head : Head) (r : Report) → r.workers ≡ head.workers → r.buffers ≡ head.buffers → r.generations ≡ head.generations → length r.packets ≡ head.packets
    → head_lines r ≡ head_words head
same_head head r w b g p =
    ap (λ n. head_words (record head { workers = n; buffers = r.buffers; generations = r.generations; packets = length r.packets })) w
    ∙ ap (λ n. head_words (record head { buffers = n; generations = r.generations; packets = length r.packets })) b
    ∙ ap (λ n. head_words (record head { generations = n; packets = length r.packets })) g
    ∙ ap (λ n. head_words (record head { packets = n })) p

map_both : (a b : List Line) → map joined_text (a ++ b) ≡ map joined_text a ++ map joined_text b
map_both [] b = refl
map_both (x ∷ a) b = ap (λ r. joined_text x ∷ r) (map_both a b)

-- a text of which all is read
whole_text : (start rest : Rest) (head : Head) (report : Report) → IsHeadOf start head rest → IsBodyRead head.packets (begun head) rest.text.lines rest.text.tail report
    → IsLawful report × (text report ≡ bytes_of start.text)
whole_text start rest head report h b = (
  lawful head.packets report b.so_far b.some_nodes b.all_packets,
  sym (ap (λ ls. flat_map fed ls ++ start.text.tail) (h.lines ∙ ap (λ ls. map joined_text (head_words head) ++ ls) b.lines_are)
      ∙ ap (λ tail. flat_map fed (map joined_text (head_words head) ++ (map joined_text b.more ++ joined_text last_line ∷ [])) ++ tail) (h.tail ∙ b.tail_is)
      ∙ append-nil (flat_map fed (map joined_text (head_words head) ++ (map joined_text b.more ++ joined_text last_line ∷ [])))
      ∙ ap (flat_map fed) (ap (λ ls. map joined_text (head_words head) ++ ls) (sym (map_both b.more (last_line ∷ []))) ∙ sym (map_both (head_words head) (b.more ++ last_line ∷ [])))
      ∙ fed_lines (head_words head ++ (b.more ++ last_line ∷ []))
      ∙ ap (λ wss. flat_map line_text (wss ++ (b.more ++ last_line ∷ []))) (sym (same_head head report b.workers_are b.buffers_are b.generations_are b.all_packets))
      ∙ ap (λ wss. flat_map line_text (head_lines report ++ (wss ++ last_line ∷ []))) (sym b.grown)
      ∙ ap (flat_map line_text) (sym (lines_are report))),
)

pub reads_lawful : ReadsLawful
reads_lawful bytes report e = by_head (head_of (record { number = 1; text = text_of bytes })) (shown_head (record { number = 1; text = text_of bytes })) e
  where
    by_head : (r : Result (Head × Rest) ReportError) → ShownAt (IsHeadOf (record { number = 1; text = text_of bytes })) r → then_lines r report_behind ≡ Ok report
        → IsLawful report × (text report ≡ bytes)
    by_head (Ok found) h e =
        let both = whole_text (record { number = 1; text = text_of bytes }) found.1 found.0 report h
        (body_is found.0.packets found.1.text.lines found.1.text.tail (begun found.0) found.1.number report (begun_so_far found.0 h.within) e) in
        (both.0, both.1 ∙ bytes_are bytes)
    by_head (Err error) h e = absurd cc
