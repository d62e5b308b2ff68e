-- For `written_is_read_back` and `texts_differ`, and for `verdict` of vg_check:
-- The text of a lawful report, read.
use Rattle.std.proofs.Common.{◌≡◌, ℕ, suc, ◌+◌, ◌^◌, ◌<◌, ◌≤◌, false, cond, eqb, ltb, List, [], ◌∷◌, ◌++◌, length, map, refl, ap, ◌∙◌, arith, lt-ltb}
use Rattle.std.proofs.lemmas.Bool.{and_from, eq-eqb}
use Rattle.std.specs.List.{AllByRecursion}
use Rattle.std.specs.Prelude.{Option, Some, None, IfSome, Result, Ok, codes, flat_map}
use Rattle.vg_model.specs.declared.kinds.DropError.{DropError}
use Rattle.vg_model.specs.Name.{IsName}
use Rattle.vg_report.specs.declared.errors.ReportError.{ReportError}
use Rattle.vg_report.specs.declared.kinds.LineKind.TheVariants as kinds
use Rattle.vg_report.specs.declared.reading.Head.{Head}
use Rattle.vg_report.specs.declared.reports.PacketEnd.{PacketEnd}
use Rattle.vg_report.specs.declared.reports.PacketEnd.TheVariants as ends
use Rattle.vg_report.specs.declared.reports.PacketLine.{PacketLine}
use Rattle.vg_report.specs.declared.reports.Report.{Report}
use Rattle.vg_report.specs.Forms.{Words, Form, title_form, count_form}
use Rattle.vg_report.specs.Lawful.{names, IsDeclared, error_place, AreErrorsFrom, IsEndLawful, IsPacketLawful, IsTraceLawful, IsLawful}
use Rattle.vg_report.specs.Reading.{Text, onto, text_of, Rest, Said, Whole, said_form, with_read, behind, line_at, a_line, ended, with_said, body_at, begun, then_lines, ◌>>>◌, gives_head, head_of, report_behind, report_of}
use Rattle.vg_report.specs.RoundTrip.{ReadsBack, TextsDiffer}
use Rattle.vg_report.specs.Text.{Line, line_text, numbered, first_line, count_line, head_lines, interface_line, node_line, error_line, congested_words, end_words, packet_line, trace_line, last_line, text}
use Rattle.vg_report.specs.Words.{words}
use Rattle.vg_report.proofs.HeadLemmas.{joined_text}
use Rattle.vg_report.proofs.ListLemmas.{all_weaken}
use Rattle.vg_report.proofs.PrintForms.{declared_is_name, both_bounds, count_reads}
use Rattle.vg_report.proofs.PrintSteps.{Steps, said_reads, names_are, all_steps}
use Rattle.vg_report.proofs.PrintWords.{each-append, IsWord, AreWords, literal, name_is_word, number_is_word, error_is_word, legs_is_word, words_are_read, no_feeds}
use Rattle.vg_report.proofs.ReadTextLemmas.{lines_are}
use Rattle.vg_report.proofs.StepLemmas.{body_lines}

-- a line that is read as it stands
pub record IsLine (ws : Words) : Type 0 where
  pub some : 0 < length ws
  pub words : AreWords ws

pub words_of_line : (ws : Words) → IsLine ws → words (joined_text ws) ≡ ws
words_of_line [] h = let some = h.some in absurd (omega (arith, some))
words_of_line (w ∷ ws) h = words_are_read w ws h.words

-- the first line of a text, and all lines
line_in_front : (l rest : List ℕ) → AllByRecursion (λ b. (eqb b 10) ≡ false) l
    → text_of ((l ++ 10 ∷ []) ++ rest) ≡ record { lines = l ∷ (text_of rest).lines; tail = (text_of rest).tail }
line_in_front [] rest h = refl
line_in_front (b ∷ bs) rest h =
    let t = text_of ((bs ++ 10 ∷ []) ++ rest) in
    ap (λ c. cond c (record t { lines = [] ∷ t.lines }) (onto b t.lines t.tail)) h.0 ∙ ap (λ (t : Text). onto b t.lines t.tail) (line_in_front bs rest h.1)

pub text_of_lines : (wss : List Line) → AllByRecursion IsLine wss → text_of (flat_map line_text wss) ≡ record { lines = map joined_text wss; tail = [] }
text_of_lines [] h = refl
text_of_lines (ws ∷ wss) h =
    line_in_front (joined_text ws) (flat_map line_text wss) (no_feeds ws h.0.words)
    ∙ ap (λ (t : Text). let r : Text = record { lines = joined_text ws ∷ t.lines; tail = t.tail } in r) (text_of_lines wss h.1)

-- the lines of a lawful report
number_line : (word : List ℕ) (n : ℕ) → IsWord word → n < 2 ^ 64 → IsLine (count_line word n)
number_line word n h small = record { some = omega arith; words = (h, (number_is_word n small, tt)) }

numbered_lines : {X : Type 0} (f : ℕ → X → Line) (P : X → Type 0) (bound : ℕ) → ((n : ℕ) (x : X) → n < bound → P x → IsLine (f n x)) → (xs : List X) (n : ℕ)
    → n + length xs ≤ bound → AllByRecursion P xs → AllByRecursion IsLine (numbered f n xs)
numbered_lines f P bound h [] n few all = tt
numbered_lines f P bound h (x ∷ xs) n few all = (h n x (omega (arith, few)) all.0, numbered_lines f P bound h xs (suc n) (omega (arith, few)) all.1)

abbrev IsEntry : List ℕ × ℕ → Type 0
IsEntry entry = IsName entry.0 × (entry.1 < 2 ^ 63)

entries : (most : ℕ) (counts : List (List ℕ × ℕ)) → AllByRecursion (λ entry. IsName entry.0) counts → AllByRecursion (λ entry. entry.1 < 2 ^ 63) counts → AllByRecursion IsEntry counts
entries most [] h k = tt
entries most (c ∷ cs) h k = ((h.0, k.0), entries most cs h.1 k.1)

an_interface_line : (n : ℕ) (entry : List ℕ × ℕ) → n < 2 ^ 32 → IsEntry entry → IsLine (interface_line n entry)
an_interface_line n entry few h =
    let small = h.1 in
    record {
      some = omega arith;
      words = (literal _ refl refl, (number_is_word n (omega (arith, few)), (name_is_word entry.0 h.0, (literal _ refl refl, (number_is_word entry.1 (omega (arith, small)), tt)))));
    }

a_node_line : (n : ℕ) (entry : List ℕ × ℕ) → n < 2 ^ 32 → IsEntry entry → IsLine (node_line n entry)
a_node_line n entry few h =
    let small = h.1 in
    record {
      some = omega arith;
      words = (literal _ refl refl, (number_is_word n (omega (arith, few)), (name_is_word entry.0 h.0, (number_is_word entry.1 (omega (arith, small)), tt))));
    }

error_lines : (nodes : List (List ℕ)) → AllByRecursion IsName nodes → (least : ℕ) (es : List (List ℕ × DropError × ℕ)) → AreErrorsFrom nodes least es
    → AllByRecursion IsLine (map error_line es)
error_lines nodes is least [] h = tt
error_lines nodes is least (e ∷ es) h =
    let small = h.2 in (
      record {
        some = omega arith;
        words = (literal _ refl refl, (name_is_word e.0 (declared_is_name nodes e.0 is h.0), (error_is_word e.1, (number_is_word e.2 (omega (arith, small)), tt))));
      },
      error_lines nodes is (suc (error_place nodes e)) es h.4,
    )

congested_are_words : (o : Option ℕ) → IfSome o (λ t. t < 2 ^ 62) → AreWords (congested_words o)
congested_are_words None h = tt
congested_are_words (Some t) h = (literal _ refl refl, (number_is_word t (omega (arith, h)), tt))

end_is_words : (interfaces nodes : List (List ℕ)) → AllByRecursion IsName interfaces → AllByRecursion IsName nodes → (o : Option ℕ) (end : PacketEnd) → IsEndLawful interfaces nodes o end
    → AreWords (end_words end)
end_is_words interfaces nodes is is' o (ends.Tx interface) h = (literal _ refl refl, (name_is_word interface (declared_is_name interfaces interface is h.0), tt))
end_is_words interfaces nodes is is' o (ends.Dropped node error) h = (literal _ refl refl, (name_is_word node (declared_is_name nodes node is' h.0), (error_is_word error, tt)))

a_packet_line : (r : Report) → r.workers ≤ 8 → r.generations ≤ 1000 → AllByRecursion IsName (names r.interfaces) → AllByRecursion IsName (names r.nodes) → (n : ℕ) (p : PacketLine) → n < 2 ^ 32
    → IsPacketLawful r p → IsLine (packet_line n p)
a_packet_line r workers generations is is' n p few h =
    let some = h.some in
    record {
      some = omega arith;
      words = (
        literal _ refl refl,
        (
          number_is_word n (omega (arith, few)),
          (
            legs_is_word r.workers r.generations (omega (arith, workers)) (omega (arith, generations)) p.legs (omega (arith, some)) (both_bounds r.workers r.generations p.legs h.workers h.generations),
            each-append IsWord (congested_words p.congested) (end_words p.end) (congested_are_words p.congested h.congested) (end_is_words (names r.interfaces) (names r.nodes) is is' p.congested p.end h.end),
          ),
        ),
      );
    }

a_trace_line : (nodes : List (List ℕ)) → AllByRecursion IsName nodes → (n : ℕ) (t : List (List ℕ)) → n < 2 ^ 32 → IsTraceLawful nodes t → IsLine (trace_line n t)
a_trace_line nodes is n t few h = record {
  some = omega arith;
  words = (literal _ refl refl, (number_is_word n (omega (arith, few)), all_weaken (IsDeclared nodes) IsWord (λ name k. name_is_word name (declared_is_name nodes name is k)) t h.declared));
}

pub last_is_line : IsLine last_line
last_is_line = record { some = omega arith; words = (literal _ refl refl, tt) }

first_is_line : IsLine first_line
first_is_line = record { some = omega arith; words = (literal _ refl refl, (literal _ refl refl, (literal _ refl refl, tt))) }

pub body_are_lines : (r : Report) → IsLawful r → AllByRecursion IsLine (body_lines r)
body_are_lines r h =
    let is = names_are r.interfaces h.interfaces.are_names in
    let is' = names_are r.nodes h.nodes.are_names in
    let few = h.interfaces.few in
    let few' = h.nodes.few in
    let few_packets = h.few_packets in
    let few_traces = h.few_traces in
    let workers = h.workers in
    let generations = h.generations in
    let a = numbered interface_line 0 r.interfaces in
    let b = numbered node_line 0 r.nodes in
    let c = map error_line r.errors in
    let d = numbered packet_line 0 r.packets in
    let e = numbered trace_line 0 r.traces in
    each-append IsLine (((a ++ b) ++ c) ++ d) e
    (each-append IsLine ((a ++ b) ++ c) d
    (each-append IsLine (a ++ b) c
    (each-append IsLine a b
    (numbered_lines interface_line IsEntry (2 ^ 32) an_interface_line r.interfaces 0 (omega (arith, few)) (entries 16 r.interfaces h.interfaces.are_names h.interfaces.small))
    (numbered_lines node_line IsEntry (2 ^ 32) a_node_line r.nodes 0 (omega (arith, few')) (entries 64 r.nodes h.nodes.are_names h.nodes.small)))
    (error_lines (names r.nodes) is' 0 r.errors h.errors))
    (numbered_lines packet_line (IsPacketLawful r) (2 ^ 32) (a_packet_line r workers.1 generations.1 is is') r.packets 0 (omega (arith, few_packets)) h.packets))
    (numbered_lines trace_line (IsTraceLawful (names r.nodes)) (2 ^ 32) (a_trace_line (names r.nodes) is') r.traces 0 (omega (arith, few_traces)) h.traces)

-- the head of a report
abbrev head_is : Report → Head
head_is r = record { workers = r.workers; buffers = r.buffers; generations = r.generations; packets = length r.packets }

pub head_are_lines : (r : Report) → IsLawful r → AllByRecursion IsLine (head_lines r)
head_are_lines r h =
    let workers = h.workers in
    let buffers = h.buffers in
    let generations = h.generations in
    let few_packets = h.few_packets in (
      first_is_line,
      (
        number_line (codes "workers") r.workers (literal _ refl refl) (omega (arith, workers)),
        (
          number_line (codes "buffers") r.buffers (literal _ refl refl) (omega (arith, buffers)),
          (
            number_line (codes "generations") r.generations (literal _ refl refl) (omega (arith, generations)),
            (number_line (codes "packets") (length r.packets) (literal _ refl refl) (omega (arith, few_packets)), tt),
          ),
        ),
      ),
    )

-- a line of a form
line_reads : {X : Type 0} (form : Form X) (number : ℕ) (ws : Words) (ls : List (List ℕ)) (tail : List ℕ) (x : X) → IsLine ws → form ws ≡ Ok (x, [])
    → line_at form number (joined_text ws ∷ ls) tail ≡ Ok (x, behind number ls tail)
line_reads {X} form number ws ls tail x h e =
    ap (λ w. with_read {X = X} {Y = X × Rest} number (λ y. Ok (y, behind number ls tail)) (form w)) (words_of_line ws h)
    ∙ ap (λ a. with_read {X = X} {Y = X × Rest} number (λ y. Ok (y, behind number ls tail)) a) e

at_then : {X Y : Type 0} (next : X → Rest → Result Y ReportError) (r : Result (X × Rest) ReportError) (x : X) (rest : Rest) (z : Result Y ReportError)
    → r ≡ Ok (x, rest) → next x rest ≡ z → then_lines r next ≡ z
at_then next r x rest z e k = ap (λ a. then_lines a next) e ∙ k

-- all lines behind the first five
last_reads : (total : ℕ) (r : Report) (number : ℕ) → 0 < length r.nodes → length r.packets ≡ total → body_at total r number (joined_text last_line ∷ []) [] ≡ Ok r
last_reads total r number some all =
    ap (λ w. with_read {X = Said} {Y = Report} number (with_said (Ok r) (λ next. body_at total next (suc number) [] [])) (said_form total r w)) (words_of_line last_line last_is_line)
    ∙ ap (λ a. with_read {X = Said} {Y = Report} number (with_said (Ok r) (λ next. body_at total next (suc number) [] [])) a)
    (said_reads total r kinds.End [] Whole (and_from (ltb 0 (length r.nodes)) (eqb (length r.packets) total) (lt-ltb 0 (length r.nodes) some) (eq-eqb (length r.packets) total all)) refl)

body_reads : (total : ℕ) (wss : List Line) (r next : Report) (number : ℕ) → AllByRecursion IsLine wss → Steps total r wss next → 0 < length next.nodes → length next.packets ≡ total
    → body_at total r number (map joined_text (wss ++ last_line ∷ [])) [] ≡ Ok next
body_reads total [] r next number h same some all =
    ap (λ q. body_at total q number (joined_text last_line ∷ []) []) same ∙ last_reads total next number some all
body_reads total (ws ∷ wss) r next number h steps some all =
    ap (λ w. with_read {X = Said} {Y = Report} number
    (with_said (ended r (suc number) (map joined_text (wss ++ last_line ∷ [])) []) (λ q. body_at total q (suc number) (map joined_text (wss ++ last_line ∷ [])) [])) (said_form total r w))
    (words_of_line ws h.0)
    ∙ ap (λ a. with_read {X = Said} {Y = Report} number
    (with_said (ended r (suc number) (map joined_text (wss ++ last_line ∷ [])) []) (λ q. body_at total q (suc number) (map joined_text (wss ++ last_line ∷ [])) [])) a) steps.1
    ∙ body_reads total wss steps.0 next (suc number) h.1 steps.2 some all

map_both : (a b : List Line) → map joined_text (a ++ b) ≡ map joined_text a ++ map joined_text b
map_both [] b = refl
map_both (x ∷ a) b = ap (λ r. joined_text x ∷ r) (map_both a b)

abbrev Read : Type 0
Read = Rest → Result (Head × Rest) ReportError

abbrev behind_generations : (workers buffers generations : ℕ) → Read
behind_generations workers buffers generations =
    a_line (count_form (codes "packets") 0 65536)
    >>> λ packets. gives_head (record { workers = workers; buffers = buffers; generations = generations; packets = packets })

abbrev behind_buffers : (workers buffers : ℕ) → Read
behind_buffers workers buffers = a_line (count_form (codes "generations") 1 1000) >>> behind_generations workers buffers

abbrev behind_workers : (workers : ℕ) → Read
behind_workers workers = a_line (count_form (codes "buffers") 0 16384) >>> behind_buffers workers

abbrev behind_title : Read
behind_title = a_line (count_form (codes "workers") 1 8) >>> behind_workers

head_reads : (r : Report) (ls : List (List ℕ)) → IsLawful r → head_of (record { number = 1; text = record { lines = map joined_text (head_lines r) ++ ls; tail = [] } })
    ≡ Ok (head_is r, record { number = 6; text = record { lines = ls; tail = [] } })
head_reads r ls h =
    let workers = h.workers in
    let buffers = h.buffers in
    let generations = h.generations in
    let few_packets = h.few_packets in
    let all = head_are_lines r h in
    let z : Result (Head × Rest) ReportError = Ok (head_is r, record { number = 6; text = record { lines = ls; tail = [] } }) in
    let t5 = joined_text (count_line (codes "packets") (length r.packets)) ∷ ls in
    let t4 = joined_text (count_line (codes "generations") r.generations) ∷ t5 in
    let t3 = joined_text (count_line (codes "buffers") r.buffers) ∷ t4 in
    let t2 = joined_text (count_line (codes "workers") r.workers) ∷ t3 in
    at_then (λ x. behind_title) (line_at title_form 1 (joined_text first_line ∷ t2) []) tt (behind 1 t2 []) z (line_reads title_form 1 first_line t2 [] tt all.0 refl)
    (at_then behind_workers (line_at (count_form (codes "workers") 1 8) 2 t2 []) r.workers (behind 2 t3 []) z
    (line_reads (count_form (codes "workers") 1 8) 2 (count_line (codes "workers") r.workers) t3 [] r.workers all.1.0 (count_reads (codes "workers") 1 8 r.workers (omega arith) (omega (arith, workers)) workers.0 workers.1))
    (at_then (behind_buffers r.workers) (line_at (count_form (codes "buffers") 0 16384) 3 t3 []) r.buffers (behind 3 t4 []) z
    (line_reads (count_form (codes "buffers") 0 16384) 3 (count_line (codes "buffers") r.buffers) t4 [] r.buffers all.1.1.0 (count_reads (codes "buffers") 0 16384 r.buffers (omega arith) (omega (arith, buffers)) (omega arith) buffers))
    (at_then (behind_generations r.workers r.buffers) (line_at (count_form (codes "generations") 1 1000) 4 t4 []) r.generations (behind 4 t5 []) z
    (line_reads (count_form (codes "generations") 1 1000) 4 (count_line (codes "generations") r.generations) t5 [] r.generations all.1.1.1.0 (count_reads (codes "generations") 1 1000 r.generations (omega arith) (omega (arith, generations)) generations.0 generations.1))
    (at_then (λ packets. gives_head (record { workers = r.workers; buffers = r.buffers; generations = r.generations; packets = packets })) (line_at (count_form (codes "packets") 0 65536) 5 t5 []) (length r.packets) (behind 5 ls []) z
    (line_reads (count_form (codes "packets") 0 65536) 5 (count_line (codes "packets") (length r.packets)) ls [] (length r.packets) all.1.1.1.1.0 (count_reads (codes "packets") 0 65536 (length r.packets) (omega arith) (omega (arith, few_packets)) (omega arith) few_packets))
    refl))))

pub reads_back : ReadsBack
reads_back r h =
    let rest = body_lines r ++ last_line ∷ [] in
    let some = h.nodes.some in
    ap (λ (t : Text). then_lines (head_of (record { number = 1; text = t })) report_behind)
    (ap (λ wss. text_of (flat_map line_text wss)) (lines_are r)
    ∙ text_of_lines (head_lines r ++ rest) (each-append IsLine (head_lines r) rest (head_are_lines r h) (each-append IsLine (body_lines r) (last_line ∷ []) (body_are_lines r h) (last_is_line, tt)))
    ∙ ap (λ ls. let t : Text = record { lines = ls; tail = [] } in t) (map_both (head_lines r) rest))
    ∙ at_then report_behind (head_of (record { number = 1; text = record { lines = map joined_text (head_lines r) ++ map joined_text rest; tail = [] } })) (head_is r)
    (record { number = 6; text = record { lines = map joined_text rest; tail = [] } }) (Ok r) (head_reads r (map joined_text rest) h)
    (body_reads (length r.packets) (body_lines r) (begun (head_is r)) r 6 (body_are_lines r h) (all_steps r h) (omega (arith, some)) refl)

same_ok : (one other : Report) (a : Result Report ReportError) → a ≡ Ok one → a ≡ Ok other → one ≡ other
same_ok one other a h k = cc

pub differ : TextsDiffer
differ one other h k e = same_ok one other (report_of (text one)) (reads_back one h) (ap report_of e ∙ reads_back other k)
