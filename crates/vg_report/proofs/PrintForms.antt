-- For `written_is_read_back`: lines of lawful reports, read from the words that are written.
use Rattle.std.proofs.Common.{◌≡◌, ℕ, ◌+◌, ◌^◌, ◌<◌, ◌≤◌, Bool, true, false, cond, not, List, [], ◌∷◌, ◌++◌, length}
use Rattle.std.proofs.Common.{refl, sym, ap, subst, ◌∙◌, arith, append-nil, append_assoc, length-append, le-leb}
use Rattle.std.proofs.lemmas.Bool.{lt-leb}
use Rattle.std.specs.List.{AllByRecursion, position_from}
use Rattle.std.specs.Prelude.{Option, Some, None, is_some, IfSome, Result, Ok, Err, codes, decimal, bytes_eq}
use Rattle.vg_model.specs.declared.fates.Leg.{Leg}
use Rattle.vg_model.specs.declared.kinds.DropError.{DropError}
use Rattle.vg_model.specs.declared.kinds.DropError.TheVariants as errors
use Rattle.vg_model.specs.Errors.{error_word}
use Rattle.vg_model.specs.Name.{IsName}
use Rattle.vg_report.specs.declared.errors.ReportCause.{ReportCause}
use Rattle.vg_report.specs.declared.errors.ReportCause.TheVariants as causes
use Rattle.vg_report.specs.declared.reports.PacketEnd.{PacketEnd}
use Rattle.vg_report.specs.declared.reports.PacketEnd.TheVariants as ends
use Rattle.vg_report.specs.declared.reports.PacketLine.{PacketLine}
use Rattle.vg_report.specs.declared.reports.Report.{Report}
use Rattle.vg_report.specs.Forms.{Words, Form, read_on, ◌>>=◌, gives, only_where, end_of_line, a_word_of, fixed, a_number, a_running_number, a_new_name, a_declared_name, an_error, is_congestion}
use Rattle.vg_report.specs.Forms.{most_counted, most_accepted, title_form, count_form, interface_form, node_form, least_node, least_place, place_in, a_next_node, a_next_error, error_form, an_end, packet_form, longest_trace, with_names, trace_form}
use Rattle.vg_report.specs.Lawful.{names, IsDeclared, error_place, IsEndLawful, IsPacketLawful, IsTraceLawful}
use Rattle.vg_report.specs.Text.{legs_word, congested_words, end_words}
use Rattle.vg_report.specs.Words.{legs_of}
use Rattle.vg_report.proofs.LineShows.{IsNewEntry, congestion_is}
use Rattle.vg_report.proofs.ListLemmas.{bytes_eq_true}
use Rattle.vg_report.proofs.PrintWords.{reads_then, fixed_reads, number_reads, running_reads, new_name_reads, declared_reads, error_reads, legs_reads}
use Rattle.vg_report.proofs.ShowLemmas.{IsLegOf}

-- a name that is declared among names is one
pub declared_is_name : (declared : List (List ℕ)) (name : List ℕ) → AllByRecursion IsName declared → IsDeclared declared name → IsName name
declared_is_name declared name is h = among 0 declared is h
  where
    among : (i : ℕ) (xs : List (List ℕ)) → AllByRecursion IsName xs → is_some (position_from (λ x. bytes_eq x name) i xs) ≡ true → IsName name
    among i [] all k = absurd cc
    among i (x ∷ xs) all k = by_test (among (i + 1) xs all.1) (bytes_eq x name) refl k
      where
        by_test : (is_some (position_from (λ x. bytes_eq x name) (i + 1) xs) ≡ true → IsName name) → (b : Bool) → bytes_eq x name ≡ b
            → is_some (cond b (Some i) (position_from (λ x. bytes_eq x name) (i + 1) xs)) ≡ true → IsName name
        by_test others true e k = subst IsName (bytes_eq_true x name e) all.0
        by_test others false e k = others k

-- the legs of a lawful packet
pub both_bounds : (workers generations : ℕ) (legs : List Leg) → AllByRecursion (λ l. l.worker < workers) legs → AllByRecursion (λ l. l.generation < generations) legs
    → AllByRecursion (IsLegOf workers generations) legs
both_bounds workers generations [] h k = tt
both_bounds workers generations (l ∷ ls) h k = ((h.0, k.0), both_bounds workers generations ls h.1 k.1)

-- the first line
pub title_reads : title_form (codes "vgd" ∷ codes "report" ∷ codes "1" ∷ []) ≡ Ok (tt, [])
title_reads = refl

-- a fixed word and a number
pub count_reads : (word : List ℕ) (least most n : ℕ) → 0 < length word → n < 2 ^ 64 → least ≤ n → n ≤ most
    → count_form word least most (word ∷ decimal n ∷ []) ≡ Ok (n, [])
count_reads word least most n some small low high =
    reads_then _ (fixed word (word ∷ decimal n ∷ [])) tt (decimal n ∷ []) (Ok (n, [])) (fixed_reads word (decimal n ∷ []) some)
    (reads_then _ (a_number least most (decimal n ∷ [])) n [] (Ok (n, [])) (number_reads least most n [] small low high) refl)

-- an interface, and a node
pub interface_reads : (entries : List (List ℕ × ℕ)) (entry : List ℕ × ℕ) → length entries < 2 ^ 64 → IsNewEntry entries entry
    → interface_form entries (decimal (length entries) ∷ entry.0 ∷ codes "tx" ∷ decimal entry.1 ∷ []) ≡ Ok (entry, [])
interface_reads entries entry small h =
    let few = h.small in
    let w1 = entry.0 ∷ codes "tx" ∷ decimal entry.1 ∷ [] in
    let w2 = codes "tx" ∷ decimal entry.1 ∷ [] in
    let w3 = decimal entry.1 ∷ [] in
    reads_then _ (a_running_number (length entries) (decimal (length entries) ∷ w1)) tt w1 (Ok (entry, [])) (running_reads (length entries) w1 small)
    (reads_then _ (a_new_name (names entries) w1) entry.0 w2 (Ok (entry, [])) (new_name_reads (names entries) entry.0 w2 h.name h.new)
    (reads_then (λ x. a_number 0 most_counted >>= λ count. end_of_line >>= λ x'. gives (entry.0, count)) (fixed (codes "tx") w2) tt w3 (Ok (entry, []))
    (fixed_reads (codes "tx") w3 (omega arith))
    (reads_then (λ count. end_of_line >>= λ x. gives (entry.0, count)) (a_number 0 most_counted w3) entry.1 [] (Ok (entry, [])) (number_reads 0 most_counted entry.1 [] (omega (arith, few)) (omega arith) (omega (arith, few))) refl)))

pub node_reads : (entries : List (List ℕ × ℕ)) (entry : List ℕ × ℕ) → length entries < 2 ^ 64 → IsNewEntry entries entry
    → node_form entries (decimal (length entries) ∷ entry.0 ∷ decimal entry.1 ∷ []) ≡ Ok (entry, [])
node_reads entries entry small h =
    let few = h.small in
    let w1 = entry.0 ∷ decimal entry.1 ∷ [] in
    let w2 = decimal entry.1 ∷ [] in
    reads_then _ (a_running_number (length entries) (decimal (length entries) ∷ w1)) tt w1 (Ok (entry, [])) (running_reads (length entries) w1 small)
    (reads_then _ (a_new_name (names entries) w1) entry.0 w2 (Ok (entry, [])) (new_name_reads (names entries) entry.0 w2 h.name h.new)
    (reads_then _ (a_number 0 most_counted w2) entry.1 [] (Ok (entry, [])) (number_reads 0 most_counted entry.1 [] (omega (arith, few)) (omega arith) (omega (arith, few))) refl))

-- an error line
next_node_reads : (nodes : List (List ℕ)) (es : List (List ℕ × DropError × ℕ)) (node : List ℕ) (left : Words) → IsName node → IsDeclared nodes node
    → least_node nodes es ≤ place_in nodes node → a_next_node nodes es (node ∷ left) ≡ Ok (node, left)
next_node_reads nodes es node left name is place =
    reads_then _ (a_declared_name nodes (node ∷ left)) node left (Ok (node, left)) (declared_reads nodes node left name is)
    (ap (λ b. read_on (only_where b causes.Order left) (λ (x : Unit {0}). gives node)) (le-leb (least_node nodes es) (place_in nodes node) place))

next_error_reads : (nodes : List (List ℕ)) (es : List (List ℕ × DropError × ℕ)) (node : List ℕ) (error : DropError) (left : Words)
    → least_place nodes es ≤ error_place nodes (node, error, 0) → a_next_error nodes es node (error_word error ∷ left) ≡ Ok (error, left)
next_error_reads nodes es node error left place =
    reads_then _ (an_error (error_word error ∷ left)) error left (Ok (error, left)) (error_reads error left)
    (ap (λ b. read_on (only_where b causes.Order left) (λ (x : Unit {0}). gives error)) (le-leb (least_place nodes es) (error_place nodes (node, error, 0)) place))

pub error_line_reads : (nodes : List (List ℕ)) (es : List (List ℕ × DropError × ℕ)) (entry : List ℕ × DropError × ℕ) → IsName entry.0 → IsDeclared nodes entry.0
    → 0 < entry.2 → entry.2 < 2 ^ 63 → least_node nodes es ≤ place_in nodes entry.0 → least_place nodes es ≤ error_place nodes entry
    → error_form nodes es (entry.0 ∷ error_word entry.1 ∷ decimal entry.2 ∷ []) ≡ Ok (entry, [])
error_line_reads nodes es entry name is some few node place =
    let w1 = error_word entry.1 ∷ decimal entry.2 ∷ [] in
    let w2 = decimal entry.2 ∷ [] in
    reads_then _ (a_next_node nodes es (entry.0 ∷ w1)) entry.0 w1 (Ok (entry, [])) (next_node_reads nodes es entry.0 w1 name is node)
    (reads_then _ (a_next_error nodes es entry.0 w1) entry.1 w2 (Ok (entry, [])) (next_error_reads nodes es entry.0 entry.1 w2 place)
    (reads_then _ (a_number 1 most_counted w2) entry.2 [] (Ok (entry, [])) (number_reads 1 most_counted entry.2 [] (omega (arith, few)) (omega (arith, some)) (omega (arith, few))) refl))

-- how a packet ended
abbrev Ended : Type 0
Ended = Option ℕ × PacketEnd

abbrev behind_error : ℕ → List ℕ → DropError → Form Ended
behind_error t node error = only_where (is_congestion error) causes.Form >>= λ x. gives (Some t, ends.Dropped node error)

abbrev behind_node : ℕ → List ℕ → Form Ended
behind_node t node = an_error >>= behind_error t node

other_error : (error : DropError) (b : Bool) → is_congestion error ≡ b → (error ≡ errors.Congestion → false ≡ true) → is_congestion error ≡ false
other_error error true e h = absurd (cc (h (congestion_is error e)))
other_error error false e h = e

pub end_reads : (interfaces nodes : List (List ℕ)) → AllByRecursion IsName interfaces → AllByRecursion IsName nodes → (congested : Option ℕ) (end : PacketEnd) (left : Words)
    → IfSome congested (λ t. t < 2 ^ 62) → IsEndLawful interfaces nodes congested end
    → an_end interfaces nodes ((congested_words congested ++ end_words end) ++ left) ≡ Ok ((congested, end), left)
end_reads interfaces nodes is is' None (ends.Tx interface) left few h =
    reads_then _ (a_declared_name interfaces (interface ∷ left)) interface left (Ok ((None, ends.Tx interface), left))
    (declared_reads interfaces interface left (declared_is_name interfaces interface is h.0) h.0) refl
end_reads interfaces nodes is is' (Some t) (ends.Tx interface) left few h = absurd (cc (h.1))
end_reads interfaces nodes is is' None (ends.Dropped node error) left few h =
    reads_then _ (a_declared_name nodes (node ∷ error_word error ∷ left)) node (error_word error ∷ left) (Ok ((None, ends.Dropped node error), left))
    (declared_reads nodes node (error_word error ∷ left) (declared_is_name nodes node is' h.0) h.0)
    (reads_then _ (an_error (error_word error ∷ left)) error left (Ok ((None, ends.Dropped node error), left)) (error_reads error left)
    (ap (λ b. read_on (only_where (not b) causes.Form left) (λ (x : Unit {0}). gives {X = Option ℕ × PacketEnd} (None, ends.Dropped node error)))
    (other_error error (is_congestion error) refl h.1.1)))
end_reads interfaces nodes is is' (Some t) (ends.Dropped node error) left few h =
    let same : error ≡ errors.Congestion = h.1.0 refl in
    let w1 = codes "drop" ∷ node ∷ error_word error ∷ left in
    let w2 = node ∷ error_word error ∷ left in
    let w3 = error_word error ∷ left in
    let z : Result (Ended × Words) ReportCause = Ok ((Some t, ends.Dropped node error), left) in
    reads_then _ (a_number 0 most_accepted (decimal t ∷ w1)) t w1 z (number_reads 0 most_accepted t w1 (omega (arith, few)) (omega arith) (omega (arith, few)))
    (reads_then (λ x. a_declared_name nodes >>= behind_node t) (fixed (codes "drop") w1) tt w2 z (fixed_reads (codes "drop") w2 (omega arith))
    (reads_then (behind_node t) (a_declared_name nodes w2) node w3 z (declared_reads nodes node w3 (declared_is_name nodes node is' h.0) h.0)
    (reads_then (behind_error t node) (an_error w3) error left z (error_reads error left)
    (ap (λ e. read_on (only_where (is_congestion e) causes.Form left) (λ (x : Unit {0}). gives {X = Option ℕ × PacketEnd} (Some t, ends.Dropped node error))) same))))

-- a packet
pub packet_reads : (r : Report) (p : PacketLine) → length r.packets < 2 ^ 64 → r.workers ≤ 2 ^ 64 → r.generations ≤ 2 ^ 64
    → AllByRecursion IsName (names r.interfaces) → AllByRecursion IsName (names r.nodes) → IsPacketLawful r p
    → packet_form r (decimal (length r.packets) ∷ legs_word p.legs ∷ (congested_words p.congested ++ end_words p.end)) ≡ Ok (p, [])
packet_reads r p small few few' is is' h =
    let w2 = congested_words p.congested ++ end_words p.end in
    let w1 = legs_word p.legs ∷ w2 in
    let some = h.some in
    reads_then _ (a_running_number (length r.packets) (decimal (length r.packets) ∷ w1)) tt w1 (Ok (p, [])) (running_reads (length r.packets) w1 small)
    (reads_then _ (a_word_of (legs_of r.workers r.generations) causes.Number w1) p.legs w2 (Ok (p, []))
    (legs_reads r.workers r.generations few few' p.legs w2 (omega (arith, some)) h.few (both_bounds r.workers r.generations p.legs h.workers h.generations))
    (reads_then _ (an_end (names r.interfaces) (names r.nodes) w2) (p.congested, p.end) [] (Ok (p, []))
    (ap (an_end (names r.interfaces) (names r.nodes)) (sym (append-nil w2)) ∙ end_reads (names r.interfaces) (names r.nodes) is is' p.congested p.end [] h.congested h.end) refl))

-- a trace
names_read : (declared : List (List ℕ)) → AllByRecursion IsName declared → (words names : List (List ℕ)) → length names + length words ≤ 272 → AllByRecursion (IsDeclared declared) words
    → with_names declared names words ≡ Ok (names ++ words, [])
names_read declared is [] names few h = ap (λ (n : List (List ℕ)). Ok (n, [])) (sym (append-nil names))
names_read declared is (word ∷ words) names few h =
    ap (λ b. cond b (Err causes.Form) (read_on (a_declared_name declared (word ∷ [])) (λ name l. with_names declared (names ++ name ∷ []) words)))
    (lt-leb longest_trace (length names) (omega (arith, few)))
    ∙ reads_then (λ name l. with_names declared (names ++ name ∷ []) words) (a_declared_name declared (word ∷ [])) word [] (Ok (names ++ word ∷ words, []))
    (declared_reads declared word [] (declared_is_name declared word is h.0) h.0)
    (names_read declared is words (names ++ word ∷ []) (omega (arith, few, length-append names (word ∷ []))) h.1
    ∙ ap (λ (n : List (List ℕ)). Ok (n, [])) (append_assoc names (word ∷ []) words))

pub trace_reads : (r : Report) (t : List (List ℕ)) → length r.traces < 2 ^ 64 → AllByRecursion IsName (names r.nodes) → IsTraceLawful (names r.nodes) t
    → trace_form r (decimal (length r.traces) ∷ t) ≡ Ok (t, [])
trace_reads r [] small is h = let some = h.some in absurd (omega (arith, some))
trace_reads r (first ∷ others) small is h =
    let few = h.few in
    reads_then _ (a_running_number (length r.traces) (decimal (length r.traces) ∷ first ∷ others)) tt (first ∷ others) (Ok (first ∷ others, [])) (running_reads (length r.traces) (first ∷ others) small)
    (reads_then _ (a_declared_name (names r.nodes) (first ∷ others)) first others (Ok (first ∷ others, []))
    (declared_reads (names r.nodes) first others (declared_is_name (names r.nodes) first is h.declared.0) h.declared.0)
    (names_read (names r.nodes) is others (first ∷ []) (omega (arith, few)) h.declared.1))
