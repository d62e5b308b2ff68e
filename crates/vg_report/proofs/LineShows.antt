-- For `read_is_lawful`: what the lines of a report say where they are read, their words, and what holds of their values.
use Rattle.std.proofs.Common.{◌≡◌, ℕ, suc, ◌^◌, ◌<◌, ◌≤◌, Bool, true, false, cond, not, leb, List, [], ◌∷◌, ◌++◌, length, refl, sym, ap, subst, ◌∙◌, arith, leb-true, leb-false, append-nil, append_assoc, length-append}
use Rattle.std.specs.List.{AllByRecursion}
use Rattle.std.specs.Prelude.{Option, None, IfSome, Result, Ok, Err, codes, decimal, bytes_eq}
use Rattle.vg_model.specs.declared.kinds.DropError.{DropError}
use Rattle.vg_model.specs.declared.kinds.DropError.TheVariants as errors
use Rattle.vg_model.specs.Errors.{error_word}
use Rattle.vg_model.specs.Name.{IsName}
use Rattle.vg_report.specs.declared.errors.ReportCause.{ReportCause}
use Rattle.vg_report.specs.declared.errors.ReportCause.TheVariants as causes
use Rattle.vg_report.specs.declared.reports.PacketEnd.{PacketEnd}
use Rattle.vg_report.specs.declared.reports.PacketLine.{PacketLine}
use Rattle.vg_report.specs.declared.reports.Report.{Report}
use Rattle.vg_report.specs.Forms.{Words, Form, read_on, fails, only_where, end_of_line, a_word, a_word_of, fixed, a_number, a_running_number, a_new_name, a_declared_name, an_error, is_congestion}
use Rattle.vg_report.specs.Forms.{most_counted, most_accepted, title_form, count_form, interface_form, node_form, least_node, least_place, place_in, a_next_node, a_next_error, error_form, sent_form, dropped_form, congested_form, an_end_by, an_end, packet_form, longest_trace, with_names, trace_form}
use Rattle.vg_report.specs.Lawful.{names, number_of, IsDeclared, error_place, IsEndLawful, IsPacketLawful, IsTraceLawful}
use Rattle.vg_report.specs.Text.{legs_word, congested_words, end_words}
use Rattle.vg_report.specs.Words.{legs_of}
use Rattle.vg_report.proofs.ListLemmas.{bytes_eq_true}
use Rattle.vg_report.proofs.ShowLemmas.{Shown, shown_then, shown_only, shown_end, shown_word, shown_fixed, shown_number, shown_running, shown_new_name, shown_declared, shown_error, IsWay, shown_legs}

-- a word in front of words
pub joined : {word : List ℕ} {ws left end : Words} → ws ≡ word ∷ left → left ≡ end → ws ≡ word ∷ end
joined {word} e k = e ∙ ap (λ l. word ∷ l) k

-- the first line
pub shown_title : (ws : Words) → Shown (λ x left. ws ≡ codes "vgd" ∷ codes "report" ∷ codes "1" ∷ []) (title_form ws)
shown_title ws =
    shown_then (λ x l. ws ≡ codes "vgd" ∷ l) (λ (x : Unit {0}) left. ws ≡ codes "vgd" ∷ codes "report" ∷ codes "1" ∷ []) _ (fixed (codes "vgd") ws) (shown_fixed (codes "vgd") ws) (λ x l1 e1.
    shown_then (λ x l. l1 ≡ codes "report" ∷ l) (λ (x : Unit {0}) left. ws ≡ codes "vgd" ∷ codes "report" ∷ codes "1" ∷ []) _ (fixed (codes "report") l1) (shown_fixed (codes "report") l1) (λ x' l2 e2.
    shown_then (λ x l. l2 ≡ codes "1" ∷ l) (λ (x : Unit {0}) left. ws ≡ codes "vgd" ∷ codes "report" ∷ codes "1" ∷ []) _ (fixed (codes "1") l2) (shown_fixed (codes "1") l2) (λ x'' l3 e3.
    by_end l1 l2 l3 e1 e2 e3 (end_of_line l3) (shown_end l3))))
  where
    by_end : (l1 l2 l3 : Words) → ws ≡ codes "vgd" ∷ l1 → l1 ≡ codes "report" ∷ l2 → l2 ≡ codes "1" ∷ l3 → (r : Result (Unit {0} × Words) ReportCause)
        → Shown (λ x left. l3 ≡ []) r → Shown (λ x left. ws ≡ codes "vgd" ∷ codes "report" ∷ codes "1" ∷ []) r
    by_end l1 l2 l3 e1 e2 e3 (Ok found) e4 = joined e1 (joined e2 (joined e3 e4))
    by_end l1 l2 l3 e1 e2 e3 (Err cause) e4 = e4

-- a fixed word and a number
abbrev pub IsCount : List ℕ → (least most : ℕ) → Words → ℕ → Words → Type 0
IsCount word least most ws n left = (ws ≡ word ∷ decimal n ∷ []) × ((least ≤ n) × (n ≤ most))

pub shown_count : (word : List ℕ) (least most : ℕ) → most < 2 ^ 64 → (ws : Words) → Shown (IsCount word least most ws) (count_form word least most ws)
shown_count word least most small ws =
    shown_then (λ x l. ws ≡ word ∷ l) (IsCount word least most ws) _ (fixed word ws) (shown_fixed word ws) (λ x l1 e1.
    shown_then (λ n l. (l1 ≡ decimal n ∷ l) × ((least ≤ n) × (n ≤ most))) (IsCount word least most ws) _ (a_number least most l1) (shown_number least most small l1) (λ n l2 e2.
    shown_then (λ x l. l2 ≡ []) (IsCount word least most ws) _ (end_of_line l2) (shown_end l2) (λ x' l3 e3. (joined e1 (joined e2.0 e3), e2.1))))

-- a new entry of a list of names with counts
pub record IsNewEntry (entries : List (List ℕ × ℕ)) (entry : List ℕ × ℕ) : Type 0 where
  pub name : IsName entry.0
  pub new : number_of (names entries) entry.0 ≡ None
  pub small : entry.1 < 2 ^ 63

abbrev pub IsInterface : List (List ℕ × ℕ) → Words → List ℕ × ℕ → Words → Type 0
IsInterface entries ws entry left = (ws ≡ decimal (length entries) ∷ entry.0 ∷ codes "tx" ∷ decimal entry.1 ∷ []) × IsNewEntry entries entry

pub shown_interface : (entries : List (List ℕ × ℕ)) → length entries < 2 ^ 64 → (ws : Words) → Shown (IsInterface entries ws) (interface_form entries ws)
shown_interface entries small ws =
    shown_then (λ x l. ws ≡ decimal (length entries) ∷ l) (IsInterface entries ws) _ (a_running_number (length entries) ws) (shown_running (length entries) small ws) (λ x l1 e1.
    shown_then (λ name l. (l1 ≡ name ∷ l) × IsName name × (number_of (names entries) name ≡ None)) (IsInterface entries ws) _ (a_new_name (names entries) l1) (shown_new_name (names entries) l1) (λ name l2 e2.
    shown_then (λ x l. l2 ≡ codes "tx" ∷ l) (IsInterface entries ws) _ (fixed (codes "tx") l2) (shown_fixed (codes "tx") l2) (λ x' l3 e3.
    shown_then (λ n l. (l3 ≡ decimal n ∷ l) × ((0 ≤ n) × (n ≤ most_counted))) (IsInterface entries ws) _ (a_number 0 most_counted l3) (shown_number 0 most_counted (omega arith) l3) (λ n l4 e4.
    shown_then (λ x l. l4 ≡ []) (IsInterface entries ws) _ (end_of_line l4) (shown_end l4) (λ x'' l5 e5.
    (joined e1 (joined e2.0 (joined e3 (joined e4.0 e5))), record { name = e2.1; new = e2.2; small = omega (arith, e4.1.1) }))))))

abbrev pub IsNode : List (List ℕ × ℕ) → Words → List ℕ × ℕ → Words → Type 0
IsNode entries ws entry left = (ws ≡ decimal (length entries) ∷ entry.0 ∷ decimal entry.1 ∷ []) × IsNewEntry entries entry

pub shown_node : (entries : List (List ℕ × ℕ)) → length entries < 2 ^ 64 → (ws : Words) → Shown (IsNode entries ws) (node_form entries ws)
shown_node entries small ws =
    shown_then (λ x l. ws ≡ decimal (length entries) ∷ l) (IsNode entries ws) _ (a_running_number (length entries) ws) (shown_running (length entries) small ws) (λ x l1 e1.
    shown_then (λ name l. (l1 ≡ name ∷ l) × IsName name × (number_of (names entries) name ≡ None)) (IsNode entries ws) _ (a_new_name (names entries) l1) (shown_new_name (names entries) l1) (λ name l2 e2.
    shown_then (λ n l. (l2 ≡ decimal n ∷ l) × ((0 ≤ n) × (n ≤ most_counted))) (IsNode entries ws) _ (a_number 0 most_counted l2) (shown_number 0 most_counted (omega arith) l2) (λ n l4 e4.
    shown_then (λ x l. l4 ≡ []) (IsNode entries ws) _ (end_of_line l4) (shown_end l4) (λ x'' l5 e5.
    (joined e1 (joined e2.0 (joined e4.0 e5)), record { name = e2.1; new = e2.2; small = omega (arith, e4.1.1) })))))

-- an error line
abbrev IsNextNode : List (List ℕ) → Words → List ℕ → Words → Type 0
IsNextNode nodes ws node left = (ws ≡ node ∷ left) × IsDeclared nodes node

shown_next_node : (nodes : List (List ℕ)) (errors : List (List ℕ × DropError × ℕ)) (ws : Words) → Shown (IsNextNode nodes ws) (a_next_node nodes errors ws)
shown_next_node nodes errors ws =
    shown_then (λ node l. (ws ≡ node ∷ l) × IsName node × IsDeclared nodes node) (IsNextNode nodes ws) _ (a_declared_name nodes ws) (shown_declared nodes ws) (λ node l1 e1.
    shown_then (λ x l. (leb (least_node nodes errors) (place_in nodes node) ≡ true) × (l ≡ l1)) (IsNextNode nodes ws) _
    (only_where (leb (least_node nodes errors) (place_in nodes node)) causes.Order l1) (shown_only (leb (least_node nodes errors) (place_in nodes node)) causes.Order l1 (λ k. cc))
    (λ x l2 e2. (joined e1.0 (sym e2.1), e1.2)))

abbrev IsNextError : List (List ℕ) → List (List ℕ × DropError × ℕ) → List ℕ → Words → DropError → Words → Type 0
IsNextError nodes errors node ws error left = (ws ≡ error_word error ∷ left) × (least_place nodes errors ≤ error_place nodes (node, error, 0))

shown_next_error : (nodes : List (List ℕ)) (errors : List (List ℕ × DropError × ℕ)) (node : List ℕ) (ws : Words)
    → Shown (IsNextError nodes errors node ws) (a_next_error nodes errors node ws)
shown_next_error nodes errors node ws =
    shown_then (λ error l. (ws ≡ error_word error ∷ l) × Unit {0}) (IsNextError nodes errors node ws) _ (an_error ws) (shown_error ws) (λ error l1 e1.
    shown_then (λ x l. (leb (least_place nodes errors) (error_place nodes (node, error, 0)) ≡ true) × (l ≡ l1)) (IsNextError nodes errors node ws) _
    (only_where (leb (least_place nodes errors) (error_place nodes (node, error, 0))) causes.Order l1)
    (shown_only (leb (least_place nodes errors) (error_place nodes (node, error, 0))) causes.Order l1 (λ k. cc))
    (λ x l2 e2. (joined e1.0 (sym e2.1), leb-true _ _ e2.0)))

abbrev pub IsErrorLine : List (List ℕ) → List (List ℕ × DropError × ℕ) → Words → List ℕ × DropError × ℕ → Words → Type 0
IsErrorLine nodes errors ws entry left =
    (ws ≡ entry.0 ∷ error_word entry.1 ∷ decimal entry.2 ∷ []) × IsDeclared nodes entry.0 × (0 < entry.2) × (entry.2 < 2 ^ 63)
    × (least_place nodes errors ≤ error_place nodes entry)

pub shown_error_line : (nodes : List (List ℕ)) (errors : List (List ℕ × DropError × ℕ)) (ws : Words) → Shown (IsErrorLine nodes errors ws) (error_form nodes errors ws)
shown_error_line nodes errors ws =
    shown_then (IsNextNode nodes ws) (IsErrorLine nodes errors ws) _ (a_next_node nodes errors ws) (shown_next_node nodes errors ws) (λ node l1 e1.
    shown_then (IsNextError nodes errors node l1) (IsErrorLine nodes errors ws) _ (a_next_error nodes errors node l1) (shown_next_error nodes errors node l1) (λ error l2 e2.
    shown_then (λ n l. (l2 ≡ decimal n ∷ l) × ((1 ≤ n) × (n ≤ most_counted))) (IsErrorLine nodes errors ws) _ (a_number 1 most_counted l2) (shown_number 1 most_counted (omega arith) l2) (λ n l3 e3.
    shown_then (λ x l. l3 ≡ []) (IsErrorLine nodes errors ws) _ (end_of_line l3) (shown_end l3) (λ x l4 e4.
    (joined e1.0 (joined e2.0 (joined e3.0 e4)), e1.1, omega (arith, e3.1.0), omega (arith, e3.1.1), e2.1)))))

-- congestion is told apart
pub congestion_is : (error : DropError) → is_congestion error ≡ true → error ≡ errors.Congestion
congestion_is errors.Short h = absurd cc
congestion_is errors.TooLong h = absurd cc
congestion_is errors.UnknownType h = absurd cc
congestion_is errors.WrongMac h = absurd cc
congestion_is errors.BadVersion h = absurd cc
congestion_is errors.BadHeaderLength h = absurd cc
congestion_is errors.BadLength h = absurd cc
congestion_is errors.BadChecksum h = absurd cc
congestion_is errors.TtlZero h = absurd cc
congestion_is errors.Unchecked h = absurd cc
congestion_is errors.NoRoute h = absurd cc
congestion_is errors.RouteDrop h = absurd cc
congestion_is errors.Local h = absurd cc
congestion_is errors.TtlExpired h = absurd cc
congestion_is errors.MtuExceeded h = absurd cc
congestion_is errors.InterfaceDown h = absurd cc
congestion_is errors.Congestion h = refl
congestion_is errors.HandoffLimit h = absurd cc
congestion_is errors.Blackhole h = absurd cc

pub no_congestion : (error : DropError) → not (is_congestion error) ≡ true → error ≡ errors.Congestion → ⊥
no_congestion error h e = let k : not (is_congestion errors.Congestion) ≡ true = subst (λ x. not (is_congestion x) ≡ true) e h in absurd cc

-- how a packet ended
abbrev pub IsEnd : (interfaces nodes : List (List ℕ)) → Words → Option ℕ × PacketEnd → Words → Type 0
IsEnd interfaces nodes ws found left =
    (ws ≡ (congested_words found.0 ++ end_words found.1) ++ left) × IfSome found.0 (λ t. t < 2 ^ 62) × IsEndLawful interfaces nodes found.0 found.1

-- the same behind its first word
abbrev IsEndBehind : (interfaces nodes : List (List ℕ)) → List ℕ → Words → Option ℕ × PacketEnd → Words → Type 0
IsEndBehind interfaces nodes word ws found left =
    (word ∷ ws ≡ (congested_words found.0 ++ end_words found.1) ++ left) × IfSome found.0 (λ t. t < 2 ^ 62) × IsEndLawful interfaces nodes found.0 found.1

shown_sent : (interfaces nodes : List (List ℕ)) (ws : Words) → Shown (IsEndBehind interfaces nodes (codes "tx") ws) (sent_form interfaces ws)
shown_sent interfaces nodes ws =
    shown_then (λ name l. (ws ≡ name ∷ l) × IsName name × IsDeclared interfaces name) (IsEndBehind interfaces nodes (codes "tx") ws) _
    (a_declared_name interfaces ws) (shown_declared interfaces ws) (λ name l e. (ap (λ w. codes "tx" ∷ w) e.0, tt, (e.2, refl)))

shown_dropped : (interfaces nodes : List (List ℕ)) (ws : Words) → Shown (IsEndBehind interfaces nodes (codes "drop") ws) (dropped_form nodes ws)
shown_dropped interfaces nodes ws =
    shown_then (λ name l. (ws ≡ name ∷ l) × IsName name × IsDeclared nodes name) (IsEndBehind interfaces nodes (codes "drop") ws) _
    (a_declared_name nodes ws) (shown_declared nodes ws) (λ node l1 e1.
    shown_then (λ error l. (l1 ≡ error_word error ∷ l) × Unit {0}) (IsEndBehind interfaces nodes (codes "drop") ws) _ (an_error l1) (shown_error l1) (λ error l2 e2.
    shown_then (λ x l. (not (is_congestion error) ≡ true) × (l ≡ l2)) (IsEndBehind interfaces nodes (codes "drop") ws) _
    (only_where (not (is_congestion error)) causes.Form l2) (shown_only (not (is_congestion error)) causes.Form l2 (λ k. cc)) (λ x l3 e3.
    (ap (λ w. codes "drop" ∷ w) (joined e1.0 (joined e2.0 (sym e3.1))), tt, (e1.2, ((λ k. absurd cc), λ k. absurd (no_congestion error e3.0 k)))))))

shown_congested : (interfaces nodes : List (List ℕ)) (ws : Words) → Shown (IsEndBehind interfaces nodes (codes "congested") ws) (congested_form nodes ws)
shown_congested interfaces nodes ws =
    shown_then (λ n l. (ws ≡ decimal n ∷ l) × ((0 ≤ n) × (n ≤ most_accepted))) (IsEndBehind interfaces nodes (codes "congested") ws) _
    (a_number 0 most_accepted ws) (shown_number 0 most_accepted (omega arith) ws) (λ n l1 e1.
    shown_then (λ x l. l1 ≡ codes "drop" ∷ l) (IsEndBehind interfaces nodes (codes "congested") ws) _ (fixed (codes "drop") l1) (shown_fixed (codes "drop") l1) (λ x l2 e2.
    shown_then (λ name l. (l2 ≡ name ∷ l) × IsName name × IsDeclared nodes name) (IsEndBehind interfaces nodes (codes "congested") ws) _
    (a_declared_name nodes l2) (shown_declared nodes l2) (λ node l3 e3.
    shown_then (λ error l. (l3 ≡ error_word error ∷ l) × Unit {0}) (IsEndBehind interfaces nodes (codes "congested") ws) _ (an_error l3) (shown_error l3) (λ error l4 e4.
    shown_then (λ x l. (is_congestion error ≡ true) × (l ≡ l4)) (IsEndBehind interfaces nodes (codes "congested") ws) _
    (only_where (is_congestion error) causes.Form l4) (shown_only (is_congestion error) causes.Form l4 (λ k. cc)) (λ x' l5 e5. (
      ap (λ w. codes "congested" ∷ w) (joined e1.0 (joined e2 (joined e3.0 (joined e4.0 (sym e5.1))))),
      omega (arith, e1.1.1),
      (e3.2, ((λ k. congestion_is error e5.0), λ k. refl)),
    ))))))

shown_by : (interfaces nodes : List (List ℕ)) (word : List ℕ) (ws : Words) → Shown (IsEndBehind interfaces nodes word ws) (an_end_by interfaces nodes word ws)
shown_by interfaces nodes word ws = by_tx (bytes_eq word (codes "tx")) refl
  where
    by_congested : (b : Bool) → bytes_eq word (codes "congested") ≡ b
        → Shown (IsEndBehind interfaces nodes word ws) ((cond {A = Form (Option ℕ × PacketEnd)} b (congested_form nodes) (fails causes.Form)) ws)
    by_congested true e =
        subst (λ w. Shown (IsEndBehind interfaces nodes w ws) (congested_form nodes ws)) (sym (bytes_eq_true word (codes "congested") e)) (shown_congested interfaces nodes ws)
    by_congested false e = λ k. cc

    by_drop : (b : Bool) → bytes_eq word (codes "drop") ≡ b
        → Shown (IsEndBehind interfaces nodes word ws)
        ((cond {A = Form (Option ℕ × PacketEnd)} b (dropped_form nodes) (cond (bytes_eq word (codes "congested")) (congested_form nodes) (fails causes.Form))) ws)
    by_drop true e =
        subst (λ w. Shown (IsEndBehind interfaces nodes w ws) (dropped_form nodes ws)) (sym (bytes_eq_true word (codes "drop") e)) (shown_dropped interfaces nodes ws)
    by_drop false e = by_congested (bytes_eq word (codes "congested")) refl

    by_tx : (b : Bool) → bytes_eq word (codes "tx") ≡ b
        → Shown (IsEndBehind interfaces nodes word ws)
        ((cond {A = Form (Option ℕ × PacketEnd)} b (sent_form interfaces)
        (cond (bytes_eq word (codes "drop")) (dropped_form nodes) (cond (bytes_eq word (codes "congested")) (congested_form nodes) (fails causes.Form)))) ws)
    by_tx true e =
        subst (λ w. Shown (IsEndBehind interfaces nodes w ws) (sent_form interfaces ws)) (sym (bytes_eq_true word (codes "tx") e)) (shown_sent interfaces nodes ws)
    by_tx false e = by_drop (bytes_eq word (codes "drop")) refl

pub shown_packet_end : (interfaces nodes : List (List ℕ)) (ws : Words) → Shown (IsEnd interfaces nodes ws) (an_end interfaces nodes ws)
shown_packet_end interfaces nodes ws =
    shown_then (λ word left. ws ≡ word ∷ left) (IsEnd interfaces nodes ws) (an_end_by interfaces nodes) (a_word ws) (shown_word ws)
    (λ word left e. subst (λ w. Shown (IsEnd interfaces nodes w) (an_end_by interfaces nodes word left)) (sym e) (shown_by interfaces nodes word left))

-- a packet
abbrev pub IsPacketOf : Report → Words → PacketLine → Words → Type 0
IsPacketOf r ws p left =
    (ws ≡ decimal (length r.packets) ∷ legs_word p.legs ∷ (congested_words p.congested ++ end_words p.end)) × IsPacketLawful r p

pub shown_packet : (r : Report) → length r.packets < 2 ^ 64 → r.workers ≤ 2 ^ 64 → r.generations ≤ 2 ^ 64 → (ws : Words)
    → Shown (IsPacketOf r ws) (packet_form r ws)
shown_packet r small few few' ws =
    shown_then (λ x l. ws ≡ decimal (length r.packets) ∷ l) (IsPacketOf r ws) _ (a_running_number (length r.packets) ws) (shown_running (length r.packets) small ws) (λ x l1 e1.
    shown_then (λ legs l. (l1 ≡ legs_word legs ∷ l) × IsWay r.workers r.generations legs) (IsPacketOf r ws) _ (a_word_of (legs_of r.workers r.generations) causes.Number l1)
    (shown_legs r.workers r.generations few few' l1) (λ legs l2 e2.
    shown_then (IsEnd (names r.interfaces) (names r.nodes) l2) (IsPacketOf r ws) _ (an_end (names r.interfaces) (names r.nodes) l2) (shown_packet_end (names r.interfaces) (names r.nodes) l2) (λ end l3 e3.
    shown_then (λ x l. l3 ≡ []) (IsPacketOf r ws) _ (end_of_line l3) (shown_end l3) (λ x' l4 e4. (
      joined e1 (joined e2.0 (e3.0 ∙ ap (λ l. (congested_words end.0 ++ end_words end.1) ++ l) e4 ∙ append-nil (congested_words end.0 ++ end_words end.1))),
      record { some = e2.1.some; few = e2.1.few; workers = e2.1.workers_are; generations = e2.1.generations_are; congested = e3.1; end = e3.2 },
    )))))

-- a trace
pub record AreNames (declared names words all : List (List ℕ)) : Type 0 where
  pub all_are : all ≡ names ++ words
  pub few : length all ≤ 272
  pub each : AllByRecursion (IsDeclared declared) words

one_more_name : (declared names words all : List (List ℕ)) (word name : List ℕ) → word ≡ name → IsDeclared declared name
    → AreNames declared (names ++ name ∷ []) words all → AreNames declared names (word ∷ words) all
one_more_name declared names words all word name e h rest = record {
  all_are = rest.all_are ∙ append_assoc names (name ∷ []) words ∙ ap (λ w. names ++ w ∷ words) (sym e);
  few = rest.few;
  each = (subst (IsDeclared declared) (sym e) h, rest.each);
}

first_same : (a b : List ℕ) (left : Words) → a ∷ [] ≡ b ∷ left → a ≡ b
first_same a b left e = cc

pub shown_names : (declared : List (List ℕ)) (words names : List (List ℕ)) → length names ≤ 272
    → Shown (λ all left. AreNames declared names words all) (with_names declared names words)
shown_names declared [] names few = record { all_are = sym (append-nil names); few = few; each = tt }
shown_names declared (word ∷ words) names few = by_test (shown_names declared words) (leb longest_trace (length names)) refl
  where
    weaker : (name : List ℕ) → word ≡ name → IsDeclared declared name → (r : Result (List (List ℕ) × Words) ReportCause)
        → Shown (λ all left. AreNames declared (names ++ name ∷ []) words all) r → Shown (λ all left. AreNames declared names (word ∷ words) all) r
    weaker name e h (Ok found) p = one_more_name declared names words found.0 word name e h p
    weaker name e h (Err cause) p = p

    by_test : ((ns : List (List ℕ)) → length ns ≤ 272 → Shown (λ all left. AreNames declared ns words all) (with_names declared ns words))
        → (b : Bool) → leb longest_trace (length names) ≡ b
        → Shown (λ all left. AreNames declared names (word ∷ words) all)
        (cond b (Err causes.Form) (read_on (a_declared_name declared (word ∷ [])) (λ name l. with_names declared (names ++ name ∷ []) words)))
    by_test others true e = λ k. cc
    by_test others false e =
        let less = leb-false longest_trace (length names) e in
        shown_then (λ name l. (word ∷ [] ≡ name ∷ l) × IsName name × IsDeclared declared name) (λ all left. AreNames declared names (word ∷ words) all)
        (λ name l. with_names declared (names ++ name ∷ []) words) (a_declared_name declared (word ∷ [])) (shown_declared declared (word ∷ []))
        (λ name l h. weaker name (first_same word name l h.0) h.2 (with_names declared (names ++ name ∷ []) words)
        (others (names ++ name ∷ []) (omega (arith, less, length-append names (name ∷ [])))))

abbrev pub IsTraceOf : Report → Words → List (List ℕ) → Words → Type 0
IsTraceOf r ws trace left = (ws ≡ decimal (length r.traces) ∷ trace) × IsTraceLawful (names r.nodes) trace

pub shown_trace : (r : Report) → length r.traces < 2 ^ 64 → (ws : Words) → Shown (IsTraceOf r ws) (trace_form r ws)
shown_trace r small ws =
    shown_then (λ x l. ws ≡ decimal (length r.traces) ∷ l) (IsTraceOf r ws) _ (a_running_number (length r.traces) ws) (shown_running (length r.traces) small ws) (λ x l1 e1.
    shown_then (λ name l. (l1 ≡ name ∷ l) × IsName name × IsDeclared (names r.nodes) name) (IsTraceOf r ws) _ (a_declared_name (names r.nodes) l1) (shown_declared (names r.nodes) l1) (λ first l2 e2.
    weaker l1 l2 first e1 e2.0 e2.2 (with_names (names r.nodes) (first ∷ []) l2) (shown_names (names r.nodes) l2 (first ∷ []) (omega arith))))
  where
    trace_is : (l1 l2 : Words) (first : List ℕ) (all : List (List ℕ)) → ws ≡ decimal (length r.traces) ∷ l1 → l1 ≡ first ∷ l2 → IsDeclared (names r.nodes) first
        → AreNames (names r.nodes) (first ∷ []) l2 all → (ws ≡ decimal (length r.traces) ∷ all) × IsTraceLawful (names r.nodes) all
    trace_is l1 l2 first all e1 e2 h rest = (
      joined e1 (e2 ∙ sym rest.all_are),
      record {
        some = (let long : length all ≡ suc (length l2) = ap length rest.all_are in omega (arith, long));
        few = rest.few;
        declared = subst (AllByRecursion (IsDeclared (names r.nodes))) (sym rest.all_are) (h, rest.each);
      },
    )

    weaker : (l1 l2 : Words) (first : List ℕ) → ws ≡ decimal (length r.traces) ∷ l1 → l1 ≡ first ∷ l2 → IsDeclared (names r.nodes) first
        → (a : Result (List (List ℕ) × Words) ReportCause) → Shown (λ all left. AreNames (names r.nodes) (first ∷ []) l2 all) a → Shown (IsTraceOf r ws) a
    weaker l1 l2 first e1 e2 h (Ok found) p = trace_is l1 l2 first found.0 e1 e2 h p
    weaker l1 l2 first e1 e2 h (Err cause) p = p
