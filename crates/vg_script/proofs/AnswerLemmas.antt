-- For `read_is_lawful`, and `parse_script`: what forms answer, which are lawful values, and causes other than want of memory.
use Rattle.std.proofs.Common.{◌≢◌, ℕ, ◌≤◌, Bool, true, false, cond, List, [], ◌∷◌}
use Rattle.std.specs.Prelude.{Option, Some, None, IsSome, IfSome, Result, Ok, Err, bytes_eq, codes}
use Rattle.std.specs.List.{AllByRecursion}
use Rattle.vg_model.specs.declared.edits.Edit.{Edit}
use Rattle.vg_model.specs.declared.kinds.Kind.{Kind}
use Rattle.vg_model.specs.declared.routes.RouteWord.TheVariants as targets
use Rattle.vg_model.specs.Graph.{kind_entry}
use Rattle.vg_model.specs.Name.{IsName}
use Rattle.vg_model.specs.Valid.{IsMac}
use Rattle.vg_script.specs.declared.errors.ScriptCause.{ScriptCause}
use Rattle.vg_script.specs.declared.errors.ScriptCause.TheVariants as causes
use Rattle.vg_script.specs.Classes.{name_of, names_of, number_of, mac_of, prefix_of, prefix6_of, kind_of}
use Rattle.vg_script.specs.Lawful.{IsLawfulEdit, IsEdit, IsTarget}
use Rattle.vg_script.specs.declared.statements.Statement.{Statement}
use Rattle.vg_script.specs.declared.statements.Statement.TheVariants.{Change, At, Process, Then, End}
use Rattle.vg_script.specs.Statements.{Words, Form, read_on, ◌>>=◌, gives, end_of_line, a_word, or_else, a_word_of, a_name, some_names, a_mac, a_prefix, a_prefix6, a_kind, a_number, fixed, up_or_down, filter_or_nothing, target_by, a_target}
use Rattle.vg_script.specs.Statements.{interface_form, node_form, arc_form, adjacency_form, route_form, unroute_form, route6_form, unroute6_form, change, at_form, process_form, alone, Row, rows, row_of}
use Rattle.vg_script.proofs.ValueLemmas.{name_value, AreNames, names_value, IsWithin, number_value, mac_value, HasAddress, prefix_value, HasAddress6, prefix6_value, kind_value, found_has}

-- an answer has this property, or its cause isn't want of memory
abbrev pub IsAnswer : {X : Type 0} → (X → Type 0) → Result (X × Words) ScriptCause → Type 0
IsAnswer P (Ok found) = P found.0
IsAnswer P (Err cause) = cause ≢ causes.Memory

-- so is each answer of a form
abbrev pub Answers : {X : Type 0} → (X → Type 0) → Form X → Type 0
Answers P form = (words : Words) → IsAnswer P (form words)

then_answer : {X Y : Type 0} (P : X → Type 0) (Q : Y → Type 0) (next : X → Form Y) (r : Result (X × Words) ScriptCause)
    → IsAnswer P r → ((x : X) → P x → Answers Q (next x)) → IsAnswer Q (read_on r next)
then_answer P Q next (Ok found) p k = k found.0 p found.1
then_answer P Q next (Err cause) p k = p

answers_then : {X Y : Type 0} (P : X → Type 0) (Q : Y → Type 0) (first : Form X) (next : X → Form Y)
    → Answers P first → ((x : X) → P x → Answers Q (next x)) → Answers Q (first >>= next)
answers_then P Q first next h k = λ ws. then_answer P Q next (first ws) (h ws) k

-- nothing is known of a value
Any : {X : Type 0} → X → Type 0
Any x = Unit {0}

any : {X : Type 0} (x : X) → Any x
unfolding Any
any x = tt

-- a word of a class
answers_word : Answers Any a_word
unfolding Any
answers_word [] = λ e. cc
answers_word (word ∷ ws) = tt

class_answer : {X : Type 0} (P : X → Type 0) (o : Option X) (cause : ScriptCause) (ws : Words) → cause ≢ causes.Memory → IfSome o P
    → IsAnswer P (or_else o cause ws)
class_answer P (Some x) cause ws other p = p
class_answer P None cause ws other p = other

answers_class : {X : Type 0} (P : X → Type 0) (class : List ℕ → Option X) (cause : ScriptCause) → cause ≢ causes.Memory
    → ((word : List ℕ) → IfSome (class word) P) → Answers P (a_word_of class cause)
answers_class P class cause other h =
    answers_then Any P a_word (λ word. or_else (class word) cause) answers_word (λ word p ws. class_answer P (class word) cause ws other (h word))

any_some : {X : Type 0} (o : Option X) → IfSome o Any
unfolding Any
any_some (Some x) = tt
any_some None = tt

answers_name : Answers IsName a_name
answers_name = answers_class IsName name_of causes.Name (λ e. cc) name_value

answers_number : (least most : ℕ) → Answers (IsWithin least most) (a_number least most)
answers_number least most = answers_class (IsWithin least most) (number_of least most) causes.Number (λ e. cc) (number_value least most)

-- fixed words
answers_fixed : (text : List ℕ) → Answers Any (fixed text)
answers_fixed text = answers_class Any (λ word. cond (bytes_eq word text) (Some tt) None) causes.Word (λ e. cc) (λ word. any_some (cond (bytes_eq word text) (Some tt) None))

answers_up_or_down : Answers Any up_or_down
answers_up_or_down = answers_class Any (λ word. cond (bytes_eq word (codes "up")) (Some true) (cond (bytes_eq word (codes "down")) (Some false) None)) causes.Word (λ e. cc)
    (λ word. any_some (cond (bytes_eq word (codes "up")) (Some true) (cond (bytes_eq word (codes "down")) (Some false) None)))

filter_answer : (b : Bool) (ws : Words) → IsAnswer Any (cond b (Ok (true, ws)) (Err causes.Word))
unfolding Any
filter_answer true ws = tt
filter_answer false ws = λ e. cc

answers_filter : Answers Any filter_or_nothing
unfolding Any
answers_filter [] = tt
answers_filter (word ∷ ws) = filter_answer (bytes_eq word (codes "filter")) ws

answers_end : Answers Any end_of_line
unfolding Any
answers_end [] = tt
answers_end (word ∷ ws) = λ e. cc

-- the other classes
answers_mac : Answers IsMac a_mac
answers_mac = answers_class IsMac mac_of causes.Mac (λ e. cc) mac_value

answers_prefix : Answers HasAddress a_prefix
answers_prefix = answers_class HasAddress prefix_of causes.Prefix (λ e. cc) prefix_value

IsScripted : Kind → Type 0
IsScripted kind = IsSome (kind_entry kind).word

answers_kind : Answers IsScripted a_kind
unfolding IsScripted
answers_kind = answers_class (λ kind. IsSome (kind_entry kind).word) kind_of causes.Kind (λ e. cc) kind_value

-- where a route leads
cond_answers : {X : Type 0} (P : X → Type 0) (b : Bool) (f g : Form X) → Answers P f → Answers P g → Answers P (cond b f g)
cond_answers P true f g p q = p
cond_answers P false f g p q = q

answers_names : Answers AreNames some_names
answers_names = answers_class AreNames names_of causes.Name (λ e. cc) names_value

answers_target_by : (word : List ℕ) → Answers IsTarget (target_by word)
answers_target_by word =
    cond_answers IsTarget (bytes_eq word (codes "via")) (some_names >>= λ names. gives (targets.Via names)) _
    (answers_then AreNames IsTarget some_names (λ names. gives (targets.Via names)) answers_names (λ names p ws. p))
    (cond_answers IsTarget (bytes_eq word (codes "local")) (gives targets.Local) _ (λ ws. tt)
    (cond_answers IsTarget (bytes_eq word (codes "drop")) (gives targets.Drop) (or_else None causes.Word) (λ ws. tt) (λ ws e. cc)))

answers_target : Answers IsTarget a_target
answers_target = answers_then Any IsTarget a_word target_by answers_word (λ word p. answers_target_by word)

-- an edit that a script can say
abbrev pub IsGoodEdit : Edit → Type 0
IsGoodEdit edit = IsLawfulEdit edit × IsEdit edit

answers_interface : Answers IsGoodEdit interface_form
answers_interface =
    answers_then IsName IsGoodEdit a_name _ answers_name (λ name n.
    answers_then Any IsGoodEdit (fixed (codes "mac")) _ (answers_fixed (codes "mac")) (λ u k.
    answers_then IsMac IsGoodEdit a_mac _ answers_mac (λ mac m.
    answers_then Any IsGoodEdit (fixed (codes "mtu")) _ (answers_fixed (codes "mtu")) (λ u' k'.
    answers_then (IsWithin 68 65535) IsGoodEdit (a_number 68 65535) _ (answers_number 68 65535) (λ mtu w.
    answers_then Any IsGoodEdit up_or_down _ answers_up_or_down (λ up k2.
    answers_then Any IsGoodEdit filter_or_nothing _ answers_filter (λ filter k3.
    answers_then Any IsGoodEdit end_of_line _ answers_end (λ u2 k4 ws. ((w.0, w.1), (n, m))))))))))

answers_node : Answers IsGoodEdit node_form
unfolding IsScripted
answers_node =
    answers_then IsName IsGoodEdit a_name _ answers_name (λ name n.
    answers_then Any IsGoodEdit (fixed (codes "kind")) _ (answers_fixed (codes "kind")) (λ u k.
    answers_then IsScripted IsGoodEdit a_kind _ answers_kind (λ kind w.
    answers_then Any IsGoodEdit end_of_line _ answers_end (λ u2 k2 ws. (w, n)))))

answers_arc : Answers IsGoodEdit arc_form
answers_arc =
    answers_then IsName IsGoodEdit a_name _ answers_name (λ from n.
    answers_then IsName IsGoodEdit a_name _ answers_name (λ slot m.
    answers_then IsName IsGoodEdit a_name _ answers_name (λ to o.
    answers_then Any IsGoodEdit end_of_line _ answers_end (λ u k ws. (tt, (n, m, o))))))

answers_adjacency : Answers IsGoodEdit adjacency_form
answers_adjacency =
    answers_then IsName IsGoodEdit a_name _ answers_name (λ name n.
    answers_then Any IsGoodEdit (fixed (codes "interface")) _ (answers_fixed (codes "interface")) (λ u k.
    answers_then IsName IsGoodEdit a_name _ answers_name (λ interface m.
    answers_then Any IsGoodEdit (fixed (codes "dst")) _ (answers_fixed (codes "dst")) (λ u' k'.
    answers_then IsMac IsGoodEdit a_mac _ answers_mac (λ mac o.
    answers_then Any IsGoodEdit end_of_line _ answers_end (λ u2 k2 ws. (tt, (n, m, o))))))))

answers_route : Answers IsGoodEdit route_form
answers_route =
    answers_then HasAddress IsGoodEdit a_prefix _ answers_prefix (λ prefix p.
    answers_then IsTarget IsGoodEdit a_target _ answers_target (λ to t.
    answers_then Any IsGoodEdit end_of_line _ answers_end (λ u k ws. (tt, (p, t)))))

answers_unroute : Answers IsGoodEdit unroute_form
answers_unroute =
    answers_then HasAddress IsGoodEdit a_prefix _ answers_prefix (λ prefix p.
    answers_then Any IsGoodEdit end_of_line _ answers_end (λ u k ws. (tt, p)))

answers_prefix6 : Answers HasAddress6 a_prefix6
answers_prefix6 = answers_class HasAddress6 prefix6_of causes.Prefix (λ e. cc) prefix6_value

answers_route6 : Answers IsGoodEdit route6_form
answers_route6 =
    answers_then HasAddress6 IsGoodEdit a_prefix6 _ answers_prefix6 (λ prefix p.
    answers_then IsTarget IsGoodEdit a_target _ answers_target (λ to t.
    answers_then Any IsGoodEdit end_of_line _ answers_end (λ u k ws. (tt, (p, t)))))

answers_unroute6 : Answers IsGoodEdit unroute6_form
answers_unroute6 =
    answers_then HasAddress6 IsGoodEdit a_prefix6 _ answers_prefix6 (λ prefix p.
    answers_then Any IsGoodEdit end_of_line _ answers_end (λ u k ws. (tt, p)))

-- a statement that a script can say
abbrev pub IsGoodStatement : Statement → Type 0
IsGoodStatement (Change edit) = IsGoodEdit edit
IsGoodStatement (At time) = time ≤ 1000000000000
IsGoodStatement (Process name every count) = IsName name × IsWithin 1 1000000000000 every × IsWithin 1 999 count
IsGoodStatement Then = Unit {0}
IsGoodStatement End = Unit {0}

answers_change : (form : Form Edit) → Answers IsGoodEdit form → Answers IsGoodStatement (change form)
answers_change form h = answers_then IsGoodEdit IsGoodStatement form (λ edit. gives (Change edit)) h (λ edit p ws. p)

answers_at : Answers IsGoodStatement at_form
answers_at =
    answers_then (IsWithin 0 1000000000000) IsGoodStatement (a_number 0 1000000000000) _ (answers_number 0 1000000000000) (λ time w.
    answers_then Any IsGoodStatement end_of_line _ answers_end (λ u k ws. w.1))

answers_process : Answers IsGoodStatement process_form
answers_process =
    answers_then IsName IsGoodStatement a_name _ answers_name (λ name n.
    answers_then Any IsGoodStatement (fixed (codes "every")) _ (answers_fixed (codes "every")) (λ u k.
    answers_then (IsWithin 1 1000000000000) IsGoodStatement (a_number 1 1000000000000) _ (answers_number 1 1000000000000) (λ every e.
    answers_then Any IsGoodStatement (fixed (codes "count")) _ (answers_fixed (codes "count")) (λ u' k'.
    answers_then (IsWithin 1 999) IsGoodStatement (a_number 1 999) _ (answers_number 1 999) (λ count c.
    answers_then Any IsGoodStatement end_of_line _ answers_end (λ u2 k2 ws. (n, e, c)))))))

answers_alone : (statement : Statement) → IsGoodStatement statement → Answers IsGoodStatement (alone statement)
answers_alone statement good = answers_then Any IsGoodStatement end_of_line (λ u. gives statement) answers_end (λ u k ws. good)

-- each statement of the table
pub IsGoodRow : Row → Type 0
IsGoodRow row = Answers IsGoodStatement row.form

pub row_answers : (row : Row) → IsGoodRow row → Answers IsGoodStatement row.form
unfolding IsGoodRow
row_answers row h = h

rows_answer : AllByRecursion IsGoodRow rows
unfolding IsGoodRow
rows_answer = (
  answers_change interface_form answers_interface,
  (
    answers_change node_form answers_node,
    (
      answers_change arc_form answers_arc,
      (
        answers_change adjacency_form answers_adjacency,
        (
          answers_change route_form answers_route,
          (
            answers_change unroute_form answers_unroute,
            (
              answers_change route6_form answers_route6,
              (
                answers_change unroute6_form answers_unroute6,
                (answers_at, (answers_process, (answers_alone Then tt, (answers_alone End tt, tt)))),
              ),
            ),
          ),
        ),
      ),
    ),
  ),
)

pub row_good : (word : List ℕ) → IfSome (row_of word) IsGoodRow
unfolding row_of
row_good word = found_has (λ r. bytes_eq word r.word) IsGoodRow rows rows_answer
