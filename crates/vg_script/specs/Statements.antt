-- The statements of a script: the words of each, and the cause of the first word that isn't as its statement needs (this
-- project's profile).
use Rattle.std.specs.Prelude.{ℕ, Bool, true, false, List, [], ◌∷◌, codes, bytes_eq, find, Option, Some, None, Result, Ok, Err, if◌then◌else◌}
use Rattle.vg_model.specs.declared.edits.Edit.{Edit}
use Rattle.vg_model.specs.declared.edits.Edit.TheVariants as edits
use Rattle.vg_model.specs.declared.kinds.Kind.{Kind}
use Rattle.vg_model.specs.declared.names.Mac.{Mac}
use Rattle.vg_model.specs.declared.routes.Prefix.{Prefix}
use Rattle.vg_model.specs.declared.routes.Prefix6.{Prefix6}
use Rattle.vg_model.specs.declared.routes.RouteWord.{RouteWord}
use Rattle.vg_model.specs.declared.routes.RouteWord.TheVariants as targets
use Rattle.vg_script.specs.declared.errors.ScriptCause.{ScriptCause}
use Rattle.vg_script.specs.declared.errors.ScriptCause.TheVariants as causes
use Rattle.vg_script.specs.declared.statements.Statement.{Statement}
use Rattle.vg_script.specs.declared.statements.Statement.TheVariants.{Change, At, Process, Then, End}
use Rattle.vg_script.specs.Classes.{name_of, names_of, number_of, mac_of, prefix_of, prefix6_of, kind_of}

-- the words of a line that are still to be read
abbrev pub Words : Type 0
Words = List (List ℕ)

-- a form takes words from the front: a value and the words behind, or the cause of the first word that isn't as it needs
abbrev pub Form : Type 0 → Type 0
Form X = Words → Result (X × Words) ScriptCause

-- a form reads on behind what was read; a cause stays
abbrev pub read_on : {X Y : Type 0} → Result (X × Words) ScriptCause → (X → Form Y) → Result (Y × Words) ScriptCause
read_on (Ok found) form = form found.0 found.1
read_on (Err cause) form = Err cause

-- one form behind the other
infixl 10 ◌>>=◌
abbrev pub ◌>>=◌ : {X Y : Type 0} → Form X → (X → Form Y) → Form Y
first >>= next = λ words. read_on (first words) next

-- no word, and this value
abbrev pub gives : {X : Type 0} → X → Form X
gives x words = Ok (x, words)

-- the end of the line: a word there is one too many
abbrev pub end_of_line : Form (Unit {0})
end_of_line [] = Ok (tt, [])
end_of_line (word ∷ words) = Err causes.Word

-- any word
abbrev pub a_word : Form (List ℕ)
a_word [] = Err causes.Word
a_word (word ∷ words) = Ok (word, words)

-- this value where there is one, or a cause
abbrev pub or_else : {X : Type 0} → Option X → ScriptCause → Form X
or_else (Some x) cause words = Ok (x, words)
or_else None cause words = Err cause

-- a word of a class, and the cause where another word stands there
abbrev pub a_word_of : {X : Type 0} → (List ℕ → Option X) → ScriptCause → Form X
a_word_of class cause = do
  word ← a_word
  or_else (class word) cause

-- a word of each class
abbrev pub a_name : Form (List ℕ)
a_name = a_word_of name_of causes.Name

abbrev pub some_names : Form (List (List ℕ))
some_names = a_word_of names_of causes.Name

abbrev pub a_mac : Form Mac
a_mac = a_word_of mac_of causes.Mac

abbrev pub a_prefix : Form Prefix
a_prefix = a_word_of prefix_of causes.Prefix

abbrev pub a_prefix6 : Form Prefix6
a_prefix6 = a_word_of prefix6_of causes.Prefix

abbrev pub a_kind : Form Kind
a_kind = a_word_of kind_of causes.Kind

abbrev pub a_number : (least most : ℕ) → Form ℕ
a_number least most = a_word_of (number_of least most) causes.Number

-- a fixed word
abbrev pub fixed : List ℕ → Form (Unit {0})
fixed text = a_word_of (λ word. if bytes_eq word text then Some tt else None) causes.Word

-- `up` or `down`
abbrev pub up_or_down : Form Bool
up_or_down = a_word_of (λ word. if bytes_eq word (codes "up") then Some true else if bytes_eq word (codes "down") then Some false else None) causes.Word

-- `filter` or nothing
abbrev pub filter_or_nothing : Form Bool
filter_or_nothing [] = Ok (false, [])
filter_or_nothing (word ∷ words) = if bytes_eq word (codes "filter") then Ok (true, words) else Err causes.Word

-- `via NAMES`, `local` or `drop`, by its first word
abbrev pub target_by : List ℕ → Form RouteWord
target_by word =
    if bytes_eq word (codes "via") then (do
      names ← some_names
      gives (targets.Via names))
    else if bytes_eq word (codes "local") then gives targets.Local
    else if bytes_eq word (codes "drop") then gives targets.Drop
    else or_else None causes.Word

abbrev pub a_target : Form RouteWord
a_target = do
  word ← a_word
  target_by word

-- `interface NAME mac MAC mtu NUMBER up` or `down`, then `filter` or nothing
abbrev pub interface_form : Form Edit
interface_form = do
  name ← a_name
  _ ← fixed (codes "mac")
  mac ← a_mac
  _ ← fixed (codes "mtu")
  mtu ← a_number 68 65535
  up ← up_or_down
  filter ← filter_or_nothing
  _ ← end_of_line
  gives (edits.Interface name mac mtu up filter)

-- `node NAME kind KIND`
abbrev pub node_form : Form Edit
node_form = do
  name ← a_name
  _ ← fixed (codes "kind")
  kind ← a_kind
  _ ← end_of_line
  gives (edits.Node name kind)

-- `arc NAME NAME NAME`: node, slot, target
abbrev pub arc_form : Form Edit
arc_form = do
  from ← a_name
  slot ← a_name
  to ← a_name
  _ ← end_of_line
  gives (edits.Arc from slot to)

-- `adjacency NAME interface NAME dst MAC`
abbrev pub adjacency_form : Form Edit
adjacency_form = do
  name ← a_name
  _ ← fixed (codes "interface")
  interface ← a_name
  _ ← fixed (codes "dst")
  mac ← a_mac
  _ ← end_of_line
  gives (edits.Adjacency name interface mac)

-- `route PREFIX via NAMES`, `route PREFIX local`, `route PREFIX drop`
abbrev pub route_form : Form Edit
route_form = do
  prefix ← a_prefix
  to ← a_target
  _ ← end_of_line
  gives (edits.Route prefix to)

-- `unroute PREFIX`
abbrev pub unroute_form : Form Edit
unroute_form = do
  prefix ← a_prefix
  _ ← end_of_line
  gives (edits.Unroute prefix)

-- `route6 PREFIX6 via NAMES`, `route6 PREFIX6 local`, `route6 PREFIX6 drop`
abbrev pub route6_form : Form Edit
route6_form = do
  prefix ← a_prefix6
  to ← a_target
  _ ← end_of_line
  gives (edits.Route6 prefix to)

-- `unroute6 PREFIX6`
abbrev pub unroute6_form : Form Edit
unroute6_form = do
  prefix ← a_prefix6
  _ ← end_of_line
  gives (edits.Unroute6 prefix)

-- a change of the graph as a statement
abbrev pub change : Form Edit → Form Statement
change form = do
  edit ← form
  gives (Change edit)

-- `at NUMBER`
abbrev pub at_form : Form Statement
at_form = do
  time ← a_number 0 1000000000000
  _ ← end_of_line
  gives (At time)

-- `process NAME every NUMBER count NUMBER`
abbrev pub process_form : Form Statement
process_form = do
  name ← a_name
  _ ← fixed (codes "every")
  every ← a_number 1 1000000000000
  _ ← fixed (codes "count")
  count ← a_number 1 999
  _ ← end_of_line
  gives (Process name every count)

-- `then` and `end`, which are one word
abbrev pub alone : Statement → Form Statement
alone statement = do
  _ ← end_of_line
  gives statement

-- where a statement may stand
pub data Place : Type 0 where
  Anywhere : Place
  OutsideBlocks : Place
  InAProcess : Place
  InABlock : Place

-- a statement: its first word, where it may stand, and the words behind its first
pub record Row : Type 0 where
  pub word : List ℕ
  pub place : Place
  pub form : Form Statement

abbrev pub row : List ℕ → Place → Form Statement → Row
row word place form = record { word = word; place = place; form = form }

-- the table of statements
abbrev pub rows : List Row
rows =
    row (codes "interface") Anywhere (change interface_form)
    ∷ row (codes "node") Anywhere (change node_form)
    ∷ row (codes "arc") Anywhere (change arc_form)
    ∷ row (codes "adjacency") Anywhere (change adjacency_form)
    ∷ row (codes "route") Anywhere (change route_form)
    ∷ row (codes "unroute") Anywhere (change unroute_form)
    ∷ row (codes "route6") Anywhere (change route6_form)
    ∷ row (codes "unroute6") Anywhere (change unroute6_form)
    ∷ row (codes "at") OutsideBlocks at_form
    ∷ row (codes "process") OutsideBlocks process_form
    ∷ row (codes "then") InAProcess (alone Then)
    ∷ row (codes "end") InABlock (alone End)
    ∷ []

-- the statement that begins with a word
unfoldable pub row_of : List ℕ → Option Row
row_of word = find (λ r. bytes_eq word r.word) rows
