-- For the clause of `read_run`: one word of a parse of `run`, by what it says.
use Rattle.std.proofs.Common.{◌≡◌, ◌&&◌, ◌==◌, ℕ, suc, Bool, cond, true, false, refl, sym, subst, List, [], ◌∷◌, ◌++◌, Option, Some, None, option_map, true≢false}
use Rattle.std.specs.Str.{bytes_eq}
use Rattle.std.proofs.lemmas.Bool.{eqb-true}
use Rattle.clap.specs.Lexer.{long_of, short_of}
use Rattle.clap.specs.Walk.{Held, Row, Rule, Waiting, Walk, arg_by_index, arg_by_long, has_row, idle, is_multiple, is_pending, next_position, option, settled_rows, takes_several, takes_values, walked}
use Rattle.clap.specs.Simple.{Shape}
use Rattle.clap.specs.Faults.{settle_fault, turn_fault}
use Rattle.clap.specs.declared.error.kind.ErrorKind.TheVariants as kind
use Rattle.vg_words.specs.Command.{Text, is_plain, is_option_name, option_in, parted, yes}
use Rattle.vg_words.proofs.TextLemmas.{bytes_eq-refl, and_both, not_true, some_is, none_is_not_some}
use Rattle.vg_words.proofs.RowLemmas.{IsSingle, IsSwitch, row, switch-once, switched-once, use-once, used-once}

-- ---- what is held between two words

-- an argument with its value, which is used with the next word or at the end
abbrev pub Last : Type 0
Last = Option (Rule × Text)

abbrev pub pending_of : Last → Option (Text × List Text)
pending_of None = None
pending_of (Some p) = Some (p.0.id, p.1 ∷ [])

-- the rows, with that of the argument that is used next
abbrev pub all_rows : List Row → Last → List Row
all_rows rows None = rows
all_rows rows (Some p) = rows ++ row p.0 p.1 ∷ []

-- the argument is one of the command's, and wasn't used before
abbrev pub IsFresh : List Rule → List Row → Last → Type 0
IsFresh rules rows None = Unit {0}
IsFresh rules rows (Some p) = IsSingle rules p.0 × (has_row p.0.id rows ≡ false)

abbrev pub held : List Row → Option (Text × List Text) → Held
held rows pending = record { rows = rows; pending = pending; skip = 0 }

abbrev pub walk_at : Held → Waiting → ℕ → Walk
walk_at h waiting position = record { held = h; waiting = waiting; position = position; is_trailing = false; stopped = None }

pub settled_rows-fresh : (rules : List Rule) (rows : List Row) (last : Last) → IsFresh rules rows last → settled_rows rules (pending_of last) rows ≡ all_rows rows last
settled_rows-fresh rules rows None fresh = refl
settled_rows-fresh rules rows (Some p) fresh = rw fresh.0.found (used-once rules p.0 p.1 rows fresh.0 fresh.1)

pub settle-fresh : (rules : List Rule) (rows : List Row) (last : Last) → IsFresh rules rows last → settle_fault rules false (held rows (pending_of last)) ≡ []
settle-fresh rules rows None fresh = refl
settle-fresh rules rows (Some p) fresh = rw fresh.0.found (use-once rules p.0 p.1 rows fresh.0 fresh.1)

-- ---- words

-- a plain word is no flag
pub record IsNoFlag (word : Text) : Type 0 where
  pub long : long_of word ≡ None
  pub short : short_of word ≡ None
  pub two : bytes_eq word (45 ∷ 45 ∷ []) ≡ false

pub plain-no_flag : (word : Text) → is_plain word ≡ true → IsNoFlag word
plain-no_flag [] h = absurd (true≢false (sym h))
plain-no_flag (byte ∷ bytes) h =
    let other : (byte == 45) ≡ false = not_true (byte == 45) h in
    record { long = rw other refl; short = rw other refl; two = rw other refl }

-- a word that is an option of a run
pub record IsFlag (word : Text) (p : Text × Option Text) : Type 0 where
  pub long : long_of word ≡ Some p
  pub two : bytes_eq word (45 ∷ 45 ∷ []) ≡ false

flag_behind : (rest : Text) (p : Text × Option Text) → Some (parted rest) ≡ Some p → is_option_name p.0 ≡ true → IsFlag (45 ∷ 45 ∷ rest) p
flag_behind [] p e known =
    let empty : parted [] ≡ p = some_is (parted []) p e in
    let named : is_option_name (parted []).0 ≡ true = subst (λ (q : Text × Option Text). is_option_name q.0 ≡ true) (sym empty) known in
    absurd (true≢false (sym named))
flag_behind (x ∷ xs) p e known = record { long = e; two = refl }

flag_from : (first second : ℕ) (rest : Text) (p : Text × Option Text) (b : Bool) → (first == 45 && second == 45) ≡ b
    → option_map parted (cond b (Some rest) None) ≡ Some p → is_option_name p.0 ≡ true → IsFlag (first ∷ second ∷ rest) p
flag_from first second rest p true hyphens e known =
    let both = and_both (first == 45) (second == 45) hyphens in
    subst (λ (x : ℕ). IsFlag (x ∷ second ∷ rest) p) (sym (eqb-true first 45 both.0))
    (subst (λ (x : ℕ). IsFlag (45 ∷ x ∷ rest) p) (sym (eqb-true second 45 both.1)) (flag_behind rest p e known))
flag_from first second rest p false hyphens e known = absurd (none_is_not_some p e)

pub option-flag : (word : Text) (p : Text × Option Text) → option_in word ≡ Some p → is_option_name p.0 ≡ true → IsFlag word p
option-flag [] p e known = absurd (none_is_not_some p e)
option-flag (first ∷ []) p e known = absurd (none_is_not_some p e)
option-flag (first ∷ second ∷ rest) p e known = flag_from first second rest p (first == 45 && second == 45) refl e known

-- ---- a name

-- the argument for the name at a position
pub record IsPosition (rules : List Rule) (position : ℕ) (a : Rule) : Type 0 where
  pub index : arg_by_index rules position ≡ Some a
  pub single : IsSingle rules a
  pub one_value : takes_several a ≡ false
  pub once : is_multiple a ≡ false
  pub goes_on : a.trailing_var_arg ≡ false
  pub next : next_position a position ≡ suc position

and_false : (b : Bool) → (b && false) ≡ false
and_false true = refl
and_false false = refl

pub name-walked : (s : Shape) (rows : List Row) (last : Last) (position : ℕ) (a : Rule) (word : Text) → is_plain word ≡ true
    → IsFresh s.rules rows last → IsPosition s.rules position a
    → walked s.rules [] (walk_at (held rows (pending_of last)) idle position) word
    ≡ walk_at (held (all_rows rows last) (pending_of (Some (a, word)))) idle (suc position)
unfolding walked
name-walked s rows last position a word plain fresh at =
    let flag = plain-no_flag word plain in
    let kept : (is_pending a (pending_of last) && takes_several a) ≡ false = rw at.one_value (and_false _) in
    rw (flag.two, flag.long, flag.short, at.index, kept, at.next, at.once, at.goes_on, settled_rows-fresh s.rules rows last fresh) refl

pub name-fault : (s : Shape) (rows : List Row) (last : Last) (position : ℕ) (a : Rule) (word : Text) → s.args_override_self ≡ false → is_plain word ≡ true
    → IsFresh s.rules rows last → IsPosition s.rules position a
    → turn_fault s [] (walk_at (held rows (pending_of last)) idle position) word ≡ []
name-fault s rows last position a word again plain fresh at =
    let flag = plain-no_flag word plain in
    let kept : (is_pending a (pending_of last) && takes_several a) ≡ false = rw at.one_value (and_false _) in
    rw (flag.two, flag.long, flag.short, at.index, kept, again, settle-fresh s.rules rows last fresh) refl

-- a name too many is a stray word
pub stray-fault : (s : Shape) (rows : List Row) (last : Last) (position : ℕ) (word : Text) → is_plain word ≡ true
    → s.is_leaf ≡ true → arg_by_index s.rules position ≡ None
    → turn_fault s [] (walk_at (held rows (pending_of last)) idle position) word ≡ kind.UnknownArgument ∷ []
stray-fault s rows last position word plain leaf none =
    let flag = plain-no_flag word plain in
    rw (flag.two, flag.long, flag.short, none, leaf) refl

-- ---- an option

-- the argument for an option
pub record IsOption (rules : List Rule) (a : Rule) : Type 0 where
  pub long : arg_by_long rules a.id ≡ Some a
  pub single : IsSingle rules a
  pub has_value : takes_values a ≡ true

-- an option alone waits for its value
pub option-walked : (s : Shape) (rows : List Row) (last : Last) (position : ℕ) (a : Rule) (word : Text) → IsFlag word (a.id, None)
    → IsFresh s.rules rows last → IsOption s.rules a
    → walked s.rules [] (walk_at (held rows (pending_of last)) idle position) word ≡ walk_at (held (all_rows rows last) (Some (a.id, []))) (option a.id) position
unfolding walked
option-walked s rows last position a word flag fresh at =
    rw (flag.two, flag.long, at.long, at.has_value, settled_rows-fresh s.rules rows last fresh) refl

pub option-fault : (s : Shape) (rows : List Row) (last : Last) (position : ℕ) (a : Rule) (word : Text) → s.args_override_self ≡ false → IsFlag word (a.id, None)
    → IsFresh s.rules rows last → IsOption s.rules a
    → turn_fault s [] (walk_at (held rows (pending_of last)) idle position) word ≡ []
option-fault s rows last position a word again flag fresh at =
    rw (flag.two, flag.long, at.long, at.has_value, again, settle-fresh s.rules rows last fresh) refl

-- an option with its value is used
pub given-walked : (s : Shape) (rows : List Row) (last : Last) (position : ℕ) (a : Rule) (value word : Text) → IsFlag word (a.id, Some value)
    → IsFresh s.rules rows last → IsOption s.rules a → has_row a.id (all_rows rows last) ≡ false
    → walked s.rules [] (walk_at (held rows (pending_of last)) idle position) word
    ≡ walk_at (held (all_rows rows last ++ row a value ∷ []) None) idle position
unfolding walked
given-walked s rows last position a value word flag fresh at none =
    rw (flag.two, flag.long, at.long, at.has_value, settled_rows-fresh s.rules rows last fresh, used-once s.rules a value (all_rows rows last) at.single none) refl

pub given-fault : (s : Shape) (rows : List Row) (last : Last) (position : ℕ) (a : Rule) (value word : Text) → s.args_override_self ≡ false
    → IsFlag word (a.id, Some value) → IsFresh s.rules rows last → IsOption s.rules a → has_row a.id (all_rows rows last) ≡ false
    → turn_fault s [] (walk_at (held rows (pending_of last)) idle position) word ≡ []
given-fault s rows last position a value word again flag fresh at none =
    rw (flag.two, flag.long, at.long, at.has_value, again, settle-fresh s.rules rows last fresh, settled_rows-fresh s.rules rows last fresh, use-once s.rules a value (all_rows rows last) at.single none) refl

-- the value of an option that waits
pub value-walked : (s : Shape) (rows : List Row) (position : ℕ) (a : Rule) (word : Text) → is_plain word ≡ true → IsOption s.rules a
    → walked s.rules [] (walk_at (held rows (Some (a.id, []))) (option a.id) position) word ≡ walk_at (held rows (pending_of (Some (a, word)))) idle position
unfolding walked
value-walked s rows position a word plain at =
    let flag = plain-no_flag word plain in
    rw (flag.two, flag.long, flag.short, at.single.found, bytes_eq-refl a.id, at.single.most) refl

pub value-fault : (s : Shape) (rows : List Row) (position : ℕ) (a : Rule) (word : Text) → is_plain word ≡ true → IsOption s.rules a
    → turn_fault s [] (walk_at (held rows (Some (a.id, []))) (option a.id) position) word ≡ []
value-fault s rows position a word plain at =
    let flag = plain-no_flag word plain in
    rw (flag.two, flag.long, flag.short) refl

-- ---- a flag

-- the argument for a flag
pub record IsFlagRule (rules : List Rule) (a : Rule) : Type 0 where
  pub long : arg_by_long rules a.id ≡ Some a
  pub switch : IsSwitch a
  pub no_value : takes_values a ≡ false

-- a flag is used at once
pub flag-walked : (s : Shape) (rows : List Row) (last : Last) (position : ℕ) (a : Rule) (word : Text) → IsFlag word (a.id, None)
    → IsFresh s.rules rows last → IsFlagRule s.rules a → has_row a.id (all_rows rows last) ≡ false
    → walked s.rules [] (walk_at (held rows (pending_of last)) idle position) word
    ≡ walk_at (held (all_rows rows last ++ row a yes ∷ []) None) idle position
unfolding walked
flag-walked s rows last position a word flag fresh at none =
    rw (flag.two, flag.long, at.long, at.no_value, settled_rows-fresh s.rules rows last fresh, switched-once a (all_rows rows last) at.switch none) refl

pub flag-fault : (s : Shape) (rows : List Row) (last : Last) (position : ℕ) (a : Rule) (word : Text) → s.args_override_self ≡ false
    → IsFlag word (a.id, None) → IsFresh s.rules rows last → IsFlagRule s.rules a → has_row a.id (all_rows rows last) ≡ false
    → turn_fault s [] (walk_at (held rows (pending_of last)) idle position) word ≡ []
flag-fault s rows last position a word again flag fresh at none =
    rw (flag.two, flag.long, at.long, at.no_value, again, settle-fresh s.rules rows last fresh, settled_rows-fresh s.rules rows last fresh, switch-once a (all_rows rows last) at.switch none) refl
