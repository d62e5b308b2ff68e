-- The words of the command line, and what they ask for (this project's profile).
use Rattle.std.specs.Prelude.{ℕ, ◌+◌, ◌*◌, Bool, false, not, ◌&&◌, ◌||◌, ◌==◌, nat_lt, nat_le, List, [], ◌∷◌, ◌++◌, length, map, slice_index, codes, bytes_eq, find, Option, Some, None, is_some, option_map, if◌then◌else◌}
use Rattle.std.specs.Borrow.{Bor}
use Rattle.std.specs.Char.{is_ascii_digit}
use Rattle.std.specs.List.{list_all, list_any, before_first, after_first}
use Rattle.std.specs.Str.Parse.{digits_value}

-- the bytes of a word
abbrev pub Text : Type 0
Text = List ℕ

-- a run: its options, and its files by their names
pub record Run : Type 0 where
  pub workers : ℕ
  pub buffers : ℕ
  pub queue : ℕ
  pub burst : ℕ
  pub trace : ℕ
  pub turns : Option Text
  pub hold : Bool
  pub capture : Text
  pub script : Text
  pub tx : Text

-- a check of what a run put out: the slots of a queue, and the files by their names
pub record Check : Type 0 where
  pub queue : ℕ
  pub capture : Text
  pub script : Text
  pub tx : Text
  pub report : Text

-- what words ask for
pub data Command : Type 0 where
  -- a capture is sent through the graph of a script
  Runs : Run → Command
  -- so many random packets are sent through two graphs, and one of them by so many workers
  Loads : (seed packets workers : ℕ) → Command
  -- a report and a savefile are compared with what the runs put out that there may be
  Checks : Check → Command

-- what follows a value; none stays none
infixl 10 ◌>>=◌
abbrev pub ◌>>=◌ : {X Y : Type 0} → Option X → (X → Option Y) → Option Y
(Some x) >>= f = f x
None >>= f = None

-- ---- words

-- a name or a value: not empty, and its first byte is no `-`
abbrev pub is_plain : Text → Bool
is_plain [] = false
is_plain (byte ∷ bytes) = not (byte == 45)

-- decimal digits, the first of several not 0
abbrev pub is_decimal : Text → Bool
is_decimal word = nat_lt 0 (length word) && list_all is_ascii_digit word && (length word == 1 || not (slice_index word 0 == 48))

-- the number that a word says, where it is in its range
abbrev pub number_of : (least most : ℕ) → Text → Option ℕ
number_of least most word =
    let number = digits_value 10 word in
    if is_decimal word && nat_le least number && nat_le number most then Some number else None

-- what stands behind the first two bytes, where both are `-`
abbrev pub behind_hyphens : Text → Option Text
behind_hyphens (first ∷ second ∷ rest) = if first == 45 && second == 45 then Some rest else None
behind_hyphens word = None

-- a word `--NAME` or `--NAME=VALUE`, parted at its first `=`: the name, and the value where there is one
abbrev pub parted : Text → Text × Option Text
parted text = (
  before_first (λ byte. byte == 61) text,
  if list_any (λ byte. byte == 61) text then Some (after_first (λ byte. byte == 61) text) else None,
)

abbrev pub option_in : Text → Option (Text × Option Text)
option_in word = option_map parted (behind_hyphens word)

-- ---- the options of a run

abbrev pub option_names : List Text
option_names = codes "workers" ∷ codes "buffers" ∷ codes "queue" ∷ codes "burst" ∷ codes "trace" ∷ codes "turns" ∷ codes "hold" ∷ []

abbrev pub is_option_name : Text → Bool
is_option_name name = list_any (λ known. bytes_eq known name) option_names

-- an option that has no value: a flag
abbrev pub is_flag : Text → Bool
is_flag name = bytes_eq name (codes "hold")

-- what a flag says that is given
abbrev pub yes : Text
yes = codes "true"

-- an option's name with its value
abbrev pub Given : Type 0
Given = Text × Text

abbrev pub is_given : Text → List Given → Bool
is_given name options = list_any (λ given. bytes_eq given.0 name) options

-- what words say so far: the names and the options, each in their order, and the option whose value is the next word
pub record Said : Type 0 where
  pub names : List Text
  pub options : List Given
  pub waits : Option Text

abbrev pub nothing_said : Said
nothing_said = record { names = []; options = []; waits = None }

-- the word is a name
abbrev pub with_name : Said → Text → Said
with_name said word = record said { names = said.names ++ word ∷ [] }

-- the option has the value
abbrev pub with_value : Said → Text → Text → Said
with_value said name value = record said { options = said.options ++ (name, value) ∷ []; waits = None }

-- an option with its value in one word, which a flag has not, or alone
abbrev pub with_option : Said → Text → Option Text → Option Said
with_option said name (Some value) = if not (is_flag name) && is_plain value then Some (with_value said name value) else None
with_option said name None = if is_flag name then Some (with_value said name yes) else Some (record said { waits = Some name })

-- a word that begins with `-` is an option that doesn't stand before
abbrev pub with_option_word : Said → Option (Text × Option Text) → Option Said
with_option_word said (Some p) = if is_option_name p.0 && not (is_given p.0 said.options) then with_option said p.0 p.1 else None
with_option_word said None = None

abbrev pub with_word_after : Option Text → Said → Text → Option Said
with_word_after (Some name) said word = if is_plain word then Some (with_value said name word) else None
with_word_after None said word = if is_plain word then Some (with_name said word) else with_option_word said (option_in word)

-- one word more
abbrev pub with_word : Said → Text → Option Said
with_word said word = with_word_after said.waits said word

-- at the end no option waits for its value
abbrev pub whole : Said → Option Said
whole said = if is_some said.waits then None else Some said

-- words more, to the end
abbrev pub said_from : Said → List Text → Option Said
said_from said [] = whole said
said_from said (word ∷ words) = do
  next ← with_word said word
  said_from next words

-- ---- a run

-- the value of an option, where it is given
abbrev pub value_in : List Given → Text → Option Text
value_in options name = option_map (λ given. given.1) (find (λ given. bytes_eq given.0 name) options)

-- the number of an option, or its default where it isn't given; none where its value is no number of its range
abbrev pub number_or : (default least most : ℕ) → Option Text → Option ℕ
number_or default least most (Some value) = number_of least most value
number_or default least most None = Some default

-- a flag is given
abbrev pub is_set : Option Text → Bool
is_set (Some value) = bytes_eq value yes
is_set None = false

-- the run over these files, by what value each option has
abbrev pub run_by : (Text → Option Text) → (capture script tx : Text) → Option Run
run_by value capture script tx = do
  workers ← number_or 1 1 8 (value (codes "workers"))
  buffers ← number_or 4096 (256 * workers + 256) 16384 (value (codes "buffers"))
  queue ← number_or 64 1 256 (value (codes "queue"))
  burst ← number_or 256 1 256 (value (codes "burst"))
  trace ← number_or 0 0 256 (value (codes "trace"))
  Some (record {
    workers = workers;
    buffers = buffers;
    queue = queue;
    burst = burst;
    trace = trace;
    turns = value (codes "turns");
    hold = is_set (value (codes "hold"));
    capture = capture;
    script = script;
    tx = tx;
  })

-- there are exactly three names
abbrev pub run_over : (Text → Option Text) → List Text → Option Run
run_over value (capture ∷ script ∷ tx ∷ []) = run_by value capture script tx
run_over value names = None

-- the run that the words behind `run` ask for
abbrev pub run_of : List Text → Option Run
run_of words = do
  said ← said_from nothing_said words
  run_over (value_in said.options) said.names

-- ---- a load

-- exactly three numbers
abbrev pub load_of : List Text → Option Command
load_of (first ∷ second ∷ third ∷ []) = do
  seed ← number_of 0 18446744073709551615 first
  packets ← number_of 1 65536 second
  workers ← number_of 1 8 third
  Some (Loads seed packets workers)
load_of words = None

-- ---- a check

-- what words behind `check` say so far: the names in their order, the value of `--queue`, and whether it is the next word
pub record CheckSaid : Type 0 where
  pub names : List Text
  pub queue : Option Text
  pub waits : Bool

abbrev pub no_check_said : CheckSaid
no_check_said = record { names = []; queue = None; waits = false }

-- a name or a value
abbrev pub with_check_name : CheckSaid → Text → CheckSaid
with_check_name said word =
    if said.waits then record said { queue = Some word; waits = false } else record said { names = said.names ++ word ∷ [] }

-- the value in an option's word, where it is plain or the next word
abbrev pub plain_or_next : Option Text → Option (Option Text)
plain_or_next (Some value) = if is_plain value then Some (Some value) else None
plain_or_next None = Some None

-- a word `--queue=VALUE`, with its value, or `--queue`
abbrev pub queue_of : Option (Text × Option Text) → Option (Option Text)
queue_of (Some p) = if bytes_eq p.0 (codes "queue") then plain_or_next p.1 else None
queue_of None = None

abbrev pub queue_in : Text → Option (Option Text)
queue_in word = queue_of (option_in word)

abbrev pub with_queue : CheckSaid → Option Text → CheckSaid
with_queue said value = record said { queue = value; waits = not (is_some value) }

-- one word more: a word that begins with `-` is `--queue`, once, and isn't its value
abbrev pub with_check_word : CheckSaid → Text → Option CheckSaid
with_check_word said word =
    if is_plain word then Some (with_check_name said word)
    else if said.waits || is_some said.queue then None
    else option_map (with_queue said) (queue_in word)

-- words more, to the end, where `--queue` doesn't wait for its value
abbrev pub check_from : CheckSaid → List Text → Option CheckSaid
check_from said [] = if said.waits then None else Some said
check_from said (word ∷ words) = do
  next ← with_check_word said word
  check_from next words

-- there are exactly four names
abbrev pub check_over : Option Text → List Text → Option Check
check_over value (capture ∷ script ∷ tx ∷ report ∷ []) = do
  queue ← number_or 64 1 256 value
  Some (record { queue = queue; capture = capture; script = script; tx = tx; report = report })
check_over value names = None

-- the check that the words behind `check` ask for
abbrev pub check_of : List Text → Option Check
check_of words = do
  said ← check_from no_check_said words
  check_over said.queue said.names

-- ---- commands

-- what words ask for: the first word is `run`, `load` or `check`
abbrev pub command : List Text → Option Command
command [] = None
command (word ∷ words) =
    if bytes_eq word (codes "run") then option_map Runs (run_of words)
    else if bytes_eq word (codes "load") then load_of words
    else if bytes_eq word (codes "check") then option_map Checks (check_of words)
    else None

-- the texts behind references
abbrev pub texts : List (Bor Text) → List Text
texts words = map (λ word. word.now) words
