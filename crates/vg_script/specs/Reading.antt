-- What a script says: its statements in the order of their lines, or the first faulty line and its first fault (this
-- project's profile).
use Rattle.std.specs.Prelude.{◌≡◌, ℕ, suc, ◌+◌, Bool, true, false, not, nat_lt, List, [], ◌∷◌, ◌++◌, length, ok_or, Result, Ok, Err, if◌then◌else◌}
use Rattle.std.specs.List.{list_all}
use Rattle.vg_model.specs.declared.edits.EditLine.{EditLine}
use Rattle.vg_script.specs.declared.errors.ScriptCause.{ScriptCause}
use Rattle.vg_script.specs.declared.errors.ScriptCause.TheVariants as causes
use Rattle.vg_script.specs.declared.errors.ScriptError.{ScriptError}
use Rattle.vg_script.specs.declared.scripts.Block.{Block}
use Rattle.vg_script.specs.declared.scripts.Block.TheVariants as blocks
use Rattle.vg_script.specs.declared.scripts.Script.{Script}
use Rattle.vg_script.specs.Lines.{lines, without_comment, is_allowed, words}
use Rattle.vg_script.specs.declared.statements.Statement.{Statement}
use Rattle.vg_script.specs.declared.statements.Statement.TheVariants.{Change, At, Process, Then, End}
use Rattle.vg_script.specs.Statements.{Words, Form, row_of, Place, Anywhere, OutsideBlocks, InAProcess, InABlock}

-- the largest script, in bytes
abbrev pub largest_script : ℕ
largest_script = 262144

-- the most events of a script, which are the runs of its groups of edits
abbrev pub most_events : ℕ
most_events = 999

-- a block that is begun: its line, what it says, and its edits so far, those of a process in groups
pub data Begun : Type 0 where
  Nothing : Begun
  AtBlock : (line time : ℕ) → List EditLine → Begun
  ProcessBlock : (line : ℕ) → (name : List ℕ) → (every count : ℕ) → (groups : List (List EditLine)) → (group : List EditLine) → Begun

-- what was read of a script: edits outside blocks, blocks that are closed, the one that is begun, and the events so far
pub record Reading : Type 0 where
  pub start : List EditLine
  pub blocks : List Block
  pub begun : Begun
  pub events : ℕ

-- what was read before the first line
abbrev pub nothing_read : Reading
nothing_read = record { start = []; blocks = []; begun = Nothing; events = 0 }

-- what follows a value; a cause stays
infixl 10 ◌>>=◌
abbrev pub ◌>>=◌ : {X Y : Type 0} → Result X ScriptCause → (X → Result Y ScriptCause) → Result Y ScriptCause
(Ok x) >>= f = f x
(Err cause) >>= f = Err cause

-- refused with this cause where the test holds
abbrev pub refused_if : Bool → ScriptCause → Result (Unit {0}) ScriptCause
refused_if true cause = Err cause
refused_if false cause = Ok tt

-- a block is begun
abbrev pub is_block : Begun → Bool
is_block Nothing = false
is_block (AtBlock line time group) = true
is_block (ProcessBlock line name every count groups group) = true

-- a process is begun
abbrev pub is_process : Begun → Bool
is_process Nothing = false
is_process (AtBlock line time group) = false
is_process (ProcessBlock line name every count groups group) = true

-- a statement of this place may stand here: `at` and `process` outside blocks, `then` in a process, `end` in a block
abbrev pub may_stand : Place → Begun → Bool
may_stand Anywhere begun = true
may_stand OutsideBlocks begun = not (is_block begun)
may_stand InAProcess begun = is_process begun
may_stand InABlock begun = is_block begun

-- an edit more, in the block that is begun, or outside blocks
abbrev pub with_edit : EditLine → Reading → Begun → Reading
with_edit edit r Nothing = record r { start = r.start ++ edit ∷ [] }
with_edit edit r (AtBlock line time group) = record r { begun = AtBlock line time (group ++ edit ∷ []) }
with_edit edit r (ProcessBlock line name every count groups group) =
    record r { begun = ProcessBlock line name every count groups (group ++ edit ∷ []) }

-- a block is begun, with so many events more, where there are not too many
abbrev pub with_block : Begun → ℕ → Reading → Result Reading ScriptCause
with_block begun events r = do
  _ ← refused_if (nat_lt most_events (r.events + events)) causes.TooManyGenerations
  Ok (record r { begun = begun; events = r.events + events })

-- the next group of the process is begun; no `then` stands elsewhere
abbrev pub with_group : Reading → Begun → Reading
with_group r (ProcessBlock line name every count groups group) =
    record r { begun = ProcessBlock line name every count (groups ++ group ∷ []) [] }
with_group r (AtBlock line time group) = r
with_group r Nothing = r

-- the block is closed; no `end` stands outside blocks
abbrev pub without_block : Reading → Begun → Reading
without_block r Nothing = r
without_block r (AtBlock line time group) = record r { blocks = r.blocks ++ blocks.At line time group ∷ []; begun = Nothing }
without_block r (ProcessBlock line name every count groups group) =
    record r { blocks = r.blocks ++ blocks.Process line name every count (groups ++ group ∷ []) ∷ []; begun = Nothing }

-- what was read, with the statement of a line
abbrev pub with_statement : ℕ → Reading → Statement → Result Reading ScriptCause
with_statement line r (Change edit) = Ok (with_edit (record { line = line; edit = edit }) r r.begun)
with_statement line r (At time) = with_block (AtBlock line time []) 1 r
with_statement line r (Process name every count) = with_block (ProcessBlock line name every count [] []) count r
with_statement line r Then = Ok (with_group r r.begun)
with_statement line r End = Ok (without_block r r.begun)

-- what a form reads of words
abbrev pub value_of : {X : Type 0} → Form X → Words → Result X ScriptCause
value_of form words = do
  found ← form words
  Ok found.0

-- what was read, with the words of a line; where there are none, nothing changes
abbrev pub with_words : ℕ → Reading → Words → Result Reading ScriptCause
with_words line r [] = Ok r
with_words line r (first ∷ others) = do
  row ← ok_or (row_of first) causes.Word
  _ ← refused_if (not (may_stand row.place r.begun)) causes.Block
  statement ← value_of row.form others
  with_statement line r statement

-- what was read, with a line
abbrev pub with_line : ℕ → Reading → List ℕ → Result Reading ScriptCause
with_line line r bytes =
    let text = without_comment bytes in
    do
      _ ← refused_if (not (list_all is_allowed text)) causes.Bytes
      with_words line r (words text)

-- a refusal
abbrev pub refused : {X : Type 0} → (line : ℕ) → ScriptCause → Result X ScriptError
refused line cause = Err (record { line = line; cause = cause })

-- what was read, with the lines from a number on, or the first of them that is faulty
abbrev pub with_lines : ℕ → Reading → List (List ℕ) → Result Reading ScriptError
with_lines line r [] = Ok r
with_lines line r (bytes ∷ others) =
    elim (with_line line r bytes) [ Ok next ↦ with_lines (suc line) next others | Err cause ↦ refused line cause ]

-- the script that was read up to its last line, where no block is still begun
abbrev pub closed : (last : ℕ) → Reading → Begun → Result Script ScriptError
closed last r Nothing = Ok (record { start = r.start; blocks = r.blocks })
closed last r (AtBlock line time group) = refused last causes.Block
closed last r (ProcessBlock line name every count groups group) = refused last causes.Block

-- the script of these lines
abbrev pub script_of_lines : List (List ℕ) → Result Script ScriptError
script_of_lines lines =
    elim (with_lines 1 nothing_read lines) [ Ok r ↦ closed (length lines) r r.begun | Err error ↦ Err error ]

-- the script that a text says, or the line and the cause of its refusal
abbrev pub script_of : List ℕ → Result Script ScriptError
script_of text = if nat_lt largest_script (length text) then refused 0 causes.TooLarge else script_of_lines (lines text)

-- the answer is this refusal; memory may run out in place of any answer, and no line is named then
abbrev pub IsRefusal : Result Script ScriptError → (line : ℕ) → ScriptCause → Type 0
IsRefusal this line causes.Memory = line ≡ 0
IsRefusal this line cause = this ≡ refused line cause

-- what is answered of a text, but for want of memory
abbrev pub AnswersRead : List ℕ → Result Script ScriptError → Type 0
AnswersRead text (Ok script) = script_of text ≡ Ok script
AnswersRead text (Err error) = IsRefusal (script_of text) error.line error.cause
