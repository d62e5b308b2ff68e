-- For `read_is_lawful` and `parse_script`: what is read is lawful.
use Rattle.std.proofs.Common.{◌≡◌, ◌⊎◌, ℕ, suc, ◌+◌, ◌<◌, ◌≤◌, Bool, true, false, cond, List, [], ◌∷◌, ◌++◌, length, map, get_or, refl, sym, ap, subst, ◌∙◌, arith, inl, inr, ltb-false, length-append}
use Rattle.std.specs.Prelude.{Result, Ok, Err, IfOk, All, sum_by, nat_lt}
use Rattle.std.specs.List.Sorted.{IsStrictlyIncreasing}
use Rattle.std.proofs.lemmas.Bool.{cases_lt}
use Rattle.std.proofs.lemmas.List.{get_or_append_left, get_or_push, map-append}
use Rattle.std.proofs.lemmas.List.Elements.{All-nil, All-push, All-weaker, All-map}
use Rattle.std.proofs.lemmas.List.Sums.{sum_by_push}
use Rattle.vg_model.specs.declared.edits.EditLine.{EditLine}
use Rattle.vg_model.specs.Name.{IsName}
use Rattle.vg_script.specs.declared.errors.ScriptCause.{ScriptCause}
use Rattle.vg_script.specs.declared.errors.ScriptCause.TheVariants as causes
use Rattle.vg_script.specs.declared.errors.ScriptError.{ScriptError}
use Rattle.vg_script.specs.declared.scripts.Block.{Block}
use Rattle.vg_script.specs.declared.scripts.Block.TheVariants as blocks
use Rattle.vg_script.specs.declared.scripts.Script.{Script}
use Rattle.vg_script.specs.Lawful.{IsLawfulEdit, AreLawfulEdits, IsLawfulBlock, block_line, block_events, IsLawful, IsEdit, AreEdits, IsBlock, IsScript}
use Rattle.vg_script.specs.Lines.{lines}
use Rattle.vg_script.specs.Reading.{Begun, Nothing, AtBlock, ProcessBlock, Reading, nothing_read, ◌>>=◌, refused_if, with_edit, with_block, with_group, without_block, with_statement, with_line, with_lines, refused, closed, script_of_lines, largest_script, most_events, AnswersRead}
use Rattle.vg_script.specs.RoundTrip.{ReadsLawful}
use Rattle.vg_script.specs.declared.statements.Statement.{Statement}
use Rattle.vg_script.specs.declared.statements.Statement.TheVariants.{Change, At, Process, Then, End}
use Rattle.vg_script.proofs.AnswerLemmas.{IsGoodEdit, IsGoodStatement}
use Rattle.vg_script.proofs.LineLemmas.{IsLine, is_line}
use Rattle.vg_script.proofs.ReadLemmas.{after_line, answer}
use Rattle.vg_script.proofs.ValueLemmas.{IsWithin}

-- edits that a script can say
abbrev AreGood : List EditLine → Type 0
AreGood group = All (λ l. IsGoodEdit l.edit) group

-- a block that a script can say
abbrev IsGoodBlock : Block → Type 0
IsGoodBlock (blocks.At line time group) = (time ≤ 1000000000000) × AreGood group
IsGoodBlock (blocks.Process line name every count groups) =
    IsName name × IsWithin 1 1000000000000 every × IsWithin 1 999 count × (1 ≤ length groups) × All AreGood groups

-- the block that is begun, behind those that are closed
abbrev IsGoodBegun : ℕ → List Block → Begun → Type 0
IsGoodBegun number closed Nothing = Unit {0}
IsGoodBegun number closed (AtBlock line time group) =
    (line < number) × All (λ b. block_line b < line) closed × (time ≤ 1000000000000) × AreGood group
IsGoodBegun number closed (ProcessBlock line name every count groups group) =
    (line < number) × All (λ b. block_line b < line) closed × IsName name × IsWithin 1 1000000000000 every × IsWithin 1 999 count
    × All AreGood groups × AreGood group

-- the events of the block that is begun
abbrev begun_events : Begun → ℕ
begun_events Nothing = 0
begun_events (AtBlock line time group) = 1
begun_events (ProcessBlock line name every count groups group) = count

-- what was read before a line
record IsGood (number : ℕ) (r : Reading) : Type 0 where
  start : AreGood r.start
  blocks : All IsGoodBlock r.blocks
  rising : IsStrictlyIncreasing (map block_line r.blocks)
  before : All (λ b. block_line b < number) r.blocks
  begun : IsGoodBegun number r.blocks r.begun
  events : sum_by block_events r.blocks + begun_events r.begun ≤ r.events
  most : r.events ≤ most_events

good_start : IsGood 1 nothing_read
good_start = record {
  start = All-nil (λ l. IsGoodEdit l.edit);
  blocks = All-nil IsGoodBlock;
  rising = λ k h. absurd (omega (arith, h));
  before = All-nil (λ b. block_line b < 1);
  begun = tt;
  events = omega arith;
  most = omega arith;
}

-- what holds before a line holds before the next
later : (number : ℕ) (closed : List Block) → All (λ b. block_line b < number) closed → All (λ b. block_line b < suc number) closed
later number closed h = All-weaker (λ b. block_line b < number) (λ b. block_line b < suc number) (λ b p. omega (arith, p)) closed h

begun_later : (number : ℕ) (closed : List Block) (begun : Begun) → IsGoodBegun number closed begun → IsGoodBegun (suc number) closed begun
begun_later number closed Nothing h = tt
begun_later number closed (AtBlock line time group) h = (omega (arith, h.0), h.1, h.2, h.3)
begun_later number closed (ProcessBlock line name every count groups group) h = (omega (arith, h.0), h.1, h.2, h.3, h.4, h.5, h.6)

good_later : (number : ℕ) (r : Reading) → IsGood number r → IsGood (suc number) r
good_later number r good = record {
  start = good.start;
  blocks = good.blocks;
  rising = good.rising;
  before = later number r.blocks good.before;
  begun = begun_later number r.blocks r.begun good.begun;
  events = good.events;
  most = good.most;
}

-- another block is begun
begun_as : (number : ℕ) (r : Reading) (begun : Begun) → IsGood number r → IsGoodBegun (suc number) r.blocks begun
    → begun_events begun ≡ begun_events r.begun → IsGood (suc number) (record r { begun = begun })
begun_as number r begun good h same =
    let events = good.events in
    record {
      start = good.start;
      blocks = good.blocks;
      rising = good.rising;
      before = later number r.blocks good.before;
      begun = h;
      events = omega (arith, events, same);
      most = good.most;
    }

-- an edit
edit_step : (number : ℕ) (r : Reading) (edit : EditLine) → IsGood number r → IsGoodEdit edit.edit → (begun : Begun) → r.begun ≡ begun
    → IsGood (suc number) (with_edit edit r begun)
edit_step number r edit good h Nothing same =
    let next = good_later number r good in
    record {
      start = All-push (λ l. IsGoodEdit l.edit) r.start edit good.start h;
      blocks = next.blocks;
      rising = next.rising;
      before = next.before;
      begun = next.begun;
      events = next.events;
      most = next.most;
    }
edit_step number r edit good h (AtBlock line time group) same =
    let begun : IsGoodBegun number r.blocks (AtBlock line time group) = subst (IsGoodBegun number r.blocks) same good.begun in
    begun_as number r (AtBlock line time (group ++ edit ∷ [])) good
    (omega (arith, begun.0), begun.1, begun.2, All-push (λ l. IsGoodEdit l.edit) group edit begun.3 h) (ap begun_events (sym same))
edit_step number r edit good h (ProcessBlock line name every count groups group) same =
    let begun : IsGoodBegun number r.blocks (ProcessBlock line name every count groups group) = subst (IsGoodBegun number r.blocks) same good.begun in
    begun_as number r (ProcessBlock line name every count groups (group ++ edit ∷ [])) good
    (omega (arith, begun.0), begun.1, begun.2, begun.3, begun.4, begun.5, All-push (λ l. IsGoodEdit l.edit) group edit begun.6 h) (ap begun_events (sym same))

-- the next group
group_step : (number : ℕ) (r : Reading) → IsGood number r → (begun : Begun) → r.begun ≡ begun → IsGood (suc number) (with_group r begun)
group_step number r good Nothing same = good_later number r good
group_step number r good (AtBlock line time group) same = good_later number r good
group_step number r good (ProcessBlock line name every count groups group) same =
    let begun : IsGoodBegun number r.blocks (ProcessBlock line name every count groups group) = subst (IsGoodBegun number r.blocks) same good.begun in
    begun_as number r (ProcessBlock line name every count (groups ++ group ∷ []) []) good
    (omega (arith, begun.0), begun.1, begun.2, begun.3, begun.4, All-push AreGood groups group begun.5 begun.6, All-nil (λ l. IsGoodEdit l.edit))
    (ap begun_events (sym same))

-- numbers that rise, with a greater one behind them
rising_push : (xs : List ℕ) (y : ℕ) → IsStrictlyIncreasing xs → All (λ x. x < y) xs → IsStrictlyIncreasing (xs ++ y ∷ [])
rising_push xs y rising below k h =
    let len : length (xs ++ y ∷ []) ≡ length xs + 1 = length-append xs (y ∷ []) in
    by_place (cases_lt (k + 1) (length xs)) (omega (arith, h, len))
  where
    by_place : (k + 1 < length xs) ⊎ (length xs ≤ k + 1) → k + 1 < length xs + 1 → get_or (xs ++ y ∷ []) k 0 < get_or (xs ++ y ∷ []) (k + 1) 0
    by_place (inl inside) small =
        let one : get_or (xs ++ y ∷ []) k 0 ≡ get_or xs k 0 = get_or_append_left xs (y ∷ []) 0 k (omega (arith, inside)) in
        let two : get_or (xs ++ y ∷ []) (k + 1) 0 ≡ get_or xs (k + 1) 0 = get_or_append_left xs (y ∷ []) 0 (k + 1) inside in
        let less : get_or xs k 0 < get_or xs (k + 1) 0 = rising k inside in
        omega (arith, one, two, less)
    by_place (inr last) small =
        let inside : k < length xs = omega (arith, small) in
        let one : get_or (xs ++ y ∷ []) k 0 ≡ get_or xs k 0 = get_or_append_left xs (y ∷ []) 0 k inside in
        let two : get_or (xs ++ y ∷ []) (k + 1) 0 ≡ y = get_or_push xs y 0 (k + 1) (omega (arith, last, small)) in
        let less : get_or xs k 0 < y = below k 0 inside in
        omega (arith, one, two, less)

-- a block is closed
close_step : (number : ℕ) (r : Reading) (block : Block) → IsGood number r → IsGoodBlock block → block_line block < suc number
    → All (λ b. block_line b < block_line block) r.blocks → block_events block ≡ begun_events r.begun
    → IsGood (suc number) (record r { blocks = r.blocks ++ block ∷ []; begun = Nothing })
close_step number r block good h line before events = record {
  start = good.start;
  blocks = All-push IsGoodBlock r.blocks block good.blocks h;
  rising =
      subst IsStrictlyIncreasing (sym (map-append block_line r.blocks (block ∷ [])))
      (rising_push (map block_line r.blocks) (block_line block) good.rising (All-map (λ x. x < block_line block) block_line r.blocks before));
  before = All-push (λ b. block_line b < suc number) r.blocks block (later number r.blocks good.before) line;
  begun = tt;
  events =
      let so_far = good.events in
      let more : sum_by block_events (r.blocks ++ block ∷ []) ≡ sum_by block_events r.blocks + block_events block = sum_by_push block_events r.blocks block in
      omega (arith, so_far, more, events);
  most = good.most;
}

end_step : (number : ℕ) (r : Reading) → IsGood number r → (begun : Begun) → r.begun ≡ begun → IsGood (suc number) (without_block r begun)
end_step number r good Nothing same = good_later number r good
end_step number r good (AtBlock line time group) same =
    let begun : IsGoodBegun number r.blocks (AtBlock line time group) = subst (IsGoodBegun number r.blocks) same good.begun in
    close_step number r (blocks.At line time group) good (begun.2, begun.3) (omega (arith, begun.0)) begun.1 (ap begun_events (sym same))
end_step number r good (ProcessBlock line name every count groups group) same =
    let begun : IsGoodBegun number r.blocks (ProcessBlock line name every count groups group) = subst (IsGoodBegun number r.blocks) same good.begun in
    let some : 1 ≤ length (groups ++ group ∷ []) = omega (arith, length-append groups (group ∷ [])) in
    close_step number r (blocks.Process line name every count (groups ++ group ∷ [])) good
    (begun.2, begun.3, begun.4, some, All-push AreGood groups group begun.5 begun.6) (omega (arith, begun.0)) begun.1 (ap begun_events (sym same))

-- a block is begun
block_step : (number : ℕ) (r next : Reading) (begun : Begun) (events : ℕ) → IsGood number r → IsGoodBegun (suc number) r.blocks begun
    → begun_events begun ≤ events → with_block begun events r ≡ Ok next → IsGood (suc number) next
block_step number r next begun events good h few read = by_test (nat_lt most_events (r.events + events)) refl read
  where
    by_test : (b : Bool) → nat_lt most_events (r.events + events) ≡ b
        → (refused_if b causes.TooManyGenerations >>= λ _. Ok (record r { begun = begun; events = r.events + events })) ≡ Ok next → IsGood (suc number) next
    by_test true e read = absurd cc
    by_test false e read =
        let most : r.events + events ≤ most_events = ltb-false most_events (r.events + events) e in
        let so_far = good.events in
        let same : record r { begun = begun; events = r.events + events } ≡ next = cc in
        subst (IsGood (suc number)) same (record {
          start = good.start;
          blocks = good.blocks;
          rising = good.rising;
          before = later number r.blocks good.before;
          begun = h;
          events = omega (arith, so_far, few);
          most = most;
        })

-- a statement
statement_step : (number : ℕ) (r next : Reading) (statement : Statement) → IsGood number r → IsGoodStatement statement
    → with_statement number r statement ≡ Ok next → IsGood (suc number) next
statement_step number r next (Change edit) good h read =
    let same : with_edit (record { line = number; edit = edit }) r r.begun ≡ next = cc in
    subst (IsGood (suc number)) same (edit_step number r (record { line = number; edit = edit }) good h r.begun refl)
statement_step number r next (At time) good h read =
    block_step number r next (AtBlock number time []) 1 good
    (omega arith, good.before, h, All-nil (λ l. IsGoodEdit l.edit)) (omega arith) read
statement_step number r next (Process name every count) good h read =
    block_step number r next (ProcessBlock number name every count [] []) count good
    (omega arith, good.before, h.0, h.1, h.2, All-nil AreGood, All-nil (λ l. IsGoodEdit l.edit)) (omega arith) read
statement_step number r next Then good h read =
    let same : with_group r r.begun ≡ next = cc in
    subst (IsGood (suc number)) same (group_step number r good r.begun refl)
statement_step number r next End good h read =
    let same : without_block r r.begun ≡ next = cc in
    subst (IsGood (suc number)) same (end_step number r good r.begun refl)

-- a line
line_step : (number : ℕ) (r next : Reading) (w : Result Reading ScriptCause) → IsGood number r → IsLine number r w → w ≡ Ok next → IsGood (suc number) next
line_step number r next w good (inl same) read =
    let one : r ≡ next = cc in
    subst (IsGood (suc number)) one (good_later number r good)
line_step number r next w good (inr (inl (cause, differs, same))) read = absurd cc
line_step number r next w good (inr (inr (statement, h, same))) read = statement_step number r next statement good h (sym same ∙ read)

more_lines : (line : ℕ) (others : List (List ℕ)) (last : Reading) (w : Result Reading ScriptCause)
    → ((next : Reading) → w ≡ Ok next → IsGood (suc line) next)
    → ((next : Reading) → IsGood (suc line) next → with_lines (suc line) next others ≡ Ok last → (end : ℕ) × IsGood end last)
    → after_line line others w ≡ Ok last → (end : ℕ) × IsGood end last
more_lines line others last (Ok next) good rest read = rest next (good next refl) read
more_lines line others last (Err cause) good rest read = absurd cc

lines_step : (line : ℕ) (r last : Reading) (ls : List (List ℕ)) → IsGood line r → with_lines line r ls ≡ Ok last → (end : ℕ) × IsGood end last
lines_step line r last [] good read =
    let same : r ≡ last = cc in
    (line, subst (IsGood line) same good)
lines_step line r last (bytes ∷ others) good read =
    more_lines line others last (with_line line r bytes)
    (λ next h. line_step line r next (with_line line r bytes) good (is_line line r bytes) h)
    (λ next h rest. lines_step (suc line) next last others h rest) read

-- the script
split_edits : (group : List EditLine) → AreGood group → AreLawfulEdits group × AreEdits group
split_edits group h = (
  All-weaker (λ l. IsGoodEdit l.edit) (λ l. IsLawfulEdit l.edit) (λ l p. p.0) group h,
  All-weaker (λ l. IsGoodEdit l.edit) (λ l. IsEdit l.edit) (λ l p. p.1) group h,
)

lawful_block : (block : Block) → IsGoodBlock block → IsLawfulBlock block
lawful_block (blocks.At line time group) h = (h.0, (split_edits group h.1).0)
lawful_block (blocks.Process line name every count groups) h =
    (h.1.0, h.1.1, h.2.0, h.2.1, h.3, All-weaker AreGood AreLawfulEdits (λ group p. (split_edits group p).0) groups h.4)

block_types : (block : Block) → IsGoodBlock block → IsBlock block
block_types (blocks.At line time group) h = (split_edits group h.1).1
block_types (blocks.Process line name every count groups) h = (h.0, All-weaker AreGood AreEdits (λ group p. (split_edits group p).1) groups h.4)

finished : (end : ℕ) (r : Reading) → IsGood end r
    → IsScript (record { start = r.start; blocks = r.blocks }) × IsLawful (record { start = r.start; blocks = r.blocks })
finished end r good =
    let events = good.events in
    let most = good.most in (
      record { start = (split_edits r.start good.start).1; blocks = All-weaker IsGoodBlock IsBlock block_types r.blocks good.blocks },
      record {
        start = (split_edits r.start good.start).0;
        blocks = All-weaker IsGoodBlock IsLawfulBlock lawful_block r.blocks good.blocks;
        rising = good.rising;
        events = omega (arith, events, most);
      },
    )

close : (last end : ℕ) (r : Reading) (script : Script) → IsGood end r → (begun : Begun) → closed last r begun ≡ Ok script
    → IsScript script × IsLawful script
close last end r script good Nothing read =
    let same : record { start = r.start; blocks = r.blocks } ≡ script = cc in
    subst (λ s. IsScript s × IsLawful s) same (finished end r good)
close last end r script good (AtBlock line time group) read = absurd cc
close last end r script good (ProcessBlock line name every count groups group) read = absurd cc

answered : (last : ℕ) (script : Script) (w : Result Reading ScriptError) → ((r : Reading) → w ≡ Ok r → (end : ℕ) × IsGood end r)
    → answer last w ≡ Ok script → IsScript script × IsLawful script
answered last script (Ok r) good read = close last (good r refl).0 r script (good r refl).1 r.begun read
answered last script (Err error) good read = absurd cc

pub reads_lawful : ReadsLawful
reads_lawful text script read = by_size (nat_lt largest_script (length text)) read
  where
    by_size : (b : Bool) → cond b (refused 0 causes.TooLarge) (script_of_lines (lines text)) ≡ Ok script → IsScript script × IsLawful script
    by_size true read = absurd cc
    by_size false read =
        answered (length (lines text)) script (with_lines 1 nothing_read (lines text)) (λ r h. lines_step 1 nothing_read r (lines text) good_start h) read

-- what is answered is lawful
pub answered_lawful : (text : List ℕ) (r : Result Script ScriptError) → AnswersRead text r → IfOk r IsLawful
answered_lawful text (Ok script) h = (reads_lawful text script h).1
answered_lawful text (Err error) h = tt

pub answered_script : (text : List ℕ) (r : Result Script ScriptError) → AnswersRead text r → IfOk r IsScript
answered_script text (Ok script) h = (reads_lawful text script h).0
answered_script text (Err error) h = tt
