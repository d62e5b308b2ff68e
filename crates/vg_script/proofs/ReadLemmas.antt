-- For `parse_script`, `read_line` and `Keyword::of`: lines that are read one by one.
use Rattle.std.proofs.Common.{◌≡◌, ◌≢◌, ◌==◌, ℕ, suc, ◌+◌, ◌-◌, ◌<◌, ◌≤◌, Bool, true, false, cond, not, List, [], ◌∷◌, length, map, refl, sym, ap, subst, ◌∙◌, arith, le-ltb}
use Rattle.std.specs.Prelude.{Option, Some, None, option_map, Result, Ok, Err, ok_or, find, bytes_eq, codes}
use Rattle.std.specs.List.{before_first, after_first, list_all}
use Rattle.std.proofs.lemmas.Slice.Eq.{bytes_eq-Decides}
use Rattle.vg_script.specs.declared.errors.ScriptCause.{ScriptCause}
use Rattle.vg_script.specs.declared.errors.ScriptCause.TheVariants as causes
use Rattle.vg_script.specs.declared.errors.ScriptError.{ScriptError}
use Rattle.vg_script.specs.declared.scripts.Script.{Script}
use Rattle.vg_script.specs.declared.statements.Keyword.{Keyword}
use Rattle.vg_script.specs.declared.statements.Keyword.TheVariants as keywords
use Rattle.vg_script.specs.declared.statements.Statement.{Statement}
use Rattle.vg_script.specs.Keywords.{keyword_row, with_row}
use Rattle.vg_script.specs.Lines.{lines, without_comment, is_allowed, words}
use Rattle.vg_script.specs.Reader.{Refuses, Reads}
use Rattle.vg_script.specs.Reading.{Reading, Begun, Nothing, AtBlock, ProcessBlock, nothing_read, ◌>>=◌, refused_if, may_stand, value_of, with_statement, with_words, with_line, with_lines, refused, closed, script_of_lines, script_of, largest_script, IsRefusal, AnswersRead}
use Rattle.vg_script.specs.Statements.{Words, Row, row_of}
use Rattle.vg_script.proofs.SplitLemmas.{lines-first, after_shorter}

-- what a search finds in a list that was mapped
find-map : {X Y : Type 0} (f : X → Y) (test : Y → Bool) (xs : List X) → find test (map f xs) ≡ option_map f (find (λ x. test (f x)) xs)
find-map f test [] = refl
find-map f test (x ∷ xs) = by_test (test (f x)) (find-map f test xs)
  where
    by_test : (b : Bool) → find test (map f xs) ≡ option_map f (find (λ x. test (f x)) xs)
        → cond b (Some (f x)) (find test (map f xs)) ≡ option_map f (cond b (Some x) (find (λ x. test (f x)) xs))
    by_test true rest = refl
    by_test false rest = rest

-- all keywords, in the order of the table
abbrev pub all_keywords : List Keyword
all_keywords =
    keywords.Interface ∷ keywords.Node ∷ keywords.Arc ∷ keywords.Adjacency ∷ keywords.Route ∷ keywords.Unroute
    ∷ keywords.Route6 ∷ keywords.Unroute6 ∷ keywords.At ∷ keywords.Process ∷ keywords.Then ∷ keywords.End ∷ []

pub row_found : (word : List ℕ) (keyword : Option Keyword) → keyword ≡ find (λ k. bytes_eq word (keyword_row k).word) all_keywords
    → row_of word ≡ option_map keyword_row keyword
unfolding row_of
row_found word keyword h = find-map keyword_row (λ r. bytes_eq word r.word) all_keywords ∙ ap (option_map keyword_row) (sym h)

-- the word `route` begins a route
pub route_found : (word : List ℕ) → bytes_eq word (codes "route") ≡ true → row_of word ≡ Some (keyword_row keywords.Route)
unfolding row_of
route_found word same =
    subst (λ w. row_of w ≡ Some (keyword_row keywords.Route)) (sym ((bytes_eq-Decides word (codes "route")).0 same)) refl

-- a line whose bytes are allowed
pub allowed_line : (number : ℕ) (r : Reading) (line text : List ℕ) (ws : Words) → text ≡ without_comment line → list_all is_allowed text ≡ true
    → words text ≡ ws → with_line number r line ≡ with_words number r ws
allowed_line number r line text ws at allowed said =
    ap (λ t. refused_if (not (list_all is_allowed t)) causes.Bytes >>= λ _. with_words number r (words t)) (sym at)
    ∙ ap (λ b. refused_if (not b) causes.Bytes >>= λ _. with_words number r (words text)) allowed
    ∙ ap (with_words number r) said

pub disallowed_line : (number : ℕ) (r : Reading) (line text : List ℕ) → text ≡ without_comment line → list_all is_allowed text ≡ false
    → with_line number r line ≡ Err causes.Bytes
disallowed_line number r line text at disallowed =
    ap (λ t. refused_if (not (list_all is_allowed t)) causes.Bytes >>= λ _. with_words number r (words t)) (sym at)
    ∙ ap (λ b. refused_if (not b) causes.Bytes >>= λ _. with_words number r (words text)) disallowed

-- the words of a line, by their first
pub no_statement : (number : ℕ) (r : Reading) (ws : Words) (first : List ℕ) (others : Words) → ws ≡ first ∷ others → row_of first ≡ None
    → with_words number r ws ≡ Err causes.Word
no_statement number r ws first others split none =
    ap (with_words number r) split ∙ ap (λ o. ok_or o causes.Word >>= λ row. with_row number r row others) none

pub a_statement : (number : ℕ) (r : Reading) (ws : Words) (first : List ℕ) (others : Words) (row : Row) → ws ≡ first ∷ others → row_of first ≡ Some row
    → with_words number r ws ≡ with_row number r row others
a_statement number r ws first others row split found =
    ap (with_words number r) split ∙ ap (λ o. ok_or o causes.Word >>= λ row. with_row number r row others) found

-- a statement that may not stand here, one whose words are at fault, and one that is said
pub no_place : (number : ℕ) (r : Reading) (row : Row) (ws : Words) → may_stand row.place r.begun ≡ false → with_row number r row ws ≡ Err causes.Block
no_place number r row ws stands =
    ap (λ b. refused_if (not b) causes.Block >>= λ _. value_of row.form ws >>= λ statement. with_statement number r statement) stands

pub is_said : (number : ℕ) (r : Reading) (row : Row) (ws : Words) (found : Result (Statement × Words) ScriptCause) → may_stand row.place r.begun ≡ true
    → row.form ws ≡ found → with_row number r row ws ≡ ((found >>= λ f. Ok f.0) >>= λ statement. with_statement number r statement)
is_said number r row ws found stands read =
    ap (λ b. refused_if (not b) causes.Block >>= λ _. value_of row.form ws >>= λ statement. with_statement number r statement) stands
    ∙ ap (λ f. (f >>= λ f. Ok f.0) >>= λ statement. with_statement number r statement) read

-- a cause, but for want of memory
pub refuses : {X : Type 0} (this : Result X ScriptCause) (cause : ScriptCause) → this ≡ Err cause → Refuses this cause
refuses this causes.Memory h = tt
refuses this cause h = h

is_cause : {X : Type 0} (this : Result X ScriptCause) (cause : ScriptCause) → Refuses this cause → cause ≢ causes.Memory → this ≡ Err cause
is_cause this causes.Memory h other = absurd (other refl)
is_cause this cause h other = h

pub reads_as : (this that : Result Reading ScriptCause) (new : Reading) (answer : Result (Unit {0}) ScriptCause) → that ≡ this → Reads this new answer
    → Reads that new answer
reads_as this that new answer same h = subst (λ r. Reads r new answer) (sym same) h

-- a text is read up to a line
pub record IsRead (text : List ℕ) (line : ℕ) (rest : List ℕ) (r : Reading) : Type 0 where
  pub read : with_lines 1 nothing_read (lines text) ≡ with_lines line r (lines rest)
  -- lines are not more than bytes
  pub few : line + length rest ≤ suc largest_script
  -- the lines before this one and those from it on
  pub all : line + length (lines rest) ≡ suc (length (lines text))

pub read_start : (text : List ℕ) → length text ≤ largest_script → IsRead text 1 text nothing_read
read_start text small = record { read = refl; few = omega (arith, small); all = omega arith }

-- with a line more
abbrev pub after_line : (line : ℕ) (others : List (List ℕ)) → Result Reading ScriptCause → Result Reading ScriptError
after_line line others r = elim r [ Ok next ↦ with_lines (suc line) next others | Err cause ↦ refused line cause ]

one_line : (line : ℕ) (r : Reading) (rest bytes behind : List ℕ) → 0 < length rest
    → bytes ≡ before_first (λ b. b == 10) rest → behind ≡ after_first (λ b. b == 10) rest
    → with_lines line r (lines rest) ≡ after_line line (lines behind) (with_line line r bytes)
one_line line r [] bytes behind some front back = absurd (omega (arith, some))
one_line line r (byte ∷ rest) bytes behind some front back =
    ap (with_lines line r) (lines-first byte rest)
    ∙ ap (λ b. after_line line (lines (after_first (λ b. b == 10) (byte ∷ rest))) (with_line line r b)) (sym front)
    ∙ ap (λ b. after_line line (lines b) (with_line line r bytes)) (sym back)

rest_shorter : (rest behind : List ℕ) → 0 < length rest → behind ≡ after_first (λ b. b == 10) rest → length behind < length rest
rest_shorter [] behind some back = absurd (omega (arith, some))
rest_shorter (byte ∷ rest) behind some back =
    let less = after_shorter (λ b. b == 10) byte rest in
    let same : length behind ≡ length (after_first (λ b. b == 10) (byte ∷ rest)) = ap length back in
    omega (arith, less, same)

one_line_less : (rest behind : List ℕ) → 0 < length rest → behind ≡ after_first (λ b. b == 10) rest → length (lines rest) ≡ suc (length (lines behind))
one_line_less [] behind some back = absurd (omega (arith, some))
one_line_less (byte ∷ rest) behind some back = ap length (lines-first byte rest) ∙ ap (λ b. suc (length (lines b))) (sym back)

pub read_next : (text : List ℕ) (line next : ℕ) (rest bytes behind : List ℕ) (r more : Reading)
    → next ≡ line + 1 → IsRead text line rest r → 0 < length rest
    → bytes ≡ before_first (λ b. b == 10) rest → behind ≡ after_first (λ b. b == 10) rest → with_line line r bytes ≡ Ok more
    → IsRead text next behind more
read_next text line next rest bytes behind r more count so_far some front back said =
    let same : suc line ≡ next = omega (arith, count) in
    record {
      read =
          so_far.read
          ∙ one_line line r rest bytes behind some front back
          ∙ ap (after_line line (lines behind)) said
          ∙ ap (λ n. with_lines n more (lines behind)) same;
      few =
          let less = rest_shorter rest behind some back in
          let few = so_far.few in
          omega (arith, less, few, count);
      all =
          let less = one_line_less rest behind some back in
          let all = so_far.all in
          omega (arith, less, all, count);
    }

-- a script that isn't too large
not_large : (text : List ℕ) → length text ≤ largest_script → script_of text ≡ script_of_lines (lines text)
not_large text small = ap (λ b. cond b (refused 0 causes.TooLarge) (script_of_lines (lines text))) (le-ltb largest_script (length text) small)

-- what is answered of the lines that were read
abbrev pub answer : (last : ℕ) → Result Reading ScriptError → Result Script ScriptError
answer last r = elim r [ Ok r ↦ closed last r r.begun | Err error ↦ Err error ]

read_lines : (text : List ℕ) (r : Result Reading ScriptError) → length text ≤ largest_script → with_lines 1 nothing_read (lines text) ≡ r
    → script_of text ≡ answer (length (lines text)) r
read_lines text r small h = not_large text small ∙ ap (answer (length (lines text))) h

-- the answer at the end of the text
closed_answer : (text : List ℕ) (last : ℕ) (r : Reading) (begun : Begun) → script_of text ≡ closed last r begun → AnswersRead text (closed last r begun)
closed_answer text last r Nothing h = h
closed_answer text last r (AtBlock line time group) h = h
closed_answer text last r (ProcessBlock line name every count groups group) h = h

all_read : (text : List ℕ) (line last : ℕ) (rest : List ℕ) (r : Reading) → length text ≤ largest_script → IsRead text line rest r
    → length rest ≤ 0 → last ≡ line - 1 → script_of text ≡ closed last r r.begun
all_read text line last [] r small so_far none count =
    let all = so_far.all in
    let same : length (lines text) ≡ last = omega (arith, all, count) in
    read_lines text (Ok r) small so_far.read ∙ ap (λ n. closed n r r.begun) same
all_read text line last (byte ∷ rest) r small so_far none count = absurd (omega (arith, none))

pub read_end : (text : List ℕ) (line last : ℕ) (rest : List ℕ) (r : Reading) (result : Result Script ScriptError) → length text ≤ largest_script
    → IsRead text line rest r → length rest ≤ 0 → last ≡ line - 1 → result ≡ closed last r r.begun → AnswersRead text result
read_end text line last rest r result small so_far none count same =
    subst (AnswersRead text) (sym same) (closed_answer text last r r.begun (all_read text line last rest r small so_far none count))

is_refusal : (this : Result Script ScriptError) (line : ℕ) (cause : ScriptCause) → (cause ≡ causes.Memory → line ≡ 0)
    → (cause ≢ causes.Memory → this ≡ refused line cause) → IsRefusal this line cause
is_refusal this line causes.Memory memory other = memory refl
is_refusal this line cause memory other = other (λ e. cc)

pub read_refused : (text : List ℕ) (line : ℕ) (rest bytes behind : List ℕ) (r : Reading) (cause : ScriptCause) (error : ScriptError)
    → length text ≤ largest_script → IsRead text line rest r → 0 < length rest
    → bytes ≡ before_first (λ b. b == 10) rest → behind ≡ after_first (λ b. b == 10) rest → Refuses (with_line line r bytes) cause
    → error.cause ≡ cause → (cause ≢ causes.Memory → error.line ≡ line) → (cause ≡ causes.Memory → error.line ≡ 0)
    → IsRefusal (script_of text) error.line error.cause
read_refused text line rest bytes behind r cause error small so_far some front back refusal same named unnamed =
    subst (IsRefusal (script_of text) error.line) (sym same)
    (is_refusal (script_of text) error.line cause unnamed (λ other.
    read_lines text (refused line cause) small
    (so_far.read ∙ one_line line r rest bytes behind some front back ∙ ap (after_line line (lines behind)) (is_cause (with_line line r bytes) cause refusal other))
    ∙ ap (λ n. refused n cause) (sym (named other))))
