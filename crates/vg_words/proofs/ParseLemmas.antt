-- For the clause of `read_run`: a parse of the words behind `run`, that is, what it holds in the end, and that it has a fault where there are too many names.
use Rattle.std.proofs.Common.{◌≡◌, ◌∙◌, ◌<◌, ◌≤◌, ◌&&◌, ◌⊎◌, suc, Bool, cond, true, false, not, refl, sym, subst, List, [], ◌∷◌, ◌++◌, length, codes, Option, Some, None, inl, inr, arith, length-append}
use Rattle.std.specs.Prelude.{is_some}
use Rattle.std.specs.List.{fold}
use Rattle.clap.specs.Walk.{Row, Rule, Walk, arg_by_index, has_row, idle, option, walked}
use Rattle.clap.specs.Simple.{Shape}
use Rattle.clap.specs.Kinds.{Kinds}
use Rattle.clap.specs.Faults.{turn_fault, walk_fault}
use Rattle.clap.specs.declared.error.kind.ErrorKind.{ErrorKind}
use Rattle.clap.specs.declared.error.kind.ErrorKind.TheVariants as kind
use Rattle.vg_words.specs.Command.{Text, Given, Said, is_flag, is_plain, is_option_name, option_in, is_given, yes, with_name, with_value, with_option, with_option_word, with_word_after, with_word, whole, said_from, ◌>>=◌}
use Rattle.vg_words.proofs.TextLemmas.{bytes_eq-true, and_both, not_true, some_is, none_is_not_some}
use Rattle.vg_words.proofs.RowLemmas.{row}
use Rattle.vg_words.proofs.StepLemmas.{IsFlag, IsFlagRule, IsFresh, IsOption, IsPosition, Last, all_rows, held, pending_of, walk_at, flag-fault, flag-walked, option-flag, name-walked, name-fault, stray-fault, option-walked, option-fault, given-walked, given-fault, value-walked, value-fault}
use Rattle.vg_words.proofs.SaidLemmas.{Agrees, agrees-value, agrees-capture, agrees-script, agrees-tx}

-- an argument for each option, and one for each of three names
pub record IsRunShape (s : Shape) : Type 0 where
  pub options : (name : Text) → is_option_name name ≡ true → is_flag name ≡ false → (a : Rule) × (a.id ≡ name) × IsOption s.rules a
  pub hold : (a : Rule) × (a.id ≡ codes "hold") × IsFlagRule s.rules a
  pub capture : (a : Rule) × (a.id ≡ codes "capture") × IsPosition s.rules 1 a
  pub script : (a : Rule) × (a.id ≡ codes "script") × IsPosition s.rules 2 a
  pub tx : (a : Rule) × (a.id ≡ codes "tx") × IsPosition s.rules 3 a
  pub no_more : arg_by_index s.rules 4 ≡ None
  pub leaf : s.is_leaf ≡ true
  pub again : s.args_override_self ≡ false

-- what words said, where no option waits
abbrev pub said_with : List Text → List Given → Said
said_with names options = record { names = names; options = options; waits = None }

-- a parse between two words, where no option waits
pub record IsResting (s : Shape) (said : Said) (w : Walk) : Type 0 where
  pub rows : List Row
  pub last : Last
  pub none : said.waits ≡ None
  pub fresh : IsFresh s.rules rows last
  pub agrees : Agrees (all_rows rows last) said.names said.options
  pub few : length said.names ≤ 3
  pub is : w ≡ walk_at (held rows (pending_of last)) idle (suc (length said.names))

-- a parse between two words, where an option waits for its value
pub record IsWaiting (s : Shape) (said : Said) (w : Walk) : Type 0 where
  pub rows : List Row
  pub rule : Rule
  pub waits : said.waits ≡ Some rule.id
  pub at : IsOption s.rules rule
  pub known : is_option_name rule.id ≡ true
  pub new : is_given rule.id said.options ≡ false
  pub agrees : Agrees rows said.names said.options
  pub few : length said.names ≤ 3
  pub is : w ≡ walk_at (held rows (Some (rule.id, []))) (option rule.id) (suc (length said.names))

abbrev pub IsBetween : Shape → Said → Walk → Type 0
IsBetween s said w = IsResting s said w ⊎ IsWaiting s said w

-- the parse goes on, or has a fault with the fourth name
abbrev pub GoesOn : Shape → Said → Walk → Text → Type 0
GoesOn s next w word = (IsBetween s next (walked s.rules [] w word) × (turn_fault s [] w word ≡ []))
    ⊎ ((turn_fault s [] w word ≡ kind.UnknownArgument ∷ []) × (3 < length next.names))

abbrev resting_at : List Row → Last → List Text → Walk
resting_at rows last names = walk_at (held rows (pending_of last)) idle (suc (length names))

-- a name
name-goes_on : (s : Shape) (names : List Text) (options : List Given) (rows : List Row) (last : Last) (word : Text) → IsRunShape s → is_plain word ≡ true
    → IsFresh s.rules rows last → Agrees (all_rows rows last) names options → length names ≤ 3
    → GoesOn s (with_name (said_with names options) word) (resting_at rows last names) word
name-goes_on s [] options rows last word run plain fresh agrees few =
    let a = run.capture.0 in
    let at = run.capture.2 in
    inl (
      inl (record {
        rows = all_rows rows last;
        last = Some (a, word);
        none = refl;
        fresh = (at.single, rw run.capture.1 agrees.has_capture);
        agrees = agrees-capture (all_rows rows last) options a word agrees run.capture.1;
        few = omega arith;
        is = name-walked s rows last 1 a word plain fresh at;
      }),
      name-fault s rows last 1 a word run.again plain fresh at,
    )
name-goes_on s (first ∷ []) options rows last word run plain fresh agrees few =
    let a = run.script.0 in
    let at = run.script.2 in
    inl (
      inl (record {
        rows = all_rows rows last;
        last = Some (a, word);
        none = refl;
        fresh = (at.single, rw run.script.1 agrees.has_script);
        agrees = agrees-script (all_rows rows last) first options a word agrees run.script.1;
        few = omega arith;
        is = name-walked s rows last 2 a word plain fresh at;
      }),
      name-fault s rows last 2 a word run.again plain fresh at,
    )
name-goes_on s (first ∷ second ∷ []) options rows last word run plain fresh agrees few =
    let a = run.tx.0 in
    let at = run.tx.2 in
    inl (
      inl (record {
        rows = all_rows rows last;
        last = Some (a, word);
        none = refl;
        fresh = (at.single, rw run.tx.1 agrees.has_tx);
        agrees = agrees-tx (all_rows rows last) first second options a word agrees run.tx.1;
        few = omega arith;
        is = name-walked s rows last 3 a word plain fresh at;
      }),
      name-fault s rows last 3 a word run.again plain fresh at,
    )
name-goes_on s (first ∷ second ∷ third ∷ []) options rows last word run plain fresh agrees few =
    inr (stray-fault s rows last 4 word plain run.leaf run.no_more, omega arith)
name-goes_on s (first ∷ second ∷ third ∷ fourth ∷ others) options rows last word run plain fresh agrees few = absurd (omega arith)

-- a test that let something through passed
pub passed : {X : Type 0} (b : Bool) (o : Option X) (x : X) → (cond b o None) ≡ Some x → (b ≡ true) × (o ≡ Some x)
passed true o x e = (refl, e)
passed false o x e = absurd (none_is_not_some x e)

-- an option
rule-goes_on : (s : Shape) (names : List Text) (options : List Given) (rows : List Row) (last : Last) (word : Text) (a : Rule) (value : Option Text) (next : Said)
    → IsRunShape s → IsOption s.rules a → IsFlag word (a.id, value) → is_option_name a.id ≡ true → is_given a.id options ≡ false
    → is_flag a.id ≡ false → with_option (said_with names options) a.id value ≡ Some next → IsFresh s.rules rows last → Agrees (all_rows rows last) names options → length names ≤ 3
    → GoesOn s next (resting_at rows last names) word
rule-goes_on s names options rows last word a None next run at flag known new valued e fresh agrees few =
    let same = subst (λ (b : Bool). cond b (Some (with_value (said_with names options) a.id yes)) (Some (record (said_with names options) { waits = Some a.id })) ≡ Some next) valued e in
    let is : record (said_with names options) { waits = Some a.id } ≡ next = some_is _ _ same in
    subst (λ (n : Said). GoesOn s n (resting_at rows last names) word) is (inl (
      inr (record {
        rows = all_rows rows last;
        rule = a;
        waits = refl;
        at = at;
        known = known;
        new = new;
        agrees = agrees;
        few = few;
        is = option-walked s rows last (suc (length names)) a word flag fresh at;
      }),
      option-fault s rows last (suc (length names)) a word run.again flag fresh at,
    ))
rule-goes_on s names options rows last word a (Some value) next run at flag known new valued e fresh agrees few =
    let whole = passed (not (is_flag a.id) && is_plain value) (Some (with_value (said_with names options) a.id value)) next e in
    let is : with_value (said_with names options) a.id value ≡ next = some_is _ _ whole.1 in
    let none : has_row a.id (all_rows rows last) ≡ false = agrees.given a.id known ∙ new in
    subst (λ (n : Said). GoesOn s n (resting_at rows last names) word) is (inl (
      inl (record {
        rows = all_rows rows last ++ row a value ∷ [];
        last = None;
        none = refl;
        fresh = tt;
        agrees = agrees-value (all_rows rows last) names options a value agrees known new;
        few = few;
        is = given-walked s rows last (suc (length names)) a value word flag fresh at none;
      }),
      given-fault s rows last (suc (length names)) a value word run.again flag fresh at none,
    ))

-- a flag
flag-goes_on : (s : Shape) (names : List Text) (options : List Given) (rows : List Row) (last : Last) (word : Text) (a : Rule) (value : Option Text) (next : Said)
    → IsRunShape s → IsFlagRule s.rules a → IsFlag word (a.id, value) → is_option_name a.id ≡ true → is_given a.id options ≡ false
    → is_flag a.id ≡ true → with_option (said_with names options) a.id value ≡ Some next → IsFresh s.rules rows last → Agrees (all_rows rows last) names options → length names ≤ 3
    → GoesOn s next (resting_at rows last names) word
flag-goes_on s names options rows last word a None next run at flag known new plain e fresh agrees few =
    let same = subst (λ (b : Bool). cond b (Some (with_value (said_with names options) a.id yes)) (Some (record (said_with names options) { waits = Some a.id })) ≡ Some next) plain e in
    let is : with_value (said_with names options) a.id yes ≡ next = some_is _ _ same in
    let none : has_row a.id (all_rows rows last) ≡ false = agrees.given a.id known ∙ new in
    subst (λ (n : Said). GoesOn s n (resting_at rows last names) word) is (inl (
      inl (record {
        rows = all_rows rows last ++ row a yes ∷ [];
        last = None;
        none = refl;
        fresh = tt;
        agrees = agrees-value (all_rows rows last) names options a yes agrees known new;
        few = few;
        is = flag-walked s rows last (suc (length names)) a word flag fresh at none;
      }),
      flag-fault s rows last (suc (length names)) a word run.again flag fresh at none,
    ))
flag-goes_on s names options rows last word a (Some value) next run at flag known new plain e fresh agrees few =
    let same = subst (λ (b : Bool). cond (not b && is_plain value) (Some (with_value (said_with names options) a.id value)) None ≡ Some next) plain e in
    absurd (none_is_not_some next same)

option-goes_on : (s : Shape) (names : List Text) (options : List Given) (rows : List Row) (last : Last) (word name : Text) (value : Option Text) (next : Said) → IsRunShape s
    → IsFlag word (name, value) → is_option_name name ≡ true → is_given name options ≡ false → with_option (said_with names options) name value ≡ Some next
    → IsFresh s.rules rows last → Agrees (all_rows rows last) names options → length names ≤ 3
    → GoesOn s next (resting_at rows last names) word
option-goes_on s names options rows last word name value next run flag known new e fresh agrees few = by_flag (is_flag name) refl
  where
    by_flag : (b : Bool) → is_flag name ≡ b → GoesOn s next (resting_at rows last names) word
    by_flag true is =
        let same : name ≡ run.hold.0.id = bytes_eq-true name (codes "hold") is ∙ sym run.hold.1 in
        flag-goes_on s names options rows last word run.hold.0 value next run run.hold.2
        (subst (λ (n : Text). IsFlag word (n, value)) same flag)
        (subst (λ (n : Text). is_option_name n ≡ true) same known)
        (subst (λ (n : Text). is_given n options ≡ false) same new)
        (subst (λ (n : Text). is_flag n ≡ true) same is)
        (subst (λ (n : Text). with_option (said_with names options) n value ≡ Some next) same e)
        fresh agrees few
    by_flag false is =
        let found = run.options name known is in
        let same : name ≡ found.0.id = sym found.1 in
        rule-goes_on s names options rows last word found.0 value next run found.2
        (subst (λ (n : Text). IsFlag word (n, value)) same flag)
        (subst (λ (n : Text). is_option_name n ≡ true) same known)
        (subst (λ (n : Text). is_given n options ≡ false) same new)
        (subst (λ (n : Text). is_flag n ≡ false) same is)
        (subst (λ (n : Text). with_option (said_with names options) n value ≡ Some next) same e)
        fresh agrees few

option_word-goes_on : (s : Shape) (names : List Text) (options : List Given) (rows : List Row) (last : Last) (word : Text) (p : Option (Text × Option Text)) (next : Said) → IsRunShape s
    → option_in word ≡ p → with_option_word (said_with names options) p ≡ Some next
    → IsFresh s.rules rows last → Agrees (all_rows rows last) names options → length names ≤ 3
    → GoesOn s next (resting_at rows last names) word
option_word-goes_on s names options rows last word None next run is e fresh agrees few = absurd (none_is_not_some next e)
option_word-goes_on s names options rows last word (Some p) next run is e fresh agrees few =
    let test = passed (is_option_name p.0 && not (is_given p.0 options)) (with_option (said_with names options) p.0 p.1) next e in
    let both = and_both (is_option_name p.0) (not (is_given p.0 options)) test.0 in
    option-goes_on s names options rows last word p.0 p.1 next run (option-flag word p is both.0) both.0 (not_true (is_given p.0 options) both.1) test.1 fresh agrees few

-- any word behind which no option waits
rest-goes_on : (s : Shape) (names : List Text) (options : List Given) (rows : List Row) (last : Last) (word : Text) (b : Bool) (next : Said) → IsRunShape s
    → is_plain word ≡ b → cond b (Some (with_name (said_with names options) word)) (with_option_word (said_with names options) (option_in word)) ≡ Some next
    → IsFresh s.rules rows last → Agrees (all_rows rows last) names options → length names ≤ 3
    → GoesOn s next (resting_at rows last names) word
rest-goes_on s names options rows last word true next run plain e fresh agrees few =
    subst (λ (n : Said). GoesOn s n (resting_at rows last names) word) (some_is _ _ e) (name-goes_on s names options rows last word run plain fresh agrees few)
rest-goes_on s names options rows last word false next run plain e fresh agrees few =
    option_word-goes_on s names options rows last word (option_in word) next run refl e fresh agrees few

-- a value
wait-goes_on : (s : Shape) (names : List Text) (options : List Given) (rows : List Row) (word : Text) (a : Rule) (waits : Option Text) (next : Said) → IsRunShape s
    → IsOption s.rules a → is_option_name a.id ≡ true → is_given a.id options ≡ false
    → cond (is_plain word) (Some (with_value (record { names = names; options = options; waits = waits }) a.id word)) None ≡ Some next
    → Agrees rows names options → length names ≤ 3
    → GoesOn s next (walk_at (held rows (Some (a.id, []))) (option a.id) (suc (length names))) word
wait-goes_on s names options rows word a waits next run at known new e agrees few =
    let test = passed (is_plain word) _ next e in
    subst (λ (n : Said). GoesOn s n (walk_at (held rows (Some (a.id, []))) (option a.id) (suc (length names))) word) (some_is _ _ test.1) (inl (
      inl (record {
        rows = rows;
        last = Some (a, word);
        none = refl;
        fresh = (at.single, agrees.given a.id known ∙ new);
        agrees = agrees-value rows names options a word agrees known new;
        few = few;
        is = value-walked s rows (suc (length names)) a word test.0 at;
      }),
      value-fault s rows (suc (length names)) a word test.0 at,
    ))

-- any word
pub goes_on : (s : Shape) (said : Said) (w : Walk) (word : Text) (next : Said) → IsRunShape s → IsBetween s said w → with_word said word ≡ Some next → GoesOn s next w word
goes_on s said w word next run (inl rest) e =
    subst (λ (v : Walk). GoesOn s next v word) (sym rest.is)
    (rest-goes_on s said.names said.options rest.rows rest.last word (is_plain word) next run refl
    (subst (λ (o : Option Text). with_word_after o (record { names = said.names; options = said.options; waits = o }) word ≡ Some next) rest.none e) rest.fresh rest.agrees rest.few)
goes_on s said w word next run (inr wait) e =
    subst (λ (v : Walk). GoesOn s next v word) (sym wait.is)
    (wait-goes_on s said.names said.options wait.rows word wait.rule said.waits next run wait.at wait.known wait.new
    (subst (λ (o : Option Text). with_word_after o said word ≡ Some next) wait.waits e) wait.agrees wait.few)

-- ---- names are never taken back

name_kept : (said next : Said) (word : Text) (waits : Option Text) → with_word_after waits said word ≡ Some next → length said.names ≤ length next.names
name_kept said next word (Some name) e =
    let is : with_value said name word ≡ next = some_is _ _ (passed (is_plain word) (Some (with_value said name word)) next e).1 in
    subst (λ (n : Said). length said.names ≤ length n.names) is (omega arith)
name_kept said next word None e = by_word (is_plain word) e
  where
    by_flag : (name : Text) (b : Bool) → cond b (Some (with_value said name yes)) (Some (record said { waits = Some name })) ≡ Some next
        → length said.names ≤ length next.names
    by_flag name true same = subst (λ (n : Said). length said.names ≤ length n.names) (some_is _ _ same) (omega arith)
    by_flag name false same = subst (λ (n : Said). length said.names ≤ length n.names) (some_is _ _ same) (omega arith)

    by_value : (name : Text) (value : Option Text) → with_option said name value ≡ Some next → length said.names ≤ length next.names
    by_value name None same = by_flag name (is_flag name) same
    by_value name (Some value) same =
        subst (λ (n : Said). length said.names ≤ length n.names) (some_is _ _ (passed (not (is_flag name) && is_plain value) (Some (with_value said name value)) next same).1) (omega arith)

    by_option_word : (p : Option (Text × Option Text)) → with_option_word said p ≡ Some next → length said.names ≤ length next.names
    by_option_word None same = absurd (none_is_not_some next same)
    by_option_word (Some p) same = by_value p.0 p.1 (passed (is_option_name p.0 && not (is_given p.0 said.options)) (with_option said p.0 p.1) next same).1

    by_word : (b : Bool) → cond b (Some (with_name said word)) (with_option_word said (option_in word)) ≡ Some next → length said.names ≤ length next.names
    by_word true same = subst (λ (n : Said). length said.names ≤ length n.names) (some_is _ _ same) (omega (arith, length-append {A = Text}))
    by_word false same = by_option_word (option_in word) same

-- ---- all words

names_kept_by : (said final : Said) (words : List Text) (o : Option Said) → ((next : Said) → o ≡ Some next → length said.names ≤ length next.names)
    → ((next : Said) → said_from next words ≡ Some final → length next.names ≤ length final.names)
    → (o >>= (λ next. said_from next words)) ≡ Some final → length said.names ≤ length final.names
names_kept_by said final words None step rest e = absurd (none_is_not_some final e)
names_kept_by said final words (Some next) step rest e =
    let here : length said.names ≤ length next.names = step next refl in
    let there : length next.names ≤ length final.names = rest next e in
    omega arith

pub names_kept : (words : List Text) (said final : Said) → said_from said words ≡ Some final → length said.names ≤ length final.names
names_kept [] said final e = by_waits said.waits e
  where
    by_waits : (waits : Option Text) → cond (is_some waits) None (Some said) ≡ Some final → length said.names ≤ length final.names
    by_waits None same = subst (λ (n : Said). length said.names ≤ length n.names) (some_is _ _ same) (omega arith)
    by_waits (Some name) same = absurd (none_is_not_some final same)
names_kept (word ∷ words) said final e =
    names_kept_by said final words (with_word said word) (λ next same. name_kept said next word said.waits same) (λ next same. names_kept words next final same) e

-- the parse ends between two words, where no option waits, or it has a fault, and there are more than three names
abbrev pub Ends : Shape → Said → Walk → List Text → Type 0
Ends s final w words = (IsResting s final (fold (walked s.rules []) w words) × (walk_fault s [] w words ≡ []))
    ⊎ ((first : ErrorKind) × (others : Kinds) × (walk_fault s [] w words ≡ first ∷ others) × (3 < length final.names))

ends_at : (s : Shape) (said final : Said) (w : Walk) → IsBetween s said w → whole said ≡ Some final → Ends s final w []
unfolding walk_fault
ends_at s said final w (inl rest) e =
    let same : Some said ≡ Some final = subst (λ (o : Option Text). cond (is_some o) None (Some said) ≡ Some final) rest.none e in
    inl (subst (λ (n : Said). IsResting s n w) (some_is _ _ same) rest, refl)
ends_at s said final w (inr wait) e =
    let same : None ≡ Some final = subst (λ (o : Option Text). cond (is_some o) None (Some said) ≡ Some final) wait.waits e in
    absurd (none_is_not_some final same)

ends_behind : (s : Shape) (next final : Said) (w : Walk) (word : Text) (words : List Text) → GoesOn s next w word → length next.names ≤ length final.names
    → ((v : Walk) → IsBetween s next v → Ends s final v words) → Ends s final w (word ∷ words)
unfolding walk_fault
ends_behind s next final w word words (inl here) kept rest = by_rest (rest (walked s.rules [] w word) here.0)
  where
    by_rest : Ends s final (walked s.rules [] w word) words → Ends s final w (word ∷ words)
    by_rest (inl end) = inl (end.0, rw (here.1, end.1) refl)
    by_rest (inr fault) = inr (fault.0, fault.1, rw (here.1, fault.2) refl, fault.3)
ends_behind s next final w word words (inr fault) kept rest =
    inr (kind.UnknownArgument, [], rw fault.0 refl, omega (arith, fault.1, kept))

ends_by : (s : Shape) (said final : Said) (w : Walk) (word : Text) (words : List Text) (o : Option Said) → IsRunShape s → IsBetween s said w → with_word said word ≡ o
    → (o >>= (λ next. said_from next words)) ≡ Some final
    → ((next : Said) (v : Walk) → IsBetween s next v → said_from next words ≡ Some final → Ends s final v words) → Ends s final w (word ∷ words)
ends_by s said final w word words None run between is e rest = absurd (none_is_not_some final e)
ends_by s said final w word words (Some next) run between is e rest =
    ends_behind s next final w word words (goes_on s said w word next run between is) (names_kept words next final e) (λ v now. rest next v now e)

pub ends : (words : List Text) (s : Shape) (said final : Said) (w : Walk) → IsRunShape s → IsBetween s said w → said_from said words ≡ Some final → Ends s final w words
ends [] s said final w run between e = ends_at s said final w between e
ends (word ∷ words) s said final w run between e =
    ends_by s said final w word words (with_word said word) run between refl e (λ next v now same. ends words s next final v run now same)
