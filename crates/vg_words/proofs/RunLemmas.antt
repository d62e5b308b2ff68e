-- For the clauses of `run_matches` and `read_run`: the parser of the words of `run`, as a whole.
use Rattle.std.proofs.Common.{◌≡◌, ◌∙◌, ◌≤◌, ◌||◌, ◌⊎◌, ℕ, Bool, cond, true, false, refl, sym, ap, subst, List, [], ◌∷◌, ◌++◌, length, codes, Option, Some, None, inl, inr, true≢false, arith}
use Rattle.std.specs.Prelude.{is_some, slice_get}
use Rattle.std.specs.List.{fold, list_all}
use Rattle.std.specs.Str.{bytes_eq}
use Rattle.clap.specs.Walk.{Held, Row, Rule, Walk, finished, first_of, has_row, is_empty, more_values, nothing_held, reading_by, rows_of, settled, walk, walk_from, with_default, with_values}
use Rattle.clap.specs.Simple.{Shape, built, matches_of, filled, is_simple, with_index}
use Rattle.clap.specs.Takes.{is_given as was_given}
use Rattle.clap.specs.declared.parser.matches.ValueSource.TheVariants.{DefaultValue}
use Rattle.clap.specs.Kinds.{Kinds, or_else}
use Rattle.clap.specs.Faults.{check_fault, default_fault, defaults_fault, fault_of, given_default_fault, is_simple_and_free, settle_fault, walk_fault}
use Rattle.clap.specs.declared.error.kind.ErrorKind.{ErrorKind}
use Rattle.clap.specs.declared.error.kind.ErrorKind.TheVariants as kind
use Rattle.clap.proofs.FaultLemmas.{leaf_fault}
use Rattle.clap.proofs.SimpleLemmas.{is_nil}
use Rattle.vg_words.specs.Command.{◌>>=◌, Text, Given, Said, is_flag, is_given, is_option_name, is_set, nothing_said, run_of, run_over, said_from, value_in}
use Rattle.vg_words.specs.Checks.{are_well_formed}
use Rattle.vg_words.proofs.CheckLemmas.{agree}
use Rattle.clap.specs.Matches.{first_value}
use Rattle.clap.specs.declared.parser.matches.Found.{Found}
use Rattle.clap.proofs.WalkLemmas.{first_value-rows}
use Rattle.vg_words.specs.Parser.{flag_rule, name_rule, option_rule, run_app, run_found}
use Rattle.vg_words.proofs.TextLemmas.{and_both, by_option, bytes_eq-true, true_or_false}
use Rattle.vg_words.proofs.RowLemmas.{at_row-none, first_of-kept, first_of-new}
use Rattle.vg_words.proofs.StepLemmas.{IsFlagRule, IsFresh, IsOption, Last, IsPosition, all_rows, held, pending_of, settle-fresh, settled_rows-fresh}
use Rattle.vg_words.proofs.SaidLemmas.{Agrees, given-explicit}
use Rattle.vg_words.proofs.ParseLemmas.{IsResting, IsRunShape, Ends, ends}

-- the command, built
abbrev pub run_shape : Shape
run_shape = (built run_app).top

-- ---- its arguments

abbrev pub built_option : Text → Rule
built_option name = with_index 1 (filled (option_rule name))

abbrev pub built_flag : Text → Rule
built_flag name = with_index 1 (filled (flag_rule name))

abbrev pub built_name : ℕ → Text → Rule
built_name position name = with_index position (filled (name_rule name))

abbrev AnOption : Text → Type 0
AnOption name = is_flag name ≡ false → (a : Rule) × (a.id ≡ name) × IsOption run_shape.rules a

an_option : (name : Text) → is_option_name name ≡ true → AnOption name
an_option = by_option AnOption
    (λ valued. (built_option (codes "workers"), refl, record { long = refl; single = record { found = refl; sets = refl; least = refl; most = refl; any_value = λ value. refl }; has_value = refl }))
    (λ valued. (built_option (codes "buffers"), refl, record { long = refl; single = record { found = refl; sets = refl; least = refl; most = refl; any_value = λ value. refl }; has_value = refl }))
    (λ valued. (built_option (codes "queue"), refl, record { long = refl; single = record { found = refl; sets = refl; least = refl; most = refl; any_value = λ value. refl }; has_value = refl }))
    (λ valued. (built_option (codes "burst"), refl, record { long = refl; single = record { found = refl; sets = refl; least = refl; most = refl; any_value = λ value. refl }; has_value = refl }))
    (λ valued. (built_option (codes "trace"), refl, record { long = refl; single = record { found = refl; sets = refl; least = refl; most = refl; any_value = λ value. refl }; has_value = refl }))
    (λ valued. (built_option (codes "turns"), refl, record { long = refl; single = record { found = refl; sets = refl; least = refl; most = refl; any_value = λ value. refl }; has_value = refl }))
    (λ valued. absurd (true≢false valued))

hold_flag : IsFlagRule run_shape.rules (built_flag (codes "hold"))
hold_flag = record { long = refl; switch = record { sets = refl; least = refl; most = refl; missing = refl; passes = refl }; no_value = refl }

capture_position : IsPosition run_shape.rules 1 (built_name 1 (codes "capture"))
capture_position = record { index = refl; single = record { found = refl; sets = refl; least = refl; most = refl; any_value = λ value. refl }; one_value = refl; once = refl; goes_on = refl; next = refl }

script_position : IsPosition run_shape.rules 2 (built_name 2 (codes "script"))
script_position = record { index = refl; single = record { found = refl; sets = refl; least = refl; most = refl; any_value = λ value. refl }; one_value = refl; once = refl; goes_on = refl; next = refl }

tx_position : IsPosition run_shape.rules 3 (built_name 3 (codes "tx"))
tx_position = record { index = refl; single = record { found = refl; sets = refl; least = refl; most = refl; any_value = λ value. refl }; one_value = refl; once = refl; goes_on = refl; next = refl }

pub run-shape : IsRunShape run_shape
run-shape = record {
  options = an_option;
  hold = (built_flag (codes "hold"), refl, hold_flag);
  capture = (built_name 1 (codes "capture"), refl, capture_position);
  script = (built_name 2 (codes "script"), refl, script_position);
  tx = (built_name 3 (codes "tx"), refl, tx_position);
  no_more = refl;
  leaf = refl;
  again = refl;
}

pub run-simple : is_simple_and_free run_app ≡ true
run-simple = refl

pub run-is_simple : is_simple run_app ≡ true
run-is_simple = refl

-- ---- the flag alone has a default

abbrev has_no_defaults : List Rule → Bool
has_no_defaults rules = list_all (λ a. is_empty a.defaults) rules

no_default : (rows : List Row) (rules : List Rule) → has_no_defaults rules ≡ true → fold with_default rows rules ≡ rows
no_default rows [] h = refl
no_default rows (a ∷ rules) h =
    let both = and_both (is_empty a.defaults) (has_no_defaults rules) h in
    let none : a.defaults ≡ [] = is_nil a.defaults both.0 in
    let same : with_default rows a ≡ rows = rw none (either_way (has_row a.id rows) rows) in
    ap (λ r. fold with_default r rules) same ∙ no_default rows rules both.1
  where
    either_way : (b : Bool) (r : List Row) → cond b r r ≡ r
    either_way true r = refl
    either_way false r = refl

one_default : (rows : List Row) (before : List Rule) (a : Rule) (behind : List Rule) → has_no_defaults before ≡ true → has_no_defaults behind ≡ true
    → fold with_default rows (before ++ a ∷ behind) ≡ with_default rows a
one_default rows [] a behind none_before none_behind = no_default (with_default rows a) behind none_behind
one_default rows (b ∷ before) a behind none_before none_behind =
    let both = and_both (is_empty b.defaults) (has_no_defaults before) none_before in
    ap (λ r. fold with_default r (before ++ a ∷ behind)) (no_default rows (b ∷ []) (rw both.0 refl)) ∙ one_default rows before a behind both.1 none_behind

-- defaults that have no fault
abbrev AreHarmless : List Rule → Type 0
AreHarmless [] = Unit {0}
AreHarmless (a ∷ rules) = ((rows : List Row) → default_fault rows a ≡ []) × AreHarmless rules

harmless_empty : (a : Rule) → is_empty a.defaults ≡ true → (rows : List Row) → default_fault rows a ≡ []
harmless_empty a none rows = rw (none, or_true (has_row a.id rows)) refl
  where
    or_true : (b : Bool) → (b || true) ≡ true
    or_true true = refl
    or_true false = refl

harmless_given : (a : Rule) → given_default_fault a a.defaults ≡ [] → (rows : List Row) → default_fault rows a ≡ []
harmless_given a none rows = by_test (has_row a.id rows || is_empty a.defaults)
  where
    by_test : (b : Bool) → cond b [] (given_default_fault a a.defaults) ≡ []
    by_test true = refl
    by_test false = none

harmless_fault : (rows : List Row) (rules : List Rule) → AreHarmless rules → defaults_fault rows rules ≡ []
unfolding defaults_fault
harmless_fault rows [] harmless = refl
harmless_fault rows (a ∷ rules) harmless = rw (harmless.0 rows) (harmless_fault (with_default rows a) rules harmless.1)

abbrev the_options : List Rule
the_options =
    built_option (codes "workers") ∷ built_option (codes "buffers") ∷ built_option (codes "queue") ∷ built_option (codes "burst")
    ∷ built_option (codes "trace") ∷ built_option (codes "turns") ∷ []

abbrev the_names : List Rule
the_names = built_name 1 (codes "capture") ∷ built_name 2 (codes "script") ∷ built_name 3 (codes "tx") ∷ []

abbrev the_flag : Rule
the_flag = built_flag (codes "hold")

run_default : (rows : List Row) → fold with_default rows run_shape.rules ≡ with_default rows the_flag
run_default rows = one_default rows the_options the_flag the_names refl refl

run_harmless : (rows : List Row) → defaults_fault rows run_shape.rules ≡ []
run_harmless rows = harmless_fault rows run_shape.rules (
  harmless_empty (built_option (codes "workers")) refl,
  (
    harmless_empty (built_option (codes "buffers")) refl,
    (
      harmless_empty (built_option (codes "queue")) refl,
      (
        harmless_empty (built_option (codes "burst")) refl,
        (
          harmless_empty (built_option (codes "trace")) refl,
          (
            harmless_empty (built_option (codes "turns")) refl,
            (
              harmless_given the_flag refl,
              (
                harmless_empty (built_name 1 (codes "capture")) refl,
                (harmless_empty (built_name 2 (codes "script")) refl, (harmless_empty (built_name 3 (codes "tx")) refl, tt)),
              ),
            ),
          ),
        ),
      ),
    ),
  ),
)

-- ---- rows with the default of the flag

-- what the rows say at the end, where the flag that isn't given has its default
pub record Finds (rows : List Row) (names : List Text) (options : List Given) : Type 0 where
  pub values : (name : Text) → is_option_name name ≡ true → is_flag name ≡ false → first_of name rows ≡ value_in options name
  pub hold : is_set (first_of (codes "hold") rows) ≡ is_set (value_in options (codes "hold"))
  pub capture : first_of (codes "capture") rows ≡ slice_get names 0
  pub script : first_of (codes "script") rows ≡ slice_get names 1
  pub tx : first_of (codes "tx") rows ≡ slice_get names 2
  pub has_capture : was_given (codes "capture") rows ≡ is_some (slice_get names 0)
  pub has_script : was_given (codes "script") rows ≡ is_some (slice_get names 1)
  pub has_tx : was_given (codes "tx") rows ≡ is_some (slice_get names 2)

-- a row of another argument
was_given-kept : (id : Text) (rows : List Row) (r : Row) → bytes_eq r.id id ≡ false → was_given id (rows ++ r ∷ []) ≡ was_given id rows
was_given-kept id [] r other = rw other refl
was_given-kept id (x ∷ rows) r other = (elim (true_or_false (bytes_eq x.id id)) [
  | inl e ↦ rw e refl
  | inr e ↦ rw e (was_given-kept id rows r other)
])

no_value : (options : List Given) (name : Text) → is_given name options ≡ false → value_in options name ≡ None
no_value [] name none = refl
no_value (x ∷ options) name none = (elim (true_or_false (bytes_eq x.0 name)) [
  | inl e ↦ let given : is_given name (x ∷ options) ≡ true = rw e refl in absurd (true≢false (sym given ∙ none))
  | inr e ↦ rw e (no_value options name (rw e at none))
])

-- the row of the flag where it isn't given
abbrev default_row : Row
default_row = record { id = codes "hold"; values = codes "false" ∷ []; count = None; source = Some DefaultValue; reading = reading_by the_flag }

finds_given : (rows : List Row) (names : List Text) (options : List Given) → Agrees rows names options → Finds rows names options
finds_given rows names options agrees = record {
  values = λ name known valued. agrees.values name known;
  hold = ap is_set (agrees.values (codes "hold") refl);
  capture = agrees.capture;
  script = agrees.script;
  tx = agrees.tx;
  has_capture = given-explicit (codes "capture") rows agrees.explicit ∙ agrees.has_capture;
  has_script = given-explicit (codes "script") rows agrees.explicit ∙ agrees.has_script;
  has_tx = given-explicit (codes "tx") rows agrees.explicit ∙ agrees.has_tx;
}

finds_default : (rows : List Row) (names : List Text) (options : List Given) → Agrees rows names options → has_row (codes "hold") rows ≡ false
    → Finds (rows ++ default_row ∷ []) names options
finds_default rows names options agrees none = record {
  values = λ name known valued. first_of-kept name rows default_row (other_name name valued) ∙ agrees.values name known;
  hold = ap is_set (first_of-new (codes "hold") (codes "false") rows default_row refl refl none)
      ∙ sym (ap is_set (no_value options (codes "hold") (sym (agrees.given (codes "hold") refl) ∙ none)));
  capture = first_of-kept (codes "capture") rows default_row refl ∙ agrees.capture;
  script = first_of-kept (codes "script") rows default_row refl ∙ agrees.script;
  tx = first_of-kept (codes "tx") rows default_row refl ∙ agrees.tx;
  has_capture = was_given-kept (codes "capture") rows default_row refl ∙ given-explicit (codes "capture") rows agrees.explicit ∙ agrees.has_capture;
  has_script = was_given-kept (codes "script") rows default_row refl ∙ given-explicit (codes "script") rows agrees.explicit ∙ agrees.has_script;
  has_tx = was_given-kept (codes "tx") rows default_row refl ∙ given-explicit (codes "tx") rows agrees.explicit ∙ agrees.has_tx;
}
  where
    other_name : (name : Text) → is_flag name ≡ false → bytes_eq (codes "hold") name ≡ false
    other_name name valued = (elim (true_or_false (bytes_eq (codes "hold") name)) [
      | inl e ↦
          let same : codes "hold" ≡ name = bytes_eq-true (codes "hold") name e in
          absurd (true≢false (subst (λ (n : Text). is_flag n ≡ false) (sym same) valued))
      | inr e ↦ e
    ])

finds_end : (rows : List Row) (names : List Text) (options : List Given) → Agrees rows names options → Finds (with_default rows the_flag) names options
finds_end rows names options agrees = (elim (true_or_false (has_row (codes "hold") rows)) [
  | inl e ↦ rw e (finds_given rows names options agrees)
  | inr e ↦
      let end : with_default rows the_flag ≡ rows ++ default_row ∷ [] =
      ap (λ (b : Bool). cond b rows (with_values (codes "hold") (reading_by the_flag) DefaultValue (codes "false" ∷ []) rows)) e
      ∙ at_row-none (codes "hold") (more_values DefaultValue (codes "false" ∷ [])) (default_row ∷ []) rows e in
      subst (λ (r : List Row). Finds r names options) (sym end) (finds_default rows names options agrees e)
])

-- ---- all words

-- the parser takes the words, and has what they say
pub record IsParsed (words : List Text) (said : Said) : Type 0 where
  pub no_fault : fault_of run_app words ≡ []
  pub finds : Finds (matches_of run_app words) said.names said.options
  pub three : length said.names ≡ 3

-- or it refuses them, and there are not three names
pub record IsRefused (words : List Text) (said : Said) : Type 0 where
  pub first : ErrorKind
  pub others : Kinds
  pub fault : fault_of run_app words ≡ first ∷ others
  pub not_three : length said.names ≡ 3 → ⊥

begins : IsResting run_shape nothing_said (walk_from nothing_held)
begins = record {
  rows = [];
  last = None;
  none = refl;
  fresh = tt;
  agrees = record {
    values = λ name known. refl;
    given = λ name known. refl;
    capture = refl;
    script = refl;
    tx = refl;
    has_capture = refl;
    has_script = refl;
    has_tx = refl;
    explicit = refl;
  };
  few = omega arith;
  is = refl;
}

-- what is missing
abbrev Missing : Kinds
Missing = kind.MissingRequiredArgument ∷ []

checked : (names : List Text) (options : List Given) (rows : List Row) → Finds rows names options → length names ≤ 3
    → ((check_fault run_shape rows false ≡ []) × (length names ≡ 3)) ⊎ ((check_fault run_shape rows false ≡ Missing) × (length names ≡ 3 → ⊥))
checked [] options rows finds few = inr (rw finds.has_capture refl, λ three. omega arith)
checked (first ∷ []) options rows finds few = inr (rw (finds.has_capture, finds.has_script) refl, λ three. omega arith)
checked (first ∷ second ∷ []) options rows finds few = inr (rw (finds.has_capture, finds.has_script, finds.has_tx) refl, λ three. omega arith)
checked (first ∷ second ∷ third ∷ []) options rows finds few = inl (rw (finds.has_capture, finds.has_script, finds.has_tx) refl, refl)
checked (first ∷ second ∷ third ∷ fourth ∷ others) options rows finds few = absurd (omega arith)

abbrev the_walk : List Text → Walk
the_walk words = walk run_shape.rules [] nothing_held words

-- the faults behind the words, by what is held
abbrev fault_behind : Held → Kinds
fault_behind h = or_else (settle_fault run_shape.rules run_shape.args_override_self h)
    (or_else (defaults_fault (settled run_shape.rules h).rows run_shape.rules) (check_fault run_shape (finished run_shape.rules h) false))

finished-fresh : (rows : List Row) (last : Last) → IsFresh run_shape.rules rows last
    → finished run_shape.rules (held rows (pending_of last)) ≡ with_default (all_rows rows last) the_flag
finished-fresh rows last fresh =
    ap (λ r. fold with_default r run_shape.rules) (settled_rows-fresh run_shape.rules rows last fresh) ∙ run_default (all_rows rows last)

fault_behind-fresh : (rows : List Row) (last : Last) → IsFresh run_shape.rules rows last
    → fault_behind (held rows (pending_of last)) ≡ check_fault run_shape (with_default (all_rows rows last) the_flag) false
fault_behind-fresh rows last fresh =
    ap (λ k. or_else k (or_else (defaults_fault (settled run_shape.rules (held rows (pending_of last))).rows run_shape.rules) (check_fault run_shape (finished run_shape.rules (held rows (pending_of last))) false))) (settle-fresh run_shape.rules rows last fresh)
    ∙ ap (λ k. or_else k (check_fault run_shape (finished run_shape.rules (held rows (pending_of last))) false)) (run_harmless (settled run_shape.rules (held rows (pending_of last))).rows)
    ∙ ap (λ r. check_fault run_shape r false) (finished-fresh rows last fresh)

fault_at_end : (first : Text) (words : List Text) (said : Said) (end : IsResting run_shape said (the_walk words)) → walk_fault run_shape [] (walk_from nothing_held) words ≡ []
    → fault_of run_app (first ∷ words) ≡ check_fault run_shape (with_default (all_rows end.rows end.last) the_flag) false
fault_at_end first words said end no_fault =
    leaf_fault (built run_app) nothing_held words refl
    ∙ ap (λ k. or_else k (or_else [] (fault_behind (the_walk words).held))) no_fault
    ∙ ap (λ (w : Walk). fault_behind w.held) end.is
    ∙ fault_behind-fresh end.rows end.last end.fresh

rows_at_end : (first : Text) (words : List Text) (said : Said) (end : IsResting run_shape said (the_walk words))
    → matches_of run_app (first ∷ words) ≡ with_default (all_rows end.rows end.last) the_flag
rows_at_end first words said end = ap (λ (w : Walk). finished run_shape.rules w.held) end.is ∙ finished-fresh end.rows end.last end.fresh

pub parse-run : (first : Text) (words : List Text) (said : Said) → said_from nothing_said words ≡ Some said
    → IsParsed (first ∷ words) said ⊎ IsRefused (first ∷ words) said
parse-run first words said e = by_end (ends words run_shape nothing_said said (walk_from nothing_held) run-shape (inl begins) e)
  where
    by_check : (end : IsResting run_shape said (the_walk words)) → walk_fault run_shape [] (walk_from nothing_held) words ≡ []
        → ((check_fault run_shape (with_default (all_rows end.rows end.last) the_flag) false ≡ []) × (length said.names ≡ 3))
        ⊎ ((check_fault run_shape (with_default (all_rows end.rows end.last) the_flag) false ≡ Missing) × (length said.names ≡ 3 → ⊥))
        → IsParsed (first ∷ words) said ⊎ IsRefused (first ∷ words) said
    by_check end no_fault (inl taken) = inl (record {
      no_fault = fault_at_end first words said end no_fault ∙ taken.0;
      finds = subst (λ (r : List Row). Finds r said.names said.options) (sym (rows_at_end first words said end))
          (finds_end (all_rows end.rows end.last) said.names said.options end.agrees);
      three = taken.1;
    })
    by_check end no_fault (inr missing) = inr (record {
      first = kind.MissingRequiredArgument;
      others = [];
      fault = fault_at_end first words said end no_fault ∙ missing.0;
      not_three = missing.1;
    })

    by_end : Ends run_shape said (walk_from nothing_held) words → IsParsed (first ∷ words) said ⊎ IsRefused (first ∷ words) said
    by_end (inl end) = by_check end.0 end.1 (checked said.names said.options (with_default (all_rows end.0.rows end.0.last) the_flag) (finds_end (all_rows end.0.rows end.0.last) said.names said.options end.0.agrees) end.0.few)
    by_end (inr fault) = inr (record {
      first = fault.0;
      others = fault.1;
      fault = leaf_fault (built run_app) nothing_held words refl ∙ ap (λ k. or_else k (or_else [] (fault_behind (the_walk words).held))) fault.2;
      not_three = λ three. omega (arith, fault.3, three);
    })

-- ---- the run that is read

run_found-three : (names : List Text) (options : List Given) (rows : List Row) → Finds rows names options → length names ≡ 3
    → run_found (λ id. first_of id rows) ≡ run_over (value_in options) names
run_found-three [] options rows finds three = absurd (omega arith)
run_found-three (capture ∷ []) options rows finds three = absurd (omega arith)
run_found-three (capture ∷ script ∷ []) options rows finds three = absurd (omega arith)
run_found-three (capture ∷ script ∷ tx ∷ []) options rows finds three =
    rw (
      finds.capture,
      finds.script,
      finds.tx,
      finds.values (codes "workers") refl refl,
      finds.values (codes "buffers") refl refl,
      finds.values (codes "queue") refl refl,
      finds.values (codes "burst") refl refl,
      finds.values (codes "trace") refl refl,
      finds.values (codes "turns") refl refl,
      finds.hold,
    ) refl
run_found-three (capture ∷ script ∷ tx ∷ fourth ∷ names) options rows finds three = absurd (omega arith)

not_three-none : (names : List Text) (value : Text → Option Text) → (length names ≡ 3 → ⊥) → run_over value names ≡ None
not_three-none [] value h = refl
not_three-none (capture ∷ []) value h = refl
not_three-none (capture ∷ script ∷ []) value h = refl
not_three-none (capture ∷ script ∷ tx ∷ []) value h = absurd (h refl)
not_three-none (capture ∷ script ∷ tx ∷ fourth ∷ names) value h = refl

-- words that pass the checks say something
said : (words : List Text) → are_well_formed [] false words ≡ true → (said : Said) × (said_from nothing_said words ≡ Some said)
said words passes = is_there (said_from nothing_said words) (agree words None [] [] ∙ passes)
  where
    is_there : (o : Option Said) → is_some o ≡ true → (s : Said) × (o ≡ Some s)
    is_there None h = absurd (true≢false (sym h))
    is_there (Some s) h = (s, refl)

pub unchecked-none : (words : List Text) → are_well_formed [] false words ≡ false → run_of words ≡ None
unchecked-none words fails = is_none (said_from nothing_said words) (agree words None [] [] ∙ fails)
  where
    is_none : (o : Option Said) → is_some o ≡ false → (o >>= (λ s. run_over (value_in s.options) s.names)) ≡ None
    is_none None h = refl
    is_none (Some s) h = absurd (true≢false h)

nothing : {X : Type 0} (x : X) (xs : List X) → x ∷ xs ≡ [] → ⊥
nothing x xs e = cc

pub refused-none : (first : Text) (words : List Text) → are_well_formed [] false words ≡ true → (fault_of run_app (first ∷ words) ≡ [] → ⊥) → run_of words ≡ None
refused-none first words passes refused = by_parse (said words passes)
  where
    by_parse : (s : Said) × (said_from nothing_said words ≡ Some s) → run_of words ≡ None
    by_parse s = (elim (parse-run first words s.0 s.1) [
      | inl parsed ↦ absurd (refused parsed.no_fault)
      | inr other ↦ rw s.1 (not_three-none s.0.names (value_in s.0.options) other.not_three)
    ])

pub taken-run : (first : Text) (words : List Text) (rows : List Row) → are_well_formed [] false words ≡ true → fault_of run_app (first ∷ words) ≡ []
    → rows ≡ matches_of run_app (first ∷ words) → run_found (λ id. first_of id rows) ≡ run_of words
taken-run first words rows passes no_fault same = by_parse (said words passes)
  where
    by_parse : (s : Said) × (said_from nothing_said words ≡ Some s) → run_found (λ id. first_of id rows) ≡ run_of words
    by_parse s = (elim (parse-run first words s.0 s.1) [
      | inl parsed ↦
          let finds : Finds rows s.0.names s.0.options = subst (λ (r : List Row). Finds r s.0.names s.0.options) (sym same) parsed.finds in
          run_found-three s.0.names s.0.options rows finds parsed.three ∙ sym (ap (λ (o : Option Said). o >>= (λ said. run_over (value_in said.options) said.names)) s.1)
      | inr other ↦ absurd (nothing other.first other.others (sym other.fault ∙ no_fault))
    ])

-- by what the parser's values are
pub run_found-rows : (found : Found) → run_found (first_value found) ≡ run_found (λ id. first_of id (rows_of found))
run_found-rows found = ap run_found (λ k id. first_value-rows found id k)
