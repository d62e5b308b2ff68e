-- For the clauses of `are_well_formed` and `read_run`: the checks of the words behind `run`, word by word.
use Rattle.std.proofs.Common.{◌≡◌, ◌∙◌, ◌+◌, ◌-◌, ◌<◌, ◌&&◌, ℕ, Bool, true, false, not, refl, sym, ap, List, [], ◌∷◌, ◌++◌, length, drop, take, get_or, Option, Some, None, arith, drop-cons, add-one}
use Rattle.std.specs.Borrow.{Bor}
use Rattle.std.specs.Prelude.{is_some, bytes_eq, map}
use Rattle.std.specs.Option.{option_map_or}
use Rattle.std.proofs.lemmas.List.{map-append, take_rest}
use Rattle.clap.proofs.WalkLemmas.{list_any-map}
use Rattle.vg_words.specs.Command.{Text, Given, Said, is_flag, is_plain, yes, option_in, is_given, is_option_name, said_from, texts, with_option, with_option_word, with_value, ◌>>=◌}
use Rattle.vg_words.specs.Checks.{are_well_formed, is_used, named, new_option}

-- the word at a place, and the words behind it
abbrev pub word_at : List (Bor Text) → ℕ → Text
word_at words i = (get_or words i (record { ref_ptr = (0, 0); now = [] })).now

abbrev pub words_behind : List (Bor Text) → ℕ → List Text
words_behind words i = texts (drop (i + 1) words)

pub next_word : (words : List (Bor Text)) (i : ℕ) → i < length words → texts (drop i words) ≡ word_at words i ∷ words_behind words i
next_word words i below = rw (add-one, drop-cons words i (record { ref_ptr = (0, 0); now = [] })) refl

pub checked-plain : (used : List Text) (waits : Bool) (word : Text) (words : List Text) → is_plain word ≡ true
    → are_well_formed used waits (word ∷ words) ≡ are_well_formed used false words
checked-plain used waits word words plain = rw plain refl

pub checked-waits : (used : List Text) (word : Text) (words : List Text) → is_plain word ≡ false → are_well_formed used true (word ∷ words) ≡ false
checked-waits used word words plain = rw plain refl

pub checked-none : (used : List Text) (word : Text) (words : List Text) → is_plain word ≡ false → new_option used word ≡ None
    → are_well_formed used false (word ∷ words) ≡ false
checked-none used word words plain none = rw (plain, none) refl

pub checked-option : (used : List Text) (word : Text) (words : List Text) (p : Text × Bool) → is_plain word ≡ false → new_option used word ≡ Some p
    → are_well_formed used false (word ∷ words) ≡ are_well_formed (used ++ p.0 ∷ []) p.1 words
checked-option used word words p plain some = rw (plain, some) refl

-- ---- words pass the checks just where they say something

-- the options that stand before, where the last of them may wait
abbrev pub used_by : List Given → Option Text → List Text
used_by options None = map (λ (g : Given). g.0) options
used_by options (Some name) = map (λ (g : Given). g.0) options ++ name ∷ []

abbrev pub said_by : List Text → List Given → Option Text → Said
said_by names options waits = record { names = names; options = options; waits = waits }

-- the words say something behind what was said just where they pass
abbrev Agree : List Text → Type 0
Agree words = (waits : Option Text) (names : List Text) (options : List Given)
    → is_some (said_from (said_by names options waits) words) ≡ are_well_formed (used_by options waits) (is_some waits) words

used-more : (options : List Given) (name value : Text) → map (λ (g : Given). g.0) (options ++ (name, value) ∷ []) ≡ map (λ (g : Given). g.0) options ++ name ∷ []
used-more options name value = map-append (λ (g : Given). g.0) options ((name, value) ∷ [])

used-given : (options : List Given) (name : Text) → is_used (used_by options None) name ≡ is_given name options
used-given options name = sym (list_any-map (λ (one : Text). bytes_eq one name) (λ (g : Given). g.0) options)

-- behind a value
value-agrees : (words : List Text) (names : List Text) (options : List Given) (name word : Text) → Agree words
    → is_some (said_from (with_value (said_by names options None) name word) words) ≡ are_well_formed (map (λ (g : Given). g.0) options ++ name ∷ []) false words
value-agrees words names options name word again =
    again None names (options ++ (name, word) ∷ []) ∙ ap (λ used. are_well_formed used false words) (used-more options name word)

-- an option, by its value
option-agrees : (words : List Text) (names : List Text) (options : List Given) (name : Text) (value : Option Text) → Agree words
    → is_some (with_option (said_by names options None) name value >>= (λ next. said_from next words))
    ≡ option_map_or (λ p. are_well_formed (map (λ (g : Given). g.0) options ++ p.0 ∷ []) p.1 words) (named name value) false
option-agrees words names options name None again = by_flag (is_flag name) refl
  where
    by_flag : (b : Bool) → is_flag name ≡ b
        → is_some (with_option (said_by names options None) name None >>= (λ next. said_from next words))
        ≡ option_map_or (λ p. are_well_formed (map (λ (g : Given). g.0) options ++ p.0 ∷ []) p.1 words) (named name None) false
    by_flag true e = rw e (value-agrees words names options name yes again)
    by_flag false e = rw e (again (Some name) names options)
option-agrees words names options name (Some value) again = by_test (not (is_flag name) && is_plain value) refl
  where
    by_test : (b : Bool) → (not (is_flag name) && is_plain value) ≡ b
        → is_some (with_option (said_by names options None) name (Some value) >>= (λ next. said_from next words))
        ≡ option_map_or (λ p. are_well_formed (map (λ (g : Given). g.0) options ++ p.0 ∷ []) p.1 words) (named name (Some value)) false
    by_test true e = rw e (value-agrees words names options name value again)
    by_test false e = rw e refl

option_word-agrees : (words : List Text) (names : List Text) (options : List Given) (word : Text) (p : Option (Text × Option Text)) → option_in word ≡ p → Agree words
    → is_some (with_option_word (said_by names options None) p >>= (λ next. said_from next words))
    ≡ option_map_or (λ q. are_well_formed (map (λ (g : Given). g.0) options ++ q.0 ∷ []) q.1 words) (new_option (used_by options None) word) false
option_word-agrees words names options word None is again = rw is refl
option_word-agrees words names options word (Some p) is again = by_test (is_option_name p.0 && not (is_given p.0 options)) refl
  where
    by_test : (b : Bool) → (is_option_name p.0 && not (is_given p.0 options)) ≡ b
        → is_some (with_option_word (said_by names options None) (Some p) >>= (λ next. said_from next words))
        ≡ option_map_or (λ q. are_well_formed (map (λ (g : Given). g.0) options ++ q.0 ∷ []) q.1 words) (new_option (used_by options None) word) false
    by_test true e = rw (is, used-given options p.0, e) (option-agrees words names options p.0 p.1 again)
    by_test false e = rw (is, used-given options p.0, e) refl

word-agrees : (words : List Text) (word : Text) (waits : Option Text) (names : List Text) (options : List Given) (b : Bool) → is_plain word ≡ b → Agree words
    → is_some (said_from (said_by names options waits) (word ∷ words)) ≡ are_well_formed (used_by options waits) (is_some waits) (word ∷ words)
word-agrees words word (Some name) names options true plain again = rw plain (value-agrees words names options name word again)
word-agrees words word (Some name) names options false plain again = rw plain refl
word-agrees words word None names options true plain again = rw plain (again None (names ++ word ∷ []) options)
word-agrees words word None names options false plain again = rw plain (option_word-agrees words names options word (option_in word) refl again)

pub agree : (words : List Text) → Agree words
agree [] None names options = refl
agree [] (Some name) names options = refl
agree (word ∷ words) waits names options = word-agrees words word waits names options (is_plain word) refl (agree words)

-- the words behind the first
drop_first : (words : List (Bor Text)) → texts (drop 1 words) ≡ drop 1 (texts words)
drop_first [] = refl
drop_first (word ∷ words) = refl

pub texts_behind : (words : List (Bor Text)) → texts (take (length words - 1) (drop 1 words)) ≡ drop 1 (texts words)
texts_behind words = ap texts (take_rest words 1) ∙ drop_first words

pub texts_front : (words : List (Bor Text)) → 0 < length words → (first : Text) × (texts words ≡ first ∷ drop 1 (texts words))
texts_front [] some = absurd (omega arith)
texts_front (word ∷ words) some = (word.now, refl)
