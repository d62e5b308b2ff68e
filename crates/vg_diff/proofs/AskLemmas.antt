-- For the clauses of `asked` and `are_plain`: one option more, and words that are all names.
use Rattle.std.proofs.Common.{◌≡◌, ℕ, ◌+◌, ◌≤◌, arith, subst, Bool, true, false, true≢false, List, [], ◌∷◌, get_or, drop, drop-drop, refl, sym, ap, ◌∙◌, Bor}
use Rattle.std.specs.Prelude.{Option, Some, None, option_and_then, not, ◌&&◌, ◌||◌, bytes_eq, codes, if◌then◌else◌}
use Rattle.std.specs.Bool.{◌==◌}
use Rattle.std.specs.List.{list_all}
use Rattle.vg_diff.specs.Asked.{Text, texts, Ask, Said, is_plain, places_of, ask_of, with_option, begins_with_option, asked_behind}

-- what words ask for behind an option
abbrev behind : (word value : Text) (words : List Text) → Said → Option Ask
behind word value words next = if places_of word == 1 then asked_behind next (value ∷ words) else asked_behind next words

-- what they ask for, by whether the first may be a name
abbrev by_first : (said : Said) (word value : Text) (words : List Text) → Bool → Option Ask
by_first said word value words b =
    if b then ask_of said (word ∷ (value ∷ words)) else option_and_then (behind word value words) (with_option said word value)

-- a test that fails, and one that holds
plain_not : (b : Bool) → not b ≡ true → b ≡ false
plain_not true e = absurd (true≢false (sym e))
plain_not false e = refl

plain_is : (b : Bool) → not b ≡ false → b ≡ true
plain_is true e = refl
plain_is false e = sym e

-- the words behind an option
words_left : (word : Bor Text) (value : Bor Text) (words : List (Bor Text)) (next : Said)
    → asked_behind next (texts (drop (places_of word.now) (word ∷ (value ∷ words)))) ≡ behind word.now value.now (texts words) next
words_left word value words next = by_test (bytes_eq word.now (codes "--brief") || bytes_eq word.now (codes "--classes"))
  where
    by_test : (b : Bool) → asked_behind next (texts (drop (if b then 1 else 2) (word ∷ (value ∷ words))))
        ≡ (if (if b then 1 else 2) == 1 then asked_behind next (texts (value ∷ words)) else asked_behind next (texts words))
    by_test true = refl
    by_test false = refl

-- an option has one word or two
pub places_range : (word : Text) (n : ℕ) → n ≡ places_of word → (1 ≤ n) × (n ≤ 2)
places_range word n is = subst (λ m. (1 ≤ m) × (m ≤ 2)) (sym is) (by_test (bytes_eq word (codes "--brief") || bytes_eq word (codes "--classes")))
  where
    by_test : (b : Bool) → (1 ≤ (if b then 1 else 2)) × ((if b then 1 else 2) ≤ 2)
    by_test true = (omega arith, omega arith)
    by_test false = (omega arith, omega arith)

-- one option more
pub option_more : (said next : Said) (words : List (Bor Text)) (d : Bor Text) → begins_with_option (texts words) ≡ true
    → Some next ≡ with_option said (get_or words 0 d).now (get_or words 1 d).now
    → asked_behind next (texts (drop (places_of (get_or words 0 d).now) words)) ≡ asked_behind said (texts words)
option_more said next [] d begins is = absurd (true≢false (sym begins))
option_more said next (word ∷ []) d begins is = absurd (true≢false (sym begins))
option_more said next (word ∷ (value ∷ words)) d begins is =
    words_left word value words next
    ∙ ap (option_and_then (behind word.now value.now (texts words))) is
    ∙ ap (by_first said word.now value.now (texts words)) (sym (plain_not (is_plain word.now) begins))

-- an option that there isn't
pub option_none : (said : Said) (words : List (Bor Text)) (d : Bor Text) → begins_with_option (texts words) ≡ true
    → None ≡ with_option said (get_or words 0 d).now (get_or words 1 d).now → None ≡ asked_behind said (texts words)
option_none said [] d begins is = refl
option_none said (word ∷ []) d begins is = refl
option_none said (word ∷ (value ∷ words)) d begins is =
    ap (option_and_then (behind word.now value.now (texts words))) is
    ∙ ap (by_first said word.now value.now (texts words)) (sym (plain_not (is_plain word.now) begins))

-- words that are left behind those of an option
pub words_later : (said : Said) (words : List (Bor Text)) (i n : ℕ) → asked_behind said (texts (drop n (drop i words))) ≡ asked_behind said (texts (drop (i + n) words))
words_later said words i n = ap (λ ws. asked_behind said (texts ws)) (drop-drop n i words)

-- behind the options
pub names_left : (said : Said) (words : List Text) → begins_with_option words ≡ false → ask_of said words ≡ asked_behind said words
names_left said [] begins = refl
names_left said (word ∷ []) begins = refl
names_left said (word ∷ (value ∷ words)) begins = ap (by_first said word value words) (sym (plain_is (is_plain word) begins))

-- of references all have it whose texts do
pub all_texts : (words : List (Bor Text)) → list_all (λ (word : Bor Text). is_plain word.now) words ≡ list_all is_plain (texts words)
all_texts [] = refl
all_texts (word ∷ words) = ap (λ b. is_plain word.now && b) (all_texts words)
