-- For the clause of `read_check`: the words of a check, word by word.
use Rattle.std.proofs.Common.{◌≡◌, ◌∙◌, ◌||◌, ◌<◌, ℕ, Bool, true, false, refl, sym, ap, subst, arith, List, [], ◌∷◌, ◌++◌, length, drop, Option, Some, None, option_map}
use Rattle.std.specs.Prelude.{is_some}
use Rattle.std.specs.Borrow.{Bor}
use Rattle.vg_words.specs.Command.{Text, CheckSaid, Check, check_from, check_of, check_over, is_plain, queue_in, texts, with_check_word, with_queue, ◌>>=◌}

abbrev pub said_so : List Text → Option Text → Bool → CheckSaid
said_so names queue waits = record { names = names; queue = queue; waits = waits }

pub check-value : (names : List Text) (queue : Option Text) (word : Text) (words : List Text) → is_plain word ≡ true
    → check_from (said_so names queue true) (word ∷ words) ≡ check_from (said_so names (Some word) false) words
check-value names queue word words plain = rw plain refl

pub check-name : (names : List Text) (queue : Option Text) (word : Text) (words : List Text) → is_plain word ≡ true
    → check_from (said_so names queue false) (word ∷ words) ≡ check_from (said_so (names ++ word ∷ []) queue false) words
check-name names queue word words plain = rw plain refl

pub check-used : (names : List Text) (queue : Option Text) (waits : Bool) (word : Text) (words : List Text) → is_plain word ≡ false
    → (waits || is_some queue) ≡ true → check_from (said_so names queue waits) (word ∷ words) ≡ None
check-used names queue waits word words plain used = rw (plain, used) refl

pub check-other : (names : List Text) (queue : Option Text) (waits : Bool) (word : Text) (words : List Text) → is_plain word ≡ false
    → (waits || is_some queue) ≡ false → queue_in word ≡ None → check_from (said_so names queue waits) (word ∷ words) ≡ None
check-other names queue waits word words plain new none = rw (plain, new, none) refl

pub check-option : (names : List Text) (queue : Option Text) (waits : Bool) (word : Text) (words : List Text) (value : Option Text) → is_plain word ≡ false
    → (waits || is_some queue) ≡ false → queue_in word ≡ Some value
    → check_from (said_so names queue waits) (word ∷ words) ≡ check_from (with_queue (said_so names queue waits) value) words
check-option names queue waits word words value plain new is = rw (plain, new, is) refl

pub no_check : (o : Option CheckSaid) → o ≡ None → (o >>= (λ said. check_over said.queue said.names)) ≡ None
no_check o e = rw e refl

pub not_four : (words : List (Bor Text)) (value : Option Text) → (length words ≡ 4 → ⊥) → check_over value (texts words) ≡ None
not_four [] value h = refl
not_four (a ∷ []) value h = refl
not_four (a ∷ b ∷ []) value h = refl
not_four (a ∷ b ∷ c ∷ []) value h = refl
not_four (a ∷ b ∷ c ∷ d ∷ []) value h = absurd (h refl)
not_four (a ∷ b ∷ c ∷ d ∷ e ∷ words) value h = refl
