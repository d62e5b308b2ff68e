-- For `printed_is_read_back`: the lines and the words of a plain text, read.
use Rattle.std.proofs.Common.{◌≡◌, ℕ, suc, ◌+◌, ◌≤◌, Bool, true, false, cond, ◌&&◌, not, ltb, ◌==◌, nat_le, List, [], ◌∷◌, ◌++◌, length, take, drop, All, map, refl, ap, ◌∙◌, add-one, arith}
use Rattle.std.proofs.lemmas.Bool.{and_parts, and_from, lt-ltb}
use Rattle.std.proofs.lemmas.Bool.Decides.{nat_tests}
use Rattle.std.proofs.lemmas.List.Elements.{All-from_recursion}
use Rattle.std.proofs.lemmas.List.Splits.{slice_split_at, slice_split_none}
use Rattle.std.specs.Prelude.{filter, flat_map}
use Rattle.std.specs.List.{AllByRecursion, list_all, join_with_byte, slice_split, onto_first, before_first, after_first, position_or_len}
use Rattle.vg_script.specs.Lines.{lines, without_comment, is_blank, is_allowed, words}
use Rattle.vg_script.specs.Plain.{line_text}
use Rattle.vg_script.specs.Statements.{Words}

-- what holds of each element
pub each-append : {X : Type 0} (P : X → Type 0) (xs ys : List X) → AllByRecursion P xs → AllByRecursion P ys → AllByRecursion P (xs ++ ys)
each-append P [] ys h k = k
each-append P (x ∷ xs) ys h k = (h.0, each-append P xs ys h.1 k)

pub each-weaker : {X : Type 0} (P Q : X → Type 0) → ((x : X) → P x → Q x) → (xs : List X) → AllByRecursion P xs → AllByRecursion Q xs
each-weaker P Q f [] h = tt
each-weaker P Q f (x ∷ xs) h = (f x h.0, each-weaker P Q f xs h.1)

pub each-map : {X Y : Type 0} (P : Y → Type 0) (f : X → Y) (xs : List X) → AllByRecursion (λ x. P (f x)) xs → AllByRecursion P (map f xs)
each-map P f [] h = tt
each-map P f (x ∷ xs) h = (h.0, each-map P f xs h.1)

pub each-from_test : (p : ℕ → Bool) (xs : List ℕ) → list_all p xs ≡ true → AllByRecursion (λ x. p x ≡ true) xs
each-from_test p [] h = tt
each-from_test p (x ∷ xs) h = let both = and_parts (p x) (list_all p xs) h in (both.0, each-from_test p xs both.1)

pub test-from_each : (p : ℕ → Bool) (xs : List ℕ) → AllByRecursion (λ x. p x ≡ true) xs → list_all p xs ≡ true
test-from_each p [] h = refl
test-from_each p (x ∷ xs) h = and_from (p x) (list_all p xs) h.0 (test-from_each p xs h.1)

-- what stands before and after the first element that passes
pub before_first_none : (p : ℕ → Bool) (xs : List ℕ) → AllByRecursion (λ x. p x ≡ false) xs → before_first p xs ≡ xs
before_first_none p [] h = refl
before_first_none p (x ∷ xs) h =
    let e : position_or_len p (x ∷ xs) ≡ suc (position_or_len p xs) = ap (λ b. cond (not b) (1 + position_or_len p xs) 0) h.0 ∙ omega arith in
    ap (λ n. take n (x ∷ xs)) e ∙ ap (λ r. x ∷ r) (before_first_none p xs h.1)

place_at : (p : ℕ → Bool) (xs : List ℕ) (y : ℕ) (ys : List ℕ) → AllByRecursion (λ x. p x ≡ false) xs → p y ≡ true → position_or_len p (xs ++ y ∷ ys) ≡ length xs
place_at p [] y ys h e = ap (λ b. cond (not b) (1 + position_or_len p ys) 0) e
place_at p (x ∷ xs) y ys h e =
    ap (λ b. cond (not b) (1 + position_or_len p (xs ++ y ∷ ys)) 0) h.0 ∙ ap (λ n. 1 + n) (place_at p xs y ys h.1 e) ∙ omega arith

take_front : (xs ys : List ℕ) → take (length xs) (xs ++ ys) ≡ xs
take_front [] ys = refl
take_front (x ∷ xs) ys = ap (λ r. x ∷ r) (take_front xs ys)

drop_front : (xs : List ℕ) (y : ℕ) (ys : List ℕ) → drop (suc (length xs)) (xs ++ y ∷ ys) ≡ ys
drop_front [] y ys = refl
drop_front (x ∷ xs) y ys = drop_front xs y ys

pub before_first_at : (p : ℕ → Bool) (xs : List ℕ) (y : ℕ) (ys : List ℕ) → AllByRecursion (λ x. p x ≡ false) xs → p y ≡ true → before_first p (xs ++ y ∷ ys) ≡ xs
before_first_at p xs y ys h e = ap (λ n. take n (xs ++ y ∷ ys)) (place_at p xs y ys h e) ∙ take_front xs (y ∷ ys)

pub after_first_at : (p : ℕ → Bool) (xs : List ℕ) (y : ℕ) (ys : List ℕ) → AllByRecursion (λ x. p x ≡ false) xs → p y ≡ true → after_first p (xs ++ y ∷ ys) ≡ ys
after_first_at p xs y ys h e =
    ap (λ n. drop n (xs ++ y ∷ ys)) (ap (λ n. n + 1) (place_at p xs y ys h e) ∙ add-one (length xs)) ∙ drop_front xs y ys

-- a byte that may stand in a word: visible, and no `#`
abbrev pub is_word_byte : ℕ → Bool
is_word_byte byte = nat_le 0x21 byte && nat_le byte 0x7e && not (byte == 35)

abbrev pub AreWordBytes : List ℕ → Type 0
AreWordBytes bytes = AllByRecursion (λ b. is_word_byte b ≡ true) bytes

-- a word that is read as it stands
pub record IsWord (word : List ℕ) : Type 0 where
  pub some : 1 ≤ length word
  pub bytes : AreWordBytes word

abbrev pub AreWords : Words → Type 0
AreWords ws = AllByRecursion IsWord ws

-- the text of a line without its line feed, and such texts
abbrev pub text_of : Words → List ℕ
text_of ws = join_with_byte 32 ws

abbrev pub texts_of : List Words → List (List ℕ)
texts_of ls = map text_of ls

-- what may stand in a printed line
pub record IsLineByte (byte : ℕ) : Type 0 where
  pub allowed : is_allowed byte ≡ true
  pub no_comment : (byte == 35) ≡ false
  pub no_end : (byte == 10) ≡ false

line_byte : (byte : ℕ) → is_word_byte byte ≡ true → IsLineByte byte
line_byte byte h = record { allowed = grind (arith, nat_tests); no_comment = grind (arith, nat_tests); no_end = grind (arith, nat_tests) }

space : IsLineByte 32
space = record { allowed = refl; no_comment = refl; no_end = refl }

no_blank : (byte : ℕ) → is_word_byte byte ≡ true → is_blank byte ≡ false
no_blank byte h = grind (arith, nat_tests)

line_bytes : (ws : Words) → AreWords ws → AllByRecursion IsLineByte (text_of ws)
line_bytes [] h = tt
line_bytes (w ∷ []) h = each-weaker (λ b. is_word_byte b ≡ true) IsLineByte line_byte w h.0.bytes
line_bytes (w ∷ v ∷ ws) h =
    each-append IsLineByte w (32 ∷ text_of (v ∷ ws)) (each-weaker (λ b. is_word_byte b ≡ true) IsLineByte line_byte w h.0.bytes)
    (space, line_bytes (v ∷ ws) h.1)

-- no comment is cut from a printed line, its bytes are allowed, and it has the words that were printed
pub no_comment_is_cut : (ws : Words) → AreWords ws → without_comment (text_of ws) ≡ text_of ws
no_comment_is_cut ws h =
    before_first_none (λ b. b == 35) (text_of ws) (each-weaker IsLineByte (λ b. (b == 35) ≡ false) (λ b k. k.no_comment) (text_of ws) (line_bytes ws h))

pub bytes_are_allowed : (ws : Words) → AreWords ws → list_all is_allowed (text_of ws) ≡ true
bytes_are_allowed ws h =
    test-from_each is_allowed (text_of ws) (each-weaker IsLineByte (λ b. is_allowed b ≡ true) (λ b k. k.allowed) (text_of ws) (line_bytes ws h))

without_blanks : (w : List ℕ) → AreWordBytes w → All (λ b. is_blank b ≡ false) w
without_blanks w h = All-from_recursion (λ b. is_blank b ≡ false) w (each-weaker (λ b. is_word_byte b ≡ true) (λ b. is_blank b ≡ false) no_blank w h)

split_at_spaces : (w : List ℕ) (ws : Words) → AreWords (w ∷ ws) → slice_split is_blank (text_of (w ∷ ws)) ≡ w ∷ ws
split_at_spaces w [] h = slice_split_none is_blank w (without_blanks w h.0.bytes)
split_at_spaces w (v ∷ ws) h =
    slice_split_at is_blank w 32 (text_of (v ∷ ws)) (without_blanks w h.0.bytes) refl ∙ ap (λ r. w ∷ r) (split_at_spaces v ws h.1)

none_is_empty : (ws : Words) → AreWords ws → filter (λ word. ltb 0 (length word)) ws ≡ ws
none_is_empty [] h = refl
none_is_empty (w ∷ ws) h =
    ap (λ b. cond b (w ∷ filter (λ word. ltb 0 (length word)) ws) (filter (λ word. ltb 0 (length word)) ws)) (lt-ltb 0 (length w) h.0.some)
    ∙ ap (λ r. w ∷ r) (none_is_empty ws h.1)

pub words_are_read : (ws : Words) → AreWords ws → words (text_of ws) ≡ ws
words_are_read [] h = refl
words_are_read (w ∷ ws) h = ap (λ parts. filter (λ word. ltb 0 (length word)) parts) (split_at_spaces w ws h) ∙ none_is_empty (w ∷ ws) h

-- a text's first line
first_line : (l rest : List ℕ) → AllByRecursion (λ b. (b == 10) ≡ false) l → lines (l ++ 10 ∷ rest) ≡ l ∷ lines rest
first_line [] rest h = refl
first_line (b ∷ bs) rest h =
    ap (λ t. cond t ([] ∷ lines (bs ++ 10 ∷ rest)) (onto_first b (lines (bs ++ 10 ∷ rest)))) h.0 ∙ ap (onto_first b) (first_line bs rest h.1)

-- the lines of a printed text are those that were printed
pub lines_are_read : (ls : List Words) → AllByRecursion AreWords ls → lines (flat_map line_text ls) ≡ texts_of ls
lines_are_read [] h = refl
lines_are_read (ws ∷ ls) h =
    ap lines (in_front (text_of ws) (flat_map line_text ls))
    ∙ first_line (text_of ws) (flat_map line_text ls) (each-weaker IsLineByte (λ b. (b == 10) ≡ false) (λ b k. k.no_end) (text_of ws) (line_bytes ws h.0))
    ∙ ap (λ r. text_of ws ∷ r) (lines_are_read ls h.1)
  where
    in_front : (l rest : List ℕ) → (l ++ 10 ∷ []) ++ rest ≡ l ++ 10 ∷ rest
    in_front [] rest = refl
    in_front (b ∷ bs) rest = ap (λ r. b ∷ r) (in_front bs rest)
