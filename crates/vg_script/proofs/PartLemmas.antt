-- For `names`, and for `groups`, `gap`, `filled_up`, `number` and `address6` of IPv6 addresses: words that are read part by part; and for
-- `has_no_host_bits`, `is_text_and_number` and `number_behind`.
use Rattle.std.proofs.Common.{◌≡◌, ◌==◌, ℕ, zero, suc, ◌+◌, ◌-◌, ◌*◌, ◌%◌, ◌^◌, ◌<◌, ◌≤◌, Bool, true, false, cond, ◌&&◌, leb, ltb, List, []}
use Rattle.std.proofs.Common.{◌∷◌, ◌++◌, length, take, drop, get_or, replicate, refl, sym, ap, subst, ◌∙◌, arith, ltb-true, le-leb, eq-eqb, ne_eqb, eqb-true, append-nil, append_assoc, length-append}
use Rattle.std.specs.Prelude.{Option, Some, None, Result, Ok, Err, option_map, IfSome, bytes_eq, is_ok}
use Rattle.std.specs.Result.{is_err}
use Rattle.std.specs.List.{list_all, slice_split}
use Rattle.std.proofs.lemmas.Bool.{and_parts, and_from, and_right, lt-leb, agree_below_at}
use Rattle.std.proofs.lemmas.List.Splits.{length-slice_split}
use Rattle.vg_model.specs.Name.{IsName, is_name}
use Rattle.vg_script.specs.Address6.{group_of, groups_of_parts, groups_of, around_gap, if_eight, filled_up, number_of_groups, ◌>>=◌}
use Rattle.vg_script.specs.Classes.{names_of, number_of, number_behind}
use Rattle.vg_script.specs.Parts.{parts_left, is_gap_at}
use Rattle.vg_script.proofs.ClassLemmas.{named, name_by_test}

-- how much is left to be read
abbrev pub left_of : Option (List ℕ) → ℕ
left_of None = 0
left_of (Some text) = suc (length text)

-- less is left behind a part
pub left_falls : {B : Type 0} (now : B → List ℕ) (rest others : Option B) (text : B) → rest ≡ Some text → IfSome others (λ o. length (now o) < length (now text))
    → left_of (option_map now others) < left_of (option_map now rest)
left_falls now rest (Some o) text is less = subst (λ r. suc (length (now o)) < left_of (option_map now r)) (sym is) (omega (arith, less))
left_falls now rest None text is less = subst (λ r. 0 < left_of (option_map now r)) (sym is) (omega arith)

-- a comma, and a colon
abbrev pub is_comma : ℕ → Bool
is_comma byte = byte == 44

abbrev pub is_colon : ℕ → Bool
is_colon byte = byte == 58

-- names that were read of a word, in front of what is left of it
pub record AreRead (word : List ℕ) (names : List (List ℕ)) (rest : Option (List ℕ)) : Type 0 where
  pub parts : slice_split is_comma word ≡ names ++ parts_left is_comma rest
  pub each : list_all is_name names ≡ true
  pub few : length names ≤ 16

pub none_read : (word : List ℕ) → AreRead word [] (Some word)
none_read word = record { parts = refl; each = refl; few = omega arith }

list_all-append : (names : List (List ℕ)) (name : List ℕ) → list_all is_name names ≡ true → is_name name ≡ true → list_all is_name (names ++ name ∷ []) ≡ true
list_all-append [] name h k = and_from (is_name name) true k refl
list_all-append (x ∷ names) name h k =
    let both = and_parts (is_name x) (list_all is_name names) h in
    and_from (is_name x) (list_all is_name (names ++ name ∷ [])) both.0 (list_all-append names name both.1 k)

-- names that were read of a word, and the part behind them, in front of what is left
pub record IsNext (word : List ℕ) (names : List (List ℕ)) (part : List ℕ) (others : Option (List ℕ)) : Type 0 where
  pub text : List ℕ
  pub so_far : AreRead word names (Some text)
  pub next : slice_split is_comma text ≡ part ∷ parts_left is_comma others

all_parts : {word : List ℕ} {names : List (List ℕ)} {part : List ℕ} {others : Option (List ℕ)} → IsNext word names part others
    → slice_split is_comma word ≡ names ++ part ∷ parts_left is_comma others
all_parts {word} {names} {part} {others} at = at.so_far.parts ∙ ap (λ l. names ++ l) at.next

-- the part is a name more
pub one_read : {word : List ℕ} {names : List (List ℕ)} {part : List ℕ} {others : Option (List ℕ)} → IsNext word names part others
    → length names < 16 → IsName part → AreRead word (names ++ part ∷ []) others
one_read {word} {names} {part} {others} at few name = record {
  parts = all_parts at ∙ sym (append_assoc names (part ∷ []) (parts_left is_comma others));
  each = list_all-append names part at.so_far.each (named part name);
  few = omega (arith, length-append names (part ∷ []), few);
}

-- all are read
pub all_are_read : (word : List ℕ) (names : List (List ℕ)) → AreRead word names None → names_of word ≡ Some names
all_are_read word names so_far =
    let parts : slice_split is_comma word ≡ names = so_far.parts ∙ append-nil names in
    ap (λ ps. cond (leb (length ps) 16 && list_all is_name ps) (Some ps) None) parts
    ∙ ap (λ b. cond b (Some names) None) (and_from (leb (length names) 16) (list_all is_name names) (le-leb (length names) 16 so_far.few) so_far.each)

-- there is one at least
pub some_are_read : (word : List ℕ) (names : List (List ℕ)) → AreRead word names None → 1 ≤ length names
some_are_read word names so_far =
    let parts : slice_split is_comma word ≡ names = so_far.parts ∙ append-nil names in
    omega (arith, ap length parts, length-slice_split is_comma word)

-- the part is no name
not_all : (names : List (List ℕ)) (part : List ℕ) (parts : List (List ℕ)) → is_name part ≡ false → list_all is_name (names ++ part ∷ parts) ≡ false
not_all [] part parts h = ap (λ b. b && list_all is_name parts) h
not_all (x ∷ names) part parts h = and_right (is_name x) (list_all is_name (names ++ part ∷ parts)) (not_all names part parts h)

pub no_name_read : {word : List ℕ} {names : List (List ℕ)} {part : List ℕ} {others : Option (List ℕ)} → IsNext word names part others
    → is_name part ≡ false → names_of word ≡ None
no_name_read {word} {names} {part} {others} at none =
    let parts : slice_split is_comma word ≡ names ++ part ∷ parts_left is_comma others = all_parts at in
    let all : List (List ℕ) = names ++ part ∷ parts_left is_comma others in
    ap (λ ps. cond (leb (length ps) 16 && list_all is_name ps) (Some ps) None) parts
    ∙ ap (λ b. cond b (Some all) None) (and_right (leb (length all) 16) (list_all is_name all) (not_all names part (parts_left is_comma others) none))

-- the part is the seventeenth
pub too_many_read : {word : List ℕ} {names : List (List ℕ)} {part : List ℕ} {others : Option (List ℕ)} → IsNext word names part others
    → 16 ≤ length names → names_of word ≡ None
too_many_read {word} {names} {part} {others} at many =
    let parts : slice_split is_comma word ≡ names ++ part ∷ parts_left is_comma others = all_parts at in
    let all : List (List ℕ) = names ++ part ∷ parts_left is_comma others in
    let long : 16 < length all = omega (arith, length-append names (part ∷ parts_left is_comma others), many) in
    ap (λ ps. cond (leb (length ps) 16 && list_all is_name ps) (Some ps) None) parts
    ∙ ap (λ b. cond (b && list_all is_name all) (Some all) None) (lt-leb (length all) 16 long)

-- a text that is no name fails the test
pub not_named : (part : List ℕ) → (IsName part → ⊥) → is_name part ≡ false
not_named part h = by_test (is_name part) refl
  where
    by_test : (b : Bool) → is_name part ≡ b → b ≡ false
    by_test false e = refl
    by_test true e = absurd (h (name_by_test part e))

-- groups that were read of a text, in front of what is left of it
abbrev pub in_front_of : List ℕ → Option (List ℕ) → Option (List ℕ)
in_front_of groups others = option_map (λ others. groups ++ others) others

abbrev pub groups_left : Option (List ℕ) → Option (List ℕ)
groups_left rest = groups_of_parts (parts_left is_colon rest)

pub record AreGroupsRead (text groups : List ℕ) (rest : Option (List ℕ)) : Type 0 where
  pub read : groups_of text ≡ in_front_of groups (groups_left rest)
  pub few : length groups ≤ 8

pub no_text_groups : (text groups : List ℕ) → length text ≡ 0 → groups ≡ [] → groups_of text ≡ Some groups
no_text_groups [] groups h e = ap Some (sym e)
no_text_groups (byte ∷ bytes) groups h e = absurd (omega (arith, h))

in_front_of_none : (o : Option (List ℕ)) → o ≡ in_front_of [] o
in_front_of_none None = refl
in_front_of_none (Some groups) = refl

pub some_text_read : (text : List ℕ) → (length text ≡ 0 → ⊥) → AreGroupsRead text [] (Some text)
some_text_read [] h = absurd (h refl)
some_text_read (byte ∷ bytes) h = record { read = in_front_of_none (groups_of_parts (slice_split is_colon (byte ∷ bytes))); few = omega arith }

in_front_twice : (groups : List ℕ) (group : ℕ) (o : Option (List ℕ))
    → in_front_of groups (o >>= λ others. Some (group ∷ others)) ≡ in_front_of (groups ++ group ∷ []) o
in_front_twice groups group None = refl
in_front_twice groups group (Some others) = ap Some (sym (append_assoc groups (group ∷ []) others))

-- groups that were read of a text, and the part behind them, in front of what is left
pub record IsNextGroup (text groups part : List ℕ) (others : Option (List ℕ)) : Type 0 where
  pub rest : List ℕ
  pub so_far : AreGroupsRead text groups (Some rest)
  pub next : slice_split is_colon rest ≡ part ∷ parts_left is_colon others

all_groups : {text groups part : List ℕ} {others : Option (List ℕ)} → IsNextGroup text groups part others → (group : Option ℕ) → group ≡ group_of part
    → groups_of text ≡ in_front_of groups (group >>= λ g. groups_left others >>= λ gs. Some (g ∷ gs))
all_groups {text} {groups} {part} {others} at group read =
    at.so_far.read
    ∙ ap (λ parts. in_front_of groups (groups_of_parts parts)) at.next
    ∙ ap (λ o. in_front_of groups (o >>= λ g. groups_left others >>= λ gs. Some (g ∷ gs))) (sym read)

-- the part is a group more
pub one_group_read : {text groups part : List ℕ} {others : Option (List ℕ)} → IsNextGroup text groups part others → (group : ℕ)
    → Some group ≡ group_of part → length groups < 8 → AreGroupsRead text (groups ++ group ∷ []) others
one_group_read {text} {groups} {part} {others} at group read few = record {
  read = all_groups at (Some group) read ∙ in_front_twice groups group (groups_left others);
  few = omega (arith, length-append groups (group ∷ []), few);
}

pub all_groups_read : (text groups : List ℕ) → AreGroupsRead text groups None → groups_of text ≡ Some groups
all_groups_read text groups so_far = so_far.read ∙ ap Some (append-nil groups)

-- the part is no group
pub no_group_read : {text groups part : List ℕ} {others : Option (List ℕ)} → IsNextGroup text groups part others → None ≡ group_of part
    → groups_of text ≡ None
no_group_read {text} {groups} {part} {others} at none = all_groups at None none

-- the part is the ninth group
long_in_front : (groups : List ℕ) (group : ℕ) (o : Option (List ℕ)) → 8 ≤ length groups
    → IfSome (in_front_of groups (o >>= λ others. Some (group ∷ others))) (λ all. 8 < length all)
long_in_front groups group None many = tt
long_in_front groups group (Some others) many = omega (arith, length-append groups (group ∷ others), many)

pub too_many_groups : {text groups part : List ℕ} {others : Option (List ℕ)} → IsNextGroup text groups part others → (group : ℕ)
    → Some group ≡ group_of part → 8 ≤ length groups → IfSome (groups_of text) (λ all. 8 < length all)
too_many_groups {text} {groups} {part} {others} at group read many =
    subst (λ o. IfSome o (λ (all : List ℕ). 8 < length all)) (sym (all_groups at (Some group) read)) (long_in_front groups group (groups_left others) many)

-- none begins before a place
abbrev pub NoGapBefore : List ℕ → ℕ → Type 0
NoGapBefore text end = (place : ℕ) → place < end → is_gap_at text place ≡ false

-- the sides of a gap behind a byte
abbrev behind_byte : ℕ → Option (List ℕ × List ℕ) → Option (List ℕ × List ℕ)
behind_byte a o = option_map (λ (sides : List ℕ × List ℕ). (a ∷ sides.0, sides.1)) o

pub gap_at : (text : List ℕ) (place : ℕ) → suc place < length text → is_gap_at text place ≡ true → NoGapBefore text place
    → around_gap text ≡ Some (take place text, drop (suc (suc place)) text)
gap_at [] place h gap none = absurd (omega (arith, h))
gap_at (a ∷ []) place h gap none = absurd (omega (arith, h))
gap_at (a ∷ b ∷ rest) zero h gap none = ap (λ t. cond t (Some ([], rest)) (behind_byte a (around_gap (b ∷ rest)))) gap
gap_at (a ∷ b ∷ rest) (suc place) h gap none =
    ap (λ t. cond t (Some ([], rest)) (behind_byte a (around_gap (b ∷ rest)))) (none 0 (omega arith))
    ∙ ap (behind_byte a) (gap_at (b ∷ rest) place (omega (arith, h)) gap (λ k less. none (suc k) (omega (arith, less))))

pub gap_nowhere : (text : List ℕ) → NoGapBefore text (length text - 1) → around_gap text ≡ None
gap_nowhere [] none = refl
gap_nowhere (a ∷ []) none = refl
gap_nowhere (a ∷ b ∷ rest) none =
    ap (λ t. cond t (Some ([], rest)) (behind_byte a (around_gap (b ∷ rest)))) (none 0 (omega arith))
    ∙ ap (behind_byte a) (gap_nowhere (b ∷ rest) (λ k less. none (suc k) (omega (arith, less))))

-- groups that are eight together with zeros, and groups that are too many for one
pub filled : (before behind : List ℕ) → length before + length behind ≤ 7
    → filled_up before behind ≡ Some (before ++ replicate (8 - (length before + length behind)) 0 ++ behind)
filled before behind few =
    ap (λ b. cond b (Some (before ++ replicate (8 - (length before + length behind)) 0 ++ behind)) None) (le-leb (length before + length behind) 7 few)

pub not_filled : (before behind : List ℕ) → 8 ≤ length before + length behind → filled_up before behind ≡ None
not_filled before behind many =
    ap (λ b. cond b (Some (before ++ replicate (8 - (length before + length behind)) 0 ++ behind)) None) (lt-leb (length before + length behind) 7 (omega (arith, many)))

-- more than eight groups, or none at all
pub long_is_not_eight : (o : Option (List ℕ)) → IfSome o (λ groups. 8 < length groups) → (o >>= if_eight) ≡ None
long_is_not_eight None h = refl
long_is_not_eight (Some groups) h = ap (λ b. cond b (Some groups) None) (ne_eqb (length groups) 8 (λ e. omega (arith, e, h)))

pub long_before : (o os : Option (List ℕ)) → IfSome o (λ groups. 8 < length groups) → (o >>= λ before. os >>= λ behind. filled_up before behind) ≡ None
long_before None os h = refl
long_before (Some before) None h = refl
long_before (Some before) (Some behind) h = not_filled before behind (omega (arith, h))

pub long_behind : (before : List ℕ) (os : Option (List ℕ)) → IfSome os (λ groups. 8 < length groups) → (os >>= λ behind. filled_up before behind) ≡ None
long_behind before None h = refl
long_behind before (Some behind) h = not_filled before behind (omega (arith, h))

-- the number of eight groups, by its halves
pub halves : (groups : List ℕ) → length groups ≡ 8
    → number_of_groups groups
    ≡ number_of_groups (get_or groups 0 0 ∷ get_or groups 1 0 ∷ get_or groups 2 0 ∷ get_or groups 3 0 ∷ []) * 18446744073709551616
    + number_of_groups (get_or groups 4 0 ∷ get_or groups 5 0 ∷ get_or groups 6 0 ∷ get_or groups 7 0 ∷ [])
halves (a ∷ b ∷ c ∷ d ∷ e ∷ f ∷ g ∷ h ∷ []) l = omega arith
halves [] l = absurd (omega (arith, l))
halves (a ∷ []) l = absurd (omega (arith, l))
halves (a ∷ b ∷ []) l = absurd (omega (arith, l))
halves (a ∷ b ∷ c ∷ []) l = absurd (omega (arith, l))
halves (a ∷ b ∷ c ∷ d ∷ []) l = absurd (omega (arith, l))
halves (a ∷ b ∷ c ∷ d ∷ e ∷ []) l = absurd (omega (arith, l))
halves (a ∷ b ∷ c ∷ d ∷ e ∷ f ∷ []) l = absurd (omega (arith, l))
halves (a ∷ b ∷ c ∷ d ∷ e ∷ f ∷ g ∷ []) l = absurd (omega (arith, l))
halves (a ∷ b ∷ c ∷ d ∷ e ∷ f ∷ g ∷ h ∷ i ∷ others) l = absurd (omega (arith, l))

pub eight_number : (groups : List ℕ) (number : ℕ) → length groups ≡ 8 → number ≡ number_of_groups groups → Some number ≡ option_map number_of_groups (if_eight groups)
eight_number groups number l e = ap Some e ∙ sym (ap (λ b. option_map number_of_groups (cond b (Some groups) None)) (eq-eqb (length groups) 8 l))

pub other_number : (groups : List ℕ) → (length groups ≡ 8 → ⊥) → None ≡ option_map number_of_groups (if_eight groups)
other_number groups h = sym (ap (λ b. option_map number_of_groups (cond b (Some groups) None)) (ne_eqb (length groups) 8 h))

-- a word that begins with a text, and one that doesn't
pub begins_with : (text word digits : List ℕ) → bytes_eq (take (length text) word) text ≡ true → bytes_eq word (text ++ digits) ≡ bytes_eq (drop (length text) word) digits
begins_with [] word digits h = refl
begins_with (t ∷ text) [] digits h = absurd cc
begins_with (t ∷ text) (w ∷ word) digits h =
    let both = and_parts (w == t) (bytes_eq (take (length text) word) text) h in
    ap (λ b. b && bytes_eq word (text ++ digits)) both.0 ∙ begins_with text word digits both.1

pub begins_else : (text word digits : List ℕ) → bytes_eq (take (length text) word) text ≡ false → bytes_eq word (text ++ digits) ≡ false
begins_else [] word digits h = absurd cc
begins_else (t ∷ text) [] digits h = refl
begins_else (t ∷ text) (w ∷ word) digits h = by_first (w == t) (bytes_eq (take (length text) word) text) (bytes_eq word (text ++ digits)) h (begins_else text word digits)
  where
    by_first : (b x y : Bool) → (b && x) ≡ false → (x ≡ false → y ≡ false) → (b && y) ≡ false
    by_first false x y h k = refl
    by_first true x y h k = k h

-- a power of two below 2 ^ 128, as it is shifted
pub shifted : (k : ℕ) → k < 128 → 1 * 2 ^ k % 340282366920938463463374607431768211456 ≡ 2 ^ k
shifted k h = eqb-true _ _ (agree_below_at (λ k. 1 * 2 ^ k % 340282366920938463463374607431768211456 == 2 ^ k) (λ _. true) 128 k refl h)

pub shifted_some : (k : ℕ) → k < 128 → 0 < 1 * 2 ^ k % 340282366920938463463374607431768211456
shifted_some k h = ltb-true 0 _ (agree_below_at (λ k. ltb 0 (1 * 2 ^ k % 340282366920938463463374607431768211456)) (λ _. true) 128 k refl h)

-- all bits are host bits
pub all_bits : (addr len : ℕ) → addr < 2 ^ 128 → len ≡ 0 → (addr == 0) ≡ (addr % 2 ^ (128 - len) == 0)
all_bits addr len h e =
    ap (λ n. n == 0) (let whole : addr ≡ addr % 2 ^ 128 = omega arith in whole) ∙ ap (λ l. addr % 2 ^ (128 - l) == 0) (sym e)

-- the number behind a text
pub behind_text : (text word : List ℕ) (least most : ℕ) → bytes_eq (take (length text) word) text ≡ true
    → number_behind text least most word ≡ number_of least most (drop (length text) word)
behind_text text word least most h = ap (λ b. cond b (number_of least most (drop (length text) word)) None) h

pub behind_no_text : (text word : List ℕ) (least most : ℕ) → bytes_eq (take (length text) word) text ≡ false → number_behind text least most word ≡ None
behind_no_text text word least most h = ap (λ b. cond b (number_of least most (drop (length text) word)) None) h

pub same_number : {least least' most most' : ℕ} {word word' : List ℕ} {o : Option ℕ} → least' ≡ least → most' ≡ most → word' ≡ word
    → o ≡ number_of least' most' word' → number_of least most word ≡ o
same_number {least} {least'} {most} {most'} {word} {word'} {o} e f g h =
    sym (h ∙ ap (λ n. number_of n most' word') e ∙ ap (λ n. number_of least n word') f ∙ ap (number_of least most) g)

-- what a push that did not fail leaves
pub pushed : {T E X : Type 0} (r : Result T E) (x a b : X) → is_err r ≡ false → x ≡ cond (is_ok r) a b → x ≡ a
pushed (Ok done) x a b h e = e
pushed (Err error) x a b h e = absurd cc
