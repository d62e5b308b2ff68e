-- For `written_is_read_back`: words that are written, and read.
use Rattle.std.proofs.Common.{◌≡◌, ℕ, zero, suc, ◌+◌, ◌^◌, ◌<◌, ◌≤◌, Bool, true, false, cond, not, ◌&&◌, ◌||◌, ◌==◌, eqb, ltb, leb, List, [], ◌∷◌, ◌++◌, length, take, drop, get_or, map, All}
use Rattle.std.proofs.Common.{refl, sym, ap, ◌∙◌, add-one, arith, append_assoc, append-nil, length-append, ltb-true}
use Rattle.std.proofs.lemmas.Bool.{and_from, and_parts, le-leb, lt-ltb, eq-eqb, ne_eqb, not_from_false, or_right, cond-true, lt-leb}
use Rattle.std.proofs.lemmas.Bool.Decides.{nat_tests}
use Rattle.std.proofs.lemmas.Fmt.{decimal_is_IsNumeral, decimal_digit, first_decimal}
use Rattle.std.proofs.lemmas.List.Elements.{recursion_from_All, All-from_recursion}
use Rattle.std.proofs.lemmas.List.Splits.{slice_split_at, slice_split_none}
use Rattle.std.proofs.lemmas.Str.Parse.{digit_from_value}
use Rattle.std.specs.Char.{is_ascii_digit}
use Rattle.std.specs.List.{AllByRecursion, list_all, slice_split, before_first, after_first, position_or_len}
use Rattle.std.specs.Prelude.{Option, Some, None, is_some, Result, Ok, Err, decimal, bytes_eq}
use Rattle.std.specs.Str.Parse.{AllDigits, digits_value}
use Rattle.vg_model.specs.declared.fates.Leg.{Leg}
use Rattle.vg_model.specs.declared.kinds.DropError.{DropError}
use Rattle.vg_model.specs.declared.kinds.DropError.TheVariants as errors
use Rattle.vg_model.specs.Errors.{error_word}
use Rattle.vg_model.specs.Name.{IsName, is_name_byte}
use Rattle.vg_report.specs.declared.errors.ReportCause.{ReportCause}
use Rattle.vg_report.specs.declared.errors.ReportCause.TheVariants as causes
use Rattle.vg_report.specs.Forms.{Words, Form, read_on, gives, or_else, only_where, a_word_of, fixed, a_number, a_running_number, a_new_name, a_declared_name, an_error}
use Rattle.vg_report.specs.Lawful.{number_of, IsDeclared}
use Rattle.vg_report.specs.Text.{leg_text, legs_word}
use Rattle.vg_report.specs.Words.{◌>>=◌, name_of, is_decimal, number_within, number_below, leg_of, with_legs, legs_of, most_legs, error_of, words}
use Rattle.vg_report.proofs.HeadLemmas.{joined_text}
use Rattle.vg_report.proofs.ListLemmas.{all_weaken, bytes_eq_same}
use Rattle.vg_report.proofs.ShowLemmas.{IsLegOf}
use Rattle.vg_report.proofs.WordLemmas.{named}

-- what holds of each element
pub each-append : {X : Type 0} (P : X → Type 0) (xs ys : List X) → AllByRecursion P xs → AllByRecursion P ys → AllByRecursion P (xs ++ ys)
each-append P [] ys h k = k
each-append P (x ∷ xs) ys h k = (h.0, each-append P xs ys h.1 k)

each-from_test : (p : ℕ → Bool) (xs : List ℕ) → list_all p xs ≡ true → AllByRecursion (λ x. p x ≡ true) xs
each-from_test p [] h = tt
each-from_test p (x ∷ xs) h = let both = and_parts (p x) (list_all p xs) h in (both.0, each-from_test p xs both.1)

test-from_each : (p : ℕ → Bool) (xs : List ℕ) → AllByRecursion (λ x. p x ≡ true) xs → list_all p xs ≡ true
test-from_each p [] h = refl
test-from_each p (x ∷ xs) h = and_from (p x) (list_all p xs) h.0 (test-from_each p xs h.1)

-- a byte that parts neither words nor lines
abbrev pub is_word_byte : ℕ → Bool
is_word_byte byte = not (byte == 32) && not (byte == 10)

abbrev pub AreWordBytes : List ℕ → Type 0
AreWordBytes bytes = AllByRecursion (λ b. is_word_byte b ≡ true) bytes

-- a word that is read as it stands
pub record IsWord (word : List ℕ) : Type 0 where
  pub some : 0 < length word
  pub bytes : AreWordBytes word

abbrev pub AreWords : Words → Type 0
AreWords ws = AllByRecursion IsWord ws

-- fixed words
pub literal : (word : List ℕ) → ltb 0 (length word) ≡ true → list_all is_word_byte word ≡ true → IsWord word
literal word some bytes = record { some = ltb-true 0 (length word) some; bytes = each-from_test is_word_byte word bytes }

-- names
name_byte : (b : ℕ) → is_name_byte b ≡ true → is_word_byte b ≡ true
name_byte b h = grind (arith, nat_tests)

pub name_is_word : (name : List ℕ) → IsName name → IsWord name
name_is_word name h = record {
  some = (let some = h.some in omega (arith, some));
  bytes = all_weaken (λ b. is_name_byte b ≡ true) (λ b. is_word_byte b ≡ true) name_byte name (recursion_from_All (λ b. is_name_byte b ≡ true) name h.each);
}

-- numbers
abbrev AreDigits : List ℕ → Type 0
AreDigits bytes = AllByRecursion (λ b. is_ascii_digit b ≡ true) bytes

digits_are : (bytes : List ℕ) → AllDigits 10 bytes → AreDigits bytes
digits_are [] h = tt
digits_are (b ∷ bs) h = (let within = digit_from_value b h.0 in and_from _ _ (le-leb 48 b within.0) (le-leb b 57 within.1), digits_are bs h.1)

decimal_digits : (n : ℕ) → n < 2 ^ 64 → AreDigits (decimal n)
decimal_digits n h = digits_are (decimal n) (decimal_is_IsNumeral n h).0.1

decimal_some : (n : ℕ) → n < 2 ^ 64 → 0 < length (decimal n)
decimal_some n h = (decimal_is_IsNumeral n h).0.0

no_zero_in_front : (n : ℕ) → n < 2 ^ 64 → (length (decimal n) == 1 || not (get_or (decimal n) 0 0 == 48)) ≡ true
no_zero_in_front zero h = ap (λ w. length w == 1 || not (get_or w 0 0 == 48)) (decimal_digit 0 (omega arith))
no_zero_in_front (suc n) h =
    or_right (length (decimal (suc n)) == 1) (not (get_or (decimal (suc n)) 0 0 == 48))
    (not_from_false _ (ne_eqb _ 48 (λ e. omega (arith, e, first_decimal (suc n) (omega arith) h))))

decimal_is_decimal : (n : ℕ) → n < 2 ^ 64 → is_decimal (decimal n) ≡ true
decimal_is_decimal n h =
    and_from _ _ (and_from _ _ (lt-ltb 0 (length (decimal n)) (decimal_some n h)) (test-from_each is_ascii_digit (decimal n) (decimal_digits n h)))
    (no_zero_in_front n h)

number_by : (least most n : ℕ) (word : List ℕ) → is_decimal word ≡ true → digits_value 10 word ≡ n → least ≤ n → n ≤ most → number_within least most word ≡ Some n
number_by least most n word d e low high =
    cond-true (is_decimal word && leb least (digits_value 10 word) && leb (digits_value 10 word) most) (Some (digits_value 10 word)) None
    (and_from _ _ (and_from _ _ d (le-leb least (digits_value 10 word) (omega (arith, e, low)))) (le-leb (digits_value 10 word) most (omega (arith, e, high))))
    ∙ ap (λ v. Some v) e

below_by : (bound n : ℕ) (word : List ℕ) → is_decimal word ≡ true → digits_value 10 word ≡ n → n < bound → number_below bound word ≡ Some n
below_by bound n word d e less =
    cond-true (is_decimal word && ltb (digits_value 10 word) bound) (Some (digits_value 10 word)) None (and_from _ _ d (lt-ltb (digits_value 10 word) bound (omega (arith, e, less))))
    ∙ ap (λ v. Some v) e

digit_byte : (b : ℕ) → is_ascii_digit b ≡ true → is_word_byte b ≡ true
digit_byte b h = grind (arith, nat_tests)

no_colon : (b : ℕ) → is_ascii_digit b ≡ true → (b == 58) ≡ false
no_colon b h = grind (arith, nat_tests)

no_comma : (b : ℕ) → is_ascii_digit b ≡ true → (b == 44) ≡ false
no_comma b h = grind (arith, nat_tests)

digits_are_word_bytes : (n : ℕ) → n < 2 ^ 64 → AreWordBytes (decimal n)
digits_are_word_bytes n h = all_weaken (λ b. is_ascii_digit b ≡ true) (λ b. is_word_byte b ≡ true) digit_byte (decimal n) (decimal_digits n h)

pub number_is_word : (n : ℕ) → n < 2 ^ 64 → IsWord (decimal n)
number_is_word n h = record { some = decimal_some n h; bytes = digits_are_word_bytes n h }

-- errors
pub error_is_word : (error : DropError) → IsWord (error_word error)
error_is_word errors.Short = literal _ refl refl
error_is_word errors.TooLong = literal _ refl refl
error_is_word errors.UnknownType = literal _ refl refl
error_is_word errors.WrongMac = literal _ refl refl
error_is_word errors.BadVersion = literal _ refl refl
error_is_word errors.BadHeaderLength = literal _ refl refl
error_is_word errors.BadLength = literal _ refl refl
error_is_word errors.BadChecksum = literal _ refl refl
error_is_word errors.TtlZero = literal _ refl refl
error_is_word errors.Unchecked = literal _ refl refl
error_is_word errors.NoRoute = literal _ refl refl
error_is_word errors.RouteDrop = literal _ refl refl
error_is_word errors.Local = literal _ refl refl
error_is_word errors.TtlExpired = literal _ refl refl
error_is_word errors.MtuExceeded = literal _ refl refl
error_is_word errors.InterfaceDown = literal _ refl refl
error_is_word errors.Congestion = literal _ refl refl
error_is_word errors.HandoffLimit = literal _ refl refl
error_is_word errors.Blackhole = literal _ refl refl

error_is_read : (error : DropError) → error_of (error_word error) ≡ Some error
error_is_read errors.Short = refl
error_is_read errors.TooLong = refl
error_is_read errors.UnknownType = refl
error_is_read errors.WrongMac = refl
error_is_read errors.BadVersion = refl
error_is_read errors.BadHeaderLength = refl
error_is_read errors.BadLength = refl
error_is_read errors.BadChecksum = refl
error_is_read errors.TtlZero = refl
error_is_read errors.Unchecked = refl
error_is_read errors.NoRoute = refl
error_is_read errors.RouteDrop = refl
error_is_read errors.Local = refl
error_is_read errors.TtlExpired = refl
error_is_read errors.MtuExceeded = refl
error_is_read errors.InterfaceDown = refl
error_is_read errors.Congestion = refl
error_is_read errors.HandoffLimit = refl
error_is_read errors.Blackhole = refl

-- what stands before and after the first element that passes
place_at : (p : ℕ → Bool) (xs : List ℕ) (y : ℕ) (ys : List ℕ) → AllByRecursion (λ x. p x ≡ false) xs → p y ≡ true → position_or_len p (xs ++ y ∷ ys) ≡ length xs
place_at p [] y ys h e = ap (λ b. cond (not b) (1 + position_or_len p ys) 0) e
place_at p (x ∷ xs) y ys h e =
    ap (λ b. cond (not b) (1 + position_or_len p (xs ++ y ∷ ys)) 0) h.0 ∙ ap (λ n. 1 + n) (place_at p xs y ys h.1 e) ∙ omega arith

take_front : (xs ys : List ℕ) → take (length xs) (xs ++ ys) ≡ xs
take_front [] ys = refl
take_front (x ∷ xs) ys = ap (λ r. x ∷ r) (take_front xs ys)

drop_front : (xs : List ℕ) (y : ℕ) (ys : List ℕ) → drop (suc (length xs)) (xs ++ y ∷ ys) ≡ ys
drop_front [] y ys = refl
drop_front (x ∷ xs) y ys = drop_front xs y ys

before_first_at : (p : ℕ → Bool) (xs : List ℕ) (y : ℕ) (ys : List ℕ) → AllByRecursion (λ x. p x ≡ false) xs → p y ≡ true → before_first p (xs ++ y ∷ ys) ≡ xs
before_first_at p xs y ys h e = ap (λ n. take n (xs ++ y ∷ ys)) (place_at p xs y ys h e) ∙ take_front xs (y ∷ ys)

after_first_at : (p : ℕ → Bool) (xs : List ℕ) (y : ℕ) (ys : List ℕ) → AllByRecursion (λ x. p x ≡ false) xs → p y ≡ true → after_first p (xs ++ y ∷ ys) ≡ ys
after_first_at p xs y ys h e =
    ap (λ n. drop n (xs ++ y ∷ ys)) (ap (λ n. n + 1) (place_at p xs y ys h e) ∙ add-one (length xs)) ∙ drop_front xs y ys

-- legs
number_read_below : (bound n : ℕ) → bound ≤ 2 ^ 64 → n < bound → number_below bound (decimal n) ≡ Some n
number_read_below bound n few less =
    let small : n < 2 ^ 64 = omega (arith, few, less) in
    below_by bound n (decimal n) (decimal_is_decimal n small) (decimal_is_IsNumeral n small).1 less

abbrev made_leg : ℕ → ℕ → Option Leg
made_leg worker generation = Some (record { worker = worker; generation = generation })

leg_by : (workers generations : ℕ) (text before after : List ℕ) (w g : ℕ) → before_first (λ b. b == 58) text ≡ before → after_first (λ b. b == 58) text ≡ after
    → number_below workers before ≡ Some w → number_below generations after ≡ Some g
    → leg_of workers generations text ≡ Some (record { worker = w; generation = g })
leg_by workers generations text before after w g e f h k =
    ap (λ (o : Option ℕ). o >>= λ worker. number_below generations (after_first (λ b. b == 58) text) >>= λ generation. made_leg worker generation)
    (ap (number_below workers) e ∙ h)
    ∙ ap (λ (o : Option ℕ). o >>= λ generation. made_leg w generation) (ap (number_below generations) f ∙ k)

leg_is_read : (workers generations : ℕ) → workers ≤ 2 ^ 64 → generations ≤ 2 ^ 64 → (leg : Leg) → IsLegOf workers generations leg
    → leg_of workers generations (leg_text leg) ≡ Some leg
leg_is_read workers generations few few' leg h =
    let less = h.0 in
    let clean = all_weaken (λ b. is_ascii_digit b ≡ true) (λ b. (b == 58) ≡ false) no_colon (decimal leg.worker) (decimal_digits leg.worker (omega (arith, less, few))) in
    leg_by workers generations (leg_text leg) (decimal leg.worker) (decimal leg.generation) leg.worker leg.generation
    (before_first_at (λ b. b == 58) (decimal leg.worker) 58 (decimal leg.generation) clean refl)
    (after_first_at (λ b. b == 58) (decimal leg.worker) 58 (decimal leg.generation) clean refl)
    (number_read_below workers leg.worker few h.0) (number_read_below generations leg.generation few' h.1)

legs_behind : (workers generations : ℕ) → workers ≤ 2 ^ 64 → generations ≤ 2 ^ 64 → (before legs : List Leg) → AllByRecursion (IsLegOf workers generations) legs
    → length before + length legs ≤ 4 → with_legs workers generations before (map leg_text legs) ≡ Some (before ++ legs)
legs_behind workers generations few few' before [] h short = ap (λ l. Some l) (sym (append-nil before))
legs_behind workers generations few few' before (leg ∷ legs) h short =
    ap (λ b. cond b None (leg_of workers generations (leg_text leg) >>= λ l. with_legs workers generations (before ++ l ∷ []) (map leg_text legs)))
    (lt-leb most_legs (length before) (omega (arith, short)))
    ∙ ap (λ (o : Option Leg). o >>= λ l. with_legs workers generations (before ++ l ∷ []) (map leg_text legs)) (leg_is_read workers generations few few' leg h.0)
    ∙ legs_behind workers generations few few' (before ++ leg ∷ []) legs h.1 (omega (arith, short, length-append before (leg ∷ [])))
    ∙ ap (λ l. Some l) (append_assoc before (leg ∷ []) legs)

leg_bytes : (P : ℕ → Type 0) → ((b : ℕ) → is_ascii_digit b ≡ true → P b) → P 58 → (leg : Leg) → leg.worker < 2 ^ 64 → leg.generation < 2 ^ 64
    → AllByRecursion P (leg_text leg)
leg_bytes P digit colon leg w g =
    each-append P (decimal leg.worker) (58 ∷ decimal leg.generation) (all_weaken (λ b. is_ascii_digit b ≡ true) P digit (decimal leg.worker) (decimal_digits leg.worker w))
    (colon, all_weaken (λ b. is_ascii_digit b ≡ true) P digit (decimal leg.generation) (decimal_digits leg.generation g))

split_legs : (leg : Leg) (legs : List Leg) → AllByRecursion (λ (l : Leg). (l.worker < 2 ^ 64) × (l.generation < 2 ^ 64)) (leg ∷ legs)
    → slice_split (λ b. b == 44) (legs_word (leg ∷ legs)) ≡ map leg_text (leg ∷ legs)
split_legs leg [] h =
    slice_split_none (λ b. b == 44) (leg_text leg) (All-from_recursion (λ b. (b == 44) ≡ false) (leg_text leg) (leg_bytes (λ b. (b == 44) ≡ false) no_comma refl leg h.0.0 h.0.1))
split_legs leg (next ∷ legs) h =
    slice_split_at (λ b. b == 44) (leg_text leg) 44 (legs_word (next ∷ legs))
    (All-from_recursion (λ b. (b == 44) ≡ false) (leg_text leg) (leg_bytes (λ b. (b == 44) ≡ false) no_comma refl leg h.0.0 h.0.1)) refl
    ∙ ap (λ r. leg_text leg ∷ r) (split_legs next legs h.1)

small_leg : (workers generations : ℕ) → workers ≤ 2 ^ 64 → generations ≤ 2 ^ 64 → (l : Leg) → IsLegOf workers generations l → (l.worker < 2 ^ 64) × (l.generation < 2 ^ 64)
small_leg workers generations few few' l h = let w = h.0 in let g = h.1 in (omega (arith, w, few), omega (arith, g, few'))

legs_are_read : (workers generations : ℕ) → workers ≤ 2 ^ 64 → generations ≤ 2 ^ 64 → (legs : List Leg) → 0 < length legs → length legs ≤ 4
    → AllByRecursion (IsLegOf workers generations) legs → legs_of workers generations (legs_word legs) ≡ Some legs
legs_are_read workers generations few few' [] some short h = absurd (omega (arith, some))
legs_are_read workers generations few few' (leg ∷ legs) some short h =
    ap (with_legs workers generations []) (split_legs leg legs (all_weaken (IsLegOf workers generations) (λ l. (l.worker < 2 ^ 64) × (l.generation < 2 ^ 64)) (small_leg workers generations few few') (leg ∷ legs) h))
    ∙ legs_behind workers generations few few' [] (leg ∷ legs) h (omega (arith, short))

legs_bytes : (legs : List Leg) → AllByRecursion (λ (l : Leg). (l.worker < 2 ^ 64) × (l.generation < 2 ^ 64)) legs → AreWordBytes (legs_word legs)
legs_bytes [] h = tt
legs_bytes (leg ∷ []) h = leg_bytes (λ b. is_word_byte b ≡ true) digit_byte refl leg h.0.0 h.0.1
legs_bytes (leg ∷ next ∷ legs) h =
    each-append (λ b. is_word_byte b ≡ true) (leg_text leg) (44 ∷ legs_word (next ∷ legs)) (leg_bytes (λ b. is_word_byte b ≡ true) digit_byte refl leg h.0.0 h.0.1)
    (refl, legs_bytes (next ∷ legs) h.1)

leg_some : (leg : Leg) (more : List ℕ) → 0 < length (leg_text leg ++ more)
leg_some leg more = omega (arith, length-append (leg_text leg) more, length-append (decimal leg.worker) (58 ∷ decimal leg.generation))

legs_some : (legs : List Leg) → 0 < length legs → 0 < length (legs_word legs)
legs_some [] some = absurd (omega (arith, some))
legs_some (leg ∷ []) some = omega (arith, length-append (decimal leg.worker) (58 ∷ decimal leg.generation))
legs_some (leg ∷ next ∷ legs) some = leg_some leg (44 ∷ legs_word (next ∷ legs))

pub legs_is_word : (workers generations : ℕ) → workers ≤ 2 ^ 64 → generations ≤ 2 ^ 64 → (legs : List Leg) → 0 < length legs → AllByRecursion (IsLegOf workers generations) legs
    → IsWord (legs_word legs)
legs_is_word workers generations few few' legs some h = record {
  some = legs_some legs some;
  bytes = legs_bytes legs (all_weaken (IsLegOf workers generations) (λ l. (l.worker < 2 ^ 64) × (l.generation < 2 ^ 64)) (small_leg workers generations few few') legs h);
}

-- one form behind the other
pub reads_then : {X Y : Type 0} (next : X → Form Y) (r : Result (X × Words) ReportCause) (x : X) (mid : Words) (z : Result (Y × Words) ReportCause)
    → r ≡ Ok (x, mid) → next x mid ≡ z → read_on r next ≡ z
reads_then next r x mid z e k = ap (λ a. read_on a next) e ∙ k

-- words of a class
pub class_reads : {X : Type 0} (class : List ℕ → Option X) (cause : ReportCause) (word : List ℕ) (x : X) (left : Words) → 0 < length word → class word ≡ Some x
    → a_word_of class cause (word ∷ left) ≡ Ok (x, left)
class_reads class cause word x left some e =
    ap (λ b. read_on (cond b (Err causes.Form) (Ok (word, left))) (λ w. or_else (class w) cause)) (ne_eqb (length word) 0 (λ k. omega (arith, some, k)))
    ∙ ap (λ o. or_else o cause left) e

abbrev where_true : Bool → Option (Unit {0})
where_true b = cond b (Some tt) None

pub fixed_reads : (text : List ℕ) (left : Words) → 0 < length text → fixed text (text ∷ left) ≡ Ok (tt, left)
fixed_reads text left some =
    class_reads {X = Unit {0}} (λ word. cond (bytes_eq word text) (Some tt) None) causes.Form text tt left some (ap where_true (bytes_eq_same text))

pub number_reads : (least most n : ℕ) (left : Words) → n < 2 ^ 64 → least ≤ n → n ≤ most → a_number least most (decimal n ∷ left) ≡ Ok (n, left)
number_reads least most n left small low high =
    class_reads (number_within least most) causes.Number (decimal n) n left (decimal_some n small)
    (number_by least most n (decimal n) (decimal_is_decimal n small) (decimal_is_IsNumeral n small).1 low high)

running_by : (n : ℕ) (word : List ℕ) (left : Words) → 0 < length word → is_decimal word ≡ true → digits_value 10 word ≡ n → a_running_number n (word ∷ left) ≡ Ok (tt, left)
running_by n word left some d v =
    ap (λ b. read_on (cond b (Err causes.Form) (Ok (word, left)))
    (λ w ws. read_on (only_where (is_decimal w) causes.Number ws) (λ (x : Unit {0}). only_where (eqb (digits_value 10 w) n) causes.Order))) (ne_eqb (length word) 0 (λ k. omega (arith, some, k)))
    ∙ ap (λ b. read_on (only_where b causes.Number left) (λ (x : Unit {0}). only_where (eqb (digits_value 10 word) n) causes.Order)) d
    ∙ ap (λ b. only_where b causes.Order left) (eq-eqb (digits_value 10 word) n v)

pub running_reads : (n : ℕ) (left : Words) → n < 2 ^ 64 → a_running_number n (decimal n ∷ left) ≡ Ok (tt, left)
running_reads n left small = running_by n (decimal n) left (decimal_some n small) (decimal_is_decimal n small) (decimal_is_IsNumeral n small).1

name_reads : (name : List ℕ) (left : Words) → IsName name → a_word_of name_of causes.Unknown (name ∷ left) ≡ Ok (name, left)
name_reads name left h =
    let some = h.some in
    class_reads name_of causes.Unknown name name left (omega (arith, some)) (ap (λ b. cond b (Some name) None) (named name h))

pub new_name_reads : (taken : List (List ℕ)) (name : List ℕ) (left : Words) → IsName name → number_of taken name ≡ None → a_new_name taken (name ∷ left) ≡ Ok (name, left)
new_name_reads taken name left h none =
    reads_then _ (a_word_of name_of causes.Unknown (name ∷ left)) name left (Ok (name, left)) (name_reads name left h)
    (ap (λ o. read_on (only_where (not (is_some o)) causes.Unknown left) (λ (x : Unit {0}). gives name)) none)

pub declared_reads : (declared : List (List ℕ)) (name : List ℕ) (left : Words) → IsName name → IsDeclared declared name
    → a_declared_name declared (name ∷ left) ≡ Ok (name, left)
declared_reads declared name left h is =
    reads_then _ (a_word_of name_of causes.Unknown (name ∷ left)) name left (Ok (name, left)) (name_reads name left h)
    (ap (λ b. read_on (only_where b causes.Unknown left) (λ (x : Unit {0}). gives name)) is)

pub error_reads : (error : DropError) (left : Words) → an_error (error_word error ∷ left) ≡ Ok (error, left)
error_reads error left = class_reads error_of causes.Unknown (error_word error) error left (error_is_word error).some (error_is_read error)

pub legs_reads : (workers generations : ℕ) → workers ≤ 2 ^ 64 → generations ≤ 2 ^ 64 → (legs : List Leg) (left : Words) → 0 < length legs → length legs ≤ 4
    → AllByRecursion (IsLegOf workers generations) legs → a_word_of (legs_of workers generations) causes.Number (legs_word legs ∷ left) ≡ Ok (legs, left)
legs_reads workers generations few few' legs left some short h =
    class_reads (legs_of workers generations) causes.Number (legs_word legs) legs left (legs_some legs some) (legs_are_read workers generations few few' legs some short h)

-- the words of a line
no_blank : (b : ℕ) → is_word_byte b ≡ true → (b == 32) ≡ false
no_blank b h = grind (arith, nat_tests)

no_feed : (b : ℕ) → is_word_byte b ≡ true → (b == 10) ≡ false
no_feed b h = grind (arith, nat_tests)

without_blanks : (w : List ℕ) → AreWordBytes w → All (λ b. (b == 32) ≡ false) w
without_blanks w h = All-from_recursion (λ b. (b == 32) ≡ false) w (all_weaken (λ b. is_word_byte b ≡ true) (λ b. (b == 32) ≡ false) no_blank w h)

pub words_are_read : (w : List ℕ) (ws : Words) → AreWords (w ∷ ws) → words (joined_text (w ∷ ws)) ≡ w ∷ ws
words_are_read w [] h = slice_split_none (λ b. b == 32) w (without_blanks w h.0.bytes)
words_are_read w (v ∷ ws) h =
    slice_split_at (λ b. b == 32) w 32 (joined_text (v ∷ ws)) (without_blanks w h.0.bytes) refl ∙ ap (λ r. w ∷ r) (words_are_read v ws h.1)

-- a line has no line feed
pub no_feeds : (ws : Words) → AreWords ws → AllByRecursion (λ b. (b == 10) ≡ false) (joined_text ws)
no_feeds [] h = tt
no_feeds (w ∷ []) h = all_weaken (λ b. is_word_byte b ≡ true) (λ b. (b == 10) ≡ false) no_feed w h.0.bytes
no_feeds (w ∷ v ∷ ws) h =
    each-append (λ b. (b == 10) ≡ false) w (32 ∷ joined_text (v ∷ ws)) (all_weaken (λ b. is_word_byte b ≡ true) (λ b. (b == 10) ≡ false) no_feed w h.0.bytes)
    (refl, no_feeds (v ∷ ws) h.1)
