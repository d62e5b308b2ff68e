-- For `read_is_lawful`: what forms read, which are the words that stand there; where a form refuses, the cause is a fault and no want of memory.
use Rattle.std.proofs.Common.{◌≡◌, ◌≢◌, ℕ, suc, ◌+◌, ◌^◌, ◌<◌, ◌≤◌, Bool, true, false, cond, not, ◌&&◌, ◌||◌, eqb, ltb, leb, List, [], ◌∷◌, ◌++◌, length, take, drop, get_or, map}
use Rattle.std.proofs.Common.{refl, sym, ap, subst, ◌∙◌, arith, ltb-true, leb-true, leb-false, eqb-true, append_assoc, append-nil, length-append, length-drop}
use Rattle.std.proofs.Math.ListN.{length-map}
use Rattle.std.proofs.lemmas.Bool.{and_parts}
use Rattle.std.proofs.lemmas.Fmt.{decimal-digits_value}
use Rattle.std.proofs.lemmas.List.Splits.{join_with_byte-slice_split, length-slice_split}
use Rattle.std.specs.Char.{is_ascii_digit}
use Rattle.std.specs.List.{AllByRecursion, position_or_len, before_first, after_first, list_all, slice_split, join_with_byte}
use Rattle.std.specs.Prelude.{Option, Some, None, is_some, IfSome, Result, Ok, Err, find, decimal, bytes_eq}
use Rattle.std.specs.Str.Parse.{digits_value}
use Rattle.vg_model.specs.declared.fates.Leg.{Leg}
use Rattle.vg_model.specs.declared.kinds.DropError.{DropError}
use Rattle.vg_model.specs.Errors.{error_word, all_errors}
use Rattle.vg_model.specs.Name.{IsName, is_name}
use Rattle.vg_report.specs.declared.errors.ReportCause.{ReportCause}
use Rattle.vg_report.specs.declared.errors.ReportCause.TheVariants as causes
use Rattle.vg_report.specs.Forms.{Words, Form, read_on, gives, or_else, only_where, end_of_line, a_word, a_word_of, fixed, a_number, a_running_number, a_new_name, a_declared_name, an_error}
use Rattle.vg_report.specs.Lawful.{number_of, IsDeclared}
use Rattle.vg_report.specs.Text.{leg_text, legs_word}
use Rattle.vg_report.specs.Words.{◌>>=◌, name_of, is_decimal, number_within, number_below, leg_of, with_legs, legs_of, most_legs, error_of}
use Rattle.vg_report.proofs.ListLemmas.{bytes_eq_true, all_weaken}
use Rattle.vg_report.proofs.WordLemmas.{decimals, decimal_digits, decimal_some, name_by_test}

-- a value and the words behind it have this property, or the cause isn't want of memory
abbrev pub Shown : {X : Type 0} → (X → Words → Type 0) → Result (X × Words) ReportCause → Type 0
Shown Q (Ok found) = Q found.0 found.1
Shown Q (Err cause) = cause ≢ causes.Memory

pub shown_then : {X Y : Type 0} (P : X → Words → Type 0) (Q : Y → Words → Type 0) (next : X → Form Y) (r : Result (X × Words) ReportCause)
    → Shown P r → ((x : X) (left : Words) → P x left → Shown Q (next x left)) → Shown Q (read_on r next)
shown_then P Q next (Ok found) p k = k found.0 found.1 p
shown_then P Q next (Err cause) p k = p

-- a test
pub shown_only : (test : Bool) (cause : ReportCause) (ws : Words) → cause ≢ causes.Memory
    → Shown (λ x left. (test ≡ true) × (left ≡ ws)) (only_where test cause ws)
shown_only true cause ws other = (refl, refl)
shown_only false cause ws other = other

-- the end of the line
pub shown_end : (ws : Words) → Shown (λ x left. ws ≡ []) (end_of_line ws)
shown_end [] = refl
shown_end (word ∷ ws) = λ e. cc

-- any word
pub shown_word : (ws : Words) → Shown (λ word left. ws ≡ word ∷ left) (a_word ws)
shown_word [] = λ e. cc
shown_word (word ∷ ws) = by_test (eqb (length word) 0)
  where
    by_test : (b : Bool) → Shown (λ w left. word ∷ ws ≡ w ∷ left) (cond b (Err causes.Form) (Ok (word, ws)))
    by_test true = λ e. cc
    by_test false = refl

-- a word of a class, by how its values are written
pub shown_class : {X : Type 0} (write : X → List ℕ) (P : X → Type 0) (class : List ℕ → Option X) (cause : ReportCause) → cause ≢ causes.Memory
    → ((word : List ℕ) → IfSome (class word) (λ x. (word ≡ write x) × P x)) → (ws : Words)
    → Shown (λ x left. (ws ≡ write x ∷ left) × P x) (a_word_of class cause ws)
shown_class {X} write P class cause other h ws =
    shown_then (λ word left. ws ≡ word ∷ left) (λ x left. (ws ≡ write x ∷ left) × P x) (λ word. or_else (class word) cause) (a_word ws) (shown_word ws)
    (λ word left e. by_option word left e (class word) (h word))
  where
    by_option : (word : List ℕ) (left : Words) → ws ≡ word ∷ left → (o : Option X) → IfSome o (λ x. (word ≡ write x) × P x)
        → Shown (λ x left. (ws ≡ write x ∷ left) × P x) (or_else o cause left)
    by_option word left e (Some x) p = (e ∙ ap (λ w. w ∷ left) p.0, p.1)
    by_option word left e None p = other

-- a fixed word
pub shown_fixed : (text : List ℕ) (ws : Words) → Shown (λ x left. ws ≡ text ∷ left) (fixed text ws)
shown_fixed text ws =
    weaker (fixed text ws)
    (shown_class {X = Unit {0}} (λ x. text) (λ x. Unit {0}) (λ word. cond (bytes_eq word text) (Some tt) None) causes.Form (λ e. cc)
    (λ word. by_test word (bytes_eq word text) refl) ws)
  where
    by_test : (word : List ℕ) (b : Bool) → bytes_eq word text ≡ b → IfSome {T = Unit {0}} (cond b (Some tt) None) (λ x. (word ≡ text) × Unit {0})
    by_test word true e = (bytes_eq_true word text e, tt)
    by_test word false e = tt

    weaker : (r : Result (Unit {0} × Words) ReportCause) → Shown (λ x left. (ws ≡ text ∷ left) × Unit {0}) r → Shown (λ x left. ws ≡ text ∷ left) r
    weaker (Ok found) p = p.0
    weaker (Err cause) p = p

-- decimal digits are written so
one_zero : (word : List ℕ) → is_decimal word ≡ true → get_or word 0 0 ≡ 48 → length word ≡ 1
one_zero word h zero =
    by_test (eqb (length word) 1) refl
    (subst (λ n. (eqb (length word) 1 || not (eqb n 48)) ≡ true) zero (and_parts (ltb 0 (length word) && list_all is_ascii_digit word) _ h).1)
  where
    by_test : (b : Bool) → eqb (length word) 1 ≡ b → (b || false) ≡ true → length word ≡ 1
    by_test true e k = eqb-true _ _ e
    by_test false e k = absurd cc

pub decimal_is : (word : List ℕ) → is_decimal word ≡ true → digits_value 10 word < 2 ^ 64 → word ≡ decimal (digits_value 10 word)
decimal_is word h small = sym (decimal-digits_value decimals word (decimal_digits word h) (decimal_some word h) (one_zero word h) small)

-- a number
pub within_is : (least most : ℕ) → most < 2 ^ 64 → (word : List ℕ)
    → IfSome (number_within least most word) (λ n. (word ≡ decimal n) × ((least ≤ n) × (n ≤ most)))
within_is least most small word = by_test ((is_decimal word && leb least (digits_value 10 word)) && leb (digits_value 10 word) most) refl
  where
    by_test : (b : Bool) → ((is_decimal word && leb least (digits_value 10 word)) && leb (digits_value 10 word) most) ≡ b
        → IfSome (cond b (Some (digits_value 10 word)) None) (λ n. (word ≡ decimal n) × ((least ≤ n) × (n ≤ most)))
    by_test true e =
        let parts = and_parts (is_decimal word && leb least (digits_value 10 word)) (leb (digits_value 10 word) most) e in
        let front = and_parts (is_decimal word) (leb least (digits_value 10 word)) parts.0 in
        let high : digits_value 10 word ≤ most = leb-true (digits_value 10 word) most parts.1 in
        (decimal_is word front.0 (omega (arith, high, small)), (leb-true least (digits_value 10 word) front.1, high))
    by_test false e = tt

pub shown_number : (least most : ℕ) → most < 2 ^ 64 → (ws : Words)
    → Shown (λ n left. (ws ≡ decimal n ∷ left) × ((least ≤ n) × (n ≤ most))) (a_number least most ws)
shown_number least most small =
    shown_class decimal (λ n. (least ≤ n) × (n ≤ most)) (number_within least most) causes.Number (λ e. cc) (within_is least most small)

-- a running number
pub shown_running : (next : ℕ) → next < 2 ^ 64 → (ws : Words) → Shown (λ x left. ws ≡ decimal next ∷ left) (a_running_number next ws)
shown_running next small ws =
    shown_then (λ word left. ws ≡ word ∷ left) (λ (x : Unit {0}) left. ws ≡ decimal next ∷ left) _ (a_word ws) (shown_word ws) (λ word left e.
    shown_then (λ x left'. (is_decimal word ≡ true) × (left' ≡ left)) (λ (x : Unit {0}) left'. ws ≡ decimal next ∷ left') _ (only_where (is_decimal word) causes.Number left)
    (shown_only (is_decimal word) causes.Number left (λ k. cc)) (λ x left' d. by_value word left left' e d.0 d.1 (eqb (digits_value 10 word) next) refl))
  where
    by_value : (word : List ℕ) (left left' : Words) → ws ≡ word ∷ left → is_decimal word ≡ true → left' ≡ left → (b : Bool) → eqb (digits_value 10 word) next ≡ b
        → Shown (λ x end. ws ≡ decimal next ∷ end) (only_where b causes.Order left')
    by_value word left left' e d same true v =
        let value : digits_value 10 word ≡ next = eqb-true _ _ v in
        e ∙ ap (λ w. w ∷ left) (decimal_is word d (omega (arith, value, small)) ∙ ap decimal value) ∙ ap (λ l. decimal next ∷ l) (sym same)
    by_value word left left' e d same false v = λ k. cc

-- a name
pub name_is : (word : List ℕ) → IfSome (name_of word) (λ name. (word ≡ name) × IsName name)
name_is word = by_test (is_name word) refl
  where
    by_test : (b : Bool) → is_name word ≡ b → IfSome (cond b (Some word) None) (λ name. (word ≡ name) × IsName name)
    by_test true e = (refl, name_by_test word e)
    by_test false e = tt

shown_name : (ws : Words) → Shown (λ name left. (ws ≡ name ∷ left) × IsName name) (a_word_of name_of causes.Unknown ws)
shown_name = shown_class (λ name. name) IsName name_of causes.Unknown (λ e. cc) name_is

-- a new name, and a declared one
pub shown_new_name : (taken : List (List ℕ)) (ws : Words)
    → Shown (λ name left. (ws ≡ name ∷ left) × IsName name × (number_of taken name ≡ None)) (a_new_name taken ws)
shown_new_name taken ws =
    shown_then (λ name left. (ws ≡ name ∷ left) × IsName name) (λ name left. (ws ≡ name ∷ left) × IsName name × (number_of taken name ≡ None)) _
    (a_word_of name_of causes.Unknown ws) (shown_name ws) (λ name left h. by_number name left h (number_of taken name) refl)
  where
    by_number : (name : List ℕ) (left : Words) → (ws ≡ name ∷ left) × IsName name → (o : Option ℕ) → number_of taken name ≡ o
        → Shown (λ name left. (ws ≡ name ∷ left) × IsName name × (number_of taken name ≡ None))
        (read_on (only_where (not (is_some o)) causes.Unknown left) (λ x. gives name))
    by_number name left h (Some n) e = λ k. cc
    by_number name left h None e = (h.0, h.1, e)

pub shown_declared : (declared : List (List ℕ)) (ws : Words)
    → Shown (λ name left. (ws ≡ name ∷ left) × IsName name × IsDeclared declared name) (a_declared_name declared ws)
shown_declared declared ws =
    shown_then (λ name left. (ws ≡ name ∷ left) × IsName name) (λ name left. (ws ≡ name ∷ left) × IsName name × IsDeclared declared name) _
    (a_word_of name_of causes.Unknown ws) (shown_name ws) (λ name left h. by_number name left h (is_some (number_of declared name)) refl)
  where
    by_number : (name : List ℕ) (left : Words) → (ws ≡ name ∷ left) × IsName name → (b : Bool) → is_some (number_of declared name) ≡ b
        → Shown (λ name left. (ws ≡ name ∷ left) × IsName name × IsDeclared declared name) (read_on (only_where b causes.Unknown left) (λ x. gives name))
    by_number name left h true e = (h.0, h.1, e)
    by_number name left h false e = λ k. cc

-- an error
pub found_passes : {X : Type 0} (test : X → Bool) (xs : List X) → IfSome (find test xs) (λ x. test x ≡ true)
found_passes test [] = tt
found_passes test (x ∷ xs) = by_test (test x) refl (found_passes test xs)
  where
    by_test : (b : Bool) → test x ≡ b → IfSome (find test xs) (λ x. test x ≡ true) → IfSome (cond b (Some x) (find test xs)) (λ x. test x ≡ true)
    by_test true e others = e
    by_test false e others = others

error_is : (word : List ℕ) → IfSome (error_of word) (λ error. (word ≡ error_word error) × Unit {0})
error_is word = by_option (error_of word) (found_passes (λ error. bytes_eq word (error_word error)) all_errors)
  where
    by_option : (o : Option DropError) → IfSome o (λ error. bytes_eq word (error_word error) ≡ true) → IfSome o (λ error. (word ≡ error_word error) × Unit {0})
    by_option (Some error) e = (bytes_eq_true word (error_word error) e, tt)
    by_option None e = tt

pub shown_error : (ws : Words) → Shown (λ error left. (ws ≡ error_word error ∷ left) × Unit {0}) (an_error ws)
shown_error = shown_class error_word (λ error. Unit {0}) error_of causes.Unknown (λ e. cc) error_is

-- a number below a bound
below_is : (bound : ℕ) → bound ≤ 2 ^ 64 → (word : List ℕ) → IfSome (number_below bound word) (λ n. (word ≡ decimal n) × (n < bound) × (0 < length word))
below_is bound small word = by_test (is_decimal word && ltb (digits_value 10 word) bound) refl
  where
    by_test : (b : Bool) → (is_decimal word && ltb (digits_value 10 word) bound) ≡ b
        → IfSome (cond b (Some (digits_value 10 word)) None) (λ n. (word ≡ decimal n) × (n < bound) × (0 < length word))
    by_test true e =
        let parts = and_parts (is_decimal word) (ltb (digits_value 10 word) bound) e in
        let high : digits_value 10 word < bound = ltb-true (digits_value 10 word) bound parts.1 in
        (decimal_is word parts.0 (omega (arith, high, small)), high, decimal_some word parts.0)
    by_test false e = tt

-- a text that is cut at a byte of this value is what stands before it, the byte, and what stands behind it
first_passes : (p : ℕ → Bool) (x : ℕ) (xs : List ℕ) → p x ≡ true → position_or_len p (x ∷ xs) ≡ 0
first_passes p x xs h = rw h refl

later_passes : (p : ℕ → Bool) (x : ℕ) (xs : List ℕ) → p x ≡ false → position_or_len p (x ∷ xs) ≡ suc (position_or_len p xs)
later_passes p x xs h = rw h (omega arith)

cut_joined : (mark : ℕ) (xs : List ℕ) → position_or_len (λ byte. eqb byte mark) xs < length xs
    → xs ≡ before_first (λ byte. eqb byte mark) xs ++ mark ∷ after_first (λ byte. eqb byte mark) xs
cut_joined mark [] h = absurd (omega (arith, h))
cut_joined mark (x ∷ xs) h = by_test (cut_joined mark xs) (eqb x mark) refl
  where
    by_test : (position_or_len (λ byte. eqb byte mark) xs < length xs → xs ≡ before_first (λ byte. eqb byte mark) xs ++ mark ∷ after_first (λ byte. eqb byte mark) xs)
        → (b : Bool) → eqb x mark ≡ b
        → x ∷ xs ≡ take (position_or_len (λ byte. eqb byte mark) (x ∷ xs)) (x ∷ xs) ++ mark ∷ drop (position_or_len (λ byte. eqb byte mark) (x ∷ xs) + 1) (x ∷ xs)
    by_test rest true e =
        ap (λ y. y ∷ xs) (eqb-true x mark e)
        ∙ ap (λ n. take n (x ∷ xs) ++ mark ∷ drop (n + 1) (x ∷ xs)) (sym (first_passes (λ byte. eqb byte mark) x xs e))
    by_test rest false e =
        let later = later_passes (λ byte. eqb byte mark) x xs e in
        let place = position_or_len (λ byte. eqb byte mark) xs in
        let less : suc place < suc (length xs) = subst (λ n. n < suc (length xs)) later h in
        ap (λ r. x ∷ r) (rest (omega (arith, less)))
        ∙ ap (λ n. x ∷ (take place xs ++ mark ∷ drop n (x ∷ xs))) (let same : suc (place + 1) ≡ suc place + 1 = omega arith in same)
        ∙ ap (λ n. take n (x ∷ xs) ++ mark ∷ drop (n + 1) (x ∷ xs)) (sym later)

-- a leg
abbrev pub IsLegOf : (workers generations : ℕ) → Leg → Type 0
IsLegOf workers generations leg = (leg.worker < workers) × (leg.generation < generations)

cut_there : (text : List ℕ) → 0 < length (after_first (λ byte. eqb byte 58) text) → position_or_len (λ byte. eqb byte 58) text < length text
cut_there text some = omega (arith, some, length-drop (position_or_len (λ byte. eqb byte 58) text + 1) text)

leg_is : (workers generations : ℕ) → workers ≤ 2 ^ 64 → generations ≤ 2 ^ 64 → (text : List ℕ)
    → IfSome (leg_of workers generations text) (λ leg. (text ≡ leg_text leg) × IsLegOf workers generations leg)
leg_is workers generations few few' text =
    by_options (number_below workers (before_first (λ byte. eqb byte 58) text)) (number_below generations (after_first (λ byte. eqb byte 58) text))
    (below_is workers few (before_first (λ byte. eqb byte 58) text)) (below_is generations few' (after_first (λ byte. eqb byte 58) text))
  where
    by_options : (o o' : Option ℕ)
        → IfSome o (λ n. (before_first (λ byte. eqb byte 58) text ≡ decimal n) × (n < workers) × (0 < length (before_first (λ byte. eqb byte 58) text)))
        → IfSome o' (λ n. (after_first (λ byte. eqb byte 58) text ≡ decimal n) × (n < generations) × (0 < length (after_first (λ byte. eqb byte 58) text)))
        → IfSome {T = Leg} (o >>= λ worker. o' >>= λ generation. Some (record { worker = worker; generation = generation }))
        (λ leg. (text ≡ leg_text leg) × IsLegOf workers generations leg)
    by_options (Some w) (Some g) p q =
        (cut_joined 58 text (cut_there text q.2) ∙ ap (λ t. t ++ 58 ∷ after_first (λ byte. eqb byte 58) text) p.0 ∙ ap (λ t. decimal w ++ 58 ∷ t) q.0, (p.1, q.1))
    by_options (Some w) None p q = tt
    by_options None o' p q = tt

-- legs behind others
pub record AreLegs (workers generations : ℕ) (before : List Leg) (texts : List (List ℕ)) (all : List Leg) : Type 0 where
  pub more : List Leg
  pub all_is : all ≡ before ++ more
  pub texts_are : texts ≡ map leg_text more
  pub few : length all ≤ 4
  pub good : AllByRecursion (IsLegOf workers generations) more

no_more_legs : (workers generations : ℕ) (before : List Leg) → length before ≤ 4 → AreLegs workers generations before [] before
no_more_legs workers generations before few = record { more = []; all_is = sym (append-nil before); texts_are = refl; few = few; good = tt }

one_more_leg : (workers generations : ℕ) (before all : List Leg) (leg : Leg) (text : List ℕ) (texts : List (List ℕ)) → text ≡ leg_text leg → IsLegOf workers generations leg
    → AreLegs workers generations (before ++ leg ∷ []) texts all → AreLegs workers generations before (text ∷ texts) all
one_more_leg workers generations before all leg text texts e h rest = record {
  more = leg ∷ rest.more;
  all_is = rest.all_is ∙ append_assoc before (leg ∷ []) rest.more;
  texts_are = ap (λ t. t ∷ texts) e ∙ ap (λ ts. leg_text leg ∷ ts) rest.texts_are;
  few = rest.few;
  good = (h, rest.good);
}

legs_are : (workers generations : ℕ) → workers ≤ 2 ^ 64 → generations ≤ 2 ^ 64 → (texts : List (List ℕ)) (before : List Leg) → length before ≤ 4
    → IfSome (with_legs workers generations before texts) (AreLegs workers generations before texts)
legs_are workers generations few few' [] before short = no_more_legs workers generations before short
legs_are workers generations few few' (text ∷ texts) before short = by_test (legs_are workers generations few few' texts) (leb most_legs (length before)) refl
  where
    by_leg : (o : Option Leg) → IfSome o (λ leg. (text ≡ leg_text leg) × IsLegOf workers generations leg)
        → ((leg : Leg) → IfSome (with_legs workers generations (before ++ leg ∷ []) texts) (AreLegs workers generations (before ++ leg ∷ []) texts))
        → IfSome (o >>= λ leg. with_legs workers generations (before ++ leg ∷ []) texts) (AreLegs workers generations before (text ∷ texts))
    by_leg (Some leg) p k = by_rest (with_legs workers generations (before ++ leg ∷ []) texts) (k leg)
      where
        by_rest : (o : Option (List Leg)) → IfSome o (AreLegs workers generations (before ++ leg ∷ []) texts) → IfSome o (AreLegs workers generations before (text ∷ texts))
        by_rest (Some all) q = one_more_leg workers generations before all leg text texts p.0 p.1 q
        by_rest None q = tt
    by_leg None p k = tt

    by_test : ((legs : List Leg) → length legs ≤ 4 → IfSome (with_legs workers generations legs texts) (AreLegs workers generations legs texts))
        → (b : Bool) → leb most_legs (length before) ≡ b
        → IfSome (cond b None (leg_of workers generations text >>= λ leg. with_legs workers generations (before ++ leg ∷ []) texts)) (AreLegs workers generations before (text ∷ texts))
    by_test others true e = tt
    by_test others false e =
        let less = leb-false most_legs (length before) e in
        by_leg (leg_of workers generations text) (leg_is workers generations few few' text)
        (λ leg. others (before ++ leg ∷ []) (omega (arith, less, length-append before (leg ∷ []))))

-- the legs of a packet
pub record IsWay (workers generations : ℕ) (legs : List Leg) : Type 0 where
  pub some : 1 ≤ length legs
  pub few : length legs ≤ 4
  pub workers_are : AllByRecursion (λ l. l.worker < workers) legs
  pub generations_are : AllByRecursion (λ l. l.generation < generations) legs

way_is : (workers generations : ℕ) → workers ≤ 2 ^ 64 → generations ≤ 2 ^ 64 → (word : List ℕ)
    → IfSome (legs_of workers generations word) (λ legs. (word ≡ legs_word legs) × IsWay workers generations legs)
way_is workers generations few few' word =
    by_option (legs_of workers generations word) (legs_are workers generations few few' (slice_split (λ byte. eqb byte 44) word) [] (omega arith))
  where
    way : (all : List Leg) → AreLegs workers generations [] (slice_split (λ byte. eqb byte 44) word) all → (word ≡ legs_word all) × IsWay workers generations all
    way all h =
        let texts : slice_split (λ byte. eqb byte 44) word ≡ map leg_text all = h.texts_are ∙ ap (map leg_text) (sym h.all_is) in
        let good : AllByRecursion (IsLegOf workers generations) all = subst (AllByRecursion (IsLegOf workers generations)) (sym h.all_is) h.good in
        let many : length (slice_split (λ byte. eqb byte 44) word) ≡ length all = ap length texts ∙ length-map all leg_text in (
          sym (join_with_byte-slice_split 44 word) ∙ ap (join_with_byte 44) texts,
          record {
            some = omega (arith, many, length-slice_split (λ byte. eqb byte 44) word);
            few = h.few;
            workers_are = all_weaken (IsLegOf workers generations) (λ l. l.worker < workers) (λ l k. k.0) all good;
            generations_are = all_weaken (IsLegOf workers generations) (λ l. l.generation < generations) (λ l k. k.1) all good;
          },
        )

    by_option : (o : Option (List Leg)) → IfSome o (AreLegs workers generations [] (slice_split (λ byte. eqb byte 44) word))
        → IfSome o (λ legs. (word ≡ legs_word legs) × IsWay workers generations legs)
    by_option (Some all) h = way all h
    by_option None h = tt

pub shown_legs : (workers generations : ℕ) → workers ≤ 2 ^ 64 → generations ≤ 2 ^ 64 → (ws : Words)
    → Shown (λ legs left. (ws ≡ legs_word legs ∷ left) × IsWay workers generations legs) (a_word_of (legs_of workers generations) causes.Number ws)
shown_legs workers generations few few' =
    shown_class legs_word (IsWay workers generations) (legs_of workers generations) causes.Number (λ e. cc) (way_is workers generations few few')
