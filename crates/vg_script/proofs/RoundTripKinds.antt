-- For `printed_is_read_back` and `print_script`: the words of kinds, printed and read.
use Rattle.std.proofs.Common.{◌≡◌, ℕ, ◌^◌, ◌<◌, ◌≤◌, Bool, true, false, ◌&&◌, nat_le, nat_lt, List, [], ◌∷◌, ◌++◌, length, take, drop, Option, Some, None, refl, sym, ap, subst, ◌∙◌, arith, length-append}
use Rattle.std.proofs.lemmas.Bool.{and_parts, leb-true, false≢true, ltb-true}
use Rattle.std.specs.List.{list_all}
use Rattle.std.specs.Option.{option_or}
use Rattle.std.specs.Prelude.{decimal, find, option_map, IsSome, is_some, unwrap_or, bytes_eq, if◌then◌else◌}
use Rattle.vg_model.specs.declared.kinds.Kind.{Kind}
use Rattle.vg_model.specs.declared.kinds.Kind.TheVariants as kinds
use Rattle.vg_model.specs.declared.vlans.VlanId.{VlanId}
use Rattle.vg_model.specs.KindWord.{NumberedWords, numbered_word, with_vlan, match_words, push_words, rewrite_words, connect_words}
use Rattle.vg_model.specs.Graph.{kind_entry, plain_kinds}
use Rattle.vg_model.proofs.KindTable.{IsListed, is_listed}
use Rattle.vg_script.specs.Classes.{◌>>=◌, number_of, is_word_for, number_in, vlan_of, vlan_behind, numbered_kind, kind_of}
use Rattle.vg_script.specs.Plain.{kind_text}
use Rattle.vg_script.proofs.ClassLemmas.{vlan_is, name_by_test}
use Rattle.vg_script.proofs.RoundTripClasses.{name_is_word, number_is_read, number_is_word}
use Rattle.vg_script.proofs.RoundTripLines.{each-append, each-from_test, is_word_byte, IsWord}

-- kinds with a number
take_front : (text rest : List ℕ) → take (length text) (text ++ rest) ≡ text
take_front [] rest = refl
take_front (b ∷ text) rest = ap (λ r. b ∷ r) (take_front text rest)

drop_front : (text rest : List ℕ) → drop (length text) (text ++ rest) ≡ rest
drop_front [] rest = refl
drop_front (b ∷ text) rest = drop_front text rest

-- words of which each is read again: a text, and a number that a word of the machine has room for
record AreReadable (words : NumberedWords) : Type 0 where
  text : bytes_eq words.text words.text ≡ true
  small : words.most < 2 ^ 64

-- a number in its range, and its word
abbrev in_range : NumberedWords → ℕ → Bool
in_range words n = nat_le words.least n && nat_le n words.most

abbrev word_in : NumberedWords → ℕ → Option (List ℕ)
word_in words n = numbered_word words.text words.least words.most n

behind_is_read : (words : NumberedWords) (n : ℕ) → AreReadable words → in_range words n ≡ true → number_in words (words.text ++ decimal n) ≡ Some n
behind_is_read words n readable inside =
    let both = and_parts (nat_le words.least n) (nat_le n words.most) inside in
    let low : words.least ≤ n = leb-true words.least n both.0 in
    let high : n ≤ words.most = leb-true n words.most both.1 in
    ap (λ t. if bytes_eq t words.text then number_of words.least words.most (drop (length words.text) (words.text ++ decimal n)) else None) (take_front words.text (decimal n))
    ∙ ap (λ b. if b then number_of words.least words.most (drop (length words.text) (words.text ++ decimal n)) else None) readable.text
    ∙ ap (number_of words.least words.most) (drop_front words.text (decimal n))
    ∙ number_is_read words.least words.most n (omega (arith, readable.small, high)) low high

range_of : (words : NumberedWords) (n : ℕ) → is_some (word_in words n) ≡ true → in_range words n ≡ true
range_of words n h = by_test (in_range words n) h
  where
    by_test : (b : Bool) → is_some (if b then Some (words.text ++ decimal n) else None) ≡ true → b ≡ true
    by_test true h = refl
    by_test false h = absurd (false≢true h)

numbered_text : (words : NumberedWords) (n : ℕ) → in_range words n ≡ true → unwrap_or (word_in words n) [] ≡ words.text ++ decimal n
numbered_text words n h = ap (λ b. unwrap_or (if b then Some (words.text ++ decimal n) else None) []) h

numbered_is_word : (words : NumberedWords) (n : ℕ) → words.most < 2 ^ 64 → IsWord words.text → is_some (word_in words n) ≡ true
    → IsWord (unwrap_or (word_in words n) [])
numbered_is_word words n small text h =
    let inside = range_of words n h in
    let high : n ≤ words.most = leb-true n words.most (and_parts (nat_le words.least n) (nat_le n words.most) inside).1 in
    subst IsWord (sym (numbered_text words n inside)) (record {
      some = omega (arith, length-append words.text (decimal n), text.some);
      bytes = each-append (λ b. is_word_byte b ≡ true) words.text (decimal n) text.bytes (number_is_word n (omega (arith, small, high))).bytes;
    })

-- a VLAN id behind a text
vlan_is_read : (text word : List ℕ) (id : VlanId) → number_in (with_vlan text) word ≡ Some id.number → vlan_behind text word ≡ Some id
vlan_is_read text word id e = ap (λ o. o >>= vlan_of) e ∙ vlan_is id

-- what a word is where it is none of the first of these kinds
abbrev after_rewrite : List ℕ → Option Kind
after_rewrite word = option_map kinds.CrossConnect (number_in connect_words word)

abbrev after_push : List ℕ → Option Kind
after_push word = option_or (option_map kinds.Dot1qRewrite (vlan_behind rewrite_words.text word)) (after_rewrite word)

abbrev after_match : List ℕ → Option Kind
after_match word = option_or (option_map kinds.Dot1qPush (vlan_behind push_words.text word)) (after_push word)

match_kind : (word : List ℕ) (id : VlanId) → find (is_word_for word) plain_kinds ≡ None → vlan_behind match_words.text word ≡ Some id
    → kind_of word ≡ Some (kinds.Dot1qMatch id)
match_kind word id e f =
    ap (λ o. option_or o (numbered_kind word)) e ∙ ap (λ o. option_or (option_map kinds.Dot1qMatch o) (after_match word)) f

push_kind : (word : List ℕ) (id : VlanId) → find (is_word_for word) plain_kinds ≡ None → vlan_behind match_words.text word ≡ None
    → vlan_behind push_words.text word ≡ Some id → kind_of word ≡ Some (kinds.Dot1qPush id)
push_kind word id e f g =
    ap (λ o. option_or o (numbered_kind word)) e
    ∙ ap (λ o. option_or (option_map kinds.Dot1qMatch o) (after_match word)) f
    ∙ ap (λ o. option_or (option_map kinds.Dot1qPush o) (after_push word)) g

rewrite_kind : (word : List ℕ) (id : VlanId) → find (is_word_for word) plain_kinds ≡ None → vlan_behind match_words.text word ≡ None
    → vlan_behind push_words.text word ≡ None → vlan_behind rewrite_words.text word ≡ Some id → kind_of word ≡ Some (kinds.Dot1qRewrite id)
rewrite_kind word id e f g h =
    ap (λ o. option_or o (numbered_kind word)) e
    ∙ ap (λ o. option_or (option_map kinds.Dot1qMatch o) (after_match word)) f
    ∙ ap (λ o. option_or (option_map kinds.Dot1qPush o) (after_push word)) g
    ∙ ap (λ o. option_or (option_map kinds.Dot1qRewrite o) (after_rewrite word)) h

-- a word that is none of a kind without a number, and none with a VLAN id
record IsLast (word : List ℕ) : Type 0 where
  no_plain : find (is_word_for word) plain_kinds ≡ None
  no_match : vlan_behind match_words.text word ≡ None
  no_push : vlan_behind push_words.text word ≡ None
  no_rewrite : vlan_behind rewrite_words.text word ≡ None

connect_kind : (word : List ℕ) (n : ℕ) → IsLast word → number_in connect_words word ≡ Some n → kind_of word ≡ Some (kinds.CrossConnect n)
connect_kind word n last e =
    ap (λ o. option_or o (numbered_kind word)) last.no_plain
    ∙ ap (λ o. option_or (option_map kinds.Dot1qMatch o) (after_match word)) last.no_match
    ∙ ap (λ o. option_or (option_map kinds.Dot1qPush o) (after_push word)) last.no_push
    ∙ ap (λ o. option_or (option_map kinds.Dot1qRewrite o) (after_rewrite word)) last.no_rewrite
    ∙ ap (option_map kinds.CrossConnect) e

-- a word with a number is no other word, whatever its digits
no_plain_match : (digits : List ℕ) → find (is_word_for (match_words.text ++ digits)) plain_kinds ≡ None
no_plain_match digits = refl

no_plain_push : (digits : List ℕ) → find (is_word_for (push_words.text ++ digits)) plain_kinds ≡ None
no_plain_push digits = refl

no_plain_rewrite : (digits : List ℕ) → find (is_word_for (rewrite_words.text ++ digits)) plain_kinds ≡ None
no_plain_rewrite digits = refl

no_plain_connect : (digits : List ℕ) → find (is_word_for (connect_words.text ++ digits)) plain_kinds ≡ None
no_plain_connect digits = refl

push_no_match : (digits : List ℕ) → vlan_behind match_words.text (push_words.text ++ digits) ≡ None
push_no_match digits = refl

rewrite_no_match : (digits : List ℕ) → vlan_behind match_words.text (rewrite_words.text ++ digits) ≡ None
rewrite_no_match digits = refl

rewrite_no_push : (digits : List ℕ) → vlan_behind push_words.text (rewrite_words.text ++ digits) ≡ None
rewrite_no_push digits = refl

connect_no_match : (digits : List ℕ) → vlan_behind match_words.text (connect_words.text ++ digits) ≡ None
connect_no_match digits = refl

connect_no_push : (digits : List ℕ) → vlan_behind push_words.text (connect_words.text ++ digits) ≡ None
connect_no_push digits = refl

connect_no_rewrite : (digits : List ℕ) → vlan_behind rewrite_words.text (connect_words.text ++ digits) ≡ None
connect_no_rewrite digits = refl

-- the word of a number in its range is read as this kind
abbrev IsReadAs : NumberedWords → ℕ → Kind → Type 0
IsReadAs words n kind = is_some (word_in words n) ≡ true → kind_of (unwrap_or (word_in words n) []) ≡ Some kind

numbered_is_read : (words : NumberedWords) (n : ℕ) (kind : Kind) → AreReadable words
    → (number_in words (words.text ++ decimal n) ≡ Some n → kind_of (words.text ++ decimal n) ≡ Some kind) → IsReadAs words n kind
numbered_is_read words n kind readable by h =
    let inside = range_of words n h in
    ap kind_of (numbered_text words n inside) ∙ by (behind_is_read words n readable inside)

match_is_read : (id : VlanId) → IsReadAs match_words id.number (kinds.Dot1qMatch id)
match_is_read id =
    let digits = decimal id.number in
    let word = match_words.text ++ digits in
    numbered_is_read match_words id.number (kinds.Dot1qMatch id) (record { text = refl; small = omega arith })
    (λ e. match_kind word id (no_plain_match digits) (vlan_is_read match_words.text word id e))

push_is_read : (id : VlanId) → IsReadAs push_words id.number (kinds.Dot1qPush id)
push_is_read id =
    let digits = decimal id.number in
    let word = push_words.text ++ digits in
    numbered_is_read push_words id.number (kinds.Dot1qPush id) (record { text = refl; small = omega arith })
    (λ e. push_kind word id (no_plain_push digits) (push_no_match digits) (vlan_is_read push_words.text word id e))

rewrite_is_read : (id : VlanId) → IsReadAs rewrite_words id.number (kinds.Dot1qRewrite id)
rewrite_is_read id =
    let digits = decimal id.number in
    let word = rewrite_words.text ++ digits in
    numbered_is_read rewrite_words id.number (kinds.Dot1qRewrite id) (record { text = refl; small = omega arith })
    (λ e. rewrite_kind word id (no_plain_rewrite digits) (rewrite_no_match digits) (rewrite_no_push digits) (vlan_is_read rewrite_words.text word id e))

connect_is_read : (n : ℕ) → IsReadAs connect_words n (kinds.CrossConnect n)
connect_is_read n =
    let digits = decimal n in
    numbered_is_read connect_words n (kinds.CrossConnect n) (record { text = refl; small = omega arith })
    (connect_kind (connect_words.text ++ digits) n
    (record { no_plain = no_plain_connect digits; no_match = connect_no_match digits; no_push = connect_no_push digits; no_rewrite = connect_no_rewrite digits }))

-- the word of a kind that the list of kinds without a number has
listed_is_read : (kind : Kind) → IsListed kind → kind_of (kind_text kind) ≡ Some kind
listed_is_read kind listed = ap (λ o. option_or o (numbered_kind (kind_text kind))) listed.found

-- kinds; the last line is for each without a number
pub kind_is_read : (kind : Kind) → IsSome (kind_entry kind).word → kind_of (kind_text kind) ≡ Some kind
kind_is_read (kinds.Dot1qMatch id) h = match_is_read id h
kind_is_read (kinds.Dot1qPush id) h = push_is_read id h
kind_is_read (kinds.Dot1qRewrite id) h = rewrite_is_read id h
kind_is_read (kinds.CrossConnect interface) h = connect_is_read interface h
kind_is_read kind h = listed_is_read kind (is_listed kind refl h)

-- a fixed word
pub literal : (word : List ℕ) → nat_lt 0 (length word) ≡ true → list_all is_word_byte word ≡ true → IsWord word
literal word some bytes = record { some = ltb-true 0 (length word) some; bytes = each-from_test is_word_byte word bytes }

listed_is_word : (kind : Kind) → IsListed kind → IsWord (kind_text kind)
listed_is_word kind listed = name_is_word (kind_text kind) (name_by_test (kind_text kind) listed.name)

pub kind_is_word : (kind : Kind) → IsSome (kind_entry kind).word → IsWord (kind_text kind)
kind_is_word (kinds.Dot1qMatch id) h = numbered_is_word match_words id.number (omega arith) (literal _ refl refl) h
kind_is_word (kinds.Dot1qPush id) h = numbered_is_word push_words id.number (omega arith) (literal _ refl refl) h
kind_is_word (kinds.Dot1qRewrite id) h = numbered_is_word rewrite_words id.number (omega arith) (literal _ refl refl) h
kind_is_word (kinds.CrossConnect interface) h = numbered_is_word connect_words interface (omega arith) (literal _ refl refl) h
kind_is_word kind h = listed_is_word kind (is_listed kind refl h)
