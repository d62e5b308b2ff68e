-- For the clause of `read_run`: a parse of `run` holds what the words so far say.
use Rattle.std.proofs.Common.{◌≡◌, ◌∙◌, ◌||◌, Bool, true, false, refl, sym, ap, subst, List, [], ◌∷◌, ◌++◌, codes, Some, inl, inr, true≢false}
use Rattle.std.specs.Prelude.{is_some, slice_get}
use Rattle.std.specs.List.{list_all}
use Rattle.std.specs.Str.{bytes_eq}
use Rattle.clap.specs.Facts.{explicit_source}
use Rattle.clap.specs.Takes.{is_given as was_given}
use Rattle.clap.specs.Walk.{Row, Rule, first_of, has_row}
use Rattle.vg_words.specs.Command.{Text, Given, is_option_name, is_given, value_in}
use Rattle.vg_words.proofs.TextLemmas.{bytes_eq-refl, bytes_eq-true, and_both, by_option, true_or_false}
use Rattle.vg_words.proofs.RowLemmas.{row, first_of-here, first_of-other, has_row-snoc}

-- ---- options, one more

is_given_head : (g : Given) (options : List Given) (id : Text) → is_given id (g ∷ options) ≡ false → (bytes_eq g.0 id ≡ false) × (is_given id options ≡ false)
is_given_head g options id h = parts (bytes_eq g.0 id) (is_given id options) h
  where
    parts : (a b : Bool) → (a || b) ≡ false → (a ≡ false) × (b ≡ false)
    parts true b e = absurd (true≢false e)
    parts false b e = (refl, e)

is_given-snoc : (id : Text) (options : List Given) (g : Given) → is_given id (options ++ g ∷ []) ≡ (is_given id options || bytes_eq g.0 id)
is_given-snoc id [] g = or_false (bytes_eq g.0 id)
  where
    or_false : (b : Bool) → (b || false) ≡ b
    or_false true = refl
    or_false false = refl
is_given-snoc id (x ∷ options) g = (elim (true_or_false (bytes_eq x.0 id)) [
  | inl e ↦ rw e refl
  | inr e ↦ rw e (is_given-snoc id options g)
])

value_in-here : (id value : Text) (options : List Given) → is_given id options ≡ false → value_in (options ++ (id, value) ∷ []) id ≡ Some value
value_in-here id value [] none = rw (bytes_eq-refl id) refl
value_in-here id value (x ∷ options) none =
    let parts = is_given_head x options id none in
    rw parts.0 (value_in-here id value options parts.1)

value_in-other : (id name value : Text) (options : List Given) → bytes_eq name id ≡ false → value_in (options ++ (name, value) ∷ []) id ≡ value_in options id
value_in-other id name value [] other = rw other refl
value_in-other id name value (x ∷ options) other = (elim (true_or_false (bytes_eq x.0 id)) [
  | inl e ↦ rw e refl
  | inr e ↦ rw e (value_in-other id name value options other)
])

-- ---- rows of words, and of no default

abbrev pub AreExplicit : List Row → Type 0
AreExplicit rows = list_all (λ r. explicit_source r.source) rows ≡ true

explicit-snoc : (rows : List Row) (a : Rule) (value : Text) → AreExplicit rows → AreExplicit (rows ++ row a value ∷ [])
explicit-snoc [] a value explicit = refl
explicit-snoc (x ∷ rows) a value explicit =
    let both = and_both (explicit_source x.source) (list_all (λ r. explicit_source r.source) rows) explicit in
    rw both.0 (explicit-snoc rows a value both.1)

-- an argument that has such a row was given
pub given-explicit : (id : Text) (rows : List Row) → AreExplicit rows → was_given id rows ≡ has_row id rows
given-explicit id [] explicit = refl
given-explicit id (x ∷ rows) explicit =
    let both = and_both (explicit_source x.source) (list_all (λ r. explicit_source r.source) rows) explicit in
    elim (true_or_false (bytes_eq x.id id)) [
      | inl e ↦ rw (e, both.0) refl
      | inr e ↦ rw e (given-explicit id rows both.1)
    ]

-- ---- rows that hold what is said

pub record Agrees (rows : List Row) (names : List Text) (options : List Given) : Type 0 where
  pub values : (name : Text) → is_option_name name ≡ true → first_of name rows ≡ value_in options name
  pub given : (name : Text) → is_option_name name ≡ true → has_row name rows ≡ is_given name options
  pub capture : first_of (codes "capture") rows ≡ slice_get names 0
  pub script : first_of (codes "script") rows ≡ slice_get names 1
  pub tx : first_of (codes "tx") rows ≡ slice_get names 2
  pub has_capture : has_row (codes "capture") rows ≡ is_some (slice_get names 0)
  pub has_script : has_row (codes "script") rows ≡ is_some (slice_get names 1)
  pub has_tx : has_row (codes "tx") rows ≡ is_some (slice_get names 2)
  pub explicit : AreExplicit rows

has_row-other : (id value : Text) (rows : List Row) (a : Rule) → bytes_eq a.id id ≡ false → has_row id (rows ++ row a value ∷ []) ≡ has_row id rows
has_row-other id value rows a other = has_row-snoc id rows (row a value) ∙ (rw other (or_false (has_row id rows)))
  where
    or_false : (b : Bool) → (b || false) ≡ b
    or_false true = refl
    or_false false = refl

has_row-here : (id value : Text) (rows : List Row) (a : Rule) → a.id ≡ id → has_row id (rows ++ row a value ∷ []) ≡ true
has_row-here id value rows a same = has_row-snoc id rows (row a value) ∙ (rw (same, bytes_eq-refl id) (or_true (has_row id rows)))
  where
    or_true : (b : Bool) → (b || true) ≡ true
    or_true true = refl
    or_true false = refl

-- no option is named as an argument for a name is
pub other_than_names : (name : Text) → is_option_name name ≡ true
    → (bytes_eq name (codes "capture") ≡ false) × (bytes_eq name (codes "script") ≡ false) × (bytes_eq name (codes "tx") ≡ false)
other_than_names = by_option
    (λ name. (bytes_eq name (codes "capture") ≡ false) × (bytes_eq name (codes "script") ≡ false) × (bytes_eq name (codes "tx") ≡ false))
    (refl, refl, refl) (refl, refl, refl) (refl, refl, refl) (refl, refl, refl) (refl, refl, refl) (refl, refl, refl) (refl, refl, refl)

pub other_than_options : (name : Text) → is_option_name name ≡ true
    → (bytes_eq (codes "capture") name ≡ false) × (bytes_eq (codes "script") name ≡ false) × (bytes_eq (codes "tx") name ≡ false)
other_than_options = by_option
    (λ name. (bytes_eq (codes "capture") name ≡ false) × (bytes_eq (codes "script") name ≡ false) × (bytes_eq (codes "tx") name ≡ false))
    (refl, refl, refl) (refl, refl, refl) (refl, refl, refl) (refl, refl, refl) (refl, refl, refl) (refl, refl, refl) (refl, refl, refl)

-- an option more
pub agrees-value : (rows : List Row) (names : List Text) (options : List Given) (a : Rule) (value : Text) → Agrees rows names options
    → is_option_name a.id ≡ true → is_given a.id options ≡ false → Agrees (rows ++ row a value ∷ []) names (options ++ (a.id, value) ∷ [])
agrees-value rows names options a value agrees known new = record {
  values = λ name is. values_at name is (bytes_eq a.id name) refl;
  given = λ name is. has_row-snoc name rows (row a value) ∙ ap (λ b. b || bytes_eq a.id name) (agrees.given name is) ∙ sym (is_given-snoc name options (a.id, value));
  capture = first_of-other (codes "capture") value rows a others.0 ∙ agrees.capture;
  script = first_of-other (codes "script") value rows a others.1 ∙ agrees.script;
  tx = first_of-other (codes "tx") value rows a others.2 ∙ agrees.tx;
  has_capture = has_row-other (codes "capture") value rows a others.0 ∙ agrees.has_capture;
  has_script = has_row-other (codes "script") value rows a others.1 ∙ agrees.has_script;
  has_tx = has_row-other (codes "tx") value rows a others.2 ∙ agrees.has_tx;
  explicit = explicit-snoc rows a value agrees.explicit;
}
  where
    others : (bytes_eq a.id (codes "capture") ≡ false) × (bytes_eq a.id (codes "script") ≡ false) × (bytes_eq a.id (codes "tx") ≡ false)
    others = other_than_names a.id known

    values_at : (name : Text) → is_option_name name ≡ true → (b : Bool) → bytes_eq a.id name ≡ b
        → first_of name (rows ++ row a value ∷ []) ≡ value_in (options ++ (a.id, value) ∷ []) name
    values_at name is true e =
        subst (λ (n : Text). first_of n (rows ++ row a value ∷ []) ≡ value_in (options ++ (a.id, value) ∷ []) n) (bytes_eq-true a.id name e)
        (first_of-here a.id value rows a refl (agrees.given a.id known ∙ new) ∙ sym (value_in-here a.id value options new))
    values_at name is false e = first_of-other name value rows a e ∙ agrees.values name is ∙ sym (value_in-other name a.id value options e)

-- a name more, by how many there are
pub agrees-capture : (rows : List Row) (options : List Given) (a : Rule) (word : Text) → Agrees rows [] options → a.id ≡ codes "capture"
    → Agrees (rows ++ row a word ∷ []) (word ∷ []) options
agrees-capture rows options a word agrees is = record {
  values = λ name known. first_of-other name word rows a (rw is (other_than_options name known).0) ∙ agrees.values name known;
  given = λ name known. has_row-other name word rows a (rw is (other_than_options name known).0) ∙ agrees.given name known;
  capture = first_of-here (codes "capture") word rows a is agrees.has_capture;
  script = first_of-other (codes "script") word rows a (rw is refl) ∙ agrees.script;
  tx = first_of-other (codes "tx") word rows a (rw is refl) ∙ agrees.tx;
  has_capture = has_row-here (codes "capture") word rows a is;
  has_script = has_row-other (codes "script") word rows a (rw is refl) ∙ agrees.has_script;
  has_tx = has_row-other (codes "tx") word rows a (rw is refl) ∙ agrees.has_tx;
  explicit = explicit-snoc rows a word agrees.explicit;
}

pub agrees-script : (rows : List Row) (first : Text) (options : List Given) (a : Rule) (word : Text) → Agrees rows (first ∷ []) options → a.id ≡ codes "script"
    → Agrees (rows ++ row a word ∷ []) (first ∷ word ∷ []) options
agrees-script rows first options a word agrees is = record {
  values = λ name known. first_of-other name word rows a (rw is (other_than_options name known).1) ∙ agrees.values name known;
  given = λ name known. has_row-other name word rows a (rw is (other_than_options name known).1) ∙ agrees.given name known;
  capture = first_of-other (codes "capture") word rows a (rw is refl) ∙ agrees.capture;
  script = first_of-here (codes "script") word rows a is agrees.has_script;
  tx = first_of-other (codes "tx") word rows a (rw is refl) ∙ agrees.tx;
  has_capture = has_row-other (codes "capture") word rows a (rw is refl) ∙ agrees.has_capture;
  has_script = has_row-here (codes "script") word rows a is;
  has_tx = has_row-other (codes "tx") word rows a (rw is refl) ∙ agrees.has_tx;
  explicit = explicit-snoc rows a word agrees.explicit;
}

pub agrees-tx : (rows : List Row) (first second : Text) (options : List Given) (a : Rule) (word : Text) → Agrees rows (first ∷ second ∷ []) options → a.id ≡ codes "tx"
    → Agrees (rows ++ row a word ∷ []) (first ∷ second ∷ word ∷ []) options
agrees-tx rows first second options a word agrees is = record {
  values = λ name known. first_of-other name word rows a (rw is (other_than_options name known).2) ∙ agrees.values name known;
  given = λ name known. has_row-other name word rows a (rw is (other_than_options name known).2) ∙ agrees.given name known;
  capture = first_of-other (codes "capture") word rows a (rw is refl) ∙ agrees.capture;
  script = first_of-other (codes "script") word rows a (rw is refl) ∙ agrees.script;
  tx = first_of-here (codes "tx") word rows a is agrees.has_tx;
  has_capture = has_row-other (codes "capture") word rows a (rw is refl) ∙ agrees.has_capture;
  has_script = has_row-other (codes "script") word rows a (rw is refl) ∙ agrees.has_script;
  has_tx = has_row-here (codes "tx") word rows a is;
  explicit = explicit-snoc rows a word agrees.explicit;
}
