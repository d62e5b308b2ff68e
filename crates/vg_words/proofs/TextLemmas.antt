-- For the clauses of `option_in` and `read_run`: texts that are compared, and searches by them.
use Rattle.std.proofs.Common.{◌≡◌, ◌∙◌, ◌&&◌, ◌||◌, ◌⊎◌, ◌==◌, ℕ, Bool, cond, true, false, not, refl, sym, ap, ap₂, subst, arith, suc, ◌<◌, length, [], ◌∷◌, codes, Option, Some, None, inl, inr, true≢false, eq-eqb}
use Rattle.std.specs.List.{list_any, position_or_len, before_first, after_first}
use Rattle.std.proofs.lemmas.List.{take_all}
use Rattle.std.specs.Str.{bytes_eq}
use Rattle.std.proofs.lemmas.Bool.{eqb-true}
use Rattle.vg_words.specs.Command.{Text, is_option_name, parted, option_in}

pub or_cases : (a b : Bool) → (a || b) ≡ true → (a ≡ true) ⊎ (b ≡ true)
or_cases true b h = inl refl
or_cases false b h = inr h

pub and_both : (a b : Bool) → (a && b) ≡ true → (a ≡ true) × (b ≡ true)
and_both true b h = (refl, h)
and_both false b h = absurd (true≢false (sym h))

pub not_true : (b : Bool) → not b ≡ true → b ≡ false
not_true true h = absurd (true≢false (sym h))
not_true false h = refl

-- a test is true or false
pub true_or_false : (b : Bool) → (b ≡ true) ⊎ (b ≡ false)
true_or_false true = inl refl
true_or_false false = inr refl

pub some_is : {X : Type 0} (x y : X) → Some x ≡ Some y → x ≡ y
some_is x y e = cc

pub none_is_not_some : {X : Type 0} (x : X) → None ≡ Some x → ⊥
none_is_not_some x e = cc

pub bytes_eq-refl : (text : Text) → bytes_eq text text ≡ true
bytes_eq-refl [] = refl
bytes_eq-refl (byte ∷ bytes) = rw (eq-eqb byte byte refl) (bytes_eq-refl bytes)

same_head : (x y : ℕ) (a b : Text) → (bytes_eq a b ≡ true → a ≡ b) → ((x == y) && bytes_eq a b) ≡ true → x ∷ a ≡ y ∷ b
same_head x y a b rest h =
    let parts = and_both (x == y) (bytes_eq a b) h in
    ap (λ z. z ∷ a) (eqb-true x y parts.0) ∙ ap (λ z. y ∷ z) (rest parts.1)

pub bytes_eq-true : (a b : Text) → bytes_eq a b ≡ true → a ≡ b
bytes_eq-true [] [] h = refl
bytes_eq-true [] (y ∷ b) h = absurd (true≢false (sym h))
bytes_eq-true (x ∷ a) [] h = absurd (true≢false (sym h))
bytes_eq-true (x ∷ a) (y ∷ b) h = same_head x y a b (bytes_eq-true a b) h

abbrev is_it : (name known : Text) → Bool
is_it name known = bytes_eq known name

same_name : (P : Text → Type 0) (name known : Text) → P known → is_it name known ≡ true → P name
same_name P name known p e = subst P (bytes_eq-true known name e) p

-- what holds of each of the options' names holds of an option's name
pub by_option : (P : Text → Type 0) → P (codes "workers") → P (codes "buffers") → P (codes "queue") → P (codes "burst") → P (codes "trace")
    → P (codes "turns") → P (codes "hold") → (name : Text) → is_option_name name ≡ true → P name
by_option P workers buffers queue burst trace turns hold name h =
    elim (or_cases (is_it name (codes "workers")) (is_it name (codes "buffers") || (is_it name (codes "queue") || (is_it name (codes "burst") || (is_it name (codes "trace") || (is_it name (codes "turns") || (is_it name (codes "hold") || false)))))) h) [
      | inl e ↦ same_name P name (codes "workers") workers e
      | inr h1 ↦ elim (or_cases (is_it name (codes "buffers")) (is_it name (codes "queue") || (is_it name (codes "burst") || (is_it name (codes "trace") || (is_it name (codes "turns") || (is_it name (codes "hold") || false))))) h1) [
        | inl e ↦ same_name P name (codes "buffers") buffers e
        | inr h2 ↦ elim (or_cases (is_it name (codes "queue")) (is_it name (codes "burst") || (is_it name (codes "trace") || (is_it name (codes "turns") || (is_it name (codes "hold") || false)))) h2) [
          | inl e ↦ same_name P name (codes "queue") queue e
          | inr h3 ↦ elim (or_cases (is_it name (codes "burst")) (is_it name (codes "trace") || (is_it name (codes "turns") || (is_it name (codes "hold") || false))) h3) [
            | inl e ↦ same_name P name (codes "burst") burst e
            | inr h4 ↦ elim (or_cases (is_it name (codes "trace")) (is_it name (codes "turns") || (is_it name (codes "hold") || false)) h4) [
              | inl e ↦ same_name P name (codes "trace") trace e
              | inr h5 ↦ elim (or_cases (is_it name (codes "turns")) (is_it name (codes "hold") || false) h5) [
                | inl e ↦ same_name P name (codes "turns") turns e
                | inr h6 ↦ elim (or_cases (is_it name (codes "hold")) false h6) [
                  | inl e ↦ same_name P name (codes "hold") hold e
                  | inr h7 ↦ absurd (true≢false (sym h7))
                ]
              ]
            ]
          ]
        ]
      ]
    ]

-- ---- texts that are parted at a byte

first_passes : (p : ℕ → Bool) (x : ℕ) (xs : Text) → p x ≡ true → position_or_len p (x ∷ xs) ≡ 0
first_passes p x xs h = rw h refl

later_passes : (p : ℕ → Bool) (x : ℕ) (xs : Text) → p x ≡ false → position_or_len p (x ∷ xs) ≡ suc (position_or_len p xs)
later_passes p x xs h = rw h (omega arith)

pub no_mark : (p : ℕ → Bool) (xs : Text) → position_or_len p xs ≡ length xs → list_any p xs ≡ false
no_mark p [] h = refl
no_mark p (x ∷ xs) h = (elim (true_or_false (p x)) [
  | inl e ↦ absurd (omega (arith, first_passes p x xs e, h))
  | inr e ↦ rw e (no_mark p xs (omega (arith, later_passes p x xs e, h)))
])

pub a_mark : (p : ℕ → Bool) (xs : Text) → position_or_len p xs < length xs → list_any p xs ≡ true
a_mark p [] h = absurd (omega arith)
a_mark p (x ∷ xs) h = (elim (true_or_false (p x)) [
  | inl e ↦ rw e refl
  | inr e ↦ rw e (a_mark p xs (omega (arith, later_passes p x xs e, h)))
])

abbrev is_equals : ℕ → Bool
is_equals byte = byte == 61

pub parted-none : (text : Text) → position_or_len is_equals text ≡ length text → parted text ≡ (text, None)
parted-none text h =
    let all : before_first is_equals text ≡ text = take_all (position_or_len is_equals text) text (omega (arith, h)) in
    ap₂ (λ (name : Text) (b : Bool). let pair : Text × Option Text = (name, cond b (Some (after_first is_equals text)) None) in pair) all (no_mark is_equals text h)

pub parted-some : (text name value : Text) → position_or_len is_equals text < length text → name ≡ before_first is_equals text → value ≡ after_first is_equals text
    → parted text ≡ (name, Some value)
parted-some text name value h front back =
    ap (λ (b : Bool). let pair : Text × Option Text = (before_first is_equals text, cond b (Some (after_first is_equals text)) None) in pair) (a_mark is_equals text h)
    ∙ ap₂ (λ (n v : Text). let pair : Text × Option Text = (n, Some v) in pair) (sym front) (sym back)

-- a word behind whose two hyphens this text stands
pub option_in-behind : (word text : Text) → word ≡ 45 ∷ 45 ∷ text → option_in word ≡ Some (parted text)
option_in-behind word text e = ap option_in e

-- no text stands there
pub option_in-none : (word : Text) → ((text : Text) → word ≡ 45 ∷ 45 ∷ text → ⊥) → option_in word ≡ None
option_in-none [] none = refl
option_in-none (first ∷ []) none = refl
option_in-none (first ∷ second ∷ rest) none = by_test (first == 45 && second == 45) refl
  where
    by_test : (b : Bool) → (first == 45 && second == 45) ≡ b → option_in (first ∷ second ∷ rest) ≡ None
    by_test true e =
        let both = and_both (first == 45) (second == 45) e in
        absurd (none rest (ap₂ (λ (x y : ℕ). x ∷ y ∷ rest) (eqb-true first 45 both.0) (eqb-true second 45 both.1)))
    by_test false e = rw e refl
