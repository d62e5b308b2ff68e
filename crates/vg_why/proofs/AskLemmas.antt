-- For `numbers` and `all_from`: what words say, one word or one condition more at a time.
use Rattle.std.proofs.Common.{◌≡◌, ℕ, ◌+◌, ◌<◌, ◌≤◌, List, [], ◌∷◌, ◌++◌, length, drop, refl, sym, ap, ◌∙◌, append-nil, append_assoc, arith}
use Rattle.std.specs.Prelude.{Option, Some, None, option_map, option_and_then}
use Rattle.std.specs.Borrow.{Bor}
use Rattle.std.proofs.lemmas.List.{drop_all}
use Rattle.vg_words.specs.Command.{Text, texts}
use Rattle.vg_words.proofs.CheckLemmas.{word_at, next_word}
use Rattle.vg_why.specs.Asked.{Filter, All, packet_number, numbers_of, with_condition, all_from, files_of}

-- ---- numbers

-- a number is put behind those so far
behind_more : (so_far : List ℕ) (number : ℕ) (rest : Option (List ℕ))
    → option_map (λ behind. (so_far ++ number ∷ []) ++ behind) rest ≡ option_map (λ behind. so_far ++ behind) (option_map (λ numbers. number ∷ numbers) rest)
behind_more so_far number None = refl
behind_more so_far number (Some behind) = ap (λ (ns : List ℕ). Some ns) (append_assoc so_far (number ∷ []) behind)

-- what the words from one on say behind the numbers so far, by the number that it says
abbrev by_number : (so_far : List ℕ) (behind : List Text) → Option ℕ → Option (List ℕ)
by_number so_far behind number = option_map (λ later. so_far ++ later) (option_and_then (λ n. option_map (λ numbers. n ∷ numbers) (numbers_of behind)) number)

-- one number more
pub number_more : (words : List (Bor Text)) (i : ℕ) (so_far : List ℕ) {number : ℕ} → i < length words → packet_number (word_at words i) ≡ Some number
    → option_map (λ behind. so_far ++ behind) (numbers_of (texts (drop i words))) ≡ numbers_of (texts words)
    → option_map (λ behind. (so_far ++ number ∷ []) ++ behind) (numbers_of (texts (drop (i + 1) words))) ≡ numbers_of (texts words)
number_more words i so_far {number = number} within is invariant =
    let later = texts (drop (i + 1) words) in
    behind_more so_far number (numbers_of later)
    ∙ ap (by_number so_far later) (sym is)
    ∙ ap (λ ws. option_map (λ behind. so_far ++ behind) (numbers_of ws)) (sym (next_word words i within))
    ∙ invariant

-- a word that says none
pub number_none : (words : List (Bor Text)) (i : ℕ) (so_far : List ℕ) → i < length words → packet_number (word_at words i) ≡ None
    → option_map (λ behind. so_far ++ behind) (numbers_of (texts (drop i words))) ≡ numbers_of (texts words)
    → None ≡ numbers_of (texts words)
number_none words i so_far within is invariant =
    ap (by_number so_far (texts (drop (i + 1) words))) (sym is)
    ∙ ap (λ ws. option_map (λ behind. so_far ++ behind) (numbers_of ws)) (sym (next_word words i within))
    ∙ invariant

-- all numbers
pub numbers_all : (words : List (Bor (List ℕ))) (i : ℕ) (so_far : List ℕ) → length words ≤ i
    → option_map (λ behind. so_far ++ behind) (numbers_of (texts (drop i words))) ≡ numbers_of (texts words)
    → Some so_far ≡ numbers_of (texts words)
numbers_all words i so_far past invariant =
    ap (λ (ns : List ℕ). Some ns) (sym (append-nil so_far))
    ∙ ap (λ (ws : List (Bor (List ℕ))). option_map (λ behind. so_far ++ behind) (numbers_of (texts ws))) (sym (drop_all i words past))
    ∙ invariant

-- ---- conditions

-- what more than three words say, by the condition that the first two say
said_by : (rest : List (Bor Text)) (f : Filter) → 3 < length rest
    → all_from f (texts rest) ≡ option_and_then (λ g. all_from g (texts (drop 2 rest))) (with_condition f (word_at rest 0) (word_at rest 1))
said_by [] f long = absurd (omega (arith, long))
said_by (x ∷ []) f long = absurd (omega (arith, long))
said_by (x ∷ (y ∷ [])) f long = absurd (omega (arith, long))
said_by (x ∷ (y ∷ (a ∷ []))) f long = absurd (omega (arith, long))
said_by (x ∷ (y ∷ (a ∷ (b ∷ rest)))) f long = refl

-- one condition more
pub condition_more : (rest : List (Bor Text)) (f : Filter) {g : Filter} → 3 < length rest → with_condition f (word_at rest 0) (word_at rest 1) ≡ Some g
    → all_from g (texts (drop 2 rest)) ≡ all_from f (texts rest)
condition_more rest f long is = ap (option_and_then (λ (h : Filter). all_from h (texts (drop 2 rest)))) (sym is) ∙ sym (said_by rest f long)

-- words that say none
pub condition_none : (rest : List (Bor Text)) (f : Filter) → 3 < length rest → with_condition f (word_at rest 0) (word_at rest 1) ≡ None
    → None ≡ all_from f (texts rest)
condition_none rest f long is = ap (option_and_then (λ (h : Filter). all_from h (texts (drop 2 rest)))) (sym is) ∙ sym (said_by rest f long)

-- three words and fewer are files
pub files_left : (rest : List (Bor (List ℕ))) (f : Filter) → length rest ≤ 3 → files_of (All f) (texts rest) ≡ all_from f (texts rest)
files_left [] f few = refl
files_left (x ∷ []) f few = refl
files_left (x ∷ (y ∷ [])) f few = refl
files_left (x ∷ (y ∷ (a ∷ []))) f few = refl
files_left (x ∷ (y ∷ (a ∷ (b ∷ rest)))) f few = absurd (omega (arith, few))
