-- For `lay_digits`, `lay_leg`, the front of `laying` and `put_lines_by`: a line that is laid in pieces is the packet's.
use Rattle.std.proofs.Common.{◌≡◌, ℕ, ◌+◌, ◌*◌, ◌/◌, ◌%◌, ◌<◌, ◌≤◌, ◌^◌, List, [], ◌∷◌, ◌++◌, length, set, take, sym, ap, ◌∙◌, append-nil, append_assoc, length-set, arith}
use Rattle.std.proofs.lemmas.List.{take_more_set}
use Rattle.std.proofs.lemmas.Grind.{take-set_at}
use Rattle.std.specs.Prelude.{codes, decimal}
use Rattle.itoa.proofs.Decimal.{decimal_pair}
use Rattle.vg_model.specs.declared.fates.Fate.{Fate}
use Rattle.vg_model.specs.declared.fates.Leg.{Leg}
use Rattle.vg_report.specs.Text.{line_text, further, packet_line, leg_text, legs_word, congested_words, end_words}
use Rattle.vg_report.specs.Named.{end_by, line_by}
use Rattle.vg_report.specs.Ready.{IsShort, end_text}
use Rattle.vg_report.proofs.LineLemmas.{packet_steps}

-- two bytes, stored one behind the other
pub two_laid : (list : List ℕ) (at a b : ℕ) → at + 2 ≤ length list → take (at + 2) (set (set list at a) (at + 1) b) ≡ take at list ++ a ∷ b ∷ []
two_laid list at a b fits =
    let first = set list at a in
    let inside : at + 1 < length first = omega (arith, length-set list at a) in
    take-set_at first (at + 1) (at + 2) b (omega arith) inside
    ∙ ap (λ l. l ++ b ∷ []) (take_more_set list at a (omega (arith, fits)))
    ∙ append_assoc (take at list) (a ∷ []) (b ∷ [])

-- three bytes, stored one behind the other
pub three_laid : (list : List ℕ) (at a b c : ℕ) → at + 3 ≤ length list
    → take (at + 3) (set (set (set list at a) (at + 1) b) (at + 2) c) ≡ take at list ++ a ∷ b ∷ c ∷ []
three_laid list at a b c fits =
    let two = set (set list at a) (at + 1) b in
    let inside : at + 2 < length two = omega (arith, length-set (set list at a) (at + 1) b, length-set list at a, fits) in
    take-set_at two (at + 2) (at + 3) c (omega arith) inside
    ∙ ap (λ l. l ++ c ∷ []) (two_laid list at a b (omega (arith, fits)))
    ∙ append_assoc (take at list) (a ∷ b ∷ []) (c ∷ [])

-- the number of a hundred, and two digits behind it
digits_behind : (hundred low : ℕ) → low < 100 → 100 ≤ hundred * 100 + low → hundred * 100 + low < 2 ^ 64
    → decimal hundred ++ ((48 + low / 10) ∷ (48 + low % 10) ∷ []) ≡ decimal (hundred * 100 + low)
digits_behind hundred low small high fits =
    let number = hundred * 100 + low in
    let front : number / 100 ≡ hundred = omega arith in
    let back : number % 100 ≡ low = omega arith in
    sym (decimal_pair number high fits ∙ ap (λ h. decimal h ++ ((48 + number % 100 / 10) ∷ (48 + number % 100 % 10) ∷ [])) front
    ∙ ap (λ l. decimal hundred ++ ((48 + l / 10) ∷ (48 + l % 10) ∷ [])) back)

-- a number behind its word, laid in two pieces
pub number_laid : (before word : List ℕ) (hundred low : ℕ) → low < 100 → 100 ≤ hundred * 100 + low → hundred * 100 + low < 2 ^ 64
    → (before ++ (word ++ decimal hundred)) ++ ((48 + low / 10) ∷ (48 + low % 10) ∷ []) ≡ before ++ (word ++ decimal (hundred * 100 + low))
number_laid before word hundred low small high fits =
    let digits : List ℕ = (48 + low / 10) ∷ (48 + low % 10) ∷ [] in
    append_assoc before (word ++ decimal hundred) digits
    ∙ ap (λ t. before ++ t) (append_assoc word (decimal hundred) digits ∙ ap (λ t. word ++ t) (digits_behind hundred low small high fits))

-- the pieces in a row
pieces : (word digits leg end : List ℕ) → ((word ++ (digits ++ 32 ∷ leg)) ++ []) ++ end ≡ (word ++ digits) ++ 32 ∷ (leg ++ end)
pieces word digits leg end = simp (append_assoc, append-nil)

-- the line of a packet, from its front on
pub short_line : (interfaces nodes : List (List ℕ)) (number : ℕ) (fate : Fate) (leg : Leg) (end : List ℕ) → IsShort interfaces nodes number fate leg end
    → (codes "packet " ++ decimal number) ++ 32 ∷ (leg_text leg ++ end) ≡ line_text (packet_line number (line_by interfaces nodes fate))
short_line interfaces nodes number fate leg end short =
    let word = codes "packet " in
    let last = end_text interfaces nodes fate.end in
    sym (pieces word (decimal number) (leg_text leg) end)
    ∙ ap (λ text. ((word ++ (decimal number ++ 32 ∷ leg_text leg)) ++ []) ++ text) short.ends
    ∙ ap (λ legs. ((word ++ (decimal number ++ 32 ∷ legs_word legs)) ++ []) ++ last) (sym short.legs)
    ∙ ap (λ congested. ((word ++ (decimal number ++ 32 ∷ legs_word fate.legs)) ++ further (congested_words congested)) ++ last) (sym short.plain)
    ∙ packet_steps [] (decimal number) (legs_word fate.legs) (congested_words fate.congested) (end_words (end_by interfaces nodes fate.end))

-- a line behind those that are laid
pub laid_behind : (out before window laid line : List ℕ) (at : ℕ) → out ++ take at window ≡ before → laid ≡ take at window ++ line → out ++ laid ≡ before ++ line
laid_behind out before window laid line at so_far is = ap (λ l. out ++ l) is ∙ sym (append_assoc out (take at window) line) ∙ ap (λ l. l ++ line) so_far
