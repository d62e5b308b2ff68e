-- For the clauses of the functions of `writing` that append words and lines, up to `put_report`:
-- Lines and words in a row.
use Rattle.std.proofs.Common.{◌≡◌, ℕ, ◌+◌, ◌<◌, List, [], ◌∷◌, ◌++◌, length, take, get_or, refl, sym, ap, ◌∙◌, append-nil, append_assoc, add-zero, zero-add, suc, length-take-le, arith}
use Rattle.std.proofs.lemmas.List.{take_more, take_all, take-append-le}
use Rattle.std.proofs.lemmas.Fmt.{decimal_digit}
use Rattle.std.proofs.lemmas.Grind.{flat_map-append}
use Rattle.std.specs.Prelude.{flat_map, map, codes, decimal}
use Rattle.std.specs.List.{join_with_byte}
use Rattle.vg_model.specs.declared.fates.Leg.{Leg}
use Rattle.vg_report.specs.Text.{Line, line_text, further, numbered, first_line, count_line, head_lines, leg_text, legs_word}
use Rattle.vg_report.specs.declared.reports.Report.{Report}

-- pieces joined by a byte are the first, and each other behind the byte
pub join_with_byte-cons : (c : ℕ) (x : List ℕ) (xs : List (List ℕ)) → join_with_byte c (x ∷ xs) ≡ x ++ flat_map (λ y. c ∷ y) xs
join_with_byte-cons c x [] = sym (append-nil x)
join_with_byte-cons c x (y ∷ ys) = ap (λ r. x ++ c ∷ r) (join_with_byte-cons c y ys)

-- a line is its first word, the further ones and a line feed
pub line_text-cons : (word : List ℕ) (words : Line) → line_text (word ∷ words) ≡ word ++ (further words ++ 10 ∷ [])
line_text-cons word words = ap (λ l. l ++ 10 ∷ []) (join_with_byte-cons 32 word words) ∙ append_assoc word (further words) (10 ∷ [])

-- the steps in which a trace's line is appended
pub trace_steps : (before number : List ℕ) (names : Line)
    → (((before ++ codes "trace") ++ 32 ∷ number) ++ further names) ++ 10 ∷ [] ≡ before ++ line_text (codes "trace" ∷ number ∷ names)
trace_steps before number names = rw (join_with_byte-cons 32 number names) (simp append_assoc)

-- seven lists in a row
seven : (a b c d e f g : List ℕ) → ((a ++ (b ++ (c ++ d))) ++ e) ++ (f ++ g) ≡ a ++ (b ++ ((c ++ (d ++ (e ++ f))) ++ g))
seven a b c d e f g = simp append_assoc

-- the steps in which a packet's line is appended
pub packet_steps : (before number legs : List ℕ) (congested end : Line)
    → ((before ++ (codes "packet " ++ (number ++ 32 ∷ legs))) ++ further congested) ++ (further end ++ 10 ∷ [])
    ≡ before ++ line_text (codes "packet" ∷ number ∷ legs ∷ (congested ++ end))
packet_steps before number legs congested end =
    seven before (codes "packet ") number (32 ∷ legs) (further congested) (further end) (10 ∷ [])
    ∙ ap (λ r. before ++ (codes "packet " ++ ((number ++ (32 ∷ legs ++ r)) ++ 10 ∷ []))) (sym (flat_map-append (λ word. 32 ∷ word) congested end))
    ∙ ap (λ r. before ++ r) (sym (line_text-cons (codes "packet") (number ∷ legs ∷ (congested ++ end))))

-- the first elements, as many as there are in front
pub take_front : {X : Type 0} (n : ℕ) (xs ys : List X) → n ≡ length xs → take n (xs ++ ys) ≡ xs
take_front n xs ys all = take-append-le n xs ys (omega (arith, all)) ∙ take_all n xs (omega (arith, all))

-- the steps in which a packet's number and legs are appended
pub front_steps : (before number legs : List ℕ) → ((before ++ codes "packet ") ++ number) ++ 32 ∷ legs ≡ before ++ (codes "packet " ++ (number ++ 32 ∷ legs))
front_steps before number legs = append_assoc (before ++ codes "packet ") number (32 ∷ legs) ∙ append_assoc before (codes "packet ") (number ++ 32 ∷ legs)

-- a leg whose numbers have one digit
pub leg_text-digits : (leg : Leg) → leg.worker < 10 → leg.generation < 10 → leg_text leg ≡ (48 + leg.worker) ∷ 58 ∷ (48 + leg.generation) ∷ []
leg_text-digits leg worker generation =
    ap (λ r. r ++ 58 ∷ decimal leg.generation) (decimal_digit leg.worker worker) ∙ ap (λ r. (48 + leg.worker) ∷ 58 ∷ r) (decimal_digit leg.generation generation)

-- the legs of a packet are the first, and each other behind a comma
pub legs_word-cons : (leg : Leg) (legs : List Leg) → legs_word (leg ∷ legs) ≡ leg_text leg ++ flat_map (λ l. 44 ∷ leg_text l) legs
legs_word-cons leg legs = join_with_byte-cons 44 (leg_text leg) (map leg_text legs) ∙ ap (λ r. leg_text leg ++ r) (behind_commas legs)
  where
    behind_commas : (ls : List Leg) → flat_map (λ y. 44 ∷ y) (map leg_text ls) ≡ flat_map (λ l. 44 ∷ leg_text l) ls
    behind_commas [] = refl
    behind_commas (l ∷ ls) = ap (λ r. (44 ∷ leg_text l) ++ r) (behind_commas ls)

-- the lines of elements in front of an element, and the line of that
pub numbered-append : {X : Type 0} (f : ℕ → X → Line) (n : ℕ) (xs : List X) (x : X)
    → flat_map line_text (numbered f n (xs ++ x ∷ [])) ≡ flat_map line_text (numbered f n xs) ++ line_text (f (n + length xs) x)
numbered-append f n [] x = append-nil (line_text (f n x)) ∙ ap (λ m. line_text (f m x)) (sym (add-zero n))
numbered-append f n (y ∷ ys) x =
    ap (λ r. line_text (f n y) ++ r) (numbered-append f (suc n) ys x)
    ∙ ap (λ m. line_text (f n y) ++ (flat_map line_text (numbered f (suc n) ys) ++ line_text (f m x))) (let shifted : suc n + length ys ≡ n + suc (length ys) = omega arith in shifted)
    ∙ sym (append_assoc (line_text (f n y)) (flat_map line_text (numbered f (suc n) ys)) (line_text (f (n + suc (length ys)) x)))

-- one more element, and the line that it adds
pub numbered_more : {X : Type 0} (f : ℕ → X → Line) (xs : List X) (i : ℕ) (x : X) → i < length xs → x ≡ get_or xs i x
    → flat_map line_text (numbered f 0 (take (i + 1) xs)) ≡ flat_map line_text (numbered f 0 (take i xs)) ++ line_text (f i x)
numbered_more f xs i x h e =
    ap (λ ys. flat_map line_text (numbered f 0 ys)) (take_more xs i x h ∙ ap (λ y. take i xs ++ y ∷ []) (sym e))
    ∙ numbered-append f 0 (take i xs) x
    ∙ ap (λ m. flat_map line_text (numbered f 0 (take i xs)) ++ line_text (f m x)) (zero-add (length (take i xs)) ∙ length-take-le i xs (omega arith))

-- the lines of the elements so far stand behind what stood before, and the line of one more is appended
pub one_more_line : {X : Type 0} (f : ℕ → X → Line) (xs : List X) (i : ℕ) (x : X) (before out out' : List ℕ) → i < length xs → x ≡ get_or xs i x
    → out ≡ before ++ flat_map line_text (numbered f 0 (take i xs)) → out' ≡ out ++ line_text (f i x)
    → out' ≡ before ++ flat_map line_text (numbered f 0 (take (i + 1) xs))
one_more_line f xs i x before out out' h e so_far more =
    more ∙ ap (λ r. r ++ line_text (f i x)) so_far ∙ append_assoc before (flat_map line_text (numbered f 0 (take i xs))) (line_text (f i x))
    ∙ ap (λ r. before ++ r) (sym (numbered_more f xs i x h e))

-- lines behind lines
lines_behind : (before : List ℕ) (a b : List Line) → (before ++ flat_map line_text a) ++ flat_map line_text b ≡ before ++ flat_map line_text (a ++ b)
lines_behind before a b =
    append_assoc before (flat_map line_text a) (flat_map line_text b) ∙ ap (λ r. before ++ r) (sym (flat_map-append line_text a b))

-- the steps in which the lines of a report are appended
pub report_steps : (before : List ℕ) (head interfaces nodes errors packets traces last : List Line)
    → ((((((before ++ flat_map line_text head) ++ flat_map line_text interfaces) ++ flat_map line_text nodes) ++ flat_map line_text errors)
    ++ flat_map line_text packets) ++ flat_map line_text traces) ++ flat_map line_text last
    ≡ before ++ flat_map line_text (head ++ interfaces ++ nodes ++ errors ++ packets ++ traces ++ last)
report_steps before h i n e p t l =
    ap (λ r. ((((r ++ flat_map line_text n) ++ flat_map line_text e) ++ flat_map line_text p) ++ flat_map line_text t) ++ flat_map line_text l) (lines_behind before h i)
    ∙ ap (λ r. (((r ++ flat_map line_text e) ++ flat_map line_text p) ++ flat_map line_text t) ++ flat_map line_text l) (lines_behind before (h ++ i) n)
    ∙ ap (λ r. ((r ++ flat_map line_text p) ++ flat_map line_text t) ++ flat_map line_text l) (lines_behind before (h ++ i ++ n) e)
    ∙ ap (λ r. (r ++ flat_map line_text t) ++ flat_map line_text l) (lines_behind before (h ++ i ++ n ++ e) p)
    ∙ ap (λ r. r ++ flat_map line_text l) (lines_behind before (h ++ i ++ n ++ e ++ p) t)
    ∙ lines_behind before (h ++ i ++ n ++ e ++ p ++ t) l

-- five texts in a row
five : (before a b c d e : List ℕ) → ((((before ++ a) ++ b) ++ c) ++ d) ++ e ≡ before ++ (a ++ (b ++ (c ++ (d ++ (e ++ [])))))
five before a b c d e = simp (append_assoc, append-nil)

-- the steps in which the first five lines of a report are appended
pub head_steps : (before : List ℕ) (r : Report)
    → ((((before ++ line_text first_line) ++ line_text (count_line (codes "workers") r.workers)) ++ line_text (count_line (codes "buffers") r.buffers))
    ++ line_text (count_line (codes "generations") r.generations)) ++ line_text (count_line (codes "packets") (length r.packets))
    ≡ before ++ flat_map line_text (head_lines r)
head_steps before r =
    five before (line_text first_line) (line_text (count_line (codes "workers") r.workers)) (line_text (count_line (codes "buffers") r.buffers))
    (line_text (count_line (codes "generations") r.generations)) (line_text (count_line (codes "packets") (length r.packets)))
