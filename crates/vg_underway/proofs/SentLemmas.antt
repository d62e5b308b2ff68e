-- For the clauses `sent` and `within` of `Work::keep`, and those of `SentList::with`, and of `spread` and `in_place` in vg_savefile: bytes of packets behind
-- those of others.
use Rattle.std.proofs.Common.{◌≡◌, ℕ, zero, suc, ◌+◌, ◌-◌, ◌<◌, ◌≤◌, List, [], ◌∷◌, ◌++◌, length, map, take, drop, get_or, refl, sym, ap, subst, ◌∙◌, arith, length-append}
use Rattle.std.specs.Prelude.{slice_range}
use Rattle.std.specs.List.{AllByRecursion}
use Rattle.std.proofs.lemmas.List.{take-append-le, drop-append-le, length-drop, take_all, drop_all, map_push, length-map, get_or_append_left, get_or-append-add}
use Rattle.std.proofs.lemmas.List.Elements.{All-tail, All-push, All-append, All-weaker, All-map, recursion_from_All}
use Rattle.vg_underway.specs.declared.sent.SentEntry.{SentEntry}
use Rattle.vg_underway.specs.SentEntries.{entry_of, sent_in, sent_by, IsIn, AreIn, AreWithin, IsBelow, moved_on}

-- a part of bytes, with more behind them
pub part_kept : (bytes more : List ℕ) (start len : ℕ) → start + len ≤ length bytes → slice_range (bytes ++ more) start (start + len) ≡ slice_range bytes start (start + len)
part_kept bytes more start len h =
    ap (take ((start + len) - start)) (drop-append-le start bytes more (omega (arith, h)))
    ∙ take-append-le ((start + len) - start) (drop start bytes) more (omega (arith, h, length-drop start bytes))

-- the only list of bytes, with more behind them
range_kept : (bytes more : List ℕ) (part start len : ℕ) → part < 1 → start + len ≤ length (get_or (bytes ∷ []) part [])
    → slice_range (get_or ((bytes ++ more) ∷ []) part []) start (start + len) ≡ slice_range (get_or (bytes ∷ []) part []) start (start + len)
range_kept bytes more zero start len only h = part_kept bytes more start len h
range_kept bytes more (suc part) start len only h = absurd (omega (arith, only))

longer : (bytes more : List ℕ) (part n : ℕ) → part < 1 → n ≤ length (get_or (bytes ∷ []) part []) → n ≤ length (get_or ((bytes ++ more) ∷ []) part [])
longer bytes more zero n only h = omega (arith, h, length-append bytes more)
longer bytes more (suc part) n only h = absurd (omega (arith, only))

-- entries keep their bytes
pub entries_kept : (bytes more : List ℕ) (entries : List SentEntry) → AreWithin entries bytes → sent_by entries (bytes ++ more) ≡ sent_by entries bytes
entries_kept bytes more [] within = refl
entries_kept bytes more (e ∷ es) within =
    let here : IsIn (bytes ∷ []) e = within 0 e (omega arith) in
    let rest = entries_kept bytes more es (All-tail (IsIn (bytes ∷ [])) e es within) in
    ap (λ part. (e.number, part) ∷ sent_by es (bytes ++ more)) (range_kept bytes more e.part e.start e.len here.0 here.1) ∙ ap (λ xs. entry_of (bytes ∷ []) e ∷ xs) rest

-- the bytes behind all others
part_last : (bytes more : List ℕ) → slice_range (bytes ++ more) (length bytes) (length bytes + length more) ≡ more
part_last bytes more =
    ap (take ((length bytes + length more) - length bytes)) (drop-append-le (length bytes) bytes more (omega arith) ∙ ap (λ xs. xs ++ more) (drop_all (length bytes) bytes (omega arith)))
    ∙ take_all ((length bytes + length more) - length bytes) more (omega arith)

-- one more entry, whose bytes stand behind all others
pub sent_by_more : (entries new_entries : List SentEntry) (bytes new_bytes more : List ℕ) (number start len : ℕ) → AreWithin entries bytes → start ≡ length bytes → len ≡ length more
    → new_bytes ≡ bytes ++ more → new_entries ≡ entries ++ record { number = number; part = 0; len = len; start = start } ∷ []
    → sent_by new_entries new_bytes ≡ sent_by entries bytes ++ (number, more) ∷ []
sent_by_more entries new_entries bytes new_bytes more number start len within at size is_bytes is_entries =
    let entry : SentEntry = record { number = number; part = 0; len = len; start = start } in
    ap (λ es. map (entry_of (new_bytes ∷ [])) es) is_entries
    ∙ ap (λ bs. map (entry_of (bs ∷ [])) (entries ++ entry ∷ [])) is_bytes
    ∙ map_push (entry_of ((bytes ++ more) ∷ [])) entries entry
    ∙ ap (λ xs. xs ++ entry_of ((bytes ++ more) ∷ []) entry ∷ []) (entries_kept bytes more entries within)
    ∙ ap (λ k. sent_by entries bytes ++ (number, slice_range (bytes ++ more) k (k + len)) ∷ []) at
    ∙ ap (λ k. sent_by entries bytes ++ (number, slice_range (bytes ++ more) (length bytes) (length bytes + k)) ∷ []) size
    ∙ ap (λ part. sent_by entries bytes ++ (number, part) ∷ []) (part_last bytes more)

pub within_more : (entries new_entries : List SentEntry) (bytes new_bytes more : List ℕ) (number start len : ℕ) → AreWithin entries bytes → start ≡ length bytes → len ≡ length more
    → new_bytes ≡ bytes ++ more → new_entries ≡ entries ++ record { number = number; part = 0; len = len; start = start } ∷ [] → AreWithin new_entries new_bytes
within_more entries new_entries bytes new_bytes more number start len within at size is_bytes is_entries =
    let entry : SentEntry = record { number = number; part = 0; len = len; start = start } in
    let kept : AreWithin entries (bytes ++ more) =
    All-weaker (IsIn (bytes ∷ [])) (IsIn ((bytes ++ more) ∷ [])) (λ e h. (h.0, longer bytes more e.part (e.start + e.len) h.0 h.1)) entries within in
    let last : IsIn ((bytes ++ more) ∷ []) entry = (omega arith, omega (arith, at, size, length-append bytes more)) in
    subst (λ es. AreWithin es new_bytes) (sym is_entries) (subst (λ bs. AreWithin (entries ++ entry ∷ []) bs) (sym is_bytes) (All-push (IsIn ((bytes ++ more) ∷ [])) entries entry kept last))

-- parts in front of others, and parts behind others
front_part : (one two : List (List ℕ)) (e : SentEntry) → IsIn one e → entry_of (one ++ two) e ≡ entry_of one e
front_part one two e inside = ap (λ bytes. (e.number, slice_range bytes e.start (e.start + e.len))) (get_or_append_left one two [] e.part inside.0)

further : (one two : List (List ℕ)) (parts part : ℕ) → parts ≡ length one → get_or (one ++ two) (part + parts) [] ≡ get_or two part []
further one two parts part is = ap (λ k. get_or (one ++ two) k []) (let e : part + parts ≡ length one + part = omega (arith, is) in e) ∙ get_or-append-add one two part []

back_part : (one two : List (List ℕ)) (parts : ℕ) (e : SentEntry) → parts ≡ length one → entry_of (one ++ two) (moved_on parts e) ≡ entry_of two e
back_part one two parts e is = ap (λ bytes. (e.number, slice_range bytes e.start (e.start + e.len))) (further one two parts e.part is)

back_parts : (one two : List (List ℕ)) (parts : ℕ) (others : List SentEntry) → parts ≡ length one → sent_in (map (moved_on parts) others) (one ++ two) ≡ sent_in others two
back_parts one two parts [] is = refl
back_parts one two parts (e ∷ es) is =
    ap (λ x. x ∷ sent_in (map (moved_on parts) es) (one ++ two)) (back_part one two parts e is) ∙ ap (λ xs. entry_of two e ∷ xs) (back_parts one two parts es is)

-- entries in parts, and behind them others in further parts
sent_with : (one two : List (List ℕ)) (parts : ℕ) (entries others : List SentEntry) → parts ≡ length one → AreIn entries one
    → sent_in (entries ++ map (moved_on parts) others) (one ++ two) ≡ sent_in entries one ++ sent_in others two
sent_with one two parts [] others is inside = back_parts one two parts others is
sent_with one two parts (e ∷ es) others is inside =
    let here : IsIn one e = inside 0 e (omega arith) in
    ap (λ x. x ∷ sent_in (es ++ map (moved_on parts) others) (one ++ two)) (front_part one two e here)
    ∙ ap (λ xs. entry_of one e ∷ xs) (sent_with one two parts es others is (All-tail (IsIn one) e es inside))

are_in_with : (one two : List (List ℕ)) (parts : ℕ) (entries others : List SentEntry) → parts ≡ length one → AreIn entries one → AreIn others two
    → AreIn (entries ++ map (moved_on parts) others) (one ++ two)
are_in_with one two parts entries others is inside other =
    let size = length-append one two in
    All-append (IsIn (one ++ two)) entries (map (moved_on parts) others)
    (All-weaker (IsIn one) (IsIn (one ++ two))
    (λ e h. (let part = h.0 in omega (arith, part, size), subst (λ bytes. e.start + e.len ≤ length bytes) (sym (get_or_append_left one two [] e.part h.0)) h.1)) entries inside)
    (All-map (IsIn (one ++ two)) (moved_on parts) others
    (All-weaker (IsIn two) (λ e. IsIn (one ++ two) (moved_on parts e))
    (λ e h. (let part = h.0 in omega (arith, part, size, is), subst (λ bytes. e.start + e.len ≤ length bytes) (sym (further one two parts e.part is)) h.1)) others other))

-- the parts of a list and of another that is joined to it
parts_behind : {X : Type 0} (f : X → List ℕ) (more others : List X) (x : X) → map f ((more ++ x ∷ []) ++ others) ≡ map f more ++ f x ∷ map f others
parts_behind f [] others x = refl
parts_behind f (m ∷ ms) others x = ap (λ xs. f m ∷ xs) (parts_behind f ms others x)

parts_joined : {X : Type 0} (f : X → List ℕ) (first : List ℕ) (more others all : List X) (x : X) → all ≡ (more ++ x ∷ []) ++ others
    → first ∷ map f all ≡ (first ∷ map f more) ++ f x ∷ map f others
parts_joined f first more others all x is = ap (λ xs. first ∷ map f xs) is ∙ ap (λ xs. first ∷ xs) (parts_behind f more others x)

pub joined_sent : {X : Type 0} (f : X → List ℕ) (first : List ℕ) (more others all : List X) (x : X) (parts : ℕ) (entries other_entries all_entries : List SentEntry) (sent other : List (ℕ × List ℕ))
    → parts ≡ length more + 1 → all ≡ (more ++ x ∷ []) ++ others → all_entries ≡ entries ++ map (moved_on parts) other_entries
    → AreIn entries (first ∷ map f more) → sent_in entries (first ∷ map f more) ≡ sent → sent_in other_entries (f x ∷ map f others) ≡ other
    → sent_in all_entries (first ∷ map f all) ≡ sent ++ other
joined_sent f first more others all x parts entries other_entries all_entries sent other parts_is all_is entries_are inside sent_is other_is =
    let one : List (List ℕ) = first ∷ map f more in
    let two : List (List ℕ) = f x ∷ map f others in
    let size = length-map more f in
    let is : parts ≡ length one = omega (arith, parts_is, size) in
    ap (λ es. sent_in es (first ∷ map f all)) entries_are
    ∙ ap (λ ps. sent_in (entries ++ map (moved_on parts) other_entries) ps) (parts_joined f first more others all x all_is)
    ∙ sent_with one two parts entries other_entries is inside
    ∙ ap (λ xs. xs ++ sent_in other_entries two) sent_is ∙ ap (λ xs. sent ++ xs) other_is

pub joined_inside : {X : Type 0} (f : X → List ℕ) (first : List ℕ) (more others all : List X) (x : X) (parts : ℕ) (entries other_entries all_entries : List SentEntry)
    → parts ≡ length more + 1 → all ≡ (more ++ x ∷ []) ++ others → all_entries ≡ entries ++ map (moved_on parts) other_entries
    → AreIn entries (first ∷ map f more) → AreIn other_entries (f x ∷ map f others) → AreIn all_entries (first ∷ map f all)
joined_inside f first more others all x parts entries other_entries all_entries parts_is all_is entries_are inside other =
    let one : List (List ℕ) = first ∷ map f more in
    let two : List (List ℕ) = f x ∷ map f others in
    let size = length-map more f in
    let is : parts ≡ length one = omega (arith, parts_is, size) in
    subst (λ es. AreIn es (first ∷ map f all)) (sym entries_are)
    (subst (λ ps. AreIn (entries ++ map (moved_on parts) other_entries) ps) (sym (parts_joined f first more others all x all_is)) (are_in_with one two parts entries other_entries is inside other))

-- the parts of entries, so many places further on, are below a bound
pub below_last : {X : Type 0} (f : X → List ℕ) (first : List ℕ) (others : List X) (entries : List SentEntry) (parts most : ℕ) → AreIn entries (first ∷ map f others) → length others + parts < most
    → AllByRecursion (IsBelow most parts) entries
below_last f first others entries parts most inside few =
    let size = length-map others f in
    recursion_from_All (IsBelow most parts) entries (All-weaker (IsIn (first ∷ map f others)) (IsBelow most parts) (λ e h. (let part = h.0 in omega (arith, part, size, few))) entries inside)
