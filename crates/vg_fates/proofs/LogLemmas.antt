-- For the clauses of `FateLog::push`, `are_in_order` and `put_in_place`, and of `FateList::{with, joined, is_in_order, sort}`:
-- Fates as workers log them.
use Rattle.std.proofs.Common.{◌≡◌, ℕ, ◌+◌, ◌-◌, ◌<◌, ◌≤◌, ◌^◌, All, List, [], ◌∷◌, ◌++◌, length, map, take, get_or, refl, sym, ap, subst, ◌∙◌, arith, length-append}
use Rattle.std.specs.List.{AllByRecursion}
use Rattle.std.specs.List.Sorted.{IsNonDecreasingBy}
use Rattle.std.proofs.lemmas.List.{take_more, map_push, length-map, get_or_append_left, get_or-append-add, get_or-map}
use Rattle.std.proofs.lemmas.List.Sorted.{IsNonDecreasingBy-push}
use Rattle.std.proofs.lemmas.List.Elements.{All-tail, All-push, All-append, All-weaker, All-map, recursion_from_All}
use Rattle.vg_model.specs.declared.fates.Fate.{Fate}
use Rattle.vg_fates.specs.declared.logs.LogEntry.{LogEntry}
use Rattle.vg_fates.specs.declared.logs.LogEntry.TheVariants.{Plain, Other}
use Rattle.vg_fates.specs.Logs.{fate_in, fates_in, IsLogged, AreLogged, CanMove, moved_behind, no_fate}

-- with more others behind those that there are
fate_kept : (others more : List Fate) (e : LogEntry) → IsLogged (length others) e → fate_in (others ++ more) e ≡ fate_in others e
fate_kept others more (Plain worker end number generation) logged = refl
fate_kept others more (Other place) logged = get_or_append_left others more no_fate place logged

fates_kept : (others more : List Fate) (entries : List LogEntry) → AreLogged others entries → fates_in (others ++ more) entries ≡ fates_in others entries
fates_kept others more [] logged = refl
fates_kept others more (e ∷ es) logged =
    let here : IsLogged (length others) e = logged 0 e (omega arith) in
    ap (λ x. x ∷ fates_in (others ++ more) es) (fate_kept others more e here) ∙ ap (λ xs. fate_in others e ∷ xs) (fates_kept others more es (All-tail (IsLogged (length others)) e es logged))

among_more : (count all : ℕ) → count ≤ all → (e : LogEntry) → IsLogged count e → IsLogged all e
among_more count all le (Plain worker end number generation) logged = tt
among_more count all le (Other place) logged = omega (arith, le, logged)

-- one more entry
pub fates_more : (others more new_others : List Fate) (entries new_entries : List LogEntry) (entry : LogEntry) (fate : Fate) → AreLogged others entries → new_others ≡ others ++ more → new_entries ≡ entries ++ entry ∷ []
    → fate_in new_others entry ≡ fate → fates_in new_others new_entries ≡ fates_in others entries ++ fate ∷ []
fates_more others more new_others entries new_entries entry fate logged others_are entries_are is =
    ap (λ es. fates_in new_others es) entries_are ∙ map_push (fate_in new_others) entries entry
    ∙ ap (λ os. fates_in os entries ++ fate_in new_others entry ∷ []) others_are
    ∙ ap (λ xs. xs ++ fate_in new_others entry ∷ []) (fates_kept others more entries logged) ∙ ap (λ x. fates_in others entries ++ x ∷ []) is

pub logged_more : (others more new_others : List Fate) (entries new_entries : List LogEntry) (entry : LogEntry) → AreLogged others entries → new_others ≡ others ++ more → new_entries ≡ entries ++ entry ∷ []
    → IsLogged (length new_others) entry → AreLogged new_others new_entries
logged_more others more new_others entries new_entries entry logged others_are entries_are is =
    let size = ap length others_are ∙ length-append others more in
    subst (λ es. AreLogged new_others es) (sym entries_are)
    (All-push (IsLogged (length new_others)) entries entry
    (All-weaker (IsLogged (length others)) (IsLogged (length new_others)) (λ e h. among_more (length others) (length new_others) (omega (arith, size)) e h) entries logged) is)

-- the last of the others
pub last_fate : (others new_others : List Fate) (fate : Fate) (place : ℕ) → new_others ≡ others ++ fate ∷ [] → place ≡ length others → fate_in new_others (Other place) ≡ fate
last_fate others new_others fate place others_are at =
    ap (λ os. get_or os place no_fate) others_are
    ∙ ap (λ k. get_or (others ++ fate ∷ []) k no_fate) (let e : place ≡ length others + 0 = omega (arith, at) in e) ∙ get_or-append-add others (fate ∷ []) 0 no_fate

-- entries behind those of another log, whose others stand in front
fate_behind : (one two : List Fate) (places : ℕ) (e : LogEntry) → places ≡ length one → fate_in (one ++ two) (moved_behind places e) ≡ fate_in two e
fate_behind one two places (Plain worker end number generation) is = refl
fate_behind one two places (Other place) is =
    ap (λ k. get_or (one ++ two) k no_fate) (let e : place + places ≡ length one + place = omega (arith, is) in e) ∙ get_or-append-add one two place no_fate

fates_behind : (one two : List Fate) (places : ℕ) (entries : List LogEntry) → places ≡ length one → fates_in (one ++ two) (map (moved_behind places) entries) ≡ fates_in two entries
fates_behind one two places [] is = refl
fates_behind one two places (e ∷ es) is =
    ap (λ x. x ∷ fates_in (one ++ two) (map (moved_behind places) es)) (fate_behind one two places e is) ∙ ap (λ xs. fate_in two e ∷ xs) (fates_behind one two places es is)

fates_with : (one two : List Fate) (places : ℕ) (entries more : List LogEntry) → places ≡ length one → AreLogged one entries
    → fates_in (one ++ two) (entries ++ map (moved_behind places) more) ≡ fates_in one entries ++ fates_in two more
fates_with one two places [] more is logged = fates_behind one two places more is
fates_with one two places (e ∷ es) more is logged =
    let here : IsLogged (length one) e = logged 0 e (omega arith) in
    ap (λ x. x ∷ fates_in (one ++ two) (es ++ map (moved_behind places) more)) (fate_kept one two e here)
    ∙ ap (λ xs. fate_in one e ∷ xs) (fates_with one two places es more is (All-tail (IsLogged (length one)) e es logged))

logged_behind : (places count all : ℕ) → places + count ≤ all → (e : LogEntry) → IsLogged count e → IsLogged all (moved_behind places e)
logged_behind places count all le (Plain worker end number generation) logged = tt
logged_behind places count all le (Other place) logged = omega (arith, le, logged)

logged_with : (one two all : List Fate) (places : ℕ) (entries more : List LogEntry) → places ≡ length one → all ≡ one ++ two → AreLogged one entries → AreLogged two more
    → AreLogged all (entries ++ map (moved_behind places) more)
logged_with one two all places entries more places_are all_is logged other =
    let size = ap length all_is ∙ length-append one two in
    All-append (IsLogged (length all)) entries (map (moved_behind places) more)
    (All-weaker (IsLogged (length one)) (IsLogged (length all)) (λ e h. among_more (length one) (length all) (omega (arith, size)) e h) entries logged)
    (All-map (IsLogged (length all)) (moved_behind places) more
    (All-weaker (IsLogged (length two)) (λ e. IsLogged (length all) (moved_behind places e)) (λ e h. logged_behind places (length two) (length all) (omega (arith, size, places_are)) e h) more other))

-- the entries of both, one list behind the other
pub followed_fates : (one two all : List Fate) (places : ℕ) (entries more all_entries : List LogEntry) (fates other : List Fate) → places ≡ length one → all ≡ one ++ two
    → all_entries ≡ entries ++ map (moved_behind places) more → AreLogged one entries → fates_in one entries ≡ fates → fates_in two more ≡ other → fates_in all all_entries ≡ fates ++ other
followed_fates one two all places entries more all_entries fates other places_are all_is entries_are logged fates_are other_is =
    ap (fates_in all) entries_are ∙ ap (λ os. fates_in os (entries ++ map (moved_behind places) more)) all_is ∙ fates_with one two places entries more places_are logged
    ∙ ap (λ xs. xs ++ fates_in two more) fates_are ∙ ap (λ xs. fates ++ xs) other_is

pub followed_logged : (one two all : List Fate) (places : ℕ) (entries more all_entries : List LogEntry) → places ≡ length one → all ≡ one ++ two
    → all_entries ≡ entries ++ map (moved_behind places) more → AreLogged one entries → AreLogged two more → AreLogged all all_entries
followed_logged one two all places entries more all_entries places_are all_is entries_are logged other =
    subst (AreLogged all) (sym entries_are) (logged_with one two all places entries more places_are all_is logged other)

can_move : (places count : ℕ) → places + count < 2 ^ 32 → (e : LogEntry) → IsLogged count e → CanMove places e
can_move places count few (Plain worker end number generation) logged = tt
can_move places count few (Other place) logged = omega (arith, few, logged)

pub all_can_move : (others : List Fate) (places : ℕ) (entries : List LogEntry) → AreLogged others entries → places + length others < 2 ^ 32 → AllByRecursion (CanMove places) entries
all_can_move others places entries logged few =
    recursion_from_All (CanMove places) entries (All-weaker (IsLogged (length others)) (CanMove places) (λ e h. can_move places (length others) few e h) entries logged)

-- the first ones so far stand at the places of their numbers
abbrev pub AreInPlace : {X : Type 0} → (number : X → ℕ) → ℕ → List X → Type 0
AreInPlace {X} number n xs = (i : ℕ) (d : X) → i < n → number (get_or xs i d) ≡ i

-- those that all do are in order
pub in_place_rise : {X : Type 0} (number : X → ℕ) (n : ℕ) (xs : List X) → AreInPlace number n xs → n ≡ length xs → IsNonDecreasingBy number xs
in_place_rise number n xs in_place whole i j d order inside =
    let first = in_place i d (omega (arith, whole, order, inside)) in
    let last = in_place j d (omega (arith, whole, inside)) in
    omega (arith, first, last, order)

-- fates whose entries are in order
pub fates_rise : (others : List Fate) (entries : List LogEntry) → IsNonDecreasingBy (λ (e : LogEntry). (fate_in others e).number) entries → IsNonDecreasingBy (λ (fate : Fate). fate.number) (fates_in others entries)
fates_rise others entries up i j d le lt =
    let none : LogEntry = Other 0 in
    let size = length-map entries (fate_in others) in
    let first = ap (λ (fate : Fate). fate.number) (get_or-map (fate_in others) entries i none d (omega (arith, le, lt, size))) in
    let last = ap (λ (fate : Fate). fate.number) (get_or-map (fate_in others) entries j none d (omega (arith, lt, size))) in
    let order = up i j none le (omega (arith, lt, size)) in
    omega (arith, first, last, order)

-- elements so far are in order by their numbers, and none of these is above the least that the next may have
pub record AreInOrder {X : Type 0} (number : X → ℕ) (least : ℕ) (xs : List X) : Type 0 where
  pub rise : IsNonDecreasingBy number xs
  pub below : All (λ x. number x ≤ least) xs

-- at the start there is none
pub none_in_order : {X : Type 0} (number : X → ℕ) (least : ℕ) → AreInOrder number least []
none_in_order number least = record { rise = λ i j d order inside. absurd (omega (arith, inside)); below = λ i d inside. absurd (omega (arith, inside)) }

-- one more
pub one_more_in_order : {X : Type 0} (number : X → ℕ) (least : ℕ) (xs : List X) (i : ℕ) (d : X) (next : ℕ) → AreInOrder number least (take i xs) → i < length xs
    → next ≡ number (get_or xs i d) → least ≤ next → AreInOrder number next (take (i + 1) xs)
one_more_in_order {X} number least xs i d next so_far inside is le =
    let front = take i xs in
    let x = get_or xs i d in
    subst (AreInOrder number next) (sym (take_more xs i d inside)) (record {
      rise = IsNonDecreasingBy-push number front x so_far.rise (λ e some. omega (arith, so_far.below (length front - 1) e (omega arith), is, le));
      below = All-push (λ (y : X). number y ≤ next) front x (All-weaker (λ (y : X). number y ≤ least) (λ (y : X). number y ≤ next) (λ y h. omega (arith, h, le)) front so_far.below) (omega (arith, is));
    })
