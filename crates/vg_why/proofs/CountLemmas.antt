-- For `entries_of_all` and `counts`: what is counted of packets, one more at a time, and what it comes to.
use Rattle.std.proofs.Common.{◌≡◌, ℕ, zero, suc, ◌+◌, ◌-◌, ◌<◌, Bool, true, false, cond, List, [], ◌∷◌, ◌++◌, length, take, refl, sym, ap, ap₂, subst, ◌∙◌, arith, add-one, zero-add}
use Rattle.std.specs.Prelude.{Option, Some, None, nat_lt, slice_get, option_map, unwrap_or, count_by}
use Rattle.std.specs.List.{sum_by, cons_option, AllByRecursion}
use Rattle.std.proofs.lemmas.Bool.Decides.{nat_tests}
use Rattle.std.proofs.lemmas.List.{take_all}
use Rattle.std.proofs.lemmas.List.Sums.{sum_by-cons, sum_by-append, sum_by_more}
use Rattle.std.proofs.lemmas.Option.{slice_get_within, get_or_from_slice_get}
use Rattle.vg_model.specs.declared.fates.End.{End}
use Rattle.vg_model.specs.declared.fates.End.TheVariants as ends
use Rattle.vg_model.specs.declared.fates.Leg.{Leg}
use Rattle.vg_model.specs.declared.kinds.DropError.{DropError}
use Rattle.vg_model.specs.declared.routes.Prefix.{Prefix}
use Rattle.vg_model.specs.declared.routes.Prefix6.{Prefix6}
use Rattle.vg_model.specs.Count.{is_drop, is_sent_on}
use Rattle.vg_model.specs.Graph.{Graph}
use Rattle.vg_model.specs.Journey.{Journey, end_of, sent, sent_as}
use Rattle.vg_model.specs.Leg.{Outcome, Sent, Dropped, Handed}
use Rattle.vg_model.proofs.LegEnds.{all_at}
use Rattle.vg_story.specs.declared.pieces.Piece.{Piece}
use Rattle.vg_story.specs.declared.pieces.Piece.TheVariants as pieces
use Rattle.vg_story.specs.declared.pieces.Value.{Value}
use Rattle.vg_story.specs.declared.pieces.Value.TheVariants as values
use Rattle.vg_story.specs.declared.pieces.Word.{Word}
use Rattle.vg_story.specs.declared.pieces.Word.TheVariants as words
use Rattle.vg_ways.specs.declared.entries.Entry.{Entry}
use Rattle.vg_ways.specs.declared.entries.Entry.TheVariants as entries
use Rattle.vg_ways.specs.declared.stories.Went.{Went}
use Rattle.vg_ways.specs.Counts.{counts_text}
use Rattle.vg_ways.specs.Entries.{entries_of, match_by, matches, end_entries, last_via, first_generation, last_generation, is_began, is_left_any, is_tx, is_dropped}
use Rattle.vg_ways.specs.Logs.{under, within, all_of, total, CountsAddUp}
use Rattle.vg_ways.proofs.CountLemmas.{within_cons}
use Rattle.vg_why.specs.Journeys.{Gone, IsTold, AreEntries}
use Rattle.vg_why.specs.Printed.{AreCounts}
use Rattle.vg_why.specs.Sent.{is_sent_at}
use Rattle.vg_why.specs.Trips.{AreLegsUnder}

-- one packet more
pub entries_more : {gone : Gone} {number : ℕ} (before : List (ℕ × Entry)) {new : List (ℕ × Entry)} {went : Went} {told : List Piece} → AreEntries gone number before → IsTold gone number went told
    → new ≡ before ++ entries_of went told → AreEntries gone (number + 1) new
entries_more {gone = gone} {number = number} before {new = new} {went = went} {told = told} are one is = subst (λ n. AreEntries gone n new) (sym (add-one number)) (before, are, (went, told, one, is))

-- ---- what an entry counts

abbrev weight : (Entry → Bool) → (n : ℕ) → ℕ × Entry → ℕ
weight p n e = cond (nat_lt e.0 n) (cond (p e.1) 1 0) 0

weighed : (p : Entry → Bool) (n : ℕ) (es : List (ℕ × Entry)) → count_by p (all_of (within n es)) ≡ sum_by (weight p n) es
weighed p n [] = refl
weighed p n (e ∷ es) = within_cons p n e es ∙ ap (λ k. weight p n e + k) (weighed p n es) ∙ sym (sum_by-cons (weight p n) e es)

single : (p : Entry → Bool) (n : ℕ) (e : ℕ × Entry) → sum_by (weight p n) (e ∷ []) ≡ weight p n e
single p n e = (let one = sum_by-cons (weight p n) e [] in omega (arith, one))

-- an entry under a generation that there is
here : (p : Entry → Bool) (n : ℕ) (e : ℕ × Entry) → e.0 < n → weight p n e ≡ cond (p e.1) 1 0
here p n e below = (let t : nat_lt e.0 n ≡ true = grind (arith, nat_tests) in ap (λ b. cond b (cond (p e.1) 1 0) 0) t)

-- an entry that isn't counted
nothing : (p : Entry → Bool) (n : ℕ) (e : ℕ × Entry) → p e.1 ≡ false → weight p n e ≡ 0
nothing p n e unmet = ap (λ b. cond (nat_lt e.0 n) (cond b 1 0) 0) unmet ∙ by_test (nat_lt e.0 n)
  where
    by_test : (b : Bool) → cond b zero zero ≡ zero
    by_test true = refl
    by_test false = refl

-- what is counted of an end, and of the neighbor to which a packet left
abbrev of_end : (Entry → Bool) → Option ℕ → End → ℕ
of_end p via (ends.Tx interface) = cond (p (entries.Left via)) 1 0 + cond (p (entries.Ended (ends.Tx interface))) 1 0
of_end p via (ends.Dropped node error) = cond (p (entries.Ended (ends.Dropped node error))) 1 0

-- what counts no look-up, and so much of each end, whatever the neighbor
record IsOfEnds (p : Entry → Bool) (counted : End → ℕ) : Type 0 where
  matched : (prefix : Prefix) → p (entries.Matched prefix) ≡ false
  matched6 : (prefix : Prefix6) → p (entries.Matched6 prefix) ≡ false
  ends : (via : Option ℕ) (end : End) → of_end p via end ≡ counted end

match_none : (p : Entry → Bool) {counted : End → ℕ} (n g : ℕ) → IsOfEnds p counted → (word : Word) (value : Value) → sum_by (weight p n) (match_by g word value) ≡ 0
match_none p n g is words.Route (values.Prefix prefix) = single p n (g, entries.Matched prefix) ∙ nothing p n (g, entries.Matched prefix) (is.matched prefix)
match_none p n g is words.Route (values.Prefix6 prefix) = single p n (g, entries.Matched6 prefix) ∙ nothing p n (g, entries.Matched6 prefix) (is.matched6 prefix)
match_none p n g is word value = refl

matches_none : (p : Entry → Bool) {counted : End → ℕ} (n g : ℕ) → IsOfEnds p counted → (told : List Piece) → sum_by (weight p n) (matches g told) ≡ 0
matches_none p n g is [] = refl
matches_none p n g is (pieces.Leg worker next ∷ told) = matches_none p n next is told
matches_none p n g is (pieces.Visit node ∷ told) = matches_none p n g is told
matches_none p n g is (pieces.Because fact ∷ told) =
    sum_by-append (weight p n) (match_by g fact.word fact.value) (matches g told) ∙ ap₂ (λ a b. a + b) (match_none p n g is fact.word fact.value) (matches_none p n g is told)
matches_none p n g is (pieces.Change field before after ∷ told) = matches_none p n g is told

end_counts : (p : Entry → Bool) (n last : ℕ) (via : Option ℕ) → last < n → (end : End) → sum_by (weight p n) (end_entries last via end) ≡ of_end p via end
end_counts p n last via below (ends.Tx interface) =
    sum_by-cons (weight p n) (last, entries.Left via) ((last, entries.Ended (ends.Tx interface)) ∷ [])
    ∙ ap₂ (λ a b. a + b) (here p n (last, entries.Left via) below)
    (single p n (last, entries.Ended (ends.Tx interface)) ∙ here p n (last, entries.Ended (ends.Tx interface)) below)
end_counts p n last via below (ends.Dropped node error) =
    single p n (last, entries.Ended (ends.Dropped node error)) ∙ here p n (last, entries.Ended (ends.Dropped node error)) below

-- ---- what is counted of a packet

generation_under : (n : ℕ) (legs : List Leg) (k : ℕ) → 0 < n → AreLegsUnder n legs → unwrap_or (option_map (λ (leg : Leg). leg.generation) (slice_get legs k)) 0 < n
generation_under n legs k some under = by_get (slice_get legs k) refl
  where
    by_get : (o : Option Leg) → slice_get legs k ≡ o → unwrap_or (option_map (λ (leg : Leg). leg.generation) o) 0 < n
    by_get None e = some
    by_get (Some leg) e = all_at (λ (leg : Leg). leg.generation < n) legs k leg e under

packet_counts : {p : Entry → Bool} {counted : End → ℕ} (n : ℕ) (went : Went) (told : List Piece) → IsOfEnds p counted → 0 < n → AreLegsUnder n went.legs.now
    → sum_by (weight p n) (entries_of went told) ≡ cond (p entries.Began) 1 0 + counted went.end
packet_counts {p = p} {counted = counted} n went told is some under =
    let first = first_generation went.legs.now in
    let last = last_generation went.legs.now in
    let via = last_via None told in
    sum_by-cons (weight p n) (first, entries.Began) (matches 0 told ++ end_entries last via went.end)
    ∙ ap₂ (λ a b. a + b)
    (here p n (first, entries.Began) (generation_under n went.legs.now 0 some under))
    (sum_by-append (weight p n) (matches 0 told) (end_entries last via went.end)
    ∙ ap₂ (λ a b. a + b) (matches_none p n 0 is told)
    (end_counts p n last via (generation_under n went.legs.now (length went.legs.now - 1) some under) went.end ∙ is.ends via went.end))
    ∙ ap (λ k. cond (p entries.Began) 1 0 + k) (zero-add (counted went.end))

-- ---- what is counted of all packets

module _ (gone : Gone) (some : 0 < length gone.plan.graphs) (under_all : AllByRecursion (λ (j : Journey). AreLegsUnder (length gone.plan.graphs) j.course.legs) gone.js) where
  abbrev n : ℕ
  n = length gone.plan.graphs

  -- what is counted of a packet by its journey
  abbrev of : (Entry → Bool) → (End → ℕ) → Journey → ℕ
  of p counted j = cond (p entries.Began) 1 0 + counted (end_of j.course.outcome)

  so_many : (p : Entry → Bool) (counted : End → ℕ) → IsOfEnds p counted → (k : ℕ) (es : List (ℕ × Entry)) → AreEntries gone k es
      → sum_by (weight p n) es ≡ sum_by (of p counted) (take k gone.js)
  so_many p counted is zero es are = ap (sum_by (weight p n)) are
  so_many p counted is (suc k) es are =
      let before = are.0 in
      let went = are.2.0 in
      let told = are.2.1 in
      let gone_is = are.2.2.is_gone in
      let j = gone_is.j in
      let within = slice_get_within gone.js k j gone_is.is_journey in
      let legs : AreLegsUnder n went.legs.now = subst (AreLegsUnder n) (sym gone_is.legs) (all_at (λ (j : Journey). AreLegsUnder n j.course.legs) gone.js k j gone_is.is_journey under_all) in
      ap (sum_by (weight p n)) are.2.3
      ∙ sum_by-append (weight p n) before (entries_of went told)
      ∙ ap₂ (λ a b. a + b) (so_many p counted is k before are.1) (packet_counts n went told is some legs ∙ ap (λ end. cond (p entries.Began) 1 0 + counted end) gone_is.end)
      ∙ ap (λ x. sum_by (of p counted) (take k gone.js) + of p counted x) (sym (get_or_from_slice_get gone.js k j j gone_is.is_journey))
      ∙ sym (sum_by_more (of p counted) gone.js k j within)
      ∙ ap (λ m. sum_by (of p counted) (take m gone.js)) (add-one k)

  all_counted : (p : Entry → Bool) (counted : End → ℕ) → IsOfEnds p counted → CountsAddUp → (es : List (ℕ × Entry)) → AreEntries gone (length gone.js) es
      → total n (λ g. count_by p (under g es)) ≡ sum_by (of p counted) gone.js
  all_counted p counted is law es are =
      law n es p ∙ weighed p n es ∙ so_many p counted is (length gone.js) es are ∙ ap (sum_by (of p counted)) (take_all (length gone.js) gone.js (omega arith))

  -- what is counted of an end: nothing; whether it was transmitted, and on this interface; and whether this node dropped it so
  abbrev nothing_of : End → ℕ
  nothing_of end = 0

  abbrev sent_of_end : End → ℕ
  sent_of_end end = cond (is_sent_at end) 1 0

  abbrev sent_on : ℕ → End → ℕ
  sent_on interface end = cond (is_sent_on interface end) 1 0

  abbrev dropped_by : ℕ → DropError → End → ℕ
  dropped_by node error end = cond (is_drop node error end) 1 0

  began : IsOfEnds is_began nothing_of
  began = record { matched = λ prefix. refl; matched6 = λ prefix. refl; ends = by_end }
    where
      by_end : (via : Option ℕ) (end : End) → of_end is_began via end ≡ nothing_of end
      by_end via (ends.Tx interface) = refl
      by_end via (ends.Dropped node error) = refl

  any_left : IsOfEnds is_left_any sent_of_end
  any_left = record { matched = λ prefix. refl; matched6 = λ prefix. refl; ends = by_end }
    where
      by_end : (via : Option ℕ) (end : End) → of_end is_left_any via end ≡ sent_of_end end
      by_end via (ends.Tx interface) = refl
      by_end via (ends.Dropped node error) = refl

  on_interface : (interface : ℕ) → IsOfEnds (is_tx interface) (sent_on interface)
  on_interface interface = record { matched = λ prefix. refl; matched6 = λ prefix. refl; ends = by_end }
    where
      by_end : (via : Option ℕ) (end : End) → of_end (is_tx interface) via end ≡ sent_on interface end
      by_end via (ends.Tx other) = zero-add (sent_on interface (ends.Tx other))
      by_end via (ends.Dropped node error) = refl

  by_node : (node : ℕ) (error : DropError) → IsOfEnds (is_dropped node error) (dropped_by node error)
  by_node node error = record { matched = λ prefix. refl; matched6 = λ prefix. refl; ends = by_end }
    where
      by_end : (via : Option ℕ) (end : End) → of_end (is_dropped node error) via end ≡ dropped_by node error end
      by_end via (ends.Tx interface) = zero-add (dropped_by node error (ends.Tx interface))
      by_end via (ends.Dropped other cause) = refl

  -- a sum, term by term
  same_sum : (f g : Journey → ℕ) (js : List Journey) → ((j : Journey) → f j ≡ g j) → sum_by f js ≡ sum_by g js
  same_sum f g [] same = refl
  same_sum f g (j ∷ js) same = sum_by-cons f j js ∙ ap₂ (λ a b. a + b) (same j) (same_sum f g js same) ∙ sym (sum_by-cons g j js)

  ones : (js : List Journey) → sum_by (of is_began nothing_of) js ≡ length js
  ones [] = refl
  ones (j ∷ js) = sum_by-cons (of is_began nothing_of) j js ∙ (let so_far = ones js in omega (arith, so_far))

  -- what was transmitted, with one packet in front
  sent_first : (number : ℕ) (bytes : List ℕ) (o : Outcome) (rest : List (ℕ × List ℕ)) → length (cons_option (sent_as number bytes o) rest) ≡ sent_of_end (end_of o) + length rest
  sent_first number bytes (Sent interface) rest = omega arith
  sent_first number bytes (Dropped node error) rest = omega arith
  sent_first number bytes (Handed node worker) rest = omega arith

  sent_sum : (js : List Journey) → sum_by (of is_left_any sent_of_end) js ≡ length (sent js)
  sent_sum [] = refl
  sent_sum (j ∷ js) =
      sum_by-cons (of is_left_any sent_of_end) j js
      ∙ ap₂ (λ a b. a + b) (zero-add (sent_of_end (end_of j.course.outcome))) (sent_sum js)
      ∙ sym (sent_first j.number j.course.packet.bytes j.course.outcome (sent js))

  pub counts_are : (names : Graph) (es : List (ℕ × Entry)) (text : List ℕ) → CountsAddUp → AreEntries gone (length gone.js) es → text ≡ counts_text gone.plan names es → AreCounts gone names text
  counts_are names es text law are is_text = record {
    entries = es;
    are = are;
    is_text = is_text;
    all = λ p. sym (law n es p);
    packets = all_counted is_began nothing_of began law es are ∙ ones gone.js;
    left = all_counted is_left_any sent_of_end any_left law es are ∙ sent_sum gone.js;
    sends = λ interface. all_counted (is_tx interface) (sent_on interface) (on_interface interface) law es are
        ∙ same_sum (of (is_tx interface) (sent_on interface)) (λ (j : Journey). cond (is_sent_on interface (end_of j.course.outcome)) 1 0) gone.js (λ j. zero-add (cond (is_sent_on interface (end_of j.course.outcome)) 1 0));
    drops = λ node error. all_counted (is_dropped node error) (dropped_by node error) (by_node node error) law es are
        ∙ same_sum (of (is_dropped node error) (dropped_by node error)) (λ (j : Journey). cond (is_drop node error (end_of j.course.outcome)) 1 0) gone.js (λ j. zero-add (cond (is_drop node error (end_of j.course.outcome)) 1 0));
  }
