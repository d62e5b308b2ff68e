-- For `left_are_sent`: what is counted as transmitted to neighbors and to none, and on interfaces.
use Rattle.std.proofs.Common.{◌≡◌, ℕ, zero, ◌+◌, Bool, true, false, cond, List, [], ◌∷◌, ◌++◌, refl, sym, ap, ap₂, ◌∙◌, append_assoc, arith}
use Rattle.std.specs.Prelude.{Option, None, nat_lt, count_by, if◌then◌else◌}
use Rattle.vg_model.specs.declared.fates.End.{End}
use Rattle.vg_model.specs.declared.fates.End.TheVariants as ends
use Rattle.vg_story.specs.declared.pieces.Piece.{Piece}
use Rattle.vg_story.specs.declared.pieces.Piece.TheVariants as pieces
use Rattle.vg_story.specs.declared.pieces.Value.{Value}
use Rattle.vg_story.specs.declared.pieces.Value.TheVariants as values
use Rattle.vg_story.specs.declared.pieces.Word.{Word}
use Rattle.vg_story.specs.declared.pieces.Word.TheVariants as words
use Rattle.vg_ways.specs.declared.entries.Entry.{Entry}
use Rattle.vg_ways.specs.declared.entries.Entry.TheVariants as entries
use Rattle.vg_ways.specs.Entries.{match_by, matches, end_entries, last_via, first_generation, last_generation, is_left_any, is_sent_any}
use Rattle.vg_ways.specs.Logs.{within, all_of, LeftAreSent}
use Rattle.vg_ways.proofs.CountLemmas.{within_cons}

-- as many of these entries are counted as the one and as the other
abbrev IsSame : ℕ → List (ℕ × Entry) → Type 0
IsSame n es = count_by is_left_any (all_of (within n es)) ≡ count_by is_sent_any (all_of (within n es))

same_cons : (n : ℕ) (x : ℕ × Entry) (xs : List (ℕ × Entry)) → is_left_any x.1 ≡ is_sent_any x.1 → IsSame n xs → IsSame n (x ∷ xs)
same_cons n x xs same rest =
    within_cons is_left_any n x xs
    ∙ ap₂ (λ (b : Bool) k. (if nat_lt x.0 n then (if b then 1 else 0) else 0) + k) same rest
    ∙ sym (within_cons is_sent_any n x xs)

same_match : (n g : ℕ) (word : Word) (value : Value) (rest : List (ℕ × Entry)) → IsSame n rest → IsSame n (match_by g word value ++ rest)
same_match n g words.Route (values.Prefix prefix) rest is = same_cons n (g, entries.Matched prefix) rest refl is
same_match n g words.Route (values.Prefix6 prefix) rest is = same_cons n (g, entries.Matched6 prefix) rest refl is
same_match n g word value rest is = is

same_matches : (n g : ℕ) (told : List Piece) (rest : List (ℕ × Entry)) → IsSame n rest → IsSame n (matches g told ++ rest)
same_matches n g [] rest is = is
same_matches n g (pieces.Leg worker next ∷ told) rest is = same_matches n next told rest is
same_matches n g (pieces.Visit node ∷ told) rest is = same_matches n g told rest is
same_matches n g (pieces.Because fact ∷ told) rest is =
    let one = match_by g fact.word fact.value in
    let parts = append_assoc one (matches g told) rest in
    ap (λ es. count_by is_left_any (all_of (within n es))) parts
    ∙ same_match n g fact.word fact.value (matches g told ++ rest) (same_matches n g told rest is)
    ∙ sym (ap (λ es. count_by is_sent_any (all_of (within n es))) parts)
same_matches n g (pieces.Change field before after ∷ told) rest is = same_matches n g told rest is

none_if : (b : Bool) → cond b zero zero ≡ zero
none_if true = refl
none_if false = refl

same_end : (n g : ℕ) (via : Option ℕ) (end : End) → IsSame n (end_entries g via end)
same_end n g via (ends.Tx interface) =
    let first : ℕ × Entry = (g, entries.Left via) in
    let last : ℕ × Entry = (g, entries.Ended (ends.Tx interface)) in
    let left_first = within_cons is_left_any n first (last ∷ []) in
    let left_last = within_cons is_left_any n last [] in
    let sent_first = within_cons is_sent_any n first (last ∷ []) in
    let sent_last = within_cons is_sent_any n last [] in
    let none = none_if (nat_lt g n) in
    omega (arith, left_first, left_last, sent_first, sent_last, none)
same_end n g via (ends.Dropped node error) = same_cons n (g, entries.Ended (ends.Dropped node error)) [] refl refl

pub left_are_sent : LeftAreSent
left_are_sent n went told =
    same_cons n (first_generation went.legs.now, entries.Began) (matches 0 told ++ end_entries (last_generation went.legs.now) (last_via None told) went.end) refl
    (same_matches n 0 told _ (same_end n (last_generation went.legs.now) (last_via None told) went.end))
