-- For `ways`: the ways of packets, one more at a time.
use Rattle.std.proofs.Common.{◌≡◌, ℕ, ◌+◌, Bool, List, [], ◌∷◌, ◌++◌, length, take, refl, sym, ap, subst, ◌∙◌, add-one, length-append}
use Rattle.std.specs.Prelude.{Option, Some, None, if◌then◌else◌}
use Rattle.std.specs.List.{cons_option}
use Rattle.std.proofs.lemmas.List.{take_more}
use Rattle.std.proofs.lemmas.Option.{slice_get_within, get_or_from_slice_get}
use Rattle.vg_model.specs.Graph.{Graph}
use Rattle.vg_model.specs.Leg.{Outcome, Sent, Dropped, Handed}
use Rattle.vg_model.specs.Journey.{Journey, end_of, sent, sent_of, sent_as}
use Rattle.vg_model.specs.Visit.{Visit}
use Rattle.vg_replay.specs.declared.inputs.Input.{Input}
use Rattle.vg_story.specs.declared.pieces.Piece.{Piece}
use Rattle.vg_ways.specs.declared.stories.Went.{Went}
use Rattle.vg_ways.specs.declared.telling.Place.{Place}
use Rattle.vg_ways.specs.Stories.{IsStory}
use Rattle.vg_ways.specs.Ways.{way_text}
use Rattle.vg_why.specs.Asked.{Asked, is_asked}
use Rattle.vg_why.specs.Filters.{meets}
use Rattle.vg_why.specs.Journeys.{Gone, IsGone, record_of, place_of}
use Rattle.vg_why.specs.Printed.{AreWays, IsWay, IsWayWhere}
use Rattle.vg_why.specs.Sent.{is_sent_at}
use Rattle.vg_why.specs.Trips.{gone_of}

-- ---- records

-- what was transmitted, with one packet more
sent_add : (js : List Journey) (j : Journey) → sent (js ++ j ∷ []) ≡ sent js ++ cons_option (sent_of j) []
sent_add [] j = refl
sent_add (x ∷ xs) j = by_first (sent_of x) (sent_add xs j)
  where
    by_first : (o : Option (ℕ × List ℕ)) → sent (xs ++ j ∷ []) ≡ sent xs ++ cons_option (sent_of j) []
        → cons_option o (sent (xs ++ j ∷ [])) ≡ cons_option o (sent xs) ++ cons_option (sent_of j) []
    by_first None e = e
    by_first (Some y) e = ap (λ l. y ∷ l) e

sent_one : (number : ℕ) (bytes : List ℕ) (o : Outcome) → length (cons_option (sent_as number bytes o) []) ≡ (if is_sent_at (end_of o) then 1 else 0)
sent_one number bytes (Sent interface) = refl
sent_one number bytes (Dropped node error) = refl
sent_one number bytes (Handed node worker) = refl

-- the record of the next packet
pub record_more : (gone : Gone) (k : ℕ) (went : Went) → IsGone gone k went → record_of gone (k + 1) ≡ record_of gone k + (if is_sent_at went.end then 1 else 0)
record_more gone k went is =
    let j = is.j in
    let within = slice_get_within gone.js k j is.is_journey in
    ap (λ js. length (sent js)) (take_more gone.js k j within ∙ ap (λ x. take k gone.js ++ x ∷ []) (get_or_from_slice_get gone.js k j j is.is_journey))
    ∙ ap length (sent_add (take k gone.js) j)
    ∙ length-append (sent (take k gone.js)) (cons_option (sent_of j) [])
    ∙ ap (λ n. record_of gone k + n) (sent_one j.number j.course.packet.bytes j.course.outcome ∙ ap (λ end. if is_sent_at end then 1 else 0) (sym is.end))

-- so it is, as the code counts it
pub index_more : {gone : Gone} {k : ℕ} {went : Went} {index next : ℕ} {is_sent : Bool} → IsGone gone k went → index ≡ record_of gone k → is_sent ≡ is_sent_at went.end
    → next ≡ index + (if is_sent then 1 else 0) → next ≡ record_of gone (k + 1)
index_more {gone = gone} {k = k} {went = went} is so_far sends counted =
    counted ∙ (λ i. so_far i + (if sends i then 1 else 0)) ∙ sym (record_more gone k went is)

-- ---- ways

-- the ways so far, and how many of the packets so far were transmitted
pub record AreSoFar (gone : Gone) (names : Graph) (asked : Asked) (number index : ℕ) (text : List ℕ) : Type 0 where
  pub ways : AreWays gone names asked number text
  pub index_is : index ≡ record_of gone number

-- a packet went as its journey says, and this is its place
pub record IsPlaced (gone : Gone) (number : ℕ) (went : Went) (place : Place) : Type 0 where
  pub is : IsGone gone number went
  pub place_is : place ≡ place_of gone number

-- the way of a packet is that of its journey
pub way_is : {visit : Visit} (input : Input) {js : List Journey} (names : Graph) (asked : Asked) {number : ℕ} {place : Place} {went : Went} (told : List Piece)
    → IsPlaced (gone_of visit input js) number went place → IsStory visit input.plan.now input.workers went told
    → IsWay (gone_of visit input js) names asked number (if meets names asked went.end told then way_text input.plan.now.script names place went told else [])
way_is input names asked {went = went} told placed story = (
  went,
  told,
  record { is_gone = placed.is; story = story },
  ap (λ (p : Place). if meets names asked went.end told then way_text input.plan.now.script names p went told else []) placed.place_is,
)

-- behind what is printed stands the way of the next packet
pub record IsNext (gone : Gone) (names : Graph) (asked : Asked) (number : ℕ) (before after : List ℕ) : Type 0 where
  pub way : List ℕ
  pub is_way : IsWayWhere gone names asked number (is_asked asked number) way
  pub after_is : after ≡ before ++ way

-- the ways of the packets so far, with that of the next
pub ways_more : {gone : Gone} {names : Graph} {asked : Asked} {number : ℕ} {before after : List ℕ} → AreWays gone names asked number before
    → IsNext gone names asked number before after → AreWays gone names asked (number + 1) after
ways_more {gone = gone} {names = names} {asked = asked} {number = number} {before = before} {after = after} ways next =
    subst (λ n. AreWays gone names asked n after) (sym (add-one number)) (before, next.way, ways, (next.is_way, next.after_is))
