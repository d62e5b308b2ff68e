-- What is counted of packets: entries, each under the generation where it was made.
use Rattle.std.specs.Prelude.{ℕ, Bool, true, false, ◌==◌, ◌-◌, List, [], ◌∷◌, ◌++◌, length, slice_get, Option, Some, None, option_map, unwrap_or}
use Rattle.vg_model.specs.declared.fates.End.{End}
use Rattle.vg_model.specs.declared.fates.End.TheVariants as ends
use Rattle.vg_model.specs.declared.fates.Leg.{Leg}
use Rattle.vg_model.specs.declared.kinds.DropError.{DropError}
use Rattle.vg_model.specs.declared.routes.Prefix.{Prefix}
use Rattle.vg_model.specs.declared.routes.Prefix6.{Prefix6}
use Rattle.vg_model.specs.Count.{is_drop, is_sent_on}
use Rattle.vg_model.specs.Route.{same_prefix, same_prefix6}
use Rattle.vg_story.specs.declared.pieces.Piece.{Piece}
use Rattle.vg_story.specs.declared.pieces.Piece.TheVariants as pieces
use Rattle.vg_story.specs.declared.pieces.Value.{Value}
use Rattle.vg_story.specs.declared.pieces.Value.TheVariants as values
use Rattle.vg_story.specs.declared.pieces.Word.{Word}
use Rattle.vg_story.specs.declared.pieces.Word.TheVariants as words
use Rattle.vg_ways.specs.declared.entries.Entry.{Entry}
use Rattle.vg_ways.specs.declared.entries.Entry.TheVariants as entries
use Rattle.vg_ways.specs.declared.stories.Went.{Went}

-- the generations of the first and of the last leg
abbrev pub first_generation : List Leg → ℕ
first_generation legs = unwrap_or (option_map (λ leg. leg.generation) (slice_get legs 0)) 0

abbrev pub last_generation : List Leg → ℕ
last_generation legs = unwrap_or (option_map (λ leg. leg.generation) (slice_get legs (length legs - 1))) 0

-- a fact that is a route which matched
abbrev pub match_by : (generation : ℕ) → Word → Value → List (ℕ × Entry)
match_by generation words.Route (values.Prefix prefix) = (generation, entries.Matched prefix) ∷ []
match_by generation words.Route (values.Prefix6 prefix) = (generation, entries.Matched6 prefix) ∷ []
match_by generation word value = []

-- the routes that matched, each under the generation of its leg; the first pieces are under this one
abbrev pub matches : (generation : ℕ) → List Piece → List (ℕ × Entry)
matches generation [] = []
matches generation (pieces.Leg worker next ∷ told) = matches next told
matches generation (pieces.Visit node ∷ told) = matches generation told
matches generation (pieces.Because fact ∷ told) = match_by generation fact.word fact.value ++ matches generation told
matches generation (pieces.Change field before after ∷ told) = matches generation told

-- the neighbor that a fact names, or else the one before
abbrev pub via_by : Option ℕ → Word → Value → Option ℕ
via_by before words.Via (values.Neighbor neighbor) = Some neighbor
via_by before word value = before

-- the neighbor that is named last, or else the one before
abbrev pub last_via : Option ℕ → List Piece → Option ℕ
last_via before [] = before
last_via before (pieces.Leg worker next ∷ told) = last_via before told
last_via before (pieces.Visit node ∷ told) = last_via before told
last_via before (pieces.Because fact ∷ told) = last_via (via_by before fact.word fact.value) told
last_via before (pieces.Change field b a ∷ told) = last_via before told

-- the end of a packet, and the neighbor to which it was transmitted, where it was
abbrev pub end_entries : (generation : ℕ) → Option ℕ → End → List (ℕ × Entry)
end_entries generation neighbor (ends.Tx interface) = (generation, entries.Left neighbor) ∷ ((generation, entries.Ended (ends.Tx interface)) ∷ [])
end_entries generation neighbor (ends.Dropped node error) = (generation, entries.Ended (ends.Dropped node error)) ∷ []

-- what is counted of a packet that went so, whose way these pieces show: that it began, the routes that it matched, and its end
abbrev pub entries_of : Went → List Piece → List (ℕ × Entry)
entries_of went told =
    (first_generation went.legs.now, entries.Began)
    ∷ (matches 0 told ++ end_entries (last_generation went.legs.now) (last_via None told) went.end)

-- ---- which entries are counted

abbrev pub is_began : Entry → Bool
is_began entries.Began = true
is_began entry = false

-- a match of the route of this prefix
abbrev pub is_matched : Prefix → Entry → Bool
is_matched prefix (entries.Matched matched) = same_prefix matched prefix
is_matched prefix entry = false

abbrev pub is_matched6 : Prefix6 → Entry → Bool
is_matched6 prefix (entries.Matched6 matched) = same_prefix6 matched prefix
is_matched6 prefix entry = false

-- a packet that was transmitted to this neighbor; and one that was transmitted to none
abbrev pub is_left : (neighbor : ℕ) → Entry → Bool
is_left neighbor (entries.Left (Some other)) = other == neighbor
is_left neighbor entry = false

abbrev pub is_left_alone : Entry → Bool
is_left_alone (entries.Left None) = true
is_left_alone entry = false

-- a packet that was transmitted on this interface
abbrev pub is_tx : (interface : ℕ) → Entry → Bool
is_tx interface (entries.Ended end) = is_sent_on interface end
is_tx interface entry = false

-- a packet that this node dropped with this error
abbrev pub is_dropped : (node : ℕ) → DropError → Entry → Bool
is_dropped node error (entries.Ended end) = is_drop node error end
is_dropped node error entry = false

-- a packet that was transmitted: to whatever neighbor or to none; and on whatever interface
abbrev pub is_left_any : Entry → Bool
is_left_any (entries.Left neighbor) = true
is_left_any entry = false

abbrev pub is_sent_any : Entry → Bool
is_sent_any (entries.Ended (ends.Tx interface)) = true
is_sent_any entry = false
