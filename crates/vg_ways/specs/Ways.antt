-- The ways of packets as text.
use Rattle.std.specs.Prelude.{ℕ, ◌+◌, List, [], ◌∷◌, ◌++◌, codes, decimal, Option, Some, None, option_map}
use Rattle.vg_model.specs.declared.fates.End.{End}
use Rattle.vg_model.specs.declared.fates.End.TheVariants as ends
use Rattle.vg_model.specs.declared.fates.Leg.{Leg}
use Rattle.vg_model.specs.declared.kinds.DropError.{DropError}
use Rattle.vg_model.specs.Errors.{error_word}
use Rattle.vg_model.specs.Graph.{Graph}
use Rattle.vg_script.specs.declared.scripts.Script.{Script}
use Rattle.vg_story.specs.declared.pieces.Piece.{Piece}
use Rattle.vg_story.specs.Text.{node_name, interface_name, pieces_text}
use Rattle.vg_ways.specs.declared.stories.Went.{Went}
use Rattle.vg_ways.specs.declared.telling.Place.{Place}
use Rattle.vg_ways.specs.Events.{event_of}

-- a word and a number
abbrev pub numbered : List ℕ → ℕ → List ℕ
numbered word number = word ++ decimal number

-- a word and a number, where there is one
abbrev pub numbered_if : List ℕ → Option ℕ → List ℕ
numbered_if word None = []
numbered_if word (Some number) = numbered word number

-- the generation of the first leg, and the line of the script where it begins
abbrev pub first_text : Script → List Leg → List ℕ
first_text script [] = []
first_text script (leg ∷ legs) =
    numbered (codes " generation ") leg.generation ++ numbered_if (codes " line ") (option_map (λ e. e.line) (event_of script leg.generation))

-- the line of a packet: its number from 0 and from 1, its time, and how it began
abbrev pub packet_text : Script → Place → Went → List ℕ
packet_text script place went =
    numbered (codes "packet ") went.number
    ++ (numbered (codes " frame ") (went.number + 1) ++ (numbered (codes " time ") place.time ++ first_text script went.legs.now))

-- a drop
abbrev pub drop_text : Graph → (node : ℕ) → DropError → List ℕ
drop_text names node error = codes "drop " ++ (node_name names node ++ (32 ∷ error_word error))

-- the count of the queue that refused a packet, where one did
abbrev pub accepted_text : Option ℕ → List ℕ
accepted_text None = []
accepted_text (Some accepted) = numbered (codes "congested ") accepted ++ 32 ∷ []

-- a packet was transmitted: the interface, and the record of the savefile in which it stands, from 0 and from 1
abbrev pub sent_text : Graph → (interface index : ℕ) → List ℕ
sent_text names interface index =
    codes "tx " ++ (interface_name names interface ++ (numbered (codes " record ") index ++ numbered (codes " frame ") (index + 1)))

-- how a packet ended
abbrev pub outcome_text : Graph → (index : ℕ) → (accepted : Option ℕ) → End → List ℕ
outcome_text names index accepted (ends.Tx interface) = sent_text names interface index
outcome_text names index accepted (ends.Dropped node error) = accepted_text accepted ++ drop_text names node error

-- the line of an end, behind a line feed
abbrev pub end_text : Graph → (index : ℕ) → (accepted : Option ℕ) → End → List ℕ
end_text names index accepted end = (10 ∷ codes "  end ") ++ (outcome_text names index accepted end ++ 10 ∷ [])

-- the text of a packet's way, which these pieces show
abbrev pub way_text : Script → Graph → Place → Went → List Piece → List ℕ
way_text script names place went told =
    packet_text script place went ++ (pieces_text names told ++ end_text names place.index went.accepted went.end)
