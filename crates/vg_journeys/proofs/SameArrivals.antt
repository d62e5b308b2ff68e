-- For `laws::turns_add_trips` and `laws::trips_are_journeys`: arrivals are told apart by a test.
use Rattle.std.proofs.Common.{◌≡◌, ℕ, Bool, true, false, List, [], ◌∷◌, refl, sym, ap, ◌∙◌}
use Rattle.std.specs.Prelude.{Option, Some, None, bytes_eq}
use Rattle.std.specs.Bool.{Decides}
use Rattle.std.specs.Cmp.Lexicographic.{pointwise}
use Rattle.std.proofs.lemmas.Slice.Eq.{bytes_eq-Decides, slice_eq-Decides}
use Rattle.vg_model.specs.declared.fates.Leg.{Leg}
use Rattle.vg_journeys.specs.Trips.{Arrival, Drawn, Taken}

bool_code : Bool → List ℕ
bool_code true = 1 ∷ []
bool_code false = []

bool_at : List ℕ → Bool
bool_at [] = false
bool_at (n ∷ ns) = true

bool_back : (b : Bool) → bool_at (bool_code b) ≡ b
unfolding bool_code bool_at
bool_back true = refl
bool_back false = refl

option_code : Option ℕ → List ℕ
option_code None = []
option_code (Some n) = n ∷ []

option_at : List ℕ → Option ℕ
option_at [] = None
option_at (n ∷ ns) = Some n

option_back : (o : Option ℕ) → option_at (option_code o) ≡ o
unfolding option_code option_at
option_back None = refl
option_back (Some n) = refl

legs_code : List Leg → List ℕ
legs_code [] = []
legs_code (leg ∷ legs) = leg.worker ∷ leg.generation ∷ legs_code legs

legs_at : List ℕ → List Leg
legs_at [] = []
legs_at (worker ∷ []) = []
legs_at (worker ∷ generation ∷ rest) = record { worker = worker; generation = generation } ∷ legs_at rest

legs_back : (legs : List Leg) → legs_at (legs_code legs) ≡ legs
unfolding legs_code legs_at
legs_back [] = refl
legs_back (leg ∷ legs) = ap (λ rest. leg ∷ rest) (legs_back legs)

number_at : List ℕ → ℕ
number_at [] = 0
number_at (n ∷ ns) = n

-- an arrival in numbers, and back
pub code : Arrival → List (List ℕ)
code (Drawn number bytes) = (number ∷ []) ∷ bytes ∷ []
code (Taken worker node c) =
    (worker ∷ []) ∷ (node ∷ []) ∷ (c.packet.number ∷ []) ∷ c.packet.bytes ∷ (c.packet.room ∷ []) ∷ bool_code c.packet.checked ∷ option_code c.packet.adjacency ∷ option_code c.packet.interface
    ∷ legs_code c.legs ∷ (c.pieces ∷ []) ∷ []

pub decode : List (List ℕ) → Arrival
decode (number ∷ bytes ∷ []) = Drawn (number_at number) bytes
decode (worker ∷ node ∷ number ∷ bytes ∷ room ∷ checked ∷ adjacency ∷ interface ∷ legs ∷ pieces ∷ rest) =
    Taken (number_at worker) (number_at node) (record {
      packet = record {
        number = number_at number;
        bytes = bytes;
        room = number_at room;
        checked = bool_at checked;
        adjacency = option_at adjacency;
        interface = option_at interface;
      };
      legs = legs_at legs;
      pieces = number_at pieces;
    })
decode other = Drawn 0 []

pub back : (e : Arrival) → decode (code e) ≡ e
unfolding decode code number_at
back (Drawn number bytes) = refl
back (Taken worker node c) = rw (bool_back c.packet.checked, option_back c.packet.adjacency, option_back c.packet.interface, legs_back c.legs) refl

pub codes_decide : (xs ys : List (List ℕ)) → Decides (pointwise bytes_eq xs ys) (xs ≡ ys)
codes_decide xs ys = slice_eq-Decides bytes_eq-Decides xs ys (pointwise bytes_eq xs ys) refl

pub same_arrival : Arrival → Arrival → Bool
same_arrival x y = pointwise bytes_eq (code x) (code y)

pub same_arrival_decides : (x y : Arrival) → Decides (same_arrival x y) (x ≡ y)
unfolding same_arrival
same_arrival_decides x y = (
  λ h. sym (back x) ∙ ap decode ((codes_decide (code x) (code y)).0 h) ∙ back y,
  λ e. (codes_decide (code x) (code y)).1 (ap code e),
)
