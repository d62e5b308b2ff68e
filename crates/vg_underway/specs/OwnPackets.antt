-- A worker's own packets, and what is counted of them.
use Rattle.std.specs.Prelude.{ℕ, zero, suc, ◌+◌, ◌-◌, List, [], ◌∷◌, length, map, drop}
use Rattle.std.specs.List.{sum_by}
use Rattle.vg_model.specs.Packet.{first_room}
use Rattle.vg_capture.specs.declared.captures.Captured.{Captured}

-- how long a captured packet and the room that it is received with are together
abbrev pub received_extent : Captured → ℕ
received_extent captured = length captured.bytes + first_room

-- so of all of them
abbrev pub captured_extent : List Captured → ℕ
captured_extent packets = sum_by received_extent packets

-- of packets, the first behind so many, and then each as many behind the one before as there are workers
abbrev pub every : {X : Type 0} → (workers skip : ℕ) → List X → List X
every workers skip [] = []
every workers zero (x ∷ xs) = x ∷ every workers (workers - 1) xs
every workers (suc skip) (x ∷ xs) = every workers skip xs

-- the packets of a worker from a mark on
abbrev pub own_from : {X : Type 0} → (workers mark : ℕ) → List X → List X
own_from workers mark packets = every workers 0 (drop mark packets)

-- the bytes of captured packets, one by one
abbrev pub frames_of : List Captured → List (List ℕ)
frames_of packets = map (λ (captured : Captured). captured.bytes) packets
