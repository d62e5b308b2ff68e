-- A law of packets over the buffers of a chain.
use Rattle.std.specs.Prelude.{◌≡◌, ℕ, zero, suc, List, [], ◌++◌}
use Rattle.vg_model.specs.Packet.{Packet}
use Rattle.vg_pool.specs.Contents.{Contents, AreContents, part}

-- the parts of a packet in so many buffers from buffer k on, joined in order
abbrev pub parts_from : Packet → (k count : ℕ) → List ℕ
parts_from p k zero = []
parts_from p k (suc count) = part p k ++ parts_from p (suc k) count

-- the parts in all buffers of a chain, joined in order, are the packet's bytes
abbrev pub PartsAreThePacket : Type 0
PartsAreThePacket = (c : Contents) → AreContents c → parts_from c.packet 0 c.pieces ≡ c.packet.bytes
