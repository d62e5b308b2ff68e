-- The hash of a flow, by which a frame's worker is chosen (this project's profile).
use Rattle.std.specs.Prelude.{ℕ, ◌/◌, ◌%◌, ◌^◌, Bool, ◌&&◌, ◌==◌, nat_le, List, length, bit_xor, if◌then◌else◌}
use Rattle.vg_model.specs.declared.kinds.HashKind.{HashKind}
use Rattle.vg_model.specs.declared.kinds.HashKind.TheVariants.{Flow, Src, Dst}
use Rattle.vg_model.specs.Bytes.{number16_at, number32_at}

-- a frame that has IPv4 addresses to hash: type 0x0800, and the fixed part of a header
abbrev pub has_addresses : List ℕ → Bool
has_addresses frame = nat_le 34 (length frame) && number16_at frame 12 == 0x0800

-- what is hashed of the source and the destination address
abbrev pub hash_key : HashKind → ℕ → ℕ → ℕ
hash_key Flow source destination = bit_xor source destination
hash_key Src source destination = source
hash_key Dst source destination = destination

-- a 32-bit key, shifted down onto itself by 16 bits and then by 8
abbrev pub mixed : ℕ → ℕ
mixed key = let half = bit_xor key (key / 2 ^ 16) in bit_xor half (half / 2 ^ 8)

-- the hash of a frame; 0 where there are no addresses
abbrev pub flow_hash : HashKind → List ℕ → ℕ
flow_hash kind frame =
    if has_addresses frame then mixed (hash_key kind (number32_at frame 26) (number32_at frame 30)) else 0

-- the worker that a hash chooses of so many
abbrev pub target_worker : ℕ → ℕ → ℕ
target_worker workers hash = hash % workers
