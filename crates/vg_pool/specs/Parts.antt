-- The parts of a packet in the buffers behind the first of its chain.
use Rattle.std.specs.Prelude.{ℕ, zero, suc, List, [], ◌∷◌, ◌++◌, take, drop}
use Rattle.vg_model.specs.PoolBook.{buffer_size}

-- the parts as one
abbrev pub joined : List (List ℕ) → List ℕ
joined [] = []
joined (part ∷ parts) = part ++ joined parts

-- bytes over so many buffers: each but the last is full, or all behind it are empty
abbrev pub spread : ℕ → List ℕ → List (List ℕ)
spread zero bytes = []
spread (suc count) bytes = take buffer_size bytes ∷ spread count (drop buffer_size bytes)
