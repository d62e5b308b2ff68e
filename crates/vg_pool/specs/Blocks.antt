-- What the blocks of buffers carry.
use Rattle.std.specs.Prelude.{◌≡◌, ℕ, suc, ◌+◌, ◌*◌, ◌<◌, ◌≤◌, true, List, [], ◌∷◌, ◌++◌, length}
use Rattle.vg_model.specs.PoolBook.{buffer_size, most_pieces}
use Rattle.vg_model.specs.Valid.{AreBytes, most_room, most_extent}
use Rattle.vg_pool.specs.Areas.{area_size}
use Rattle.vg_pool.specs.Contents.{Contents, Passes}
use Rattle.vg_pool.specs.declared.buffers.Block.{Block}
use Rattle.vg_pool.specs.declared.parts.PartLink.{PartLink}
use Rattle.vg_pool.specs.declared.parts.PartLink.TheVariants as part_links
use Rattle.vg_pool.specs.declared.stacks.Link.{Link}
use Rattle.vg_pool.specs.declared.stacks.Link.TheVariants.{Empty, Top}
use Rattle.vg_pool.specs.Parts.{joined, spread}

-- what a block carries with the rest of its chain: the bytes of each, in order
abbrev pub contents : Block → Contents
contents b =
    record {
      packet = record { number = b.number; bytes = b.area.bytes ++ joined b.rest; room = b.area.room; checked = b.checked; adjacency = b.adjacency; interface = b.interface };
      legs = b.legs;
      pieces = suc (length b.rest);
    }

-- what holds of every block and the rest of its chain
pub record IsBlock (b : Block) : Type 0 where
  pub within : b.area.room + length b.area.bytes ≤ area_size
  pub room : b.area.room ≤ most_room
  pub behind : b.behind ≡ length (joined b.rest)
  -- the rest has bytes only where the first buffer is full, and each of its buffers only where the one before is
  pub packed : b.area.room + length b.area.bytes < area_size → b.behind ≡ 0
  pub rest : b.rest ≡ spread (length b.rest) (joined b.rest)
  pub fits : b.behind ≤ buffer_size * length b.rest
  pub few : suc (length b.rest) ≤ most_pieces
  pub len : length b.area.bytes + b.behind + b.area.room ≤ most_extent
  pub bytes : AreBytes (joined b.rest)
  pub sound : b.checked ≡ true → Passes (contents b).packet
  pub few_legs : length b.legs ≤ 4

-- what holds of a block in a buffer: nothing is stacked below it
pub record IsAlone (b : Block) : Type 0 where
  pub block : IsBlock b
  pub alone : b.below ≡ []

-- what holds of a block that is a buffer of its own, in no stack and in no chain
pub record IsSpare (b : Block) : Type 0 where
  pub alone : b.below ≡ []
  pub single : b.rest ≡ []

-- what the blocks of a stack carry, from the top down
abbrev pub stacked : Link → List Contents
stacked Empty = []
stacked (Top block) = contents block.value ∷ block.value.below

-- how many blocks are in a stack, those of chains counted
abbrev pub blocks_of : List Contents → ℕ
blocks_of [] = 0
blocks_of (c ∷ below) = c.pieces + blocks_of below

-- what holds of the top block of a stack
abbrev pub IsLink : Link → Type 0
IsLink Empty = Unit {0}
IsLink (Top block) = IsBlock block.value

-- the bytes of each block of a rest, in order
abbrev pub parts : PartLink → List (List ℕ)
parts part_links.End = []
parts (part_links.More block) = block.value.area.bytes ∷ block.value.rest

-- no block of a rest is in a stack
abbrev pub IsPartLink : PartLink → Type 0
IsPartLink part_links.End = Unit {0}
IsPartLink (part_links.More block) = block.value.below ≡ []
