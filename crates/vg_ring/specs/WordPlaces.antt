-- Where the words of a ring stand, for contracts above that speak of what an end's steps found.
use Rattle.std.specs.Prelude.{ℕ}
use Rattle.vg_ring.specs.declared.seats.TheConstants.{HEAD, TAIL}

-- the number of items taken
abbrev pub head_word : ℕ
head_word = HEAD

-- the number of items put
abbrev pub tail_word : ℕ
tail_word = TAIL
