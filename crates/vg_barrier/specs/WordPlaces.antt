-- Where the words of a barrier stand, for contracts above that speak of what a seat's steps found.
use Rattle.std.specs.Prelude.{ℕ}
use Rattle.vg_barrier.specs.declared.barrier.TheConstants.{REQUEST, ARRIVALS, GENERATION}

-- the request word
abbrev pub request_word : ℕ
request_word = REQUEST

-- the arrival count
abbrev pub arrival_word : ℕ
arrival_word = ARRIVALS

-- the published generation
abbrev pub generation_word : ℕ
generation_word = GENERATION
