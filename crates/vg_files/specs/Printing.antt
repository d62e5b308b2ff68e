-- What a call of printing adds to a sink.
use Rattle.std.specs.Prelude.{◌≡◌, ℕ, ◌<◌, ◌++◌, List, length, take, Option, option_map}

-- where the sink tells its bytes, these were added
abbrev pub Appends : Option (List ℕ) → Option (List ℕ) → List ℕ → Type 0
Appends before after bytes = after ≡ option_map (λ all. all ++ bytes) before

-- where the sink tells its bytes, a front of these was added that is not all of them
abbrev pub AppendsFront : Option (List ℕ) → Option (List ℕ) → List ℕ → Type 0
AppendsFront before after bytes = (n : ℕ) × (n < length bytes) × Appends before after (take n bytes)
