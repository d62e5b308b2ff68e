use Rattle.std.proofs.Common.{ℕ, ◌+◌, ◌*◌, ◌<◌, ◌≤◌, ◌^◌, length}
use Rattle.vg_model.specs.Route.{ip4}
use Rattle.vg_fib.specs.Numbers.{IsBestOf}
use Rattle.vg_fib.specs.Trie.{IsLevels, number_at}
use Rattle.vg_fib.proofs.NumberLemmas.{ArePut}
use Rattle.vg_fib.proofs.trie.Levels.put_from.Given as goal

-- the first so many places of the order are put in too
abbrev pub invariant-loop-place : goal.invariant-loop-place
invariant-loop-place l = record {
  shape : IsLevels l.self;
  numbers : (address : ℕ) → address < 2 ^ 32 → IsBestOf ip4 l.slots (ArePut l.known l.place-items l.place-index) address (number_at l.self address);
  second : length l.self.second.items ≤ length l.initial.self.second.items + 256 * l.place-index;
  third : length l.self.third.items ≤ length l.initial.self.third.items + 256 * l.place-index;
}
