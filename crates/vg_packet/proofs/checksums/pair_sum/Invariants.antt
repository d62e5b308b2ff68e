use Rattle.std.proofs.Common.{◌≡◌, ℕ, ◌+◌, ◌*◌, ◌≤◌, ◌%◌, List, length}
use Rattle.vg_packet.specs.Sums.{pair_sum}
use Rattle.vg_packet.proofs.checksums.pair_sum.Given as goal

-- of so many bytes, with so much added up and these pairs of words left
pub record IsPartial (bytes : List ℕ) (sum size : ℕ) (rest : List ℕ) : Type 0 where
  pub whole : sum + pair_sum rest ≡ pair_sum bytes
  pub few : sum + 1073741824 * length rest ≤ 1073741824 * 60
  pub four_each : length rest % 4 ≡ 0
  pub four : size ≡ 4

abbrev pub invariant-loop-pair : goal.invariant-loop-pair
invariant-loop-pair l = IsPartial l.bytes l.sum l.pair-iterator.size l.pair-iterator.rest.now
