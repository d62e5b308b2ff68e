use Rattle.std.proofs.Common.{◌≡◌, ℕ, ◌+◌, ◌*◌, ◌≤◌, ◌%◌, List, length}
use Rattle.vg_model.specs.Header.{word_sum}
use Rattle.vg_packet.proofs.checksums.word_sum.Given as goal

-- of so many bytes, with so much added up and these words left
pub record IsPartial (bytes : List ℕ) (sum size : ℕ) (rest : List ℕ) : Type 0 where
  pub whole : sum + word_sum rest ≡ word_sum bytes
  pub few : sum + 32768 * length rest ≤ 32768 * 60
  pub even : length rest % 2 ≡ 0
  pub two : size ≡ 2

abbrev pub invariant-loop-word : goal.invariant-loop-word
invariant-loop-word l = IsPartial l.bytes l.sum l.word-iterator.size l.word-iterator.rest.now
