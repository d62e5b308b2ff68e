-- `asked`, what the words ask for: the loop over the options.
use Rattle.std.proofs.Common.{◌≡◌, ◌-◌, ◌≤◌, length, drop}
use Rattle.vg_diff.specs.Asked.{texts, said_shown, asked_behind, asked}
use Rattle.vg_diff.proofs.words.asked.Given as goal

-- the words that are left ask behind the options so far for what all words ask for
abbrev pub invariant-loop-alloc : goal.invariant-loop-alloc
invariant-loop-alloc l = (l.at ≤ length l.words) × (asked_behind (said_shown l.options) (texts (drop l.at l.words)) ≡ asked (texts l.words))

abbrev pub decreases-loop-alloc : goal.decreases-loop-alloc
decreases-loop-alloc l = length l.words - l.at
