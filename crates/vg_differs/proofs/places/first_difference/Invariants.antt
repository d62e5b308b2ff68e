-- For `first_difference`: the lists are the same so far.
use Rattle.std.proofs.Common.{◌≡◌, take}
use Rattle.vg_differs.proofs.places.first_difference.Given as goal

abbrev pub invariant-loop-place : goal.invariant-loop-place
invariant-loop-place l = take l.place l.ones ≡ take l.place l.others
