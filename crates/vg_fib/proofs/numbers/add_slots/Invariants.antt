use Rattle.std.proofs.Common.{◌≡◌, ◌++◌, map, take}
use Rattle.std.specs.Prelude.{Some}
use Rattle.vg_fib.proofs.numbers.add_slots.Given as goal

-- the first so many routes stand in slots of their own
abbrev pub invariant-loop-route : goal.invariant-loop-route
invariant-loop-route g l = l.slots.items ≡ l.initial.slots.items ++ map (λ route. Some route) (take l.route-index l.routes)
