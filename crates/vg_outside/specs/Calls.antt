-- Calls that are to fail.
use Rattle.std.specs.Prelude.{◌≡◌}
use Rattle.std.specs.List.{Contains}
use Rattle.vg_outside.specs.declared.calls.Calls.{Calls}
use Rattle.vg_outside.specs.Files.{risen}

-- the next call is one of those that are to fail
abbrev pub IsDue : Calls → Type 0
IsDue calls = Contains calls.failing.items calls.next

-- one call was counted, and the same calls are to fail
pub record CountsOne (old new : Calls) : Type 0 where
  pub next : new.next ≡ risen old.next
  pub failing : new.failing ≡ old.failing
