-- For `last_addresses`: the last addresses are those of the prefixes so far.
use Rattle.std.proofs.Common.{◌≡◌, ℕ, take}
use Rattle.vg_remarks.specs.Addresses.{is_directed}
use Rattle.vg_remarks.specs.Lasts.{has}
use Rattle.vg_remarks.proofs.addresses.last_addresses.Given as goal

abbrev pub invariant-loop-prefix : goal.invariant-loop-prefix
invariant-loop-prefix l = (address : ℕ) → has l.lasts.items address ≡ is_directed (take l.prefix-index l.led) address
