-- For `AddressSet::of`: the kept prefixes cover what the prefixes so far cover, and none of them begins behind a further one.
use Rattle.std.proofs.Common.{ℕ, ◌<◌, ◌≤◌, length, get_or, take}
use Rattle.std.specs.Prelude.{All}
use Rattle.vg_model.specs.declared.routes.Prefix.{Prefix}
use Rattle.vg_remarks.specs.Addresses.{IsCover}
use Rattle.vg_remarks.proofs.prefixes.AddressSet.of.Given as goal

abbrev pub invariant-loop-prefix : goal.invariant-loop-prefix
invariant-loop-prefix l = record {
  cover : IsCover (take l.prefix-index l.prefix-items) l.kept.items;
  begun : (i : ℕ) (d : Prefix) → l.prefix-index ≤ i → i < length l.prefix-items → All (λ (p : Prefix). p.addr ≤ (get_or l.prefix-items i d).addr) l.kept.items;
}
