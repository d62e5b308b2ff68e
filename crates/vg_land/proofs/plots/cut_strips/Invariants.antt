use Rattle.std.proofs.Common.{◌≡◌, ◌-◌, ◌*◌, ◌^◌, ◌<◌, replicate}
use denote.RawPtr.{InBlock}
use Rattle.vg_land.proofs.plots.cut_strips.Given as goal

abbrev pub invariant-loop : goal.invariant-loop
invariant-loop l =
    (l.part.life ≡ l.estate.life) × (l.part.ptr ≡ l.ptr) × (l.part.len ≡ (l.count - l.counter) * l.size) × InBlock l.ptr × (0 < l.size) × (l.size < 2 ^ 32)
    × (l.list.items ≡ replicate l.counter (record { life = l.estate.life; len = l.size }))
