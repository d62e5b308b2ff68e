use Rattle.std.proofs.Common.{◌≡◌, ℕ, ◌+◌, ◌-◌, ◌≤◌, List, take, drop, sym, ap, subst, ◌∙◌, arith}
use Rattle.std.proofs.lemmas.List.{drop-drop}
use Rattle.vg_pool.specs.Areas.{Held}
use Rattle.vg_pool.proofs.AreaLemmas.{drop_of_take}
use Rattle.vg_pool.proofs.areas.Area.widen.Goals as goal

pub returns-clause-bytes : goal.returns-clause-bytes
returns-clause-bytes c =
    let s : ℕ = c.self.inside.start in
    let e : ℕ = c.self.inside.end in
    let xs : List ℕ = c.self.inside.plot.items in
    let room : 4 ≤ s = subst (λ (h : Held). 4 ≤ h.room) (sym c.self.view_is) c.requires in
    drop_of_take 4 (e - (s - 4)) (drop (s - 4) xs) (omega (arith, room, c.self.invariant.ordered))
    ∙ ap (take (e - (s - 4) - 4)) (drop-drop 4 (s - 4) xs)
    ∙ ap (λ k. take k (drop (s - 4 + 4) xs)) (let same : e - (s - 4) - 4 ≡ e - s = omega (arith, room) in same)
    ∙ ap (λ k. take (e - s) (drop k xs)) (let same : s - 4 + 4 ≡ s = omega (arith, room) in same)
    ∙ ap (λ (h : Held). h.bytes) c.self.view_is
