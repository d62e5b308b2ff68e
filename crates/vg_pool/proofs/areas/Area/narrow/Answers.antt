use Rattle.std.proofs.Common.{◌≡◌, ℕ, ◌+◌, ◌-◌, ◌≤◌, List, length, take, drop, sym, ap, subst, ◌∙◌, arith}
use Rattle.std.specs.Prelude.{min}
use Rattle.std.proofs.lemmas.List.{length-take, drop-drop}
use Rattle.vg_pool.specs.Areas.{Held}
use Rattle.vg_pool.proofs.AreaLemmas.{drop_of_take}
use Rattle.vg_pool.proofs.areas.Area.narrow.Goals as goal

pub returns : goal.returns
returns c =
    let s : ℕ = c.self.inside.start in
    let e : ℕ = c.self.inside.end in
    let xs : List ℕ = c.self.inside.plot.items in
    let with_room : List ℕ → Held = λ bytes. record { room = s + 4; bytes = bytes } in
    let four : 4 ≤ length (take (e - s) (drop s xs)) = subst (λ (h : Held). 4 ≤ length h.bytes) (sym c.self.view_is) c.requires in
    let size : length (take (e - s) (drop s xs)) ≡ min (e - s) (length (drop s xs)) = length-take (e - s) (drop s xs) in
    rw (← c.self.view_is)
    (ap with_room
    (ap (λ k. take k (drop (s + 4) xs)) (let same : e - (s + 4) ≡ e - s - 4 = omega arith in same)
    ∙ ap (take (e - s - 4)) (sym (drop-drop 4 s xs))
    ∙ sym (drop_of_take 4 (e - s) (drop s xs) (omega (arith, four, size)))))
