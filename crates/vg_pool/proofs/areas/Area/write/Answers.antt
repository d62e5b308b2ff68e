use Rattle.std.proofs.Common.{◌≡◌, ℕ, ◌+◌, ◌-◌, ◌≤◌, List, ◌++◌, length, take, drop, sym, ap, subst, ◌∙◌, arith, length-drop, length-take-le}
use Rattle.std.proofs.lemmas.List.{drop-drop}
use Rattle.vg_land.specs.Ground.{Ground}
use Rattle.vg_pool.specs.Areas.{Held}
use Rattle.vg_pool.proofs.AreaLemmas.{written_between}
use Rattle.vg_pool.proofs.areas.Area.write.Goals as goal

pub returns : goal.returns
returns c =
    let s : ℕ = c.self.inside.start in
    let e : ℕ = c.self.inside.end in
    let xs : List ℕ = c.self.inside.plot.items in
    let a : ℕ = s + c.args.at in
    let w : List ℕ = c.args.bytes.now in
    let with_room : List ℕ → Held = λ bytes. record { room = s; bytes = bytes } in
    let behind : length (drop s xs) ≡ length xs - s = length-drop s xs in
    let size : length (take (e - s) (drop s xs)) ≡ e - s = length-take-le (e - s) (drop s xs) (omega (arith, behind, c.self.invariant.within)) in
    let fits : c.args.at + length w ≤ length (take (e - s) (drop s xs)) = subst (λ (h : Held). c.args.at + length w ≤ length h.bytes) (sym c.self.view_is) c.requires in
    rw (← c.self.view_is)
    (ap (λ (g : Ground). with_room (take (e - s) (drop s g.items))) c.write.ensures.bytes
    ∙ ap with_room (ap (λ z. take (e - s) (drop s (take a xs ++ (w ++ z)))) (sym (drop-drop (length w) a xs))
    ∙ written_between xs w s e c.args.at (omega (arith, fits, size, c.self.invariant.ordered)) c.self.invariant.within))
