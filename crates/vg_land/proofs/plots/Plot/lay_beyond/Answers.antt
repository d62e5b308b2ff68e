-- For `lay_beyond`: what its calls ask for, and its clauses.
use Rattle.std.proofs.Common.{◌≡◌, ℕ, ◌+◌, ◌-◌, ◌≤◌, List, ◌++◌, length, take, drop, replicate, ap, ◌∙◌, arith, length-append}
use Rattle.vg_land.specs.Ground.{Ground}
use Rattle.vg_land.proofs.Laying.{length_reached, laid_beyond}
use Rattle.vg_land.proofs.plots.Plot.lay_beyond.Goals as goal

pub split_at-requires : goal.split_at-requires
split_at-requires c =
    let xs : List ℕ = c.args.self.now.items in
    let size : length c.reach.new.self.items ≡ length xs + (c.args.at - length xs) = ap (λ (g : Ground). length g.items) c.reach.ensures.bytes ∙ length_reached xs c.args.at in
    let now : length c.as_slice.result.now ≡ length c.reach.new.self.items = ap length c.as_slice.ensures in
    omega (arith, size, now)

pub append-requires : goal.append-requires
append-requires c =
    let xs : List ℕ = c.args.self.now.items in
    let size : length c.reach.new.self.items ≡ length xs + (c.args.at - length xs) = ap (λ (g : Ground). length g.items) c.reach.ensures.bytes ∙ length_reached xs c.args.at in
    let now : length c.as_slice.result.now ≡ length c.reach.new.self.items = ap length c.as_slice.ensures in
    let cap : c.write.new.self.cap ≡ c.args.self.now.cap = ap (λ (g : Ground). g.cap) c.write.ensures.bytes ∙ ap (λ (g : Ground). g.cap) c.reach.ensures.bytes in
    omega (arith, size, now, cap)

pub returns-clause-bytes : goal.returns-clause-bytes
returns-clause-bytes c =
    let xs : List ℕ = c.args.self.now.items in
    let ys : List ℕ = c.args.bytes.now in
    let at : ℕ = c.args.at in
    let k : ℕ = length c.as_slice.result.now - at in
    let first : List ℕ = c.split_at.result.0.now in
    let rest : List ℕ = c.split_at.result.1.now in
    let long : List ℕ = xs ++ replicate (at - length xs) 0 in
    let size : length c.reach.new.self.items ≡ length xs + (at - length xs) = ap (λ (g : Ground). length g.items) c.reach.ensures.bytes ∙ length_reached xs at in
    let now : length c.as_slice.result.now ≡ length c.reach.new.self.items = ap length c.as_slice.ensures in
    let over : length xs + (at - length xs) ≡ at + k = omega (arith, size, now) in
    let few : k ≤ length ys = omega (arith, size, now) in
    let with_rest : Ground → Ground = λ g. record g { items = g.items ++ rest } in
    let written : Ground → Ground = λ g. record g { items = (take at g.items ++ (first ++ drop (at + length first) g.items)) ++ rest } in
    let with_items : List ℕ → Ground = λ items. record { items = items; cap = c.args.self.now.cap } in
    c.append.ensures ∙ ap with_rest c.write.ensures.bytes ∙ ap written c.reach.ensures.bytes
    ∙ ap with_items
    (ap (λ (l : List ℕ). (take at long ++ (l ++ drop (at + length l) long)) ++ rest) c.split_at.ensures.front
    ∙ ap (λ (l : List ℕ). (take at long ++ (take k ys ++ drop (at + length (take k ys)) long)) ++ l) c.split_at.ensures.back
    ∙ laid_beyond xs ys at k (omega arith) over few)

pub returns-clause-len : goal.returns-clause-len
returns-clause-len c =
    let rest : List ℕ = c.split_at.result.1.now in
    let size : length c.append.new.self.items ≡ length c.write.new.self.items + length rest = ap (λ (g : Ground). length g.items) c.append.ensures ∙ length-append c.write.new.self.items rest in
    let now : length c.as_slice.result.now ≡ length c.reach.new.self.items = ap length c.as_slice.ensures in
    omega (arith, size, now)
