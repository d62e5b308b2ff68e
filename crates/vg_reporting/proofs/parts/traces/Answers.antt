use Rattle.std.proofs.Common.{◌≡◌, ℕ, zero, suc, ◌<◌, List, [], ◌∷◌, length, map, take, get_or, refl, sym, ap, subst, ◌∙◌, arith}
use Rattle.std.specs.List.{AllByRecursion}
use Rattle.std.proofs.lemmas.List.{take_all}
use Rattle.vg_check.specs.Output.{node_name}
use Rattle.vg_reporting.proofs.parts.traces.Goals as goal

-- what holds of each part holds of that of one element
part_at : {X : Type 0} (xs : List X) (i : ℕ) (d : X) (part : X → List ℕ) (P : List ℕ → Type 0) → i < length xs → AllByRecursion P (map part xs) → P (part (get_or xs i d))
part_at [] i d part P within all = absurd (omega (arith, within))
part_at (x ∷ xs) zero d part P within all = all.0
part_at (x ∷ xs) (suc i) d part P within all = part_at xs i d part P (omega (arith, within)) all.1

-- what is made of the parts
made_of_parts : {X : Type 0} (xs : List X) (part : X → List ℕ) (f : List ℕ → List (List ℕ)) → map (λ x. f (part x)) xs ≡ map f (map part xs)
made_of_parts [] part f = refl
made_of_parts (x ∷ xs) part f = ap (λ l. f (part x) ∷ l) (made_of_parts xs part f)

pub names-requires : goal.names-requires
names-requires c =
    let g = c.args.graph.now in
    let within : AllByRecursion (AllByRecursion (λ node. node < length g.nodes)) (map (λ nodes. nodes.items) c.as_slice-lists.result.now) =
    subst (AllByRecursion (AllByRecursion (λ node. node < length g.nodes))) (sym c.as_slice-lists.ensures) c.requires in
    subst (AllByRecursion (λ node. node < length g.nodes)) (sym (c.as_slice.ensures.value ∙ ap (λ nodes. nodes.items) c.nodes-item.is))
    (part_at c.as_slice-lists.result.now c.loop-nodes.nodes-index c.nodes-item.result (λ nodes. nodes.items) (AllByRecursion (λ node. node < length g.nodes)) c.loop-nodes-test.true within)

pub returns : goal.returns
returns c =
    let g = c.args.graph.now in
    let all : take c.loop-nodes.nodes-index c.as_slice-lists.result.now ≡ c.as_slice-lists.result.now =
    take_all c.loop-nodes.nodes-index c.as_slice-lists.result.now c.loop-nodes-test.false in
    c.from_vec.ensures ∙ (c.loop-nodes.invariant
    ∙ (ap (map (λ nodes. map (node_name g) nodes.items)) all
    ∙ (made_of_parts c.as_slice-lists.result.now (λ nodes. nodes.items) (map (node_name g)) ∙ ap (map (map (node_name g))) c.as_slice-lists.ensures)))
