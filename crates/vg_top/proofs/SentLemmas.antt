-- For `forward`: the numbers and lengths of packets sent.
use Rattle.std.proofs.Common.{◌≡◌, ℕ, ◌<◌, ◌≤◌, ◌^◌, List, [], ◌∷◌, length, map, sym, subst, arith}
use Rattle.std.specs.Prelude.{All}
use Rattle.std.specs.List.{AllByRecursion, cons_option}
use Rattle.std.proofs.lemmas.List.Elements.{All-from_recursion}
use Rattle.vg_model.specs.declared.fates.Fate.{Fate}
use Rattle.vg_model.specs.declared.fates.End.{End}
use Rattle.vg_model.specs.declared.fates.End.TheVariants as ends
use Rattle.vg_model.specs.declared.routes.Prefix.{Prefix}
use Rattle.vg_model.specs.declared.routes.Prefix6.{Prefix6}
use Rattle.vg_model.specs.declared.routes.RouteTo.{RouteTo}
use Rattle.vg_model.specs.Graph.{Graph, with_routes}
use Rattle.vg_model.specs.Leg.{Outcome, Sent, Dropped, Handed}
use Rattle.vg_model.specs.Journey.{Journey, longest_extent, sent, sent_as, fate_of, fates, end_of}
use Rattle.vg_journeys.specs.Ends.{IsEndIn}
use Rattle.vg_check.proofs.JourneyLemmas.{IsOwn}

-- what was sent of journeys has numbers below so many
sent_number : (n number : ℕ) (bytes : List ℕ) (o : Outcome) (rest : List (ℕ × List ℕ)) → number < n → AllByRecursion (λ (p : ℕ × List ℕ). p.0 < n) rest
    → AllByRecursion (λ (p : ℕ × List ℕ). p.0 < n) (cons_option (sent_as number bytes o) rest)
sent_number n number bytes (Sent interface) rest h all = (h, all)
sent_number n number bytes (Dropped node error) rest h all = all
sent_number n number bytes (Handed node worker) rest h all = all

sent_numbers : (workers n : ℕ) (js : List Journey) → AllByRecursion (IsOwn workers n) js → AllByRecursion (λ (p : ℕ × List ℕ). p.0 < n) (sent js)
sent_numbers workers n [] all = tt
sent_numbers workers n (j ∷ js) all = sent_number n j.number j.course.packet.bytes j.course.outcome (sent js) all.0.number (sent_numbers workers n js all.1)

-- so a savefile of them can be written
both_of : (n : ℕ) (xs : List (ℕ × List ℕ)) → AllByRecursion (λ (p : ℕ × List ℕ). p.0 < n) xs → AllByRecursion (λ (p : ℕ × List ℕ). length p.1 ≤ longest_extent) xs
    → AllByRecursion (λ (p : ℕ × List ℕ). (p.0 < n) × (length p.1 < 2 ^ 32)) xs
both_of n [] all short = tt
both_of n (x ∷ xs) all short = ((all.0, let least = short.0 in omega (arith, least)), both_of n xs all.1 short.1)

pub are_within : (workers n : ℕ) (xs : List (ℕ × List ℕ)) (js : List Journey) → xs ≡ sent js → AllByRecursion (IsOwn workers n) js
    → AllByRecursion (λ (p : ℕ × List ℕ). length p.1 ≤ longest_extent) (sent js) → All (λ (p : ℕ × List ℕ). (p.0 < n) × (length p.1 < 2 ^ 32)) xs
are_within workers n xs js e own short =
    All-from_recursion (λ (p : ℕ × List ℕ). (p.0 < n) × (length p.1 < 2 ^ 32)) xs
    (both_of n xs (subst (AllByRecursion (λ (p : ℕ × List ℕ). p.0 < n)) (sym e) (sent_numbers workers n js own))
    (subst (AllByRecursion (λ (p : ℕ × List ℕ). length p.1 ≤ longest_extent)) (sym e) short))

-- an end in a graph with routes is one in the graph
end_in : (g : Graph) (routes : List (Prefix × RouteTo)) (routes6 : List (Prefix6 × RouteTo)) (end : End) → IsEndIn (with_routes g routes routes6) end → IsEndIn g end
end_in g routes routes6 (ends.Tx interface) h = h
end_in g routes routes6 (ends.Dropped node error) h = h

pub fates_end : (g last : Graph) (js : List Journey) (log : List Fate) → with_routes g last.routes last.routes6 ≡ last → log ≡ fates js
    → AllByRecursion (λ (j : Journey). IsEndIn last (end_of j.course.outcome)) js → AllByRecursion (λ (fate : Fate). IsEndIn g fate.end) log
fates_end g last js log is e all =
    subst (AllByRecursion (λ (fate : Fate). IsEndIn g fate.end)) (sym e)
    (each js (subst (λ h. AllByRecursion (λ (j : Journey). IsEndIn h (end_of j.course.outcome)) js) (sym is) all))
  where
    each : (js : List Journey) → AllByRecursion (λ (j : Journey). IsEndIn (with_routes g last.routes last.routes6) (end_of j.course.outcome)) js
        → AllByRecursion (λ (fate : Fate). IsEndIn g fate.end) (map fate_of js)
    each [] all = tt
    each (j ∷ js) all = (end_in g last.routes last.routes6 (end_of j.course.outcome) all.0, each js all.1)
