use Rattle.std.proofs.Common.{◌≡◌, replicate, rules}
use Rattle.std.proofs.lemmas.List.Elements.{same_from_all_zip}
use Rattle.vg_counters.specs.Tally.{count_of_errors}
use Rattle.vg_counters.proofs.counting.Counters.sized.Goals as goal

pub returns : goal.returns
returns c =
    let visits : c.in_ok-visits.visits.items ≡ replicate c.args.nodes 0 = search (rules, c.in_ok-visits.ensures.items) in
    let drops : c.in_ok-drops.drops.items ≡ replicate c.args.nodes (replicate count_of_errors 0) =
    c.in_ok-drops.ensures.items_if_clones_equal (λ y h. same_from_all_zip _ _ y h.whole (λ from to is. is)) in
    let sends : c.in_ok-sends.sends.items ≡ replicate c.args.interfaces 0 = search (rules, c.in_ok-sends.ensures.items) in
    λ i. record { visits = visits i; drops = drops i; sends = sends i }
