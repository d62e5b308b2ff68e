use Rattle.std.proofs.Common.{◌≡◌, ℕ, ◌∙◌, ap, length, lit<, arith}
use Rattle.vg_counters.specs.Tally.{Tally, IsSameSize, more_at}
use Rattle.vg_worker_tests.proofs.counters.two_workers_are_summed_by_place.Goals as goal

pub visits-requires : goal.visits-requires
visits-requires g c =
    let nodes : Tally → ℕ = λ t. length t.visits in
    let first : nodes c.sent.new.self ≡ 2 =
    ap nodes c.sent.ensures ∙ ap nodes c.visit.ensures ∙ ap (λ (t : Tally). length (more_at 0 3 t.visits)) c.counters_of-first.ensures in
    let size : IsSameSize c.sent.new.self c.in-Ok.whole = c.in-Ok.ensures.size 0 c.sent.new.self (lit< tt) in
    omega (arith, size.nodes, first)

pub visits-requires-2 : goal.visits-requires-2
visits-requires-2 g c =
    let nodes : Tally → ℕ = λ t. length t.visits in
    let first : nodes c.sent.new.self ≡ 2 =
    ap nodes c.sent.ensures ∙ ap nodes c.visit.ensures ∙ ap (λ (t : Tally). length (more_at 0 3 t.visits)) c.counters_of-first.ensures in
    let size : IsSameSize c.sent.new.self c.in-Ok.whole = c.in-Ok.ensures.size 0 c.sent.new.self (lit< tt) in
    omega (arith, size.nodes, first)

pub sends-requires : goal.sends-requires
sends-requires g c =
    let interfaces : Tally → ℕ = λ t. length t.sends in
    let first : interfaces c.sent.new.self ≡ 1 =
    ap interfaces c.sent.ensures ∙ ap (λ (t : Tally). length (more_at 0 1 t.sends)) c.visit.ensures
    ∙ ap (λ (t : Tally). length (more_at 0 1 t.sends)) c.counters_of-first.ensures in
    let size : IsSameSize c.sent.new.self c.in-Ok.whole = c.in-Ok.ensures.size 0 c.sent.new.self (lit< tt) in
    omega (arith, size.interfaces, first)
