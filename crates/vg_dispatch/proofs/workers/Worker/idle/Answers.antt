use Rattle.std.proofs.Common.{◌≡◌, true, false, List, None, map, refl, sym, subst, ◌∙◌}
use Rattle.std.specs.Prelude.{Option}
use Rattle.std.specs.Bool.{IsTrue}
use Rattle.std.specs.List.{AllByRecursion}
use Rattle.std.proofs.lemmas.List.{take_all}
use Rattle.vg_journeys.specs.Accounts.{HandoffFrame}
use Rattle.vg_underway.specs.Queues.{Queue}
use Rattle.vg_dispatch.specs.Workers.{IsIdle}
use Rattle.vg_underway.proofs.PeerLemmas.{all_map_at, map_all}
use Rattle.vg_dispatch.proofs.workers.Worker.idle.Goals as goal

pub returns-then-not-is_idle : goal.returns-then-not-is_idle
returns-then-not-is_idle g c = (
  λ (yes_is : IsTrue false). (let k : false ≡ true = yes_is in cc),
  λ (idle : IsIdle c.args.self.now).
      let same = subst IsIdle (sym c.self.view_is) idle in
      let waits = subst (λ (xs : List Queue). AllByRecursion (λ (frame : Option HandoffFrame). frame ≡ None) (map (λ (q : Queue). q.waits) xs)) (sym c.deref-incoming-items.ensures.value) same.waits in
      absurd (c.if-not-is_idle.ensures (all_map_at (λ (frame : Option HandoffFrame). frame ≡ None) (λ (q : Queue). q.waits) c.deref-incoming-items.result.now c.loop-incoming.incoming-index c.incoming-item.result c.loop-incoming-test.true c.incoming-item.is waits)),
)

pub returns-then-held-ne0 : goal.returns-then-held-ne0
returns-then-held-ne0 g c = (
  λ (yes_is : IsTrue false). (let k : false ≡ true = yes_is in cc),
  λ (idle : IsIdle c.args.self.now).
      let same = subst IsIdle (sym c.self.view_is) idle in
      let held = subst (λ xs. AllByRecursion (λ n. n ≡ 0) (map (λ o. g.H.Handoff.waiting o.handoff) xs)) (sym c.deref-output-items.ensures.value) same.held in
      absurd (c.if-held-ne0.true (c.held.ensures ∙ all_map_at (λ n. n ≡ 0) (λ o. g.H.Handoff.waiting o.handoff) c.deref-output-items.result.now c.loop-output.output-index c.output-item.result c.loop-output-test.true c.output-item.is held)),
)

pub returns : goal.returns
returns g c = (
  λ (yes_is : IsTrue true).
      let waits = subst (AllByRecursion (λ (q : Queue). q.waits ≡ None)) (take_all c.loop-incoming.incoming-index c.deref-incoming-items.result.now c.loop-incoming-test.false ∙ c.deref-incoming-items.ensures.value) c.loop-incoming.invariant in
      let held = subst (AllByRecursion (λ o. g.H.Handoff.waiting o.handoff ≡ 0)) (take_all c.loop-output.output-index c.deref-output-items.result.now c.loop-output-test.false ∙ c.deref-output-items.ensures.value) c.loop-output.invariant in
      subst IsIdle c.self.view_is (record {
        waits = map_all (λ (frame : Option HandoffFrame). frame ≡ None) (λ (q : Queue). q.waits) c.self.inside.inputs.items waits;
        held = map_all (λ n. n ≡ 0) (λ o. g.H.Handoff.waiting o.handoff) c.self.inside.outputs.items held;
      }),
  λ (idle : IsIdle c.args.self.now). refl,
)
