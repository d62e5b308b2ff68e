use Rattle.std.proofs.Common.{◌≡◌, ℕ, ◌+◌, ◌-◌, ◌≤◌, List, [], ◌∷◌, ◌++◌, length, drop, refl, sym, ap, subst, ◌∙◌, arith, length-append}
use Rattle.std.proofs.lemmas.List.{drop_all}
use Rattle.vg_nodes.specs.declared.next_list.NextRun.{NextRun}
use Rattle.vg_nodes.specs.Runs.{over_slot, run_entries, run_total}
use Rattle.vg_nodes.proofs.RunLemmas.{length-entries, few_runs, entries-push, entries-close, total-close, some-close, HaveSome}
use Rattle.vg_nodes.proofs.next_list.NextList.push_run.Goals as goal

pub push_each-requires : goal.push_each-requires
push_each-requires c =
    let q = c.self.inside in
    let size = length-entries q.closed.items q.slot q.indexes in
    omega (arith, size, ap length c.self.view_is, c.requires)

pub invariant_of-self : goal.invariant_of-self
invariant_of-self c =
    let q = c.self.inside in
    let i = c.self.invariant in
    let grown = ap length c.push_each.ensures ∙ length-append q.indexes c.args.indexes.now in
    let size = length-entries q.closed.items q.slot q.indexes in
    (record { begins = i.0.begins; within = omega (arith, i.0.within, grown); some = i.0.some; few = omega (arith, grown, size, ap length c.self.view_is, c.requires) }, i.1)

pub returns-then-slot-self : goal.returns-then-slot-self
returns-then-slot-self c =
    let q = c.self.inside in
    let i = c.self.invariant in
    let more : List ℕ = c.args.indexes.now in
    let within : run_total q.closed.items ≤ length q.indexes = omega (arith, i.0.begins, i.0.within) in
    ap (run_entries q.closed.items q.slot) c.push_each.ensures
    ∙ (entries-push q.closed.items q.slot q.slot q.indexes more within refl
    ∙ (ap (λ es. es ++ over_slot q.slot more) c.self.view_is ∙ ap (λ slot. c.args.self.now ++ over_slot slot more) (sym c.if-slot-self.true)))

pub push_reserved-requires : goal.push_reserved-requires
push_reserved-requires c =
    let q = c.self.inside in
    let i = c.self.invariant in
    let few = few_runs q.closed.items i.0.some in
    omega (arith, few, i.0.begins, i.0.few, i.1, c.if-self-end.true, c.len-end.ensures.count, q.closed.ok)

pub invariant_of-self-then-self-end : goal.invariant_of-self-then-self-end
invariant_of-self-then-self-end c =
    let q = c.self.inside in
    let i = c.self.invariant in
    let run : NextRun = record { slot = q.slot; len = c.len-end.result - q.start } in
    let grown = ap length c.push_each.ensures ∙ length-append q.indexes c.args.indexes.now in
    let size = length-entries q.closed.items q.slot q.indexes in
    let total : run_total c.push_reserved.new.self.items ≡ run_total q.closed.items + run.len = ap run_total c.push_reserved.ensures.items ∙ total-close q.closed.items run in
    let one : 1 ≤ run.len = omega (arith, c.if-self-end.true) in
    let some : HaveSome c.push_reserved.new.self.items = subst HaveSome (sym c.push_reserved.ensures.items) (some-close q.closed.items run i.0.some one) in (
      record {
        begins = omega (arith, total, i.0.begins, c.if-self-end.true);
        within = omega (arith, grown, c.len-end.ensures.count);
        some = some;
        few = omega (arith, grown, size, ap length c.self.view_is, c.requires);
      },
      omega (arith, i.1, c.push_reserved.ensures.capacity),
    )

pub invariant_of-self-else-self-end : goal.invariant_of-self-else-self-end
invariant_of-self-else-self-end c =
    let q = c.self.inside in
    let i = c.self.invariant in
    let grown = ap length c.push_each.ensures ∙ length-append q.indexes c.args.indexes.now in
    let size = length-entries q.closed.items q.slot q.indexes in
    (record { begins = i.0.begins; within = omega (arith, i.0.within, grown); some = i.0.some; few = omega (arith, grown, size, ap length c.self.view_is, c.requires) }, i.1)

pub returns-then-self-end : goal.returns-then-self-end
returns-then-self-end c =
    let q = c.self.inside in
    let i = c.self.invariant in
    let more : List ℕ = c.args.indexes.now in
    let run : NextRun = record { slot = q.slot; len = c.len-end.result - q.start } in
    let runs : List NextRun = q.closed.items ++ run ∷ [] in
    let all : run_total q.closed.items + run.len ≡ length q.indexes = omega (arith, i.0.begins, c.if-self-end.true, c.len-end.ensures.count) in
    let total = total-close q.closed.items run in
    ap (λ rs. run_entries rs c.args.slot c.push_each.new.self) c.push_reserved.ensures.items
    ∙ (ap (run_entries runs c.args.slot) c.push_each.ensures
    ∙ (entries-push runs c.args.slot c.args.slot q.indexes more (omega (arith, total, all)) refl
    ∙ ap (λ es. es ++ over_slot c.args.slot more) (entries-close q.closed.items run c.args.slot q.indexes all ∙ c.self.view_is)))

pub returns-else-self-end : goal.returns-else-self-end
returns-else-self-end c =
    let q = c.self.inside in
    let i = c.self.invariant in
    let more : List ℕ = c.args.indexes.now in
    let within : run_total q.closed.items ≤ length q.indexes = omega (arith, i.0.begins, i.0.within) in
    let none : drop (run_total q.closed.items) q.indexes ≡ [] = drop_all (run_total q.closed.items) q.indexes (omega (arith, i.0.begins, c.len-end.ensures.count, c.if-self-end.false)) in
    ap (run_entries q.closed.items c.args.slot) c.push_each.ensures
    ∙ (entries-push q.closed.items q.slot c.args.slot q.indexes more within (ap (over_slot q.slot) none ∙ ap (over_slot c.args.slot) (sym none))
    ∙ ap (λ es. es ++ over_slot c.args.slot more) c.self.view_is)
