use Rattle.std.proofs.Common.{◌≡◌, ℕ, suc, ◌+◌, List, [], ◌∷◌, length, get_or, drop, refl, sym, ap, subst, ◌∙◌, arith, drop-cons, add-one}
use Rattle.std.specs.Prelude.{Option, Some, slice_set}
use Rattle.std.specs.List.{AllByRecursion}
use Rattle.std.proofs.lemmas.List.{drop_all}
use Rattle.vg_model.specs.declared.kinds.Step.{Step}
use Rattle.vg_model.specs.declared.kinds.Step.TheVariants.{Next}
use Rattle.vg_frame.specs.Placed.{IsLive}
use Rattle.vg_pool.specs.Contents.{Contents}
use Rattle.vg_nodes.specs.declared.sorted.Sorted.{Sorted}
use Rattle.vg_nodes.specs.Sorting.{put, HasRoom}
use Rattle.vg_nodes.specs.Dispatch.{NodeVisit, IsMeaningOf, IsSortedBy}
use Rattle.vg_nodes.proofs.UnderwayLemmas.{IsUnderway, IsVisiting, HasRoomFor, begins_visiting, visits_next, room_for_one, sorted_at_last, visited_at_last, running, running_none, running_more, between, between_more, between_none, length-running}
use Rattle.vg_nodes.proofs.visiting.visit_each.Goals as goal

pub loop-at-init : goal.loop-at-init
loop-at-init g c =
    let begun = begins_visiting _ c.args.memory.now c.args.indexes.now c.args.out.now c.requires.live c.requires.distinct c.requires.few c.requires.empty in
    record {
      within = omega arith;
      visiting = subst (IsVisiting _ c.args.memory.now c.args.indexes.now c.args.memory.now c.args.indexes.now) (sym (running_none 0 [] c.args.out.now refl)) begun;
    }

pub get_mut-requires : goal.get_mut-requires
get_mut-requires g c =
    let frame : List ℕ = c.args.indexes.now in
    let k : ℕ = c.loop-at.at in
    let split : drop k frame ≡ get_or frame k 0 ∷ drop (suc k) frame = drop-cons frame k 0 c.loop-at-test.true in
    let live : AllByRecursion (IsLive c.loop-at.memory) (get_or frame k 0 ∷ drop (suc k) frame) = subst (AllByRecursion (IsLive c.loop-at.memory)) split c.loop-at.invariant.visiting.live in
    live.0

pub push_each-requires : goal.push_each-requires
push_each-requires g c =
    let i = c.loop-at.invariant in
    omega (arith, length-running c.loop-at.slot (length (drop c.loop-at.at c.args.indexes.now)) (between c.loop-at.start c.loop-at.at c.args.indexes.now) c.loop-at.out i.visiting.room)

pub put-requires : goal.put-requires
put-requires g c =
    let frame : List ℕ = c.args.indexes.now in
    let k : ℕ = c.loop-at.at in
    let split : drop k frame ≡ get_or frame k 0 ∷ drop (suc k) frame = drop-cons frame k 0 c.loop-at-test.true in
    let out : Sorted = running c.loop-at.slot (between c.loop-at.start k frame) c.loop-at.out in
    let room : HasRoomFor (suc (length (drop (suc k) frame))) out = subst (λ (rest : List ℕ). HasRoomFor (length rest) out) split c.loop-at.invariant.visiting.room in
    subst HasRoom (sym (ap (λ (xs : List (ℕ × ℕ)). record c.loop-at.out { next = xs }) c.push_each.ensures)) (room_for_one (length (drop (suc k) frame)) out room)

pub loop-at-preserved-then-is_over : goal.loop-at-preserved-then-is_over
loop-at-preserved-then-is_over g c =
    let frame : List ℕ = c.args.indexes.now in
    let k : ℕ = c.loop-at.at in
    let index : ℕ = get_or frame k 0 in
    let old : List (Option Contents) = c.args.memory.now in
    let now : List (Option Contents) = c.loop-at.memory in
    let new : List (Option Contents) = slice_set now index (Some c.visit-step.new.arg2) in
    let run : List ℕ = between c.loop-at.start k frame in
    let out : Sorted = running c.loop-at.slot run c.loop-at.out in
    let step : Step = c.visit-step.result in
    let split : drop k frame ≡ index ∷ drop (suc k) frame = drop-cons frame k 0 c.loop-at-test.true in
    let Means : NodeVisit → Type 0 = IsMeaningOf (goal.F-post g c.args.visit) in
    let before : IsVisiting Means old frame now (index ∷ drop (suc k) frame) out = subst (λ (rest : List ℕ). IsVisiting Means old frame now rest out) split c.loop-at.invariant.visiting in
    let after : IsVisiting Means old frame new (drop (suc k) frame) (put index step out) =
    visits_next Means old frame now index (drop (suc k) frame) out c.get_mut.result.now c.visit-step.new.arg2 step
    before c.get_mut.ensures.buffer (λ meaning means. means _ _ _ c.visit-step.ensures) in
    let onward : IsVisiting Means old frame new (drop (k + 1) frame) (put index step out) = subst (λ n. IsVisiting Means old frame new (drop n frame) (put index step out)) (sym (add-one k)) after in
    let within = c.loop-at.invariant.within in
    let is : step ≡ Next c.loop-at.slot = c.is_over.ensures.0 c.if-is_over.true in
    let same : put index step out ≡ running c.loop-at.slot (between c.loop-at.start (k + 1) frame) c.loop-at.out =
    ap (λ (s : Step). put index s out) is
    ∙ (running_more c.loop-at.slot run index c.loop-at.out ∙ ap (λ (xs : List ℕ). running c.loop-at.slot xs c.loop-at.out) (sym (between_more c.loop-at.start k frame within c.loop-at-test.true))) in
    record {
      within = omega (arith, within);
      visiting = subst (IsVisiting Means old frame new (drop (k + 1) frame)) same onward;
    }

pub loop-at-preserved : goal.loop-at-preserved
loop-at-preserved g c =
    let frame : List ℕ = c.args.indexes.now in
    let k : ℕ = c.loop-at.at in
    let index : ℕ = get_or frame k 0 in
    let old : List (Option Contents) = c.args.memory.now in
    let now : List (Option Contents) = c.loop-at.memory in
    let new : List (Option Contents) = slice_set now index (Some c.visit-step.new.arg2) in
    let run : List ℕ = between c.loop-at.start k frame in
    let out : Sorted = running c.loop-at.slot run c.loop-at.out in
    let step : Step = c.visit-step.result in
    let split : drop k frame ≡ index ∷ drop (suc k) frame = drop-cons frame k 0 c.loop-at-test.true in
    let Means : NodeVisit → Type 0 = IsMeaningOf (goal.F-post g c.args.visit) in
    let before : IsVisiting Means old frame now (index ∷ drop (suc k) frame) out = subst (λ (rest : List ℕ). IsVisiting Means old frame now rest out) split c.loop-at.invariant.visiting in
    let after : IsVisiting Means old frame new (drop (suc k) frame) (put index step out) =
    visits_next Means old frame now index (drop (suc k) frame) out c.get_mut.result.now c.visit-step.new.arg2 step
    before c.get_mut.ensures.buffer (λ meaning means. means _ _ _ c.visit-step.ensures) in
    let onward : IsVisiting Means old frame new (drop (k + 1) frame) (put index step out) = subst (λ n. IsVisiting Means old frame new (drop n frame) (put index step out)) (sym (add-one k)) after in
    let put_is : c.put.new.self ≡ put index step out = c.put.ensures ∙ ap (λ (xs : List (ℕ × ℕ)). put index step (record c.loop-at.out { next = xs })) c.push_each.ensures in
    let none = running_none c.match-step.slot (between (k + 1) (k + 1) frame) c.put.new.self (between_none (k + 1) frame) in
    record {
      within = omega arith;
      visiting = subst (IsVisiting Means old frame new (drop (k + 1) frame)) (sym (none ∙ put_is)) onward;
    }

pub push_each-requires-2 : goal.push_each-requires-2
push_each-requires-2 g c =
    let i = c.loop-at.invariant in
    let end : length c.args.indexes.now ≡ c.loop-at.at = omega (arith, c.loop-at-test.false, c.loop-at.auto.at-end) in
    let few = length-running c.loop-at.slot (length (drop c.loop-at.at c.args.indexes.now)) (between c.loop-at.start c.loop-at.at c.args.indexes.now) c.loop-at.out i.visiting.room in
    let same = ap (λ n. length (between c.loop-at.start n c.args.indexes.now)) end in
    omega (arith, few, same)

pub returns-clause-sorted : goal.returns-clause-sorted
returns-clause-sorted g c meaning means =
    let frame : List ℕ = c.args.indexes.now in
    let k : ℕ = c.loop-at.at in
    let old : List (Option Contents) = c.args.memory.now in
    let now : List (Option Contents) = c.loop-at.memory in
    let out : Sorted = running c.loop-at.slot (between c.loop-at.start k frame) c.loop-at.out in
    let past : drop k frame ≡ [] = drop_all k frame c.loop-at-test.false in
    let end : length frame ≡ k = omega (arith, c.loop-at-test.false, c.loop-at.auto.at-end) in
    let same : record c.loop-at.out { next = c.push_each-2.new.self } ≡ out =
    ap (λ (xs : List (ℕ × ℕ)). record c.loop-at.out { next = xs }) c.push_each-2.ensures ∙ ap (λ n. running c.loop-at.slot (between c.loop-at.start n frame) c.loop-at.out) end in
    subst (IsSortedBy meaning old frame) (sym same)
    (sorted_at_last meaning old frame now out
    (subst (λ (rest : List ℕ). IsUnderway meaning old frame now rest out) past (c.loop-at.invariant.visiting.underway meaning means)))

pub returns-clause-visited : goal.returns-clause-visited
returns-clause-visited g c meaning means =
    let frame : List ℕ = c.args.indexes.now in
    let k : ℕ = c.loop-at.at in
    let old : List (Option Contents) = c.args.memory.now in
    let now : List (Option Contents) = c.loop-at.memory in
    let out : Sorted = running c.loop-at.slot (between c.loop-at.start k frame) c.loop-at.out in
    let past : drop k frame ≡ [] = drop_all k frame c.loop-at-test.false in
    visited_at_last meaning old frame now out
    (subst (λ (rest : List ℕ). IsUnderway meaning old frame now rest out) past (c.loop-at.invariant.visiting.underway meaning means))
    c.requires.live c.requires.distinct
