use Rattle.std.proofs.Common.{arith, ℕ, ◌≡◌, ◌<◌, Bool, false, List, ◌∙◌, ap, sym, length, get_or, set, get_or-set_same, get_or-set_other, Option}
use Rattle.vg_steps.specs.Seats.{id_of, me_of}
use mathlib.Core.Logic.{dite}
use native.Mathlib.Decide.{ℕ_discrete}
use Rattle.std.specs.Slots.{slots_filled, slots_items, slots_len, slots_counts}
use mathlib.Core.Option.{some}
use lib.ListN.{get_elem?}
use Rattle.vg_steps.specs.Table.{Me}
use Rattle.vg_barrier.specs.declared.parcel.Stamped.{Stamped}
use Rattle.vg_barrier.specs.declared.views.View.{View}
use Rattle.vg_barrier.specs.Seats.{main_view}
use Rattle.vg_barrier.specs.Barrier.{workers_of}
use Rattle.vg_barrier.proofs.MakingMachine.{rests}
use Rattle.vg_barrier.proofs.Places.{word_at}
use Rattle.vg_barrier.proofs.barrier.Barrier.end.Goals as goal

pub returns-clause-request : goal.returns-clause-request
returns-clause-request g c = let last = c.close_with-closed.ensures.values.2 in let idle = c.args.main.phase in
    let at = last.1.1
    ∙ ap (λ (x : Me (Option (Stamped g.row.P.Denot)) (View g.row.P-Book.Denot)). some x.0)
    (ap (λ p. me_of p) c.into_place.ensures ∙ idle.0) in
    let words =
    rests _ _ g.P.Parcel.fits g.P.Parcel.mark g.P.Parcel.generation (workers_of c.args.self) last.0 last.1.0 _
    (main_view c.args.main.seat) at idle.1 in
    sym (word_at (slots_items c.close_with-closed.result.words) 0 _ c.word.ensures)
    ∙ (ap (λ l. get_or l 0 0) (sym last.2) ∙ words.0)

pub returns-clause-arrivals : goal.returns-clause-arrivals
returns-clause-arrivals g c = let last = c.close_with-closed.ensures.values.2 in let idle = c.args.main.phase in
    let at = last.1.1
    ∙ ap (λ (x : Me (Option (Stamped g.row.P.Denot)) (View g.row.P-Book.Denot)). some x.0)
    (ap (λ p. me_of p) c.into_place.ensures ∙ idle.0) in
    let words =
    rests _ _ g.P.Parcel.fits g.P.Parcel.mark g.P.Parcel.generation (workers_of c.args.self) last.0 last.1.0 _
    (main_view c.args.main.seat) at idle.1 in
    sym (word_at (slots_items c.close_with-closed.result.words) 16 _ c.word-2.ensures)
    ∙ (ap (λ l. get_or l 16 0) (sym last.2) ∙ words.1)

pub returns-clause-generation : goal.returns-clause-generation
returns-clause-generation g c = let last = c.close_with-closed.ensures.values.2 in let idle = c.args.main.phase in
    let at = last.1.1
    ∙ ap (λ (x : Me (Option (Stamped g.row.P.Denot)) (View g.row.P-Book.Denot)). some x.0)
    (ap (λ p. me_of p) c.into_place.ensures ∙ idle.0) in
    let words =
    rests _ _ g.P.Parcel.fits g.P.Parcel.mark g.P.Parcel.generation (workers_of c.args.self) last.0 last.1.0 _
    (main_view c.args.main.seat) at idle.1 in
    sym (word_at (slots_items c.close_with-closed.result.words) 32 _ c.word-3.ensures)
    ∙ (ap (λ l. get_or l 32 0) (sym last.2) ∙ words.2)

pub loop-slot-preserved : goal.loop-slot-preserved
loop-slot-preserved g c =
    let inv = c.loop-slot.invariant in
    let slot : ℕ = c.loop-slot.slot in
    let old = c.loop-slot.closed.slots in
    let new = c.take.new.self.slots in
    let others = c.take.ensures.others in
    let filled : List Bool = slots_filled old in
    let long : slots_len old ≡ length filled = (slots_counts old).1 in
    let near : slot < slots_len old =
    (let there = c.loop-slot-test.true in let end = c.slot_count-slot-end.ensures in let many = inv.many in omega arith) in
    let same : slots_len new ≡ slots_len old = others.2 in
    let changed : (k : ℕ)
    → get_or (slots_filled new) k false ≡ get_or (set filled slot false) k false =
    λ k. ap (λ (fs : List Bool). get_or fs k false) others.1 in
    let else : (k : ℕ) → (k ≡ slot → ⊥)
    → get_or (slots_filled new) k false ≡ get_or filled k false = λ k not. changed k
    ∙ get_or-set_other filled slot k false false (λ e. not e) in
    record {
      full = λ k low high. else k (λ e. omega arith) ∙ inv.full k (omega arith) (omega arith);
      taken =
          λ k low. dite (ℕ_discrete k slot)
          (λ e.
          changed k
          ∙
          (ap (λ (j : ℕ). get_or (set filled slot false) j false) e ∙ get_or-set_same filled slot false false (omega arith)))
          (λ not. else k not ∙ inv.taken k (let apart : k ≡ slot → ⊥ = not in omega arith));
      many = same ∙ inv.many;
    }

pub returns-clause-rule : goal.returns-clause-rule
returns-clause-rule g c = let last = c.close_with-closed.ensures.values.2 in
    let at = last.1.1
    ∙ ap (λ (x : Me (Option (Stamped g.row.P.Denot)) (View g.row.P-Book.Denot)). some x.0)
    (ap (λ p. me_of p) c.into_place.ensures ∙ c.args.main.phase.0) in
    record {
      state = last.0;
      rule = last.1.0;
      main = ap (λ p. get_elem? last.0.views (id_of p)) (sym c.into_place.ensures) ∙ at;
      request = ap (λ l. get_or l 0 0) last.2 ∙ word_at (slots_items c.close_with-closed.result.words) 0 _ c.word.ensures;
      arrivals = ap (λ l. get_or l 16 0) last.2 ∙ word_at (slots_items c.close_with-closed.result.words) 16 _ c.word-2.ensures;
      generation = ap (λ l. get_or l 32 0) last.2 ∙ word_at (slots_items c.close_with-closed.result.words) 32 _ c.word-3.ensures;
    }
