use Rattle.std.proofs.Common.{◌≡◌, ℕ, ◌+◌, ◌<◌, ◌≤◌, rules, arith, ap, sym, subst, length, refl, ◌∙◌}
use Rattle.std.specs.Prelude.{All, slice_get}
use Rattle.vg_barrier.specs.Seats.{main_view}
use Rattle.vg_dispatch.specs.declared.parcels.WorkerParcel.{WorkerParcel}
use Rattle.vg_threads.specs.Leads.{IsLead}
use Rattle.vg_threads.specs.Turns.{IsAt}
use Rattle.vg_threads.proofs.TurnLemmas.{book_length, window_is}
use Rattle.vg_threads.proofs.DecisionLemmas.{gives_same, gives_ended, gives_lacking, gives_renewed, first_is, released_within, stands_at_no, leads_on, leads_to_end, leads_no_more}
use Rattle.vg_threads.proofs.decisions.Lead.decide.Goals as goal

pub returns-then-not-all_drawn-clause-parcels : goal.returns-then-not-all_drawn-clause-parcels
returns-then-not-all_drawn-clause-parcels c =
    (gives_same c.args.held.parcels.items (main_view c.args.held.main.seat) (omega (arith, c.args.held.all.0, c.args.held.main.numbers.some_made)) c.requires.whole).may

pub returns-then-not-all_drawn-clause-lead : goal.returns-then-not-all_drawn-clause-lead
returns-then-not-all_drawn-clause-lead c =
    let m = main_view c.args.held.main.seat in
    let plan = c.args.input.now.plan.now in
    let lead = c.requires.lead in
    let releases = lead.releases in
    let gives = gives_same c.args.held.parcels.items m (omega (arith, c.args.held.all.0, c.args.held.main.numbers.some_made)) c.requires.whole in
    subst (λ (g : ℕ). IsLead plan c.args.input.now.capture.now g (m.stamp + 1) c.args.self.now) (sym gives.generation)
    (leads_on plan c.args.input.now.capture.now m.released m.stamp m.released c.args.self.now c.args.self.now lead refl c.requires.going (omega (arith, releases))
    (stands_at_no plan m.released m.stamp c.args.self.now.told c.args.self.now.processes c.args.self.now.master c.requires.going lead.stands))

pub overflow_add-next : goal.overflow_add-next
overflow_add-next c =
    let m = main_view c.args.held.main.seat in
    let some_of : 0 < length c.args.held.parcels.items = omega (arith, c.args.held.all.0, c.args.held.main.numbers.some_made) in
    let within = released_within c.args.held.parcels.items m some_of c.requires.whole in
    let same = first_is c.args.held.parcels.items m c.parcel.result.now c.parcel.ensures some_of c.requires.whole in
    let book = book_length c.args.input.now.plan.now c.args.input.now.capture.now m.book c.requires.book in
    let generations = c.generations-generations.ensures.graphs in
    let generation = c.generation-next.ensures in
    search rules

pub returns-then-next-generations-clause-parcels : goal.returns-then-next-generations-clause-parcels
returns-then-next-generations-clause-parcels c =
    let m = main_view c.args.held.main.seat in
    let some_of : 0 < length c.args.held.parcels.items = omega (arith, c.args.held.all.0, c.args.held.main.numbers.some_made) in
    let same = first_is c.args.held.parcels.items m c.parcel.result.now c.parcel.ensures some_of c.requires.whole in
    let book = book_length c.args.input.now.plan.now c.args.input.now.capture.now m.book c.requires.book in
    let generations = c.generations-generations.ensures.graphs in
    let generation = c.generation-next.ensures in
    let end = c.if-next-generations.true in
    let drawn : All (λ (p : WorkerParcel). p.limit ≤ p.next) c.args.held.parcels.items = c.all_drawn.ensures (search rules) in
    rw c.tell_all.ensures.parcels ((gives_ended c.args.held.parcels.items m some_of c.requires.whole (omega (arith, same, book, generations, generation, end)) drawn).may)

pub returns-then-next-generations-clause-lead : goal.returns-then-next-generations-clause-lead
returns-then-next-generations-clause-lead c =
    let m = main_view c.args.held.main.seat in
    let some_of : 0 < length c.args.held.parcels.items = omega (arith, c.args.held.all.0, c.args.held.main.numbers.some_made) in
    let same = first_is c.args.held.parcels.items m c.parcel.result.now c.parcel.ensures some_of c.requires.whole in
    let book = book_length c.args.input.now.plan.now c.args.input.now.capture.now m.book c.requires.book in
    let generations = c.generations-generations.ensures.graphs in
    let generation = c.generation-next.ensures in
    let end = c.if-next-generations.true in
    let drawn : All (λ (p : WorkerParcel). p.limit ≤ p.next) c.args.held.parcels.items = c.all_drawn.ensures (search rules) in
    let gives = gives_ended c.args.held.parcels.items m some_of c.requires.whole (omega (arith, same, book, generations, generation, end)) drawn in
    rw c.tell_all.ensures.parcels
    (rw gives.generation
    (leads_to_end c.args.input.now.plan.now c.args.input.now.capture.now m.released m.stamp c.args.self.now _ c.requires.lead c.requires.going (omega (arith, same, generations, generation, end)) refl))

pub next_forks-requires-clause-within : goal.next_forks-requires-clause-within
next_forks-requires-clause-within c =
    let m = main_view c.args.held.main.seat in
    let some_of : 0 < length c.args.held.parcels.items = omega (arith, c.args.held.all.0, c.args.held.main.numbers.some_made) in
    let within = released_within c.args.held.parcels.items m some_of c.requires.whole in
    let same = first_is c.args.held.parcels.items m c.parcel.result.now c.parcel.ensures some_of c.requires.whole in
    let book = book_length c.args.input.now.plan.now c.args.input.now.capture.now m.book c.requires.book in
    let generations = c.generations-generations.ensures.graphs in
    let generation = c.generation-next.ensures in
    let end = c.if-next-generations.false in
    grind (arith, within, same, book, generations, generation, end)

pub next_forks-requires-clause-at : goal.next_forks-requires-clause-at
next_forks-requires-clause-at c past before =
    let m = main_view c.args.held.main.seat in
    let plan = c.args.input.now.plan.now in
    let some_of : 0 < length c.args.held.parcels.items = omega (arith, c.args.held.all.0, c.args.held.main.numbers.some_made) in
    let same = first_is c.args.held.parcels.items m c.parcel.result.now c.parcel.ensures some_of c.requires.whole in
    let generation = c.generation-next.ensures in
    let is : m.released ≡ past = omega (arith, same, generation, before) in
    subst (λ (n : ℕ). IsAt plan n c.args.self.now.processes c.args.self.now.master) is
    (stands_at_no plan m.released m.stamp c.args.self.now.told c.args.self.now.processes c.args.self.now.master c.requires.going c.requires.lead.stands)

pub limit-requires : goal.limit-requires
limit-requires c =
    let m = main_view c.args.held.main.seat in
    let some_of : 0 < length c.args.held.parcels.items = omega (arith, c.args.held.all.0, c.args.held.main.numbers.some_made) in
    let within = released_within c.args.held.parcels.items m some_of c.requires.whole in
    let same = first_is c.args.held.parcels.items m c.parcel.result.now c.parcel.ensures some_of c.requires.whole in
    let shared = book_length c.args.input.now.plan.now c.args.input.now.capture.now m.book c.requires.book in
    let book = book_length c.args.input.now.plan.now c.args.input.now.capture.now c.next_forks.new.self.book (c.next_forks.ensures.book ∙ c.requires.lead.book) in
    let generations = c.generations-generations.ensures.graphs in
    let generation = c.generation-next.ensures in
    let end = c.if-next-generations.false in
    grind (arith, within, same, shared, book, generations, generation, end)

pub returns-in-Ok-clause-parcels : goal.returns-in-Ok-clause-parcels
returns-in-Ok-clause-parcels c =
    let m = main_view c.args.held.main.seat in
    let plan = c.args.input.now.plan.now in
    let capture = c.args.input.now.capture.now in
    let some_of : 0 < length c.args.held.parcels.items = omega (arith, c.args.held.all.0, c.args.held.main.numbers.some_made) in
    let same = first_is c.args.held.parcels.items m c.parcel.result.now c.parcel.ensures some_of c.requires.whole in
    let generation = c.generation-next.ensures in
    let drawn : All (λ (p : WorkerParcel). p.limit ≤ p.next) c.args.held.parcels.items = c.all_drawn.ensures (search rules) in
    let book = c.next_forks.ensures.book ∙ c.requires.lead.book in
    let window = window_is plan capture c.next_forks.new.self.book (c.generation-next.result + 1) c.limit.result c.next_forks.new.self.master book c.in-Ok.ensures.at.graph c.limit.ensures in
    let shared = ap (λ b. slice_get b (c.generation-next.result + 1)) (c.requires.book ∙ sym book) ∙ window in
    rw (c.renew_all.ensures.parcels _ c.in-Ok.ensures.forks)
    ((gives_renewed c.args.held.parcels.items m (c.generation-next.result + 1) c.limit.result c.next_forks.new.self.master some_of c.requires.whole (omega (arith, same, generation)) shared drawn).may)

pub returns-in-Ok-clause-lead : goal.returns-in-Ok-clause-lead
returns-in-Ok-clause-lead c =
    let m = main_view c.args.held.main.seat in
    let plan = c.args.input.now.plan.now in
    let capture = c.args.input.now.capture.now in
    let some_of : 0 < length c.args.held.parcels.items = omega (arith, c.args.held.all.0, c.args.held.main.numbers.some_made) in
    let same = first_is c.args.held.parcels.items m c.parcel.result.now c.parcel.ensures some_of c.requires.whole in
    let generation = c.generation-next.ensures in
    let drawn : All (λ (p : WorkerParcel). p.limit ≤ p.next) c.args.held.parcels.items = c.all_drawn.ensures (search rules) in
    let book = c.next_forks.ensures.book ∙ c.requires.lead.book in
    let window = window_is plan capture c.next_forks.new.self.book (c.generation-next.result + 1) c.limit.result c.next_forks.new.self.master book c.in-Ok.ensures.at.graph c.limit.ensures in
    let shared = ap (λ b. slice_get b (c.generation-next.result + 1)) (c.requires.book ∙ sym book) ∙ window in
    let gives =
    gives_renewed c.args.held.parcels.items m (c.generation-next.result + 1) c.limit.result c.next_forks.new.self.master some_of c.requires.whole (omega (arith, same, generation)) shared drawn in
    let releases = c.requires.lead.releases in
    rw (c.renew_all.ensures.parcels _ c.in-Ok.ensures.forks)
    (rw gives.generation
    (leads_on plan capture m.released m.stamp (c.generation-next.result + 1) c.args.self.now _ c.requires.lead c.next_forks.ensures.book (c.next_forks.ensures.told ∙ c.requires.going)
    (omega (arith, same, generation, releases)) c.in-Ok.ensures.at))

pub returns-in-Err-clause-parcels : goal.returns-in-Err-clause-parcels
returns-in-Err-clause-parcels c =
    rw c.tell_all-in-Err.ensures.parcels
    ((gives_lacking c.args.held.parcels.items (main_view c.args.held.main.seat) (omega (arith, c.args.held.all.0, c.args.held.main.numbers.some_made)) c.requires.whole).may)

pub returns-in-Err-clause-lead : goal.returns-in-Err-clause-lead
returns-in-Err-clause-lead c =
    let m = main_view c.args.held.main.seat in
    let gives = gives_lacking c.args.held.parcels.items m (omega (arith, c.args.held.all.0, c.args.held.main.numbers.some_made)) c.requires.whole in
    rw c.tell_all-in-Err.ensures.parcels
    (rw gives.generation (leads_no_more c.args.input.now.plan.now c.args.input.now.capture.now m.released m.stamp c.args.self.now _ c.requires.lead c.next_forks.ensures.book refl))
