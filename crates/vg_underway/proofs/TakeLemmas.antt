-- For the clause `taken` of `Work::take_frame`: the packets of a frame that another worker handed over come one by one.
use Rattle.std.proofs.Common.{◌≡◌, ℕ, List, [], ◌∷◌, ◌++◌, length, map, refl, sym, ap, subst, ◌∙◌, arith, append_assoc, length-append}
use Rattle.std.proofs.lemmas.List.{map-append, length-map}
use Rattle.vg_model.specs.declared.fates.Leg.{Leg}
use Rattle.vg_model.specs.declared.kinds.Kind.TheVariants as kinds
use Rattle.vg_model.specs.Graph.{handoff_dequeue}
use Rattle.vg_model.specs.PoolBook.{CacheBook}
use Rattle.vg_pool.specs.Contents.{Contents, AreContents}
use Rattle.vg_journeys.specs.Trips.{Arrival, Taken}
use Rattle.vg_journeys.specs.Accounts.{HandoffFrame, frame_arrivals}
use Rattle.vg_hands.specs.Handed.{IsHanded}
use Rattle.vg_underway.specs.declared.underway.Work.{Work}
use Rattle.vg_underway.specs.Underway.{Setting, IsSetting, leg_here}
use Rattle.vg_underway.specs.Works.{Exchanges}
use Rattle.vg_underway.specs.Draws.{CanEnter, Enters, IsHandoff, IsUnderway, IsEntered}
use Rattle.vg_underway.proofs.KeptLemmas.{node_within, arrives_taken}
use Rattle.vg_underway.proofs.DrawLemmas.{can_enter, more_entered}

-- one more is done
pub done_more : (done rest : List Contents) (c : Contents) → done ++ c ∷ rest ≡ (done ++ c ∷ []) ++ rest
done_more done rest c = sym (append_assoc done (c ∷ []) rest)

pub can_take : (s : Setting) (worker : ℕ) (frame : HandoffFrame) (done rest : List Contents) (c : Contents) (start w : Work) (cache : CacheBook) → IsSetting s → (from : IsUnderway s (frame_arrivals worker frame) start cache)
    → frame.packets ≡ done ++ c ∷ rest → IsEntered s (from.before ++ map (Taken worker frame.node) done) from.start from.start_cache w cache → CanEnter handoff_dequeue w
can_take s worker frame done rest c start w cache ok from split entered =
    let all = length-append from.before (frame_arrivals worker frame) in
    let front = length-append from.before (map (Taken worker frame.node) done) in
    let e1 = length-map frame.packets (Taken worker frame.node) in
    let e2 = length-map done (Taken worker frame.node) in
    let e3 = ap length split in
    let e4 = length-append done (c ∷ rest) in
    can_enter s handoff_dequeue (from.before ++ frame_arrivals worker frame) (from.before ++ map (Taken worker frame.node) done) from.start w from.start_cache cache ok from.ready entered (omega (arith, all, front, e1, e2, e3, e4))
    (node_within s.graph handoff_dequeue kinds.HandoffDequeue ok.valid.dequeue)

pub taken_more : (s : Setting) (worker : ℕ) (frame : HandoffFrame) (done rest : List Contents) (c : Contents) (leg : Leg) (node : ℕ) (start w new : Work) (cache : CacheBook) → IsSetting s → (from : IsUnderway s (frame_arrivals worker frame) start cache)
    → frame.packets ≡ done ++ c ∷ rest → IsEntered s (from.before ++ map (Taken worker frame.node) done) from.start from.start_cache w cache → IsHandoff s.graph frame.node → node ≡ frame.node → leg ≡ leg_here s
    → IsHanded frame.generation c → AreContents c → Enters s.graph handoff_dequeue node (record c { legs = c.legs ++ leg ∷ [] }) w new
    → IsEntered s (from.before ++ map (Taken worker frame.node) (done ++ c ∷ [])) from.start from.start_cache new cache
taken_more s worker frame done rest c leg node start w new cache ok from split entered hands node_is leg_is handed sound enters =
    let so_far : List Arrival = from.before ++ map (Taken worker frame.node) done in
    let e : Arrival = Taken worker frame.node c in
    let with : Leg → Contents = λ l. record c { legs = c.legs ++ l ∷ [] } in
    let one : Enters s.graph handoff_dequeue frame.node (with leg) w new = subst (λ n. Enters s.graph handoff_dequeue n (with leg) w new) node_is enters in
    let there : Enters s.graph handoff_dequeue frame.node (with (leg_here s)) w new = subst (λ l. Enters s.graph handoff_dequeue frame.node (with l) w new) leg_is one in
    let can = can_take s worker frame done rest c start w cache ok from split entered in
    let exchange : Exchanges (e ∷ []) [] cache cache = record { len = refl; freed = omega arith; allocated = omega arith; taken = refl; given = refl } in
    subst (λ es. IsEntered s es from.start from.start_cache new cache)
    (append_assoc from.before (map (Taken worker frame.node) done) (e ∷ []) ∙ ap (λ es. from.before ++ es) (sym (map-append (Taken worker frame.node) done (c ∷ []))))
    (more_entered s so_far e handoff_dequeue frame.node (with (leg_here s)) from.start w new from.start_cache cache cache ok can
    (arrives_taken s worker frame.node c ok sound handed.few hands) there exchange entered)
