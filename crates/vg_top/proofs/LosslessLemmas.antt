-- For `lossless_links` and `forward`: runs whose queues refuse no frame.
use Rattle.std.proofs.Common.{◌≡◌, ℕ, List, [], ◌∷◌, length, map, refl, sym, ap, subst, ◌∙◌, arith, append-nil}
use Rattle.std.specs.Prelude.{None}
use Rattle.std.specs.List.{AllByRecursion}
use Rattle.vg_model.specs.declared.kinds.DropError.TheVariants.{HandoffLimit}
use Rattle.vg_model.specs.declared.fates.Fate.{Fate}
use Rattle.vg_model.specs.Graph.{Graph}
use Rattle.vg_files.specs.Kinds.{vgd_visit}
use Rattle.vg_steps.specs.Seated.{TableId}
use Rattle.vg_ring.specs.declared.ends.RingTx.{RingTx}
use Rattle.vg_ring.specs.Ends.{put, taken, tx_ring, tx_slots, rx_ring}
use Rattle.vg_capture.specs.declared.captures.Capture.{Capture}
use Rattle.vg_report.specs.declared.reports.Report.{Report}
use Rattle.vg_report.specs.declared.reports.PacketLine.{PacketLine}
use Rattle.vg_plan.specs.Plan.{IsGeneration}
use Rattle.vg_journeys.specs.Accounts.{HandoffFrame}
use Rattle.vg_backlog.specs.Books.{BacklogBook, empty_behind, accepted_by}
use Rattle.vg_dispatch.specs.declared.links.WorkerLinks.{WorkerLinks}
use Rattle.vg_dispatch.specs.declared.options.Options.{Options}
use Rattle.vg_dispatch.specs.Standing.{NoneCongested}
use Rattle.vg_engine.specs.Linked.{IsLinked}
use Rattle.vg_check.specs.Output.{Setting, IsOutput}
use Rattle.vg_check.specs.OneWorker.{alone}
use Rattle.vg_check.specs.Congestion.{NamesNoRefusal, NamesNoDropBy}
use Rattle.vg_check.proofs.CongestionLemmas.{none_congested, lossless_alike}
use Rattle.vg_top.proofs.KindLemmas.{own_visits}
use Rattle.vg_top.specs.Lossless.{ring_of, slots_of, room_for, HoldsBack, IsLossless}
use Rattle.vg_reporting.specs.Reports.{line_of_fate}

-- backlogs stand behind the rings, on which nothing was put
same_rings : (slots room : ℕ) (txs : List (RingTx HandoffFrame)) → map ring_of (map (empty_behind slots room) txs) ≡ map tx_ring txs
same_rings slots room [] = refl
same_rings slots room (tx ∷ txs) = ap (λ rings. tx_ring tx ∷ rings) (same_rings slots room txs)

all_fresh : (count slots room : ℕ) (txs : List (RingTx HandoffFrame)) → AllByRecursion (λ (tx : RingTx HandoffFrame). (put tx ≡ []) × (tx_slots tx ≡ count)) txs
    → AllByRecursion (λ b. (accepted_by b ≡ []) × (slots_of b ≡ count)) (map (empty_behind slots room) txs)
all_fresh count slots room [] fresh = tt
all_fresh count slots room (tx ∷ txs) fresh = ((append-nil (put tx) ∙ fresh.0.0, fresh.0.1), all_fresh count slots room txs fresh.1)

pub linked_behind : (count slots room : ℕ) (ring : ℕ → ℕ → TableId) (own inputs outputs : ℕ) (links : WorkerLinks (RingTx HandoffFrame)) (held : WorkerLinks BacklogBook)
    → held.inputs ≡ links.inputs → held.outputs.items ≡ map (empty_behind slots room) links.outputs.items
    → IsLinked put tx_ring tx_slots count ring own inputs outputs links → IsLinked accepted_by ring_of slots_of count ring own inputs outputs held
linked_behind count slots room ring own inputs outputs links held same behind is = record {
  inputs_are = ap (λ rxs. map rx_ring rxs.items) same ∙ is.inputs_are;
  outputs_are = ap (map ring_of) behind ∙ same_rings slots room links.outputs.items ∙ is.outputs_are;
  untaken = subst (λ rxs. AllByRecursion (λ rx. taken rx ≡ []) rxs.items) (sym same) is.untaken;
  fresh = subst (AllByRecursion (λ b. (accepted_by b ≡ []) × (slots_of b ≡ count))) (sym behind) (all_fresh count slots room links.outputs.items is.fresh);
}

all_hold : (slots room : ℕ) (txs : List (RingTx HandoffFrame))
    → AllByRecursion (λ (b : BacklogBook). (b.slots ≡ slots) × (b.room ≡ room)) (map (empty_behind slots room) txs)
all_hold slots room [] = tt
all_hold slots room (tx ∷ txs) = ((refl, refl), all_hold slots room txs)

pub holds_back : (options : Options) (room : ℕ) (txs : List (RingTx HandoffFrame)) (held : WorkerLinks BacklogBook) → room ≡ room_for options
    → held.outputs.items ≡ map (empty_behind options.queue room) txs → HoldsBack options held
holds_back options room txs held is behind =
    subst (AllByRecursion (λ (b : BacklogBook). (b.slots ≡ options.queue) × (b.room ≡ room_for options))) (sym behind)
    (subst (λ n. AllByRecursion (λ (b : BacklogBook). (b.slots ≡ options.queue) × (b.room ≡ n)) (map (empty_behind options.queue room) txs)) is
    (all_hold options.queue room txs))

-- no line names a count of a full queue, where no fate has one
none_refused : (g : Graph) (fates : List Fate) → NoneCongested fates → AllByRecursion (λ (line : PacketLine). line.congested ≡ None) (map (line_of_fate g) fates)
none_refused g [] none = tt
none_refused g (fate ∷ fates) none = (none.0, none_refused g fates none.1)

-- where there is one generation, one worker saves the same
alike_by : (graphs : List Graph) (first : ℕ → ℕ) (setting : Setting) (capture : Capture) (report : Report) (tx : List ℕ) → AllByRecursion IsGeneration graphs
    → IsOutput vgd_visit graphs first setting capture report tx → NamesNoRefusal report → length graphs ≡ 1 → NamesNoDropBy HandoffLimit report
    → (other : Report) × IsOutput vgd_visit graphs first (alone setting) capture other tx
alike_by [] first setting capture report tx sound output none one limit = absurd (omega (arith, one))
alike_by (g ∷ []) first setting capture report tx sound output none one limit =
    lossless_alike vgd_visit g first setting capture report tx own_visits sound.0.valid output none limit
alike_by (g ∷ h ∷ graphs) first setting capture report tx sound output none one limit = absurd (omega (arith, one))

pub lossless_by : (graphs : List Graph) (first : ℕ → ℕ) (setting : Setting) (capture : Capture) (report : Report) (tx : List ℕ) (g : Graph) (fates : List Fate) → AllByRecursion IsGeneration graphs
    → IsOutput vgd_visit graphs first setting capture report tx → report.packets ≡ map (line_of_fate g) fates → NoneCongested fates
    → IsLossless vgd_visit graphs first setting capture report tx
lossless_by graphs first setting capture report tx g fates sound output lines none =
    let no_refusal : NamesNoRefusal report = subst (AllByRecursion (λ (line : PacketLine). line.congested ≡ None)) (sym lines) (none_refused g fates none) in
    record {
      no_refusal = no_refusal;
      no_congestion = none_congested vgd_visit graphs first setting capture report tx own_visits output no_refusal;
      alike = alike_by graphs first setting capture report tx sound output no_refusal;
    }
