use Rattle.std.proofs.Common.{List, ℕ, map, take, length, refl, arith}
use Rattle.std.proofs.lemmas.Bool.{false≢true, iff_false}
use Rattle.std.proofs.lemmas.List.{length-map, length-take}
use Rattle.vg_model.specs.Journey.{Course}
use Rattle.vg_check.specs.Output.{node_name}
use Rattle.vg_check.specs.Reports.{trace_of}
use Rattle.vg_check.proofs.AgreementLemmas.{read_at, same_next, differ_at, same_all, mapped_at, taken_at}
use Rattle.vg_check.proofs.agreement.are_traces.Goals as goal

pub loop-k-preserved : goal.loop-k-preserved
loop-k-preserved c =
    let f : Course → List (List ℕ) = λ t. map (node_name c.args.graph.now) (trace_of t) in
    let n = length c.args.traces.now in
    same_next c.args.traces.now (map f (take n c.args.trips.now)) c.loop-k.k c.index-traces-k.result (f c.get-trip.result)
    (read_at c.args.traces.now c.loop-k.k c.index-traces-k.result c.loop-k-test.true c.index-traces-k.is)
    (mapped_at f (take n c.args.trips.now) c.loop-k.k c.get-trip.result
    (taken_at n c.args.trips.now c.loop-k.k c.get-trip.result c.loop-k-test.true c.get-trip.ensures))
    (c.in_ok-same.ensures.0 c.if-not-same.false) c.loop-k.invariant

pub returns-then-not-same : goal.returns-then-not-same
returns-then-not-same c =
    let f : Course → List (List ℕ) = λ t. map (node_name c.args.graph.now) (trace_of t) in
    let n = length c.args.traces.now in (
      (λ h. absurd (false≢true h)),
      (λ e. absurd (differ_at c.args.traces.now (map f (take n c.args.trips.now)) c.loop-k.k c.index-traces-k.result (f c.get-trip.result)
          (read_at c.args.traces.now c.loop-k.k c.index-traces-k.result c.loop-k-test.true c.index-traces-k.is)
          (mapped_at f (take n c.args.trips.now) c.loop-k.k c.get-trip.result
          (taken_at n c.args.trips.now c.loop-k.k c.get-trip.result c.loop-k-test.true c.get-trip.ensures))
          (iff_false c.in_ok-same.ensures c.if-not-same.true) e)),
    )

pub returns : goal.returns
returns c =
    let f : Course → List (List ℕ) = λ t. map (node_name c.args.graph.now) (trace_of t) in
    let n = length c.args.traces.now in
    let long = length-map (take n c.args.trips.now) f in
    let taken = length-take n c.args.trips.now in
    ((λ h. same_all c.args.traces.now (map f (take n c.args.trips.now)) c.loop-k.k (omega arith) (omega (arith, long, taken)) c.loop-k.invariant), (λ e. refl))
