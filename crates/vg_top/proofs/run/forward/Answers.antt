use Rattle.std.proofs.Common.{◌≡◌, ℕ, ◌<◌, ◌≤◌, ◌^◌, List, ap, subst, sym, ◌∙◌, length}
use Rattle.std.specs.Prelude.{All}
use Rattle.std.proofs.lemmas.List.{length-map}
use Rattle.std.specs.List.{AllByRecursion}
use Rattle.vg_files.specs.Kinds.{vgd_visit}
use Rattle.vg_capture.specs.Savefile.{savefile}
use Rattle.vg_model.specs.Journey.{longest_extent}
use Rattle.vg_plan.specs.Plan.{first_generation}
use Rattle.vg_engine.specs.Outcomes.{IsOutcome}
use Rattle.vg_check.specs.Output.{frames_of}
use Rattle.vg_top.specs.Reported.{reported}
use Rattle.vg_top.proofs.SentLemmas.{are_within, fates_end}
use Rattle.vg_top.proofs.OutputLemmas.{own, one_line_each, results_are, made_lawful, traced_within}
use Rattle.vg_top.proofs.run.forward.Goals as goal

pub write_output-requires-clause-sent : goal.write_output-requires-clause-sent
write_output-requires-clause-sent g c =
    let plan = c.args.input.now.plan in
    let capture = c.args.input.now.capture in
    let outcome = c.in_ok-outcome.outcome in
    let options = c.args.options.now in
    let is : IsOutcome vgd_visit c.args.hold plan.graphs (first_generation plan.script capture) capture options outcome = c.in_ok-outcome.ensures in
    let within =
    are_within options.workers (length (frames_of capture)) outcome.sent is.js is.are_sent
    (own plan options capture outcome c.args.hold is c.requires.options c.generations-generations.ensures.plan).0
    (subst (AllByRecursion (λ (p : ℕ × List ℕ). length p.1 ≤ longest_extent)) is.are_sent is.short) in
    subst (λ sent. All (λ (p : ℕ × List ℕ). (p.0 < length capture.packets) × (length p.1 < 2 ^ 32)) sent) (sym c.replace-sent.ensures.value)
    (subst (λ n. All (λ (p : ℕ × List ℕ). (p.0 < n) × (length p.1 < 2 ^ 32)) outcome.sent) (length-map capture.packets (λ p. p.bytes)) within)

pub report-requires-clause-ends : goal.report-requires-clause-ends
report-requires-clause-ends g c =
    let plan = c.args.input.now.plan in
    let capture = c.args.input.now.capture in
    let outcome = c.in_ok-outcome.outcome in
    let is : IsOutcome vgd_visit c.args.hold plan.graphs (first_generation plan.script capture) capture c.args.options.now outcome = c.in_ok-outcome.ensures in
    fates_end outcome.last is.last is.js outcome.fates is.last_is is.are_fates is.ends

pub report-requires-clause-traces : goal.report-requires-clause-traces
report-requires-clause-traces g c = traced_within c.args.input.now.plan c.args.options.now c.args.input.now.capture c.in_ok-outcome.outcome c.args.hold c.in_ok-outcome.ensures

pub write_output-requires-clause-report : goal.write_output-requires-clause-report
write_output-requires-clause-report g c =
    let plan = c.args.input.now.plan in
    let capture = c.args.input.now.capture in
    let options = c.args.options.now in
    let outcome = c.in_ok-outcome.outcome in
    let is : IsOutcome vgd_visit c.args.hold plan.graphs (first_generation plan.script capture) capture options outcome = c.in_ok-outcome.ensures in
    let made : c.in-Ok.report ≡ reported options (length plan.graphs) outcome =
    c.in-Ok.ensures.report ∙ ap (λ n. reported options n outcome) c.generations-generations.ensures.graphs in
    made_lawful plan options capture outcome c.args.hold is c.in-Ok.report c.requires.options c.generations-generations.ensures.plan
    (sym c.generations-generations.ensures.graphs ∙ c.generations-generations.ensures.events) c.know_few.ensures made
    c.in-Ok.ensures.interfaces c.in-Ok.ensures.nodes

pub write_output-requires-clause-packets : goal.write_output-requires-clause-packets
write_output-requires-clause-packets g c =
    let plan = c.args.input.now.plan in
    let outcome = c.in_ok-outcome.outcome in
    let made : c.in-Ok.report ≡ reported c.args.options.now (length plan.graphs) outcome =
    c.in-Ok.ensures.report ∙ ap (λ n. reported c.args.options.now n outcome) c.generations-generations.ensures.graphs in
    one_line_each plan c.args.options.now c.args.input.now.capture outcome c.args.hold c.in_ok-outcome.ensures c.in-Ok.report c.requires.options
    c.generations-generations.ensures.plan made

pub returns : goal.returns
returns g c =
    let plan = c.args.input.now.plan in
    let capture = c.args.input.now.capture in
    let options = c.args.options.now in
    let outcome = c.in_ok-outcome.outcome in
    let planned = c.generations-generations.ensures.plan in
    let made : c.in-Ok.report ≡ reported options (length plan.graphs) outcome =
    c.in-Ok.ensures.report ∙ ap (λ n. reported options n outcome) c.generations-generations.ensures.graphs in
    let lawful =
    made_lawful plan options capture outcome c.args.hold c.in_ok-outcome.ensures c.in-Ok.report c.requires.options planned
    (sym c.generations-generations.ensures.graphs ∙ c.generations-generations.ensures.events) c.know_few.ensures made
    c.in-Ok.ensures.interfaces c.in-Ok.ensures.nodes in
    results_are plan options capture outcome c.args.hold c.in_ok-outcome.ensures c.in-Ok.report _ planned (record {
      made = made;
      lawful = lawful;
      is_text = c.in_ok-tx.ensures.text;
      saved = c.in_ok-tx.ensures.tx ∙ ap (savefile capture) c.replace-sent.ensures.value;
      rests = c.in-Ok.ensures.rests;
      seat = c.in-Ok.ensures.seat;
      settled = c.in-Ok.ensures.settled;
      remarks = c.in_ok-tx.ensures.remarks;
    })
