-- For the clauses of `load_all`: one savefile more, or one that isn't read.
use Rattle.std.proofs.Common.{◌∙◌, ℕ, List, [], get_or, subst, arith, Bor}
use Rattle.vg_diff.specs.Asked.{Text, texts}
use Rattle.vg_diff.specs.Stops.{OnRefusal, IsCause, faults_of, capture_causes, others_causes}
use Rattle.vg_diff.proofs.InputLemmas.{captures_more}
use Rattle.vg_diff.proofs.StopLemmas.{weaker_stop, other_capture, next_other}
use Rattle.vg_diff.proofs.input.load_all.Goals as goal

pub loop-name-preserved : goal.loop-name-preserved
loop-name-preserved g c = (
  c.load_capture.ensures.same ∙ c.loop-name.invariant.0,
  captures_more (g.F.Folder.contents c.args.folder.now) (g.F.Folder.contents c.loop-name.folder) c.args.names.now c.loop-name.name-index _ c.loop-name.captures.items _ c.in-Ok.capture
      c.loop-name.invariant.0 c.loop-name-test.true c.loop-name.invariant.1 c.in-Ok.ensures.capture c.in-Ok-add.ensures,
  λ other. let first = c.loop-name.invariant.2 other in let then = c.load_capture.ensures.later other in omega (arith, first, then),
)

pub returns-in-Err-clause-stop : goal.returns-in-Err-clause-stop
returns-in-Err-clause-stop g c =
    let files = g.F.Folder.contents c.args.folder.now in
    let first = g.F.Folder.faults c.args.folder.now in
    let faults = faults_of (g.F.Folder.faults c.loop-name.folder) (g.F.Folder.faults c.load_capture.new.folder) in
    let names = texts c.args.names.now in
    let none : Bor (List ℕ) = record { ref_ptr = (0, 0); now = [] } in
    let name : Text = (get_or c.args.names.now c.loop-name.name-index none).now in
    let next = next_other files c.args.names.now c.loop-name.name-index none c.loop-name.captures.items c.loop-name-test.true c.loop-name.invariant.1 in
    weaker_stop (capture_causes files faults name) (others_causes files (faults_of first faults.after) names)
    (other_capture files first faults c.loop-name.invariant.2 names name next) c.in-Err.stop
    (subst (λ fs. OnRefusal (IsCause (capture_causes fs faults name)) c.in-Err.stop) c.loop-name.invariant.0 c.in-Err.ensures.stop)
