-- For the clause `stop` of `load_capture`: the load failed, or the savefile is refused.
use Rattle.std.proofs.Common.{subst, sym}
use Rattle.vg_diff.specs.Stops.{OnRefusal, IsCause, faults_of, load_causes, capture_causes}
use Rattle.vg_diff.proofs.StopLemmas.{weaker_stop, load_of_capture, capture_stops}
use Rattle.vg_diff.proofs.input.load_capture.Goals as goal

pub returns-in-Err-clause-stop : goal.returns-in-Err-clause-stop
returns-in-Err-clause-stop g c =
    let files = g.F.Folder.contents c.args.folder.now in
    let faults = faults_of (g.F.Folder.faults c.args.folder.now) (g.F.Folder.faults c.load_file.new.folder) in
    weaker_stop (load_causes files faults c.args.name.now) (capture_causes files faults c.args.name.now) (load_of_capture files faults c.args.name.now) c.in-Err.stop c.in-Err.ensures.stop

pub returns-in-Err-read_capture-clause-stop : goal.returns-in-Err-read_capture-clause-stop
returns-in-Err-read_capture-clause-stop g c =
    let files = g.F.Folder.contents c.args.folder.now in
    let faults = faults_of (g.F.Folder.faults c.args.folder.now) (g.F.Folder.faults c.load_file.new.folder) in
    subst (OnRefusal (IsCause (capture_causes files faults c.args.name.now))) (sym c.capture_stop.ensures)
    (capture_stops files faults c.args.name.now c.in-Ok.bytes c.in-Err-read_capture.fault c.in-Ok.ensures.bytes c.in-Err-read_capture.ensures)
