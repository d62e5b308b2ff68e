-- For the clause `stop` of `load_named`: the savefile that is named isn't read.
use Rattle.std.proofs.Common.{ap}
use Rattle.std.specs.Prelude.{option_map}
use Rattle.vg_diff.specs.Stops.{faults_of, capture_causes, named_causes}
use Rattle.vg_diff.proofs.StopLemmas.{weaker_stop, named_capture}
use Rattle.vg_diff.proofs.input.load_named.Goals as goal

pub returns-in-Err-clause-stop : goal.returns-in-Err-clause-stop
returns-in-Err-clause-stop g c =
    let files = g.F.Folder.contents c.args.folder.now in
    let faults = faults_of (g.F.Folder.faults c.args.folder.now) (g.F.Folder.faults c.load_capture.new.folder) in
    let named = option_map (λ name. name.now) c.args.name in
    weaker_stop (capture_causes files faults c.in-Some.name.now) (named_causes files faults named)
    (named_capture files faults c.in-Some.name.now named (ap (option_map (λ name. name.now)) c.in-Some.is)) c.in-Err.stop c.in-Err.ensures.stop
