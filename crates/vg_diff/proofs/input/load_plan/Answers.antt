-- For the clause `stop` of `load_plan`: the load failed.
use Rattle.vg_diff.specs.Stops.{faults_of}
use Rattle.vg_diff.proofs.StopLemmas.{load_of_script}
use Rattle.vg_diff.proofs.input.load_plan.Goals as goal

pub returns-in-Err-clause-stop : goal.returns-in-Err-clause-stop
returns-in-Err-clause-stop g c =
    let files = g.F.Folder.contents c.args.folder.now in
    let faults = faults_of (g.F.Folder.faults c.args.folder.now) (g.F.Folder.faults c.load_file.new.folder) in
    load_of_script files faults c.args.name.now c.in-Err.stop c.in-Err.ensures.stop
