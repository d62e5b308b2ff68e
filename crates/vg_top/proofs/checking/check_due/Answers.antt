use Rattle.vg_outside.specs.Files.{FailedLoad}
use Rattle.vg_words.specs.Shown.{check_shown}
use Rattle.std.proofs.Common.{inr}
use Rattle.vg_files.specs.Checks.{IsCheckedNext, bytes_checked, inputs_in}
use Rattle.vg_top.specs.Run.{Call}
use Rattle.vg_files.specs.Stops.{IsLoadOf, IsRefusedFor}
use Rattle.vg_top.proofs.CheckLemmas.{refused_load, refused_read, judged_due, judged_found}
use Rattle.vg_top.proofs.RunLemmas.{stopped_due, stopped_found}
use Rattle.vg_top.proofs.checking.check_due.Goals as goal

pub returns-in-Err-clause-due : goal.returns-in-Err-clause-due
returns-in-Err-clause-due g c = λ words is.
    let check = check_shown c.args.check.now in
    let call : Call = record {
      words = words;
      files = g.F.Folder.contents c.args.folder.now;
      files_after = g.F.Folder.contents c.load_checked.new.folder;
      faults = g.F.Folder.faults c.args.folder.now;
      faults_after = g.F.Folder.faults c.load_checked.new.folder;
    } in
    stopped_due call c.in-Err.stop
    (IsLoadOf (λ failed. IsCheckedNext call.files check failed × FailedLoad call.files failed (call.faults failed) (call.faults_after failed)))
    c.stopped.result c.stopped.ensures c.in-Err.ensures.stop (λ refusal h. inr (refused_load call check refusal is h c.load_checked.ensures.same))

pub returns-in-Err-judge-clause-due : goal.returns-in-Err-judge-clause-due
returns-in-Err-judge-clause-due g c = λ words is.
    let check = check_shown c.args.check.now in
    let call : Call = record {
      words = words;
      files = g.F.Folder.contents c.args.folder.now;
      files_after = g.F.Folder.contents c.load_checked.new.folder;
      faults = g.F.Folder.faults c.args.folder.now;
      faults_after = g.F.Folder.faults c.load_checked.new.folder;
    } in
    let bytes = bytes_checked c.in-Ok.files in
    stopped_due call c.in-Err-judge.stop (IsRefusedFor 1 (inputs_in bytes)) c.stopped-in-Err-judge.result c.stopped-in-Err-judge.ensures c.in-Err-judge.ensures.stop
    (λ refusal h. inr (refused_read call check bytes refusal is c.in-Ok.ensures.files h c.load_checked.ensures.same))

pub returns-clause-due : goal.returns-clause-due
returns-clause-due g c = λ words is.
    let check = check_shown c.args.check.now in
    let call : Call = record {
      words = words;
      files = g.F.Folder.contents c.args.folder.now;
      files_after = g.F.Folder.contents c.load_checked.new.folder;
      faults = g.F.Folder.faults c.args.folder.now;
      faults_after = g.F.Folder.faults c.load_checked.new.folder;
    } in
    judged_due call check (bytes_checked c.in-Ok.files) is c.in-Ok.ensures.files c.load_checked.ensures.same c.in-Ok-judge.judged.verdict c.due_by.result
    c.in-Ok-judge.ensures.verdict c.due_by.ensures.yes c.due_by.ensures.no

pub returns-in-Err-clause-found : goal.returns-in-Err-clause-found
returns-in-Err-clause-found g c = λ words is. stopped_found _ c.in-Err.stop c.stopped.result c.stopped.ensures

pub returns-in-Err-judge-clause-found : goal.returns-in-Err-judge-clause-found
returns-in-Err-judge-clause-found g c = λ words is. stopped_found _ c.in-Err-judge.stop c.stopped-in-Err-judge.result c.stopped-in-Err-judge.ensures

pub returns-clause-found : goal.returns-clause-found
returns-clause-found g c = λ words is.
    let check = check_shown c.args.check.now in
    let call : Call = record {
      words = words;
      files = g.F.Folder.contents c.args.folder.now;
      files_after = g.F.Folder.contents c.load_checked.new.folder;
      faults = g.F.Folder.faults c.args.folder.now;
      faults_after = g.F.Folder.faults c.load_checked.new.folder;
    } in
    judged_found call check (bytes_checked c.in-Ok.files) is c.in-Ok.ensures.files c.load_checked.ensures.same c.in-Ok-judge.judged c.due_by.result c.in-Ok-judge.ensures.found
    c.due_by.ensures.found
