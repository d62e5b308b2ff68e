-- For the clause of `due_behind`: the packets of the frames are those of the files.
use Rattle.std.proofs.Common.{subst, sym}
use Rattle.vg_diff.specs.Asked.{ask_shown}
use Rattle.vg_diff.specs.Run.{terms_of, compared_with, IsAnswer}
use Rattle.vg_diff.proofs.AnswerLemmas.{frames_are, answers_at, fits_by}
use Rattle.vg_diff.proofs.top.due_behind.Goals as goal

pub returns-in-Ok-due_with-clause-answers : goal.returns-in-Ok-due_with-clause-answers
returns-in-Ok-due_with-clause-answers g c =
    let due = c.in-Ok-due_with.due in
    let input = c.args.input.now in
    let report = c.in-Ok.account.report in
    record {
      report = report;
      is_report = c.in-Ok.ensures.is_report;
      fits = fits_by input c.in-Ok.account c.in-Ok.ensures;
      is_answer = subst (λ capture. IsAnswer (terms_of (ask_shown c.args.ask.now)) (compared_with capture input report) due.status due.text.items) (sym c.requires.capture)
          (answers_at (terms_of (ask_shown c.args.ask.now)) due.status due.text.items (frames_are _ _ _ _ c.requires.wanted c.requires.got c.requires.starts) c.in-Ok-due_with.ensures);
    }
