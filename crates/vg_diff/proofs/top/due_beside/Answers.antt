-- For the clause of `due_beside`: what both threads found, and the packets of the frames are those of the files.
use Rattle.std.proofs.Common.{[], IfOk, subst, sym}
use Rattle.std.specs.Prelude.{MatchResult}
use Rattle.vg_diff.specs.Accounts.{IsAccount}
use Rattle.vg_diff.specs.Asked.{ask_shown}
use Rattle.vg_diff.specs.Matches.{AreMatches}
use Rattle.vg_diff.specs.Run.{terms_of, compared_with, IsAnswer}
use Rattle.vg_diff.specs.Stops.{OnRefusal, IsCause, account_causes}
use Rattle.vg_diff.proofs.AnswerLemmas.{frames_are, answers_at, fits_by}
use Rattle.vg_diff.proofs.top.due_beside.Goals as goal

pub due_of-requires-clause-matches : goal.due_of-requires-clause-matches
due_of-requires-clause-matches g c =
    let wanted = c.args.frames.now.wanted.now in
    let got = c.args.frames.now.got.now in
    let starts = c.args.frames.now.starts.now in
    let matches = c.in-Ok-matches.matches in
    let found : AreMatches c.as_slice-ignored.result.now c.as_slice-only.result.now wanted got starts [] matches
    = subst (λ r. IfOk r (AreMatches c.as_slice-ignored.result.now c.as_slice-only.result.now wanted got starts [])) c.in-Ok-matches.is c.join-matches.ensures.first in
    subst (λ ignored. AreMatches ignored c.args.ask.now.only.items wanted got starts [] matches) c.as_slice-ignored.ensures.value
    (subst (λ only. AreMatches c.as_slice-ignored.result.now only wanted got starts [] matches) c.as_slice-only.ensures.value found)

pub due_of-requires-clause-sent : goal.due_of-requires-clause-sent
due_of-requires-clause-sent g c =
    let account : IsAccount c.args.input.now c.in-Ok.account = subst (λ r. MatchResult r (IsAccount c.args.input.now) (OnRefusal (IsCause (account_causes c.args.input.now)))) c.in-Ok.is c.join-matches.ensures.second in account.sent_are

pub returns-in-Ok-due_of-clause-answers : goal.returns-in-Ok-due_of-clause-answers
returns-in-Ok-due_of-clause-answers g c =
    let account : IsAccount c.args.input.now c.in-Ok.account = subst (λ r. MatchResult r (IsAccount c.args.input.now) (OnRefusal (IsCause (account_causes c.args.input.now)))) c.in-Ok.is c.join-matches.ensures.second in
    let due = c.in-Ok-due_of.due in
    let input = c.args.input.now in
    let report = c.in-Ok.account.report in
    record {
      report = report;
      is_report = account.is_report;
      fits = fits_by input c.in-Ok.account account;
      is_answer = subst (λ capture. IsAnswer (terms_of (ask_shown c.args.ask.now)) (compared_with capture input report) due.status due.text.items) (sym c.requires.capture)
          (answers_at (terms_of (ask_shown c.args.ask.now)) due.status due.text.items (frames_are _ _ _ _ c.requires.wanted c.requires.got c.requires.starts) c.in-Ok-due_of.ensures);
    }

pub returns-in-Err-clause-stop : goal.returns-in-Err-clause-stop
returns-in-Err-clause-stop g c =
    subst (λ r. MatchResult r (IsAccount c.args.input.now) (OnRefusal (IsCause (account_causes c.args.input.now)))) c.in-Err.is c.join-matches.ensures.second
