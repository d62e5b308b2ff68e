-- For the clause of `due_with`: what is compared is as it is asked for, and the packets that were dropped are those of the report.
use Rattle.std.proofs.Common.{◌≡◌, ap, subst, ◌∙◌}
use Rattle.std.proofs.lemmas.Result.{IfOk-weaker}
use Rattle.vg_match.specs.Sides.{seen}
use Rattle.vg_diff.specs.Asked.{ask_shown}
use Rattle.vg_diff.specs.Matches.{AreMatches}
use Rattle.vg_diff.specs.Numbers.{dropped_numbers, frames_of_numbers}
use Rattle.vg_diff.specs.Run.{packet_bytes, terms_of}
use Rattle.vg_diff.proofs.AnswerLemmas.{drops_are, answers_at}
use Rattle.vg_diff.proofs.top.due_with.Goals as goal

pub due_of-requires-clause-matches : goal.due_of-requires-clause-matches
due_of-requires-clause-matches g c =
    subst (λ ignored. AreMatches ignored c.args.ask.now.only.items c.args.frames.now.wanted.now c.args.frames.now.got.now c.args.frames.now.starts.now (seen c.as_slice-2.result.now) c.in_ok-matches.matches) c.as_slice-4.ensures.value
    (subst (λ only. AreMatches c.as_slice-4.result.now only c.args.frames.now.wanted.now c.args.frames.now.got.now c.args.frames.now.starts.now (seen c.as_slice-2.result.now) c.in_ok-matches.matches) c.as_slice-5.ensures.value c.in_ok-matches.ensures)

pub returns : goal.returns
returns g c =
    let bytes = packet_bytes c.args.capture.now.packets in
    let numbers : c.as_slice-3.result.now ≡ dropped_numbers c.args.account.now.report = c.as_slice-3.ensures.value ∙ c.in_ok-numbers.ensures in
    let frames : seen c.as_slice-2.result.now ≡ frames_of_numbers bytes (dropped_numbers c.args.account.now.report)
    = ap seen c.as_slice-2.ensures.value ∙ c.in_ok-known.ensures ∙ ap (frames_of_numbers bytes) (c.as_slice.ensures.value ∙ c.in_ok-numbers.ensures) in
    IfOk-weaker c.due_of.result _ _ (λ due is. answers_at (terms_of (ask_shown c.args.ask.now)) due.status due.text.items (drops_are _ _ _ frames numbers) is) c.due_of.ensures
