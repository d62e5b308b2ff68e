-- For `other_file`: the packets sent can be written, and where the file differs from what is written.
use Rattle.std.proofs.Common.{◌≡◌, ap, subst, sym, ◌∙◌, length}
use Rattle.std.specs.Prelude.{slice_get, MatchOption}
use Rattle.std.proofs.lemmas.List.{length-map}
use Rattle.vg_capture.specs.Savefile.{pairs, savefile, AreWithin}
use Rattle.vg_check.specs.Saves.{sent_from}
use Rattle.vg_differs.specs.First.{IsFirst}
use Rattle.vg_differs.specs.Records.{fault_at, IsOutside, IsSpot}
use Rattle.vg_differs.proofs.saved.other_file.Goals as goal

pub write_capture-requires : goal.write_capture-requires
write_capture-requires c =
    subst (λ n. AreWithin n c.as_slice-sent.result.now) c.len.ensures.count (subst (AreWithin c.len.result) (sym c.as_slice-sent.ensures.value) c.in_ok-sent.ensures.within)

pub returns-in-None : goal.returns-in-None
returns-in-None c =
    c.in-None.ensures ∙ c.as_slice-wanted.ensures ∙ c.in_ok-wanted.ensures
    ∙ ap (savefile c.args.capture.now) (ap pairs c.as_slice-sent.ensures.value ∙ c.in_ok-sent.ensures.sent)

pub returns : goal.returns
returns c =
    let place = c.in-Some.place in
    let spot = c.spot_at-spot.result in
    let sent : pairs c.as_slice-sent.result.now ≡ sent_from 0 c.args.trips.now = ap pairs c.as_slice-sent.ensures.value ∙ c.in_ok-sent.ensures.sent in
    let wanted : c.as_slice-wanted.result.now ≡ savefile c.args.capture.now (sent_from 0 c.args.trips.now) =
    c.as_slice-wanted.ensures ∙ c.in_ok-wanted.ensures ∙ ap (savefile c.args.capture.now) sent in
    record {
      first = subst (λ w. IsFirst c.args.file.now w place) wanted c.in-Some.ensures;
      stands = c.byte_at.ensures;
      wanted = c.byte_at-in-Some.ensures ∙ ap (λ w. slice_get w place) wanted;
      records = sym (length-map c.as_slice-sent.result.now (λ s. (s.number, s.bytes))) ∙ ap length sent;
      spot = subst (λ s. MatchOption spot (IsOutside s place) (IsSpot s place)) sent c.spot_at-spot.ensures;
      fault = c.fault_at.ensures ∙ ap (λ w. fault_at c.args.file.now w spot) wanted;
    }
