-- For the clause of `due_of`: what is left out is all that stands in no count.
use Rattle.std.proofs.Common.{◌≡◌, ℕ, length, List, refl, arith, ◌∙◌, Bor}
use Rattle.std.proofs.lemmas.List.{length-map}
use Rattle.vg_match.specs.Diffs.{Packets}
use Rattle.vg_match.specs.Sides.{seen}
use Rattle.vg_match.specs.declared.ranges.Range.{Range}
use Rattle.vg_diff.specs.declared.top.Frames.{Frames}
use Rattle.vg_diff.specs.declared.top.Drops.{Drops}
use Rattle.vg_diff.proofs.AnswerLemmas.{answered, wanted_counted, got_counted}
use Rattle.vg_diff.proofs.top.due_of.Goals as goal

-- the packets of both sides, and those that were dropped
abbrev packets_in : List Range → Frames → Drops → Packets
packets_in only frames drops = record { only = only; wanted = seen frames.wanted.now; got = seen frames.got.now; dropped = seen drops.frames.now }

as_many : (frames : List (Bor (List ℕ))) → length (seen frames) ≡ length frames
as_many frames = length-map frames (λ (frame : Bor (List ℕ)). frame.now)

pub wanted_left_out-wanted_noise-requires : goal.wanted_left_out-wanted_noise-requires
wanted_left_out-wanted_noise-requires c =
    let all = wanted_counted c.args.ask.now.ignored.items (packets_in c.args.ask.now.only.items c.args.frames.now c.args.drops.now) c.args.matches.now.diff c.requires.matches.differ in
    omega (arith, all, as_many c.args.frames.now.wanted.now)

pub got_left_out-got_noise-requires : goal.got_left_out-got_noise-requires
got_left_out-got_noise-requires c =
    let all = got_counted c.args.ask.now.ignored.items (packets_in c.args.ask.now.only.items c.args.frames.now c.args.drops.now) c.args.matches.now.diff c.requires.matches.differ in
    omega (arith, all, as_many c.args.frames.now.got.now)

pub returns : goal.returns
returns c =
    let wanted = wanted_counted c.args.ask.now.ignored.items (packets_in c.args.ask.now.only.items c.args.frames.now c.args.drops.now) c.args.matches.now.diff c.requires.matches.differ in
    let got = got_counted c.args.ask.now.ignored.items (packets_in c.args.ask.now.only.items c.args.frames.now c.args.drops.now) c.args.matches.now.diff c.requires.matches.differ in
    answered _ _ _ _ _
    (record {
      wanted_are = refl;
      got_are = refl;
      is_diff = c.requires.matches.differ;
      ignored_are = c.as_slice-2.ensures.value;
      starts_are = refl;
      report_is = refl;
      sent_are = c.as_slice.ensures.value ∙ c.requires.sent;
      dropped_are = refl;
      wanted_noise = omega (arith, wanted, as_many c.args.frames.now.wanted.now, c.wanted_left_out-wanted_noise.ensures);
      got_noise = omega (arith, got, as_many c.args.frames.now.got.now, c.got_left_out-got_noise.ensures);
      reordered = c.requires.matches.reordered;
    })
    c.in_ok-text.ensures c.status_of.ensures.either c.status_of.ensures.all
