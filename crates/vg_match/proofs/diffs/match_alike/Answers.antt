use Rattle.std.proofs.Common.{◌∙◌}
use Rattle.vg_match.specs.Keys.{likeness_of}
use Rattle.vg_match.specs.Sides.{seen}
use Rattle.vg_match.proofs.DiffLemmas.{rows_alike}
use Rattle.vg_match.proofs.diffs.match_alike.Goals as goal

pub returns : goal.returns
returns c =
    c.match_rows.ensures (likeness_of c.args.likeness c.args.ignored.now) (seen c.args.first.now.frames.now) (seen c.args.second.now.frames.now)
    (rows_alike c.args.likeness c.args.ignored.now c.args.first.now c.args.numbers.now c.as_slice.result.now c.requires.first c.requires.numbers (c.as_slice.ensures.value ∙ c.in_ok-rows.ensures))
    (rows_alike c.args.likeness c.args.ignored.now c.args.second.now c.args.others.now c.as_slice-2.result.now c.requires.second c.requires.others (c.as_slice-2.ensures.value ∙ c.in_ok-more.ensures))
