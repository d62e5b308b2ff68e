use Rattle.std.proofs.lemmas.Result.{IfOk-weaker}
use Rattle.vg_match.specs.Diffs.{IsMatched, AreNumbersOf}
use Rattle.vg_match.proofs.DiffLemmas.{matches_numbers, entries_of_rows}
use Rattle.vg_match.proofs.MergeLemmas.{matching_at}
use Rattle.vg_match.proofs.diffs.match_rows.Goals as goal

pub returns : goal.returns
returns c = λ key first second rows more.
    IfOk-weaker c.matched_numbers.result (AreNumbersOf c.in_ok-matching.matching) (IsMatched key first second c.args.numbers.now c.args.others.now)
    (λ matched are. matches_numbers key first second c.in_ok-ones.ones.items c.in_ok-twos.twos.items c.in_ok-matching.matching matched c.args.numbers.now c.args.others.now
    (matching_at _ _ c.in_ok-ones.ones.items c.in_ok-twos.twos.items c.in_ok-matching.matching c.as_slice.ensures.value c.as_slice-2.ensures.value c.in_ok-matching.ensures)
    (entries_of_rows key first c.args.numbers.now c.args.rows.now c.in_ok-ones.ones.items rows c.in_ok-ones.ensures.numbers c.in_ok-ones.ensures.keys)
    (entries_of_rows key second c.args.others.now c.args.more.now c.in_ok-twos.twos.items more c.in_ok-twos.ensures.numbers c.in_ok-twos.ensures.keys)
    are c.in_ok-ones.ensures.numbers c.in_ok-twos.ensures.numbers)
    c.matched_numbers.ensures
