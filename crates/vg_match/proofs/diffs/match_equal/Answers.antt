-- For the clause of `match_equal`: both sides are in order, whichever thread is done first.
use Rattle.std.proofs.Common.{List, map, subst, sym, Vec, Global}
use Rattle.std.proofs.lemmas.Result.{IfOk-weaker, IfOk-at_ok}
use Rattle.vg_match.specs.Keys.{compared}
use Rattle.vg_match.specs.declared.fields.Field.{Field}
use Rattle.vg_match.specs.declared.matching.Hashed.{Hashed}
use Rattle.vg_match.specs.declared.ranges.Range.{Range}
use Rattle.vg_match.specs.declared.sides.Side.{Side}
use Rattle.vg_match.specs.Matching.{entry_of, AreHashed, IsMatchingOf}
use Rattle.vg_match.specs.Sides.{seen, meant_numbers, IsInOrder}
use Rattle.vg_match.specs.Diffs.{IsMatched, AreNumbersOf}
use Rattle.vg_match.proofs.DiffLemmas.{matches_in_order}
use Rattle.vg_match.proofs.diffs.match_equal.Goals as goal

-- what a thread hands back
abbrev IsSorted : List Field → List Range → Side → Vec Hashed Global → Type 0
IsSorted ignored only side made = IsInOrder ignored only (seen side.frames.now) made.items

pub merge-requires-clause-wanted : goal.merge-requires-clause-wanted
merge-requires-clause-wanted g c =
    let ones = IfOk-at_ok (IsSorted c.args.ignored.now c.args.only.now c.args.first.now) c.in_ok-ones.was c.join-ones.ensures.first in
    subst AreHashed (sym c.as_slice.ensures.value) ones.hashed

pub merge-requires-clause-got : goal.merge-requires-clause-got
merge-requires-clause-got g c =
    let others = IfOk-at_ok (IsSorted c.args.ignored.now c.args.only.now c.args.second.now) c.in_ok-others.was c.join-ones.ensures.second in
    subst AreHashed (sym c.as_slice-2.ensures.value) others.hashed

pub returns : goal.returns
returns g c =
    let first = seen c.args.first.now.frames.now in
    let second = seen c.args.second.now.frames.now in
    let ones = IfOk-at_ok (IsSorted c.args.ignored.now c.args.only.now c.args.first.now) c.in_ok-ones.was c.join-ones.ensures.first in
    let others = IfOk-at_ok (IsSorted c.args.ignored.now c.args.only.now c.args.second.now) c.in_ok-others.was c.join-ones.ensures.second in
    let is : IsMatchingOf (map entry_of c.in_ok-ones.ones.items) (map entry_of c.in_ok-others.others.items) c.in_ok-matching.matching
    = subst (λ all. IsMatchingOf (map entry_of all) (map entry_of c.in_ok-others.others.items) c.in_ok-matching.matching) c.as_slice.ensures.value
    (subst (λ all. IsMatchingOf (map entry_of c.as_slice.result.now) (map entry_of all) c.in_ok-matching.matching) c.as_slice-2.ensures.value c.in_ok-matching.ensures) in
    IfOk-weaker c.matched_numbers.result (AreNumbersOf c.in_ok-matching.matching)
    (IsMatched (compared c.args.ignored.now) first second (meant_numbers c.args.only.now 0 first) (meant_numbers c.args.only.now 0 second))
    (λ matched are. matches_in_order ones others is are)
    c.matched_numbers.ensures
