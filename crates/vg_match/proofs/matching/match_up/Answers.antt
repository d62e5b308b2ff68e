-- For the clause of `match_up`: each side is put in order first.
use Rattle.std.proofs.Common.{map, subst, sym}
use Rattle.std.specs.List.Sorted.{IsPermutation}
use Rattle.std.proofs.lemmas.Result.{IfOk-weaker}
use Rattle.vg_match.specs.Matching.{entry_of, AreHashed, IsMatchingOf}
use Rattle.vg_match.proofs.MergeLemmas.{matches_before}
use Rattle.vg_match.proofs.matching.match_up.Goals as goal

pub merge-requires-clause-wanted : goal.merge-requires-clause-wanted
merge-requires-clause-wanted c = subst AreHashed (sym c.as_slice.ensures.value) c.in_ok-first.ensures.hashed

pub merge-requires-clause-got : goal.merge-requires-clause-got
merge-requires-clause-got c = subst AreHashed (sym c.as_slice-2.ensures.value) c.in_ok-second.ensures.hashed

pub returns : goal.returns
returns c =
    IfOk-weaker c.merge.result (IsMatchingOf (map entry_of c.as_slice.result.now) (map entry_of c.as_slice-2.result.now)) (IsMatchingOf c.args.wanted.now c.args.got.now)
    (λ matching is. matches_before c.args.wanted.now c.args.got.now (map entry_of c.as_slice.result.now) (map entry_of c.as_slice-2.result.now) matching
    (subst (λ all. IsPermutation c.args.wanted.now (map entry_of all)) (sym c.as_slice.ensures.value) c.in_ok-first.ensures.moved)
    (subst (λ all. IsPermutation c.args.got.now (map entry_of all)) (sym c.as_slice-2.ensures.value) c.in_ok-second.ensures.moved) is)
    c.merge.ensures
