use Rattle.vg_fib.proofs.BestLemmas as lemmas
use Rattle.vg_fib.proofs.PrefixLemmas.{are4, are6}
use Rattle.vg_fib.proofs.laws.best_route_is_the_longest_match.Goals as goal

pub returns : goal.returns
returns c = record {
  found = lemmas.longest_match_is_best are4;
  none = lemmas.no_match_is_none are4;
  found6 = lemmas.longest_match_is_best are6;
  none6 = lemmas.no_match_is_none are6;
}
