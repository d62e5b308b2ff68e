-- For the clause of `order_of_keys`: equal keys stand equal.
use Rattle.std.proofs.Common.{sym}
use Rattle.std.proofs.lemmas.Slice.Eq.{bytes_eq-Decides}
use Rattle.vg_match.proofs.MergeLemmas.{same_slices}
use Rattle.vg_match.proofs.matching.order_of_keys.Goals as goal

pub returns-then-eq : goal.returns-then-eq
returns-then-eq c = sym (same_slices c.args.one.now c.args.other.now ((bytes_eq-Decides _ _).0 (sym c.if-eq.ensures)))
