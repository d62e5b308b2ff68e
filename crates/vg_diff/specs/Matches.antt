-- What is found of the frames of both sides.
use Rattle.std.specs.Prelude.{ℕ, List}
use Rattle.std.specs.Borrow.{Bor}
use Rattle.vg_match.specs.declared.fields.Field.{Field}
use Rattle.vg_match.specs.declared.ranges.Range.{Range}
use Rattle.vg_match.specs.Diffs.{IsDiff}
use Rattle.vg_match.specs.Sides.{seen}
use Rattle.vg_diff.specs.declared.top.Matches.{Matches}
use Rattle.vg_diff.specs.Orders.{AreReordered}

-- the frames differ so, with those that were dropped, and so many of those that are the same came in another order
pub record AreMatches (ignored : List Field) (only : List Range) (wanted got : List (Bor (List ℕ))) (starts : List ℕ) (drops : List (List ℕ)) (matches : Matches) : Type 0 where
  pub differ : IsDiff ignored (record { only = only; wanted = seen wanted; got = seen got; dropped = drops }) matches.diff
  pub reordered : AreReordered wanted starts matches.diff.same.items matches.reordered
