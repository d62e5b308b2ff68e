-- `load_all`, the savefiles of several names: the loop over the names.
use Rattle.std.proofs.Common.{◌≡◌, ◌≤◌, ℕ, List, take}
use Rattle.std.specs.List.{AllZip}
use Rattle.vg_diff.specs.Asked.{texts}
use Rattle.vg_diff.specs.Files.{IsCaptureAt}
use Rattle.vg_diff.proofs.input.load_all.Given as goal

abbrev pub invariant-loop-name : goal.invariant-loop-name
invariant-loop-name g l =
    (g.F.Folder.contents l.folder ≡ g.F.Folder.contents l.fn.folder)
    × AllZip (IsCaptureAt (g.F.Folder.contents l.fn.folder)) (texts (take l.name-index l.names)) l.captures.items
    × ((other : List ℕ) → g.F.Folder.faults l.fn.folder other ≤ g.F.Folder.faults l.folder other)
