-- `matches_of`, what is found of frames: what both threads found; the order is that of the pairs that are the same.
use Rattle.std.proofs.Common.{ℕ, Vec, Global, subst, sym}
use Rattle.std.proofs.lemmas.Result.{IfOk-at_ok}
use Rattle.vg_match.specs.Diffs.{Packets, IsDiff}
use Rattle.vg_match.specs.Sides.{seen}
use Rattle.vg_diff.specs.Orders.{AreFlowHashes, AreReordered}
use Rattle.vg_diff.proofs.top.matches_of.Goals as goal

pub reordered-requires : goal.reordered-requires
reordered-requires g c =
    let wanted = c.args.frames.now.wanted.now in
    subst (AreFlowHashes wanted) (sym c.as_slice-2.ensures.value)
    (IfOk-at_ok (λ (hashes : Vec ℕ Global). AreFlowHashes wanted hashes.items) c.in_ok-hashes.was c.join-hashes.ensures.first)

pub returns : goal.returns
returns g c =
    let wanted = c.args.frames.now.wanted.now in
    let packets : Packets = record { only = c.args.only.now; wanted = seen wanted; got = seen c.args.frames.now.got.now; dropped = seen c.args.drops.now } in
    record {
      differ = IfOk-at_ok (IsDiff c.args.ignored.now packets) c.in_ok-diff.was c.join-hashes.ensures.second;
      reordered = subst (λ pairs. AreReordered wanted c.args.frames.now.starts.now pairs c.in_ok-reordered.reordered) c.as_slice.ensures.value c.in_ok-reordered.ensures;
    }
