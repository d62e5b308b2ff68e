-- For the clauses of `put_meant`: one entry more, with its hash.
use Rattle.std.proofs.Common.{All, map, subst, sym}
use Rattle.std.proofs.lemmas.List.{length-map}
use Rattle.std.proofs.lemmas.List.Elements.{All-push}
use Rattle.vg_match.specs.Keys.{compared}
use Rattle.vg_match.specs.Matching.{entry_of, IsHashed}
use Rattle.vg_match.specs.Sides.{IsOf, seen}
use Rattle.vg_match.proofs.SideLemmas.{key_beside, entries_more}
use Rattle.vg_match.proofs.sides.put_meant.Goals as goal

pub returns-clause-keys : goal.returns-clause-keys
returns-clause-keys c =
    let Of = IsOf (compared c.args.ignored.now) (seen c.args.side.now.frames.now) in
    subst (All Of) (sym (entries_more c.args.made.now.items _ _ c.in_ok-push.ensures.items))
    (All-push Of (map entry_of c.args.made.now.items) _ c.requires.keys
    (subst Of (sym c.with_hash.ensures.same)
    (record { below = simp length-map c.requires.number; is = key_beside c.args.ignored.now c.args.side.now c.requires.side c.args.number _ c.requires.number })))

pub returns-clause-hashes : goal.returns-clause-hashes
returns-clause-hashes c =
    subst (All IsHashed) (sym c.in_ok-push.ensures.items) (All-push IsHashed c.args.made.now.items _ c.requires.hashes c.with_hash.ensures.hash)
