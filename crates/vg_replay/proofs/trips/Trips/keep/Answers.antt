use Rattle.vg_replay.specs.Parts.{course_in}
use Rattle.vg_replay.proofs.PartLemmas.{kept_at, kept_within}
use Rattle.vg_replay.proofs.trips.Trips.keep.Goals as goal

pub invariant_of-self-2 : goal.invariant_of-self-2
invariant_of-self-2 c =
    kept_within c.self.inside.lists c.note.new.self c.self.inside.kept.items c.args.number c.in_ok-kept.kept c.in_ok-kept.ensures.grown c.self.invariant c.in_ok-kept.ensures.trip

pub returns : goal.returns
returns c = (
  course_in c.note.new.self c.in_ok-kept.kept,
  c.in_ok-kept.ensures.kept,
  kept_at c.self.inside.lists c.note.new.self c.self.inside.kept.items c.args.self.now c.args.number c.in_ok-kept.kept c.in_ok-kept.ensures.grown c.self.invariant c.self.view_is,
)
