use Rattle.std.proofs.Common.{◌≡◌, ◌∙◌, sym}
use Rattle.std.specs.Prelude.{Some}
use Rattle.vg_backlog.specs.Books.{Accepts}
use Rattle.vg_backlog.proofs.AdvanceLemmas.{popped, holding_next, goes_on_next}
use Rattle.vg_backlog.proofs.backlogs.Backlog.advance.Goals as goal

pub frames-preserved : goal.frames-preserved
frames-preserved c =
    let ring = c.frames.self-inside.ring in
    let next = c.frames.self-inside.next in
    let behind = c.frames.self-inside.behind in
    let is : next ≡ Some c.in-Some.frame = sym c.take.ensures.value ∙ c.in-Some.is in
    let come = popped c.pop.result behind c.pop.new.self c.pop.ensures in
    let accepts : Accepts c.in-Some.frame ring c.push.new.self =
    record { same = c.in-Ok.ensures.same; put_is = c.in-Ok.ensures.ok; written = c.in-Ok.ensures.ok_written; rises = c.in-Ok.ensures.head_rises } in
    record {
      holding = holding_next ring c.push.new.self next c.pop.result c.in-Some.frame behind c.pop.new.self c.frames.self-inside.room c.frames.invariant.holding is c.in-Ok.ensures.ok come;
      slots = c.frames.invariant.slots;
      room = c.frames.invariant.room;
      goes_on = λ after left advances.
          c.frames.invariant.goes_on after left (goes_on_next ring c.push.new.self next c.pop.result c.in-Some.frame behind c.pop.new.self is accepts come.0 after left advances);
    }
