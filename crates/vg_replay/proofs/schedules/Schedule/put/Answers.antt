use Rattle.std.proofs.Common.{◌++◌, ◌∷◌, [], length, arith, ap, sym, ◌∙◌}
use Rattle.std.proofs.lemmas.List.{length-map}
use Rattle.vg_replay.proofs.ScheduleLemmas.{written, list_read}
use Rattle.vg_replay.proofs.schedules.Schedule.put.Goals as goal

pub returns : goal.returns
returns c =
    let lists = c.self.inside.numbers.items in
    let long = length-map lists (λ ns. ns.items) in
    let size = ap length c.self.view_is in
    written (λ ns. ns.items) lists c.args.self.now c.args.generation c.push.new.self _ (sym c.self.view_is)
    (c.in_ok-push.ensures.items
    ∙ ap (λ ns. ns ++ c.args.number ∷ []) (list_read (λ ns. ns.items) lists c.args.self.now c.args.generation c.index_mut.result.now (sym c.self.view_is) (omega (arith, c.requires, long, size)) c.index_mut.ensures.value))
