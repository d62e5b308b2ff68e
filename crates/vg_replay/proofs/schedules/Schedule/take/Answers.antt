use Rattle.std.proofs.Common.{[], ap, sym, ◌∙◌}
use Rattle.vg_replay.proofs.ScheduleLemmas.{written}
use Rattle.vg_replay.proofs.schedules.Schedule.take.Goals as goal

pub returns-clause-left : goal.returns-clause-left
returns-clause-left c =
    written (λ ns. ns.items) c.self.inside.numbers.items c.args.self.now c.args.generation c.replace.new.dest [] (sym c.self.view_is) (ap (λ ns. ns.items) c.replace.ensures.after ∙ c.new-none.ensures.items)
