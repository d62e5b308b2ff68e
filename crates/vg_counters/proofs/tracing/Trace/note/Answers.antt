use Rattle.std.proofs.Common.{◌≡◌, [], ◌∷◌, ◌++◌, ◌<◌, ◌-◌, ◌∙◌, ap, length, rules, arith}
use Rattle.vg_counters.specs.Notes.{noted, most_noted}
use Rattle.vg_counters.proofs.NoteLemmas.{note_is}
use Rattle.vg_counters.proofs.tracing.Trace.note.Goals as goal

pub returns-then-not-is_full : goal.returns-then-not-is_full
returns-then-not-is_full c =
    let inside : c.args.number < length c.self.inside.packets.items = search rules in
    let in_row : c.args.leg - 1 < length c.index_mut.result.now = search rules in
    let room : length c.index-index_mut-leg.result.items < most_noted = grind arith in
    let pushed : c.push.new.self.items ≡ c.index-index_mut-leg.result.items ++ c.args.node ∷ [] = cc (c.push.ensures.items, c.index-index_mut-leg.is) in
    note_is (λ nodes. nodes.items) c.self.inside.packets.items c.args.number (c.args.leg - 1) c.args.node c.index_mut.result.now c.index-index_mut-leg.result c.push.new.self
    inside c.index_mut.ensures.value in_row c.index-index_mut-leg.is room pushed
    ∙ ap (noted c.args.number (c.args.leg - 1) c.args.node) c.self.view_is
