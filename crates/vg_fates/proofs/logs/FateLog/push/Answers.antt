use Rattle.std.proofs.Common.{List, [], ◌∷◌, ◌++◌, length, sym, ap, ◌∙◌, arith}
use Rattle.std.proofs.lemmas.List.{append-nil, length-append}
use Rattle.vg_model.specs.declared.fates.Fate.{Fate}
use Rattle.vg_model.specs.declared.fates.Leg.{Leg}
use Rattle.vg_fates.specs.Logs.{LogBook}
use Rattle.vg_fates.proofs.LogLemmas.{fates_more, logged_more, last_fate}
use Rattle.vg_fates.proofs.logs.FateLog.push.Goals as goal

pub invariant_of-self : goal.invariant_of-self
invariant_of-self c =
    let inv = c.self.invariant in
    let few = inv.1 in
    let more = ap length c.push_reserved.ensures.items ∙ length-append c.self.inside.entries.items (c.in-Some.entry ∷ []) in
    let room = inv.3 in
    let same = c.push_reserved.ensures.capacity in (
      logged_more c.self.inside.others.items [] c.self.inside.others.items c.self.inside.entries.items _ c.in-Some.entry inv.0 (sym (append-nil c.self.inside.others.items)) c.push_reserved.ensures.items (c.in-Some.ensures c.self.inside.others.items).0,
      omega (arith, few, more),
      inv.2,
      omega (arith, room, same),
      inv.4,
    )

pub returns-in-None : goal.returns-in-None
returns-in-None c =
    let with_legs : List Leg → Fate = λ legs. record { number = c.args.number; legs = legs; congested = c.args.congested; end = c.args.end } in
    let fate : Fate = with_legs c.args.legs.now in
    let at = c.len-place.ensures ∙ c.self.inside.others.ok.0 in
    let others = c.push_reserved-in-None.ensures.items ∙ ap (λ legs. c.self.inside.others.items ++ with_legs legs ∷ []) c.legs_of.ensures in
    let items =
    fates_more c.self.inside.others.items (fate ∷ []) _ c.self.inside.entries.items _ _ fate c.self.invariant.0 others c.push_reserved-in-None-2.ensures.items
    (last_fate c.self.inside.others.items _ fate c.len-place.result others at) in
    ap (λ fates. record { items = fates; room = c.self.inside.room }) items ∙ ap (λ (log : LogBook). record { items = log.items ++ fate ∷ []; room = log.room }) c.self.view_is
