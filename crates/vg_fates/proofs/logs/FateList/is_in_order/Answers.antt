-- For what `FateList::is_in_order` answers: fates are in the order of their numbers where their entries are.
use Rattle.std.proofs.Common.{List, subst}
use Rattle.std.specs.List.Sorted.{IsNonDecreasingBy}
use Rattle.std.proofs.lemmas.Bool.{OnTrue_at, OnTrue_from}
use Rattle.vg_model.specs.declared.fates.Fate.{Fate}
use Rattle.vg_fates.specs.declared.logs.LogEntry.{LogEntry}
use Rattle.vg_fates.specs.Logs.{fate_in}
use Rattle.vg_fates.proofs.LogLemmas.{fates_rise}
use Rattle.vg_fates.proofs.logs.FateList.is_in_order.Goals as goal

pub returns : goal.returns
returns c =
    let others = c.self.inside.others.items in
    let entries = c.self.inside.entries.items in
    OnTrue_from c.are_in_order.result (IsNonDecreasingBy (λ (fate : Fate). fate.number) c.args.self.now) (λ yes.
    subst (IsNonDecreasingBy (λ (fate : Fate). fate.number)) c.self.view_is
    (fates_rise others entries
    (subst (λ (es : List LogEntry). IsNonDecreasingBy (λ (e : LogEntry). (fate_in others e).number) es) c.as_slice.ensures.value
    (subst (λ (os : List Fate). IsNonDecreasingBy (λ (e : LogEntry). (fate_in os e).number) c.as_slice.result.now) c.as_slice-2.ensures.value
    (OnTrue_at yes c.are_in_order.ensures)))))
