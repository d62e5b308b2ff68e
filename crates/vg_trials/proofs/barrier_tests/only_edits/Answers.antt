use Rattle.vg_trials.proofs.ParcelLemmas.{only_of, if_some}
use Rattle.vg_trials.proofs.barrier_tests.only_edits.Goals as goal

pub returns-in-len1 : goal.returns-in-len1
returns-in-len1 c =
    if_some c.edits_of.result _ _ c.edits_of.ensures
    (λ edits is. only_of c.args.script.now c.as_slice.result.now c.block-item.result edits.now c.as_slice.ensures c.in-len1.len_at_least c.in-len1.len_below c.block-item.is is)
