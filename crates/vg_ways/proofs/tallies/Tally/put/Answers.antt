-- For `Tally::put`: what its call requires, its clause.
use Rattle.std.proofs.Common.{◌<◌, ◌-◌, ◌^◌, sym, ap, subst, ◌∙◌}
use Rattle.std.proofs.lemmas.Result.{on_ok_weaker}
use Rattle.vg_ways.specs.declared.keys.Key.{Key}
use Rattle.vg_ways.specs.Tallies.{AddsOne, count_in}
use Rattle.vg_ways.proofs.TallyLemmas.{tally_more, counted_key}
use Rattle.vg_ways.proofs.tallies.Tally.put.Goals as goal

pub add-requires : goal.add-requires
add-requires c =
    subst (λ n. n < 2 ^ 64 - 1) (counted_key c.args.entry c.args.self.now ∙ ap (count_in c.args.self.now) (sym c.key_of.ensures)) c.requires

pub returns : goal.returns
returns c =
    on_ok_weaker c.add.result (λ adds. tally_more c.args.self.now c.add.new.self c.args.entry (subst (λ (key : Key). AddsOne key c.args.self.now c.add.new.self) c.key_of.ensures adds))
    c.add.ensures
