-- For `Clock::time`: its clause `latest`.
use Rattle.std.proofs.Common.{◌∙◌, ap₂, max}
use Rattle.vg_ways.proofs.ClockLemmas.{latest_more}
use Rattle.vg_ways.proofs.clocks.Clock.time.Goals as goal

pub returns-clause-latest : goal.returns-clause-latest
returns-clause-latest c = c.max-self.ensures ∙ ap₂ max c.requires.latest c.stamp.ensures ∙ latest_more c.args.capture.now c.args.number
