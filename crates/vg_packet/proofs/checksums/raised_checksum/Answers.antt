use Rattle.std.proofs.Common.{◌≡◌, ℕ, ◌+◌, ◌-◌, ap, ◌∙◌, arith}
use Rattle.vg_packet.proofs.UpdateLemmas.{raised_below, raised_above}
use Rattle.vg_packet.proofs.checksums.raised_checksum.Goals as goal

pub returns-then-sum-lt65535 : goal.returns-then-sum-lt65535
returns-then-sum-lt65535 c word some few =
    let same : c.from-sum.result ≡ c.args.checksum = c.from-sum.ensures in
    ap (λ (n : ℕ). n + 256) same ∙ raised_below c.args.checksum word (omega (arith, same)) some few

pub returns : goal.returns
returns c word some few =
    let same : c.from-sum.result ≡ c.args.checksum = c.from-sum.ensures in
    ap (λ (n : ℕ). n + 256 - 65535) same ∙ raised_above c.args.checksum word (omega arith) (omega (arith, same)) some few
