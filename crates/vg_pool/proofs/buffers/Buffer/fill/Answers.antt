use Rattle.std.proofs.Common.{◌≡◌, ℕ, List, length, ap, ◌∙◌, arith}
use Rattle.vg_pool.specs.Contents.{Contents, kept_of, laid}
use Rattle.vg_pool.proofs.BlockLemmas.{kept_enough, kept_short}
use Rattle.vg_pool.proofs.buffers.Buffer.fill.Goals as goal

pub lay-requires-clause-len : goal.lay-requires-clause-len
lay-requires-clause-len c =
    let same : length c.kept-bytes.result.now ≡ length (kept_of c.args.bytes.now) = ap length c.kept-bytes.ensures in
    let short = kept_short c.args.bytes.now in
    omega (arith, same, short)

pub lay-requires-clause-fits : goal.lay-requires-clause-fits
lay-requires-clause-fits c =
    let same : length c.kept-bytes.result.now ≡ length (kept_of c.args.bytes.now) = ap length c.kept-bytes.ensures in
    let fits = kept_enough c.args.self.now.pieces c.args.bytes.now c.requires in
    omega (arith, same, fits)

pub returns : goal.returns
returns c =
    let with_bytes : List ℕ → Contents = λ xs. laid c.args.self.now.pieces c.args.number 64 xs in
    c.lay.ensures ∙ ap with_bytes c.kept-bytes.ensures
