use Rattle.std.proofs.Common.{◌≡◌, ℕ, inl, inr, length, sym, ap, ◌∙◌, arith}
use Rattle.std.specs.Prelude.{min}
use Rattle.std.proofs.lemmas.Bool.{cases_lt}
use Rattle.vg_model.specs.PoolBook.{pieces_of}
use Rattle.vg_pool.proofs.BlockLemmas.{pieces_long}
use Rattle.vg_pool.proofs.caches.asked_len.Goals as goal

pub returns : goal.returns
returns c =
    let len : ℕ = length c.args.bytes.now in
    ap pieces_of c.min.ensures
    ∙ elim (cases_lt 9216 len) [
      | inl long ↦ pieces_long (min len 9217) (omega (arith, long)) ∙ sym (pieces_long len long)
      | inr short ↦ ap pieces_of (let same : min len 9217 ≡ len = omega (arith, short) in same)
    ]
