use Rattle.std.proofs.Common.{◌≡◌, ℕ, suc, ◌<◌, List, [], length, sym, ap, ◌∙◌, arith}
use Rattle.std.specs.Prelude.{Bool, true, false}
use Rattle.std.specs.Bool.{MatchBool}
use Rattle.vg_pool.specs.Contents.{Contents}
use Rattle.vg_pool.specs.declared.buffers.Block.{Block}
use Rattle.vg_pool.proofs.buffers.Buffer.is_single.Goals as goal

-- there is one more buffer than behind the first
one_more : (empty : Bool) (rest : List (List ℕ)) (pieces : ℕ) → suc (length rest) ≡ pieces → MatchBool empty (rest ≡ []) (0 < length rest) → MatchBool empty (pieces ≡ 1) (1 < pieces)
one_more true rest pieces is none = sym is ∙ ap (λ (r : List (List ℕ)). suc (length r)) none
one_more false rest pieces is some = omega (arith, is, some)

pub returns : goal.returns
returns c =
    let pieces : suc (length c.deref.result.now.rest) ≡ c.args.self.now.pieces =
    ap (λ (k : Block). suc (length k.rest)) c.deref.ensures ∙ ap (λ (k : Contents). k.pieces) c.self.view_is in
    one_more c.is_empty.result c.deref.result.now.rest c.args.self.now.pieces pieces c.is_empty.ensures
