use Rattle.std.proofs.Common.{◌∙◌, ◌+◌, ap, sym, min, [], ◌∷◌, ◌++◌, map, length-append, arith}
use Rattle.std.proofs.lemmas.List.{map-append}
use Rattle.vg_pool.specs.Moves.{given_of}
use Rattle.vg_pool.specs.Settlement.{most_told, counts_of}
use Rattle.vg_pool.proofs.SettleLemmas.{settle_one}
use Rattle.vg_pool.proofs.pools.Pool.settle.Goals as goal

pub loop-cache-preserved : goal.loop-cache-preserved
loop-cache-preserved g c =
    let total = g.T.PoolLedger.total in
    let before = c.loop-cache.self in
    let cache = c.in-Some.cache in
    let shares = c.into_shares-cache_taken.ensures in
    let given = c.give.ensures in
    let yielded = c.loop-cache.yielded in
    let invariant = c.loop-cache.invariant in
    let counted = c.counts-count.ensures ∙ ap counts_of given.cache in
    let out = ap (λ k. k.allocated) counted in
    let counts =
    c.push.ensures.items ∙ ap (λ l. l ++ c.counts-count.result ∷ []) invariant.1
    ∙ ap (λ k. map counts_of yielded ++ k ∷ []) counted ∙ sym (map-append counts_of yielded (cache ∷ [])) in
    let longer = length-append yielded (cache ∷ []) in
    let pushed = c.push.ensures.len in
    let before_it = invariant.2 in
    let told = c.saturating_add-allocated.ensures ∙ ap (λ n. min (c.loop-cache.allocated + n) most_told) out in
    rw (
      c.merge.ensures.parts,
      shares.taken.0,
      c.merge.ensures.amount,
      shares.taken.1,
      ap (λ k. k.taken) given.cache,
      c.merge-in-loop-cache.ensures.parts,
      shares.given.0,
      c.merge-in-loop-cache.ensures.amount,
      shares.given.1,
      ap (λ k. k.given) given.cache,
    ) (
      (settle_one total c.args.self.now before c.give.new.self c.loop-cache.yielded cache c.give.result
          c.loop-cache.taken.parts c.loop-cache.taken.amount c.loop-cache.given.parts c.loop-cache.given.amount
          c.loop-cache.allocated c.saturating_add-allocated.result
          invariant.0 c.len.ensures.kept told
          (given.count ∙ ap (λ n. given_of total n before cache) c.len.ensures.len) given.pool),
      counts,
      omega (arith, longer, pushed, before_it),
    )
