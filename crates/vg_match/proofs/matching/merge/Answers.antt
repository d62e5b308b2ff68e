use Rattle.std.proofs.Common.{refl, ap, ◌∙◌, ◌++◌, ◌⊎◌, inl, inr, ◌≤◌, length, map, arith}
use Rattle.vg_match.specs.Matching.{entry_of}
use Rattle.vg_match.proofs.MergeLemmas.{Made, Stands, pass_begins, missing_at, extra_at, pair_at, none_left, pass_at, pass_ends, to_end}
use Rattle.vg_match.proofs.matching.merge.Goals as goal
use Rattle.vg_match.proofs.matching.merge.Goals.{then-loop-next-test+else-coming-got, else-loop-next-test}

pub loop-next-init : goal.loop-next-init
loop-next-init c = (
  omega arith,
  omega arith,
  rw (c.new-pairs.ensures.items, c.new-missing.ensures.items, c.new-extra.ensures.items)
      (pass_begins (map entry_of c.args.wanted.now) (map entry_of c.args.got.now) c.requires.wanted.rise c.requires.got.rise),
)

pub loop-next-preserved-in-Less : goal.loop-next-preserved-in-Less
loop-next-preserved-in-Less c =
    let made : Made = record { pairs = c.loop-next.pairs.items; missing = c.loop-next.missing.items; extra = c.loop-next.extra.items; next = c.loop-next.next; coming = c.loop-next.coming } in
    let at : Stands c.args.wanted.now c.args.got.now made = record { wanted_are = c.requires.wanted; got_are = c.requires.got; is = c.loop-next.invariant.2; below = omega arith; within = omega arith } in (
      omega arith,
      c.loop-next.invariant.1,
      missing_at c.args.wanted.now c.args.got.now made _ at c.push.new.self.items c.in-Less.ensures c.in_ok-push-in-Less.ensures.items,
    )

pub loop-next-preserved-in-Greater : goal.loop-next-preserved-in-Greater
loop-next-preserved-in-Greater c =
    let made : Made = record { pairs = c.loop-next.pairs.items; missing = c.loop-next.missing.items; extra = c.loop-next.extra.items; next = c.loop-next.next; coming = c.loop-next.coming } in
    let at : Stands c.args.wanted.now c.args.got.now made = record { wanted_are = c.requires.wanted; got_are = c.requires.got; is = c.loop-next.invariant.2; below = omega arith; within = omega arith } in (
      c.loop-next.invariant.0,
      omega arith,
      extra_at c.args.wanted.now c.args.got.now made _ at c.push-in-Greater.new.self.items c.in-Greater.ensures c.in_ok-push-in-Greater.ensures.items,
    )

pub loop-next-preserved : goal.loop-next-preserved
loop-next-preserved c =
    let made : Made = record { pairs = c.loop-next.pairs.items; missing = c.loop-next.missing.items; extra = c.loop-next.extra.items; next = c.loop-next.next; coming = c.loop-next.coming } in
    let at : Stands c.args.wanted.now c.args.got.now made = record { wanted_are = c.requires.wanted; got_are = c.requires.got; is = c.loop-next.invariant.2; below = omega arith; within = omega arith } in (
      omega arith,
      omega arith,
      pair_at c.args.wanted.now c.args.got.now made _ at c.push-in-Equal.new.self.items c.in-Equal.ensures c.in_ok-push-in-Equal.ensures.items,
    )

pub returns : goal.returns
returns c =
    let made : Made = record { pairs = c.loop-next.pairs.items; missing = c.loop-next.missing.items; extra = c.loop-next.extra.items; next = c.loop-next.next; coming = c.loop-next.coming } in
    let end : (length c.args.wanted.now ≤ c.loop-next.next) ⊎ (length c.args.got.now ≤ c.loop-next.coming) =
    elim c.loop-next-test.branch [ then-loop-next-test+else-coming-got w ↦ inr (omega arith) | else-loop-next-test w ↦ inl (omega arith) ] in
    pass_ends (map entry_of c.args.wanted.now) (map entry_of c.args.got.now) (pass_at c.args.wanted.now c.args.got.now made) c.loop-next.invariant.2 (none_left c.args.wanted.now c.args.got.now made end)
    _ refl
    (c.in_ok-put_entries.ensures ∙ ap (λ rest. c.loop-next.missing.items ++ rest) (to_end c.args.wanted.now c.loop-next.next))
    (c.in_ok-put_entries-2.ensures ∙ ap (λ rest. c.loop-next.extra.items ++ rest) (to_end c.args.got.now c.loop-next.coming))
