-- For the clause of `compare`, and for what it hands to `match_alike`: what is left of one matching is what the next one is of.
use Rattle.std.proofs.Common.{ℕ, ◌<◌, length, All, sym, subst, ◌∙◌}
use Rattle.vg_match.specs.Keys.{likeness_of}
use Rattle.vg_match.specs.declared.keys.Likeness.TheVariants.{Datagram, Payload}
use Rattle.vg_match.specs.Sides.{seen, meant_numbers}
use Rattle.vg_match.specs.Diffs.{Packets, IsDiff}
use Rattle.vg_match.proofs.DiffLemmas.{left_below, more_below, meant_below, matched_at, is_diff}
use Rattle.vg_match.proofs.diffs.compare.Goals as goal

pub match_alike-requires-clause-numbers : goal.match_alike-requires-clause-numbers
match_alike-requires-clause-numbers g c =
    let P : ℕ → Type 0 = λ n. n < length c.args.wanted.now.frames.now in
    subst (All P) (sym c.as_slice.ensures.value) (left_below _ _ _ _ _ c.in_ok-same.same P c.in_ok-same.ensures (meant_below c.args.only.now c.args.wanted.now.frames.now))

pub match_alike-requires-clause-others : goal.match_alike-requires-clause-others
match_alike-requires-clause-others g c =
    let P : ℕ → Type 0 = λ n. n < length c.args.got.now.frames.now in
    subst (All P) (sym c.as_slice-2.ensures.value) (more_below _ _ _ _ _ c.in_ok-same.same P c.in_ok-same.ensures (meant_below c.args.only.now c.args.got.now.frames.now))

pub match_alike-requires-2-clause-numbers : goal.match_alike-requires-2-clause-numbers
match_alike-requires-2-clause-numbers g c =
    let P : ℕ → Type 0 = λ n. n < length c.args.dropped.now.frames.now in
    subst (All P) (sym (c.as_slice-3.ensures.value ∙ c.in_ok-drops.ensures)) (meant_below c.args.only.now c.args.dropped.now.frames.now)

pub match_alike-requires-2-clause-others : goal.match_alike-requires-2-clause-others
match_alike-requires-2-clause-others g c =
    let P : ℕ → Type 0 = λ n. n < length c.args.got.now.frames.now in
    subst (All P) (sym c.as_slice-4.ensures.value) (more_below _ _ _ _ _ c.in_ok-changed.changed P c.in_ok-changed.ensures
    (subst (All P) (sym c.as_slice-2.ensures.value) (more_below _ _ _ _ _ c.in_ok-same.same P c.in_ok-same.ensures (meant_below c.args.only.now c.args.got.now.frames.now))))

pub returns : goal.returns
returns g c =
    let packets : Packets = record { only = c.args.only.now; wanted = seen c.args.wanted.now.frames.now; got = seen c.args.got.now.frames.now; dropped = seen c.args.dropped.now.frames.now } in
    subst (IsDiff c.args.ignored.now packets) (sym c.diff_of.ensures)
    (is_diff c.args.ignored.now packets c.in_ok-same.same c.in_ok-changed.changed c.in_ok-there.there c.in_ok-same.ensures
    (matched_at (likeness_of Datagram c.args.ignored.now) packets.wanted packets.got _ c.in_ok-same.same.first.items _ c.in_ok-same.same.second.items c.in_ok-changed.changed
    c.as_slice.ensures.value c.as_slice-2.ensures.value c.in_ok-changed.ensures)
    (matched_at (likeness_of Payload c.args.ignored.now) packets.dropped packets.got _ (meant_numbers packets.only 0 packets.dropped) _ c.in_ok-changed.changed.second.items c.in_ok-there.there
    (c.as_slice-3.ensures.value ∙ c.in_ok-drops.ensures) c.as_slice-4.ensures.value c.in_ok-there.ensures))
