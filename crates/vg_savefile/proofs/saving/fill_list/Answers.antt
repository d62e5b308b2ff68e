-- For `fill_list`: one packet more.
use Rattle.std.proofs.Common.{◌≡◌, ◌+◌, ◌*◌, ◌≤◌, List, [], ◌∷◌, ◌++◌, take, get_or, sym, ap, subst, ◌∙◌, arith}
use Rattle.std.proofs.lemmas.List.{take_more}
use Rattle.vg_underway.specs.declared.sent.SentEntry.{SentEntry}
use Rattle.vg_savefile.specs.Packed.{ArePacked, total_len}
use Rattle.vg_savefile.proofs.PackedLemmas.{packed_push, total_push}
use Rattle.vg_savefile.proofs.saving.fill_list.Goals as goal

pub loop-entry-preserved : goal.loop-entry-preserved
loop-entry-preserved c =
    let none : SentEntry = record { number = 0; part = 0; len = 0; start = 0 } in
    let front : List SentEntry = take c.loop-entry.entry-index c.args.entries.now in
    let e : SentEntry = get_or c.args.entries.now c.loop-entry.entry-index none in
    let more : take (c.loop-entry.entry-index + 1) c.args.entries.now ≡ front ++ e ∷ [] = take_more c.args.entries.now c.loop-entry.entry-index none c.loop-entry-test.true in
    let total : total_len front ≡ c.loop-entry.end = c.loop-entry.invariant.total in
    let start : e.start ≡ c.loop-entry.end = c.if-entry-end.false in
    let few : c.loop-entry.end ≤ 65535 * c.loop-entry.entry-index = c.loop-entry.invariant.few in
    record {
      packed = subst (ArePacked 0) (sym more) (packed_push 0 front e c.loop-entry.invariant.packed c.if-entry-ne0.false (omega (arith, start, total)));
      total = ap total_len more ∙ total_push front e ∙ ap (λ n. n + e.len) total;
      few = omega (arith, few);
    }
