-- For `put_lines_by`: the line of one fate more, laid or appended, and in the end of all.
use Rattle.std.proofs.Common.{◌≡◌, ◌++◌, ◌∷◌, ◌<◌, ◌+◌, ◌∙◌, ap, sym, refl, subst, append-nil, length, take, codes, decimal, arith}
use Rattle.std.specs.Prelude.{Option, option_map, unwrap_or, IfSome}
use Rattle.std.proofs.lemmas.List.{length-map}
use Rattle.std.proofs.lemmas.Option.{get_or_from_slice_get, slice_get-map}
use Rattle.vg_fates.specs.Seen.{fate_seen}
use Rattle.vg_model.specs.declared.fates.Fate.{Fate}
use Rattle.vg_report.specs.Named.{line_by, lines_of}
use Rattle.vg_report.specs.Ready.{IsReady, IsShort}
use Rattle.vg_report.specs.Text.{leg_text, line_text, packet_line}
use Rattle.vg_report.proofs.LineLemmas.{one_more_line}
use Rattle.vg_report.proofs.LayLemmas.{short_line, laid_behind}
use Rattle.vg_report.proofs.writing.put_lines_by.Goals as goal
use Rattle.vg_report.proofs.writing.put_lines_by.Goals.{in-Some+in_ok-at-in-Some, in-None+in_ok-put_behind-in-None+in_ok-dropped-in-None}

pub loop-number-preserved : goal.loop-number-preserved
loop-number-preserved c =
    let names = c.args.names.now in
    let by = line_by names.interfaces.now names.nodes.now in
    let fates = names.fates.now in
    let number = c.loop-number.number in
    let lines = lines_of names.interfaces.now names.nodes.now fates in
    let line = by (fate_seen c.view-fate.result) in
    let before = c.loop-number.out.items ++ take c.loop-number.at c.loop-number.window in
    let inside : number < length lines = omega (arith, length-map fates by, c.loop-number-test.true, c.len-number-end.ensures.count) in
    let nth = sym (get_or_from_slice_get lines number line line (slice_get-map by fates number ∙ ap (option_map by) c.view-fate.ensures)) in
    let front = c.step.ensures ∙ ap (λ n. n + 1) c.loop-number.invariant.front in
    elim c.match-short_of.branch [
      | in-Some+in_ok-at-in-Some w ↦
          let leg = w.in-Some.short.leg in
          let end = w.in-Some.short.end.now in
          let short = subst (λ front. IsShort names.interfaces.now names.nodes.now front (fate_seen c.view-fate.result) leg end) c.loop-number.invariant.front w.in-Some.ensures in
          let more : w.put_full.new.out.items ++ take w.in_ok-at-in-Some.at w.lay_line-end.new.list ≡ before ++ line_text (packet_line number line) =
          w.in_ok-at-in-Some.ensures.all
          ∙ laid_behind c.loop-number.out.items before c.loop-number.window _ _ c.loop-number.at refl w.lay_line-end.ensures.laid
          ∙ ap (λ front. before ++ ((codes "packet " ++ decimal front) ++ 32 ∷ (leg_text leg ++ end))) c.loop-number.invariant.front
          ∙ ap (λ l. before ++ l) (short_line names.interfaces.now names.nodes.now number (fate_seen c.view-fate.result) leg end short) in
          let now : c.match-short_of.out.items ++ take c.match-short_of.at c.match-short_of.window ≡ w.put_full.new.out.items ++ take w.in_ok-at-in-Some.at w.lay_line-end.new.list =
          ap (λ o. o.items ++ take c.match-short_of.at c.match-short_of.window) w.out-is
          ∙ ap (λ a. w.put_full.new.out.items ++ take a c.match-short_of.window) w.at-is
          ∙ ap (λ l. w.put_full.new.out.items ++ take w.in_ok-at-in-Some.at l) w.window-is in
          record {
            text = one_more_line packet_line lines number line c.args.out.now.items before _ inside nth c.loop-number.invariant.text (now ∙ more);
            room = let room = w.in_ok-at-in-Some.ensures.room in let is = w.at-is in omega (arith, room, is);
            front = front;
            ready = subst (λ d. IfSome d (IsReady names.interfaces.now names.nodes.now)) (sym w.dropped-is) c.loop-number.invariant.ready;
          }
      | in-None+in_ok-put_behind-in-None+in_ok-dropped-in-None w ↦
          let same : fate_seen w.view-other.result ≡ fate_seen c.view-fate.result =
          ap (λ (found : Option Fate). unwrap_or found (fate_seen c.view-fate.result)) (sym w.view-other.ensures ∙ c.view-fate.ensures) in
          let now : c.match-short_of.out.items ++ take c.match-short_of.at c.match-short_of.window ≡ w.put_behind.new.out.items =
          ap (λ o. o.items ++ take c.match-short_of.at c.match-short_of.window) w.out-is
          ∙ ap (λ a. w.put_behind.new.out.items ++ take a c.match-short_of.window) w.at-is
          ∙ append-nil w.put_behind.new.out.items in
          record {
            text = one_more_line packet_line lines number line c.args.out.now.items before _ inside nth c.loop-number.invariant.text (now ∙ w.in_ok-put_behind-in-None.ensures ∙ ap (λ fate. before ++ line_text (packet_line number (by fate))) same);
            room = let is = w.at-is in omega (arith, is);
            front = front;
            ready = subst (λ d. IfSome d (IsReady names.interfaces.now names.nodes.now)) (sym w.dropped-is) w.in_ok-dropped-in-None.ensures;
          }
    ]
