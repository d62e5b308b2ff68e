use Rattle.std.proofs.lemmas.Result.{on_ok_weaker}
use Rattle.vg_script.specs.Plain.{prefix6_text, target_words}
use Rattle.vg_script.proofs.PrintLemmas.{route6_steps}
use Rattle.vg_script.proofs.writing.put_route6.Goals as goal

pub returns : goal.returns
returns c =
    on_ok_weaker c.end_line.result (λ e. cc (
      e,
      c.in_ok-put.ensures,
      c.in_ok-put_prefix6.ensures,
      c.in_ok-put_target.ensures,
      route6_steps c.args.out.now.items (prefix6_text c.args.prefix) (target_words c.args.to.now),
    ))
    c.end_line.ensures
