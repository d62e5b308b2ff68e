use Rattle.std.proofs.lemmas.Result.{err_from_is_err_and}
use Rattle.vg_files.proofs.ScriptLemmas.{made_plan, refused_plan, text_refused}
use Rattle.vg_files.proofs.reading.read_script.Goals as goal

pub returns : goal.returns
returns c = record {
  plan = made_plan c.args.text.now c.in_ok-script.script c.new.result c.in_ok-script.ensures.exact c.new.ensures.script c.new.ensures.made;
  refused = refused_plan c.args.text.now c.in_ok-script.script c.new.result c.in_ok-script.ensures.exact c.new.ensures.refused;
}

pub returns-in_err-script : goal.returns-in_err-script
returns-in_err-script c =
    let p = err_from_is_err_and c.from_residual.result c.from_residual.ensures.1 in
    record {
      plan = rw p.1 tt;
      refused = rw (p.1, p.2) (text_refused c.args.text.now _ c.in_err-script.ensures.exact);
    }
