use Rattle.std.proofs.Common.{[], ◌∷◌, codes, decimal, if◌then◌else◌}
use Rattle.std.proofs.lemmas.Result.{on_ok_weaker}
use Rattle.vg_script.specs.Plain.{mac_text}
use Rattle.vg_script.proofs.PrintLemmas.{interface_steps}
use Rattle.vg_script.proofs.writing.put_interface.Goals as goal

pub returns : goal.returns
returns c =
    on_ok_weaker c.end_line.result (λ e. cc (
      e,
      c.in_ok-put.ensures,
      c.in_ok-put_word.ensures,
      c.in_ok-put_word-2.ensures,
      c.in_ok-put_mac.ensures,
      c.in_ok-put_word-3.ensures,
      c.in_ok-put_number.ensures,
      c.in_ok-put_up_or_down.ensures,
      c.in_ok-put_filter.ensures,
      c.bytes.ensures.bytes,
      interface_steps c.args.out.now.items c.args.name.now (mac_text c.args.mac) (decimal c.args.mtu)
          (if c.args.up then codes "up" else codes "down") (if c.args.filter then codes "filter" ∷ [] else []),
    ))
    c.end_line.ensures
