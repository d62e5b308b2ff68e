-- For `address`: a text with a part that is no byte, and one of four bytes.
use Rattle.std.proofs.Common.{sym, ap, ◌∙◌}
use Rattle.std.specs.Prelude.{option_map, Some}
use Rattle.std.specs.Int.{w32, from_be_bytes}
use Rattle.vg_script.proofs.FrontLemmas.{both, no_byte, one_byte, last_byte}
use Rattle.vg_script.proofs.classes.address.Goals as goal

pub returns-in_err-first : goal.returns-in_err-first
returns-in_err-first c = c.from_residual.ensures ∙ sym (ap (option_map (from_be_bytes w32)) (no_byte c.args.text.now 2 c.in_err-first.ensures))

pub returns-in_err-second : goal.returns-in_err-second
returns-in_err-second c =
    c.from_residual-in_err-second.ensures
    ∙ sym (ap (option_map (from_be_bytes w32))
    (one_byte c.args.text.now 2 c.in_ok-first.ensures.0 c.in_ok-first.ensures.1
    ∙ ap (both (Some c.in_ok-first.first)) (no_byte c.in_ok-first.rest.now 1 c.in_err-second.ensures)))

pub returns-in_err-third : goal.returns-in_err-third
returns-in_err-third c =
    c.from_residual-in_err-third.ensures
    ∙ sym (ap (option_map (from_be_bytes w32))
    (one_byte c.args.text.now 2 c.in_ok-first.ensures.0 c.in_ok-first.ensures.1
    ∙ ap (both (Some c.in_ok-first.first)) (one_byte c.in_ok-first.rest.now 1 c.in_ok-second.ensures.0 c.in_ok-second.ensures.1
    ∙ ap (both (Some c.in_ok-second.second)) (no_byte c.in_ok-second.rest.now 0 c.in_err-third.ensures))))

pub returns-in_err-fourth : goal.returns-in_err-fourth
returns-in_err-fourth c =
    c.from_residual-in_err-fourth.ensures
    ∙ sym (ap (option_map (from_be_bytes w32))
    (one_byte c.args.text.now 2 c.in_ok-first.ensures.0 c.in_ok-first.ensures.1
    ∙ ap (both (Some c.in_ok-first.first)) (one_byte c.in_ok-first.rest.now 1 c.in_ok-second.ensures.0 c.in_ok-second.ensures.1
    ∙ ap (both (Some c.in_ok-second.second)) (one_byte c.in_ok-second.rest.now 0 c.in_ok-third.ensures.0 c.in_ok-third.ensures.1
    ∙ ap (both (Some c.in_ok-third.third)) (last_byte c.in_ok-third.rest.now c.in_err-fourth.ensures)))))

pub returns : goal.returns
returns c =
    ap Some c.from_be_bytes.ensures
    ∙ sym (ap (option_map (from_be_bytes w32))
    (one_byte c.args.text.now 2 c.in_ok-first.ensures.0 c.in_ok-first.ensures.1
    ∙ ap (both (Some c.in_ok-first.first)) (one_byte c.in_ok-first.rest.now 1 c.in_ok-second.ensures.0 c.in_ok-second.ensures.1
    ∙ ap (both (Some c.in_ok-second.second)) (one_byte c.in_ok-second.rest.now 0 c.in_ok-third.ensures.0 c.in_ok-third.ensures.1
    ∙ ap (both (Some c.in_ok-third.third)) (last_byte c.in_ok-third.rest.now c.in_ok-fourth.ensures)))))
