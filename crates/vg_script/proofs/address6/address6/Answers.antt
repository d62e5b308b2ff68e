use Rattle.std.proofs.Common.{◌+◌, ◌<◌, length, take, drop, sym, ap, subst, ◌∙◌}
use Rattle.std.specs.Prelude.{IfSome, option_map}
use Rattle.std.proofs.lemmas.List.{take_rest}
use Rattle.vg_script.specs.Address6.{groups_of, number_of_groups, eight_groups, filled_up, ◌>>=◌}
use Rattle.vg_script.proofs.PartLemmas.{long_is_not_eight, long_before, long_behind}
use Rattle.vg_script.proofs.address6.address6.Goals as goal

pub returns-in_err-groups-in-None : goal.returns-in_err-groups-in-None
returns-in_err-groups-in-None c =
    c.from_residual.ensures
    ∙ sym (ap (λ s. option_map number_of_groups (eight_groups c.args.text.now s)) c.in-None.ensures
    ∙ ap (option_map number_of_groups) (long_is_not_eight (groups_of c.args.text.now) c.in_err-groups-in-None.ensures))

pub returns-in_err-before-in-Some : goal.returns-in_err-before-in-Some
returns-in_err-before-in-Some c =
    let text = c.args.text.now in
    let place = c.in-Some.place in
    c.from_residual-in_err-before-in-Some.ensures
    ∙ sym (ap (λ s. option_map number_of_groups (eight_groups text s)) c.in-Some.ensures.1
    ∙ ap (option_map number_of_groups) (long_before (groups_of (take place text)) (groups_of (drop (place + 2) text)) c.in_err-before-in-Some.ensures))

pub returns-in_err-behind-in-Some : goal.returns-in_err-behind-in-Some
returns-in_err-behind-in-Some c =
    let text = c.args.text.now in
    let place = c.in-Some.place in
    let long : IfSome (groups_of (drop (place + 2) text)) (λ gs. 8 < length gs) =
    subst (λ t. IfSome (groups_of t) (λ gs. 8 < length gs)) (take_rest text (place + 2)) c.in_err-behind-in-Some.ensures in
    c.from_residual-in_err-behind-in-Some.ensures
    ∙ sym (ap (λ s. option_map number_of_groups (eight_groups text s)) c.in-Some.ensures.1
    ∙ ap (λ o. option_map number_of_groups (o >>= λ before. groups_of (drop (place + 2) text) >>= λ behind. filled_up before behind)) c.in_ok-before-in-Some.ensures
    ∙ ap (option_map number_of_groups) (long_behind c.in_ok-before-in-Some.before.items (groups_of (drop (place + 2) text)) long))
