use Rattle.std.proofs.Common.{◌≡◌, ◌∙◌, ap, ap₂, true, codes}
use Rattle.std.proofs.lemmas.Result.{IfOk-weaker}
use Rattle.clap.specs.Simple.{App, app_of, app_of_fields, on_top, with_rule}
use Rattle.vg_words.specs.Parser.{plain_app, with_option}
use Rattle.vg_words.proofs.reading.run_parser.Goals as goal

abbrev no_help : App → App
no_help = on_top (λ shape. record shape { disable_help_flag = true })

pub returns : goal.returns
returns c =
    let plain : app_of c.disable_help_flag.result ≡ plain_app (codes "run") = ap app_of_fields c.disable_help_flag.ensures ∙ ap no_help c.new.ensures.app in
    let workers : app_of c.in_ok-arg.field-0 ≡ with_option (plain_app (codes "run")) (codes "workers") =
    c.in_ok-arg.ensures.shape c.an_option.ensures.local ∙ ap₂ with_rule plain c.an_option.ensures.rule in
    let buffers : app_of c.in_ok-arg-2.field-0 ≡ with_option (with_option (plain_app (codes "run")) (codes "workers")) (codes "buffers") =
    c.in_ok-arg-2.ensures.shape c.an_option-2.ensures.local ∙ ap₂ with_rule workers c.an_option-2.ensures.rule in
    let queue = c.in_ok-arg-3.ensures.shape c.an_option-3.ensures.local ∙ ap₂ with_rule buffers c.an_option-3.ensures.rule in
    let burst = c.in_ok-arg-4.ensures.shape c.an_option-4.ensures.local ∙ ap₂ with_rule queue c.an_option-4.ensures.rule in
    let trace = c.in_ok-arg-5.ensures.shape c.an_option-5.ensures.local ∙ ap₂ with_rule burst c.an_option-5.ensures.rule in
    let turns = c.in_ok-arg-6.ensures.shape c.an_option-6.ensures.local ∙ ap₂ with_rule trace c.an_option-6.ensures.rule in
    let hold = c.in_ok-arg-7.ensures.shape c.a_flag.ensures.local ∙ ap₂ with_rule turns c.a_flag.ensures.rule in
    let capture = c.in_ok-arg-8.ensures.shape c.a_name.ensures.local ∙ ap₂ with_rule hold c.a_name.ensures.rule in
    let script = c.in_ok-arg-9.ensures.shape c.a_name-2.ensures.local ∙ ap₂ with_rule capture c.a_name-2.ensures.rule in
    IfOk-weaker c.arg-10.result _ _ (λ parser added. added.shape c.a_name-3.ensures.local ∙ ap₂ with_rule script c.a_name-3.ensures.rule) c.arg-10.ensures
