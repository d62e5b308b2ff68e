-- The parser of the words of `run`.
use Rattle.std.specs.Prelude.{true, codes, Option, Some}
use Rattle.clap.specs.Walk.{Rule, Text}
use Rattle.clap.specs.declared.builder.action.ArgAction.TheVariants.{SetTrue}
use Rattle.clap.specs.Simple.{App, new_app, new_rule, on_top, with_rule}
use Rattle.vg_words.specs.Command.{◌>>=◌, Run, run_by}

-- an option `--name VALUE`
abbrev pub option_rule : Text → Rule
option_rule name = record (new_rule name) { long = Some name }

-- a flag `--name`
abbrev pub flag_rule : Text → Rule
flag_rule name = record (new_rule name) { long = Some name; action = Some SetTrue }

-- a name that must be there
abbrev pub name_rule : Text → Rule
name_rule name = record (new_rule name) { required = true }

-- a command without a help flag
abbrev pub plain_app : Text → App
plain_app name = on_top (λ shape. record shape { disable_help_flag = true }) (new_app name)

abbrev pub with_option : App → Text → App
with_option app name = with_rule app (option_rule name)

abbrev pub with_flag : App → Text → App
with_flag app name = with_rule app (flag_rule name)

abbrev pub with_name : App → Text → App
with_name app name = with_rule app (name_rule name)

-- `run`: its options, and its names in their order
abbrev pub run_app : App
run_app =
    with_name (with_name (with_name (with_flag
    (with_option (with_option (with_option (with_option (with_option (with_option (plain_app (codes "run"))
    (codes "workers")) (codes "buffers")) (codes "queue")) (codes "burst")) (codes "trace")) (codes "turns")) (codes "hold"))
    (codes "capture")) (codes "script")) (codes "tx")

-- the run that the parser's options and names say, by what value each has
abbrev pub run_found : (Text → Option Text) → Option Run
run_found value = do
  capture ← value (codes "capture")
  script ← value (codes "script")
  tx ← value (codes "tx")
  run_by value capture script tx
