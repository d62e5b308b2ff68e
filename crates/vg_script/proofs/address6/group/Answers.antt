use Rattle.std.proofs.Common.{◌<◌, length, subst, sym, true, arith, rules, tests}
use Rattle.std.specs.Char.{is_ascii_hexdigit}
use Rattle.std.specs.Str.Parse.{ParsesUnsigned}
use Rattle.std.proofs.lemmas.Bool.Decides.{nat_tests}
use Rattle.std.proofs.lemmas.Iterator.{YieldsList-from_slice}
use Rattle.std.proofs.lemmas.Iterator.Search.{all_from_yields_List}
use Rattle.vg_script.proofs.ClassLemmas.{hexdigits_are_utf8, group_ok, group_err}
use Rattle.vg_script.proofs.address6.group.Goals as goal

pub returns-in_default : goal.returns-in_default
returns-in_default c =
    let text = c.args.text.now in
    let all = all_from_yields_List is_ascii_hexdigit _ _ true c.if-not-all.ensures.ran (YieldsList-from_slice text cc) (λ x b q k. search (rules, tests)) in
    absurd (c.in_default.ensures.cases.0 (hexdigits_are_utf8 text (sym all)))

pub returns-in-Ok-from_str_radix : goal.returns-in-Ok-from_str_radix
returns-in-Ok-from_str_radix c =
    let text = c.args.text.now in
    let some : 0 < length text = grind (arith, nat_tests, c.if-is_empty.ensures) in
    let all = all_from_yields_List is_ascii_hexdigit _ _ true c.if-not-all.ensures.ran (YieldsList-from_slice text cc) (λ x b q k. search (rules, tests)) in
    group_ok text c.from_str_radix.result c.in-Ok-from_str_radix.group (record { some = some; few = omega arith; digits = sym all })
    (subst (λ t. ParsesUnsigned 16 16 t c.from_str_radix.result) c.in-Ok.ensures.cases.0 c.from_str_radix.ensures.value) c.in-Ok-from_str_radix.is

pub returns-in-Err : goal.returns-in-Err
returns-in-Err c =
    let text = c.args.text.now in
    let some : 0 < length text = grind (arith, nat_tests, c.if-is_empty.ensures) in
    let all = all_from_yields_List is_ascii_hexdigit _ _ true c.if-not-all.ensures.ran (YieldsList-from_slice text cc) (λ x b q k. search (rules, tests)) in
    group_err text c.from_str_radix.result c.in-Err.field-0 (record { some = some; few = omega arith; digits = sym all })
    (subst (λ t. ParsesUnsigned 16 16 t c.from_str_radix.result) c.in-Ok.ensures.cases.0 c.from_str_radix.ensures.value) c.in-Err.is
