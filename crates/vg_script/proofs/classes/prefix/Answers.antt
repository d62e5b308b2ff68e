use Rattle.std.proofs.Common.{◌≢◌, ◌-◌, ◌%◌, ◌^◌, arith}
use Rattle.std.proofs.lemmas.Grind.{common_steps}
use Rattle.vg_script.specs.Classes.{address_of}
use Rattle.vg_script.proofs.ClassLemmas.{HasAddressAndLength, prefix_read, prefix_refused}
use Rattle.vg_script.proofs.classes.prefix.Goals as goal

pub returns-then-from-step-ne0 : goal.returns-then-from-step-ne0
returns-then-from-step-ne0 c =
    let set : c.in_ok-addr.addr % 2 ^ (32 - c.in_ok-len.len) ≢ 0 = λ h. grind (arith, common_steps) in
    let has : HasAddressAndLength address_of 32 c.args.word.now c.in_ok-addr.addr c.in_ok-len.len = record {
      front = c.split_at_first.result.0.now;
      back = c.split_at_first.result.1.now;
      cut = record { before = c.split_at_first.ensures.before; after = c.split_at_first.ensures.after };
      addr_is = c.in_ok-addr.ensures;
      len_is = c.in_ok-len.ensures.value;
    } in
    prefix_refused c.args.word.now c.in_ok-addr.addr c.in_ok-len.len has c.in_ok-len.ensures.within set

pub returns : goal.returns
returns c =
    let has : HasAddressAndLength address_of 32 c.args.word.now c.in_ok-addr.addr c.in_ok-len.len = record {
      front = c.split_at_first.result.0.now;
      back = c.split_at_first.result.1.now;
      cut = record { before = c.split_at_first.ensures.before; after = c.split_at_first.ensures.after };
      addr_is = c.in_ok-addr.ensures;
      len_is = c.in_ok-len.ensures.value;
    } in
    prefix_read c.args.word.now c.in_ok-addr.addr c.in_ok-len.len has _ _
