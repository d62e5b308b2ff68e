use Rattle.std.proofs.Common.{sym}
use Rattle.vg_script.specs.Address6.{address6_of}
use Rattle.vg_script.proofs.ClassLemmas.{HasAddressAndLength, prefix6_read, prefix6_refused}
use Rattle.vg_script.proofs.classes.prefix6.Goals as goal

pub returns-then-not-has_no_host_bits : goal.returns-then-not-has_no_host_bits
returns-then-not-has_no_host_bits c =
    let has : HasAddressAndLength address6_of 128 c.args.word.now c.in_ok-addr.addr c.in_ok-len.len = record {
      front = c.split_at_first.result.0.now;
      back = c.split_at_first.result.1.now;
      cut = record { before = c.split_at_first.ensures.before; after = c.split_at_first.ensures.after };
      addr_is = c.in_ok-addr.ensures;
      len_is = c.in_ok-len.ensures.value;
    } in
    prefix6_refused c.args.word.now c.in_ok-addr.addr c.in_ok-len.len has c.in_ok-len.ensures.within (sym c.if-not-has_no_host_bits.ensures)

pub returns : goal.returns
returns c =
    let has : HasAddressAndLength address6_of 128 c.args.word.now c.in_ok-addr.addr c.in_ok-len.len = record {
      front = c.split_at_first.result.0.now;
      back = c.split_at_first.result.1.now;
      cut = record { before = c.split_at_first.ensures.before; after = c.split_at_first.ensures.after };
      addr_is = c.in_ok-addr.ensures;
      len_is = c.in_ok-len.ensures.value;
    } in
    prefix6_read c.args.word.now c.in_ok-addr.addr c.in_ok-len.len has _ _
