use Rattle.std.proofs.Common.{◌≡◌, ◌∙◌, ℕ, ◌+◌, ◌-◌, ◌≤◌, refl, sym, ap, subst, arith, List, [], ◌∷◌, ◌++◌, length, length-append, append-nil}
use Rattle.rand_xoshiro.specs.SplitMix64.{mix_u64}
use Rattle.vg_capture.specs.declared.captures.Captured.{Captured}
use Rattle.vg_load.specs.Packets.{load_packet, load_packets, packets_from}
use Rattle.vg_load.proofs.PacketLemmas.{made_more, no_packet}
use Rattle.vg_load.proofs.packets.load_capture.Goals as goal

pub loop-number-preserved : goal.loop-number-preserved
loop-number-preserved c =
    let total : ℕ = c.args.packets in
    let number : ℕ = c.loop-number.number in
    let made : List Captured = c.loop-number.made.items in
    let state : ℕ = c.loop-number.words in
    let packet : Captured = c.in_ok-packet.packet in
    let pushed : c.push.new.self.items ≡ made ++ packet ∷ [] = c.in_ok-push.ensures.items in
    let word : c.next_word.result ≡ (mix_u64 state).0 = ap (λ (p : ℕ × ℕ). p.0) c.next_word.ensures in
    let after : c.next_word.new.self ≡ (mix_u64 state).1 = ap (λ (p : ℕ × ℕ). p.1) c.next_word.ensures in
    let is : packet ≡ load_packet number (mix_u64 state).0 = c.in_ok-packet.ensures ∙ ap (load_packet number) word in (
      ap (λ items. items ++ packets_from (total - (number + 1)) (number + 1) c.next_word.new.self) pushed
          ∙ made_more made total number state packet c.next_word.new.self c.loop-number-test.true is after
          ∙ c.loop-number.invariant.0,
      (
          let longer : length c.push.new.self.items ≡ length made + 1 = ap length pushed ∙ length-append made (packet ∷ []) in
          let before = c.loop-number.invariant.1 in
          omega (arith, longer, before)
          ),
      omega (arith, c.loop-number-test.true),
    )

pub of-requires : goal.of-requires
of-requires c =
    let as_made : length c.as_slice.result.now ≡ length c.loop-number.made.items = ap length c.as_slice.ensures.value in
    let made = c.loop-number.invariant.1 in
    let few = c.loop-number.invariant.2 in
    let most = c.requires in
    omega (arith, as_made, made, few, most)

pub returns : goal.returns
returns c =
    let number : ℕ = c.loop-number.number in
    let made : List Captured = c.loop-number.made.items in
    let few = c.loop-number.invariant.2 in
    let none : c.args.packets - number ≡ 0 = (let end = c.loop-number-test.false in omega (arith, few, end)) in
    let all : made ≡ load_packets c.args.seed c.args.packets =
    sym (append-nil made) ∙ ap (λ l. made ++ l) (sym (no_packet number c.loop-number.words))
    ∙ ap (λ n. made ++ packets_from n number c.loop-number.words) (sym none)
    ∙ c.loop-number.invariant.0 in
    record { micros = refl; snaplen = refl; made = c.in_ok-packets.ensures ∙ c.as_slice.ensures.value ∙ all }
