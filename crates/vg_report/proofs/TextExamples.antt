-- Worked examples of texts, computed from the definitions.
use Rattle.std.proofs.Common.{◌≡◌, ℕ, ◌++◌, List, [], ◌∷◌, refl}
use Rattle.std.specs.Prelude.{flat_map, codes, Some}
use Rattle.std.specs.Fmt.{digits}
use Rattle.vg_model.specs.declared.kinds.DropError.TheVariants as errors
use Rattle.vg_report.specs.declared.reports.PacketEnd.TheVariants as ends
use Rattle.vg_report.specs.Text.{text, line_text, interface_line, node_line, error_line, packet_line, trace_line}
use Rattle.vg_report.specs.Examples.{at, ended, two_of_three_sent, one_refused, every_kind_of_line}

-- the text of these lines
abbrev pub of_lines : List (List ℕ) → List ℕ
of_lines ls = flat_map (λ l. l ++ 10 ∷ []) ls

two_of_three_sent_text : text two_of_three_sent ≡ of_lines (codes "vgd report 1" ∷ codes "workers 1" ∷ codes "buffers 4096" ∷ codes "generations 1"
    ∷ codes "packets 3" ∷ codes "interface 0 pg0 tx 2" ∷ codes "node 0 pg-input 3" ∷ codes "node 1 handoff-dequeue 0"
    ∷ codes "node 2 ethernet-input 3" ∷ codes "node 3 ip4-input 0" ∷ codes "node 4 ip4-lookup 0" ∷ codes "node 5 ip4-rewrite 0"
    ∷ codes "node 6 interface-output 0" ∷ codes "node 7 interface-tx 2" ∷ codes "node 8 error-drop 1"
    ∷ codes "error ethernet-input unknown-type 1" ∷ codes "packet 0 0:0 tx pg0" ∷ codes "packet 1 0:0 tx pg0"
    ∷ codes "packet 2 0:0 drop ethernet-input unknown-type" ∷ codes "end" ∷ [])
unfolding digits
two_of_three_sent_text = refl

one_refused_text : text one_refused ≡ of_lines (codes "vgd report 1" ∷ codes "workers 2" ∷ codes "buffers 4096" ∷ codes "generations 1"
    ∷ codes "packets 5" ∷ codes "interface 0 pg0 tx 4" ∷ codes "node 0 pg-input 5" ∷ codes "node 1 handoff-dequeue 2"
    ∷ codes "node 2 ethernet-input 4" ∷ codes "node 3 ip4-input 0" ∷ codes "node 4 ip4-lookup 0" ∷ codes "node 5 ip4-rewrite 0"
    ∷ codes "node 6 interface-output 0" ∷ codes "node 7 interface-tx 4" ∷ codes "node 8 error-drop 1" ∷ codes "node 9 hand 5"
    ∷ codes "error hand congestion 1" ∷ codes "packet 0 0:0,1:0 tx pg0" ∷ codes "packet 1 1:0 tx pg0"
    ∷ codes "packet 2 0:0 congested 1 drop hand congestion" ∷ codes "packet 3 1:0 tx pg0" ∷ codes "packet 4 0:0,1:0 tx pg0"
    ∷ codes "trace 0 pg-input hand handoff-dequeue ethernet-input interface-tx" ∷ codes "trace 1 pg-input hand ethernet-input interface-tx"
    ∷ codes "trace 2 pg-input hand error-drop" ∷ codes "end" ∷ [])
unfolding digits
one_refused_text = refl

every_kind_of_line_text : text every_kind_of_line ≡ of_lines (codes "vgd report 1" ∷ codes "workers 2" ∷ codes "buffers 768" ∷ codes "generations 2"
    ∷ codes "packets 3" ∷ codes "interface 0 pg0 tx 0" ∷ codes "interface 1 west tx 1" ∷ codes "node 0 pg-input 3" ∷ codes "node 1 error-drop 2"
    ∷ codes "node 2 hand 6" ∷ codes "error hand congestion 1" ∷ codes "error hand handoff-limit 1" ∷ codes "packet 0 0:0,1:1 tx west"
    ∷ codes "packet 1 1:0 congested 64 drop hand congestion" ∷ codes "packet 2 0:1,1:1,0:1,1:1 drop hand handoff-limit"
    ∷ codes "trace 0 pg-input hand" ∷ codes "trace 1 pg-input hand error-drop" ∷ codes "end" ∷ [])
unfolding digits
every_kind_of_line_text = refl

-- lines alone

a_second_interface : line_text (interface_line 1 (codes "west", 150)) ≡ codes "interface 1 west tx 150\n"
unfolding digits
a_second_interface = refl

the_greatest_count : line_text (node_line 63 (codes "a.b_c-D", 9223372036854775807)) ≡ codes "node 63 a.b_c-D 9223372036854775807\n"
unfolding digits
the_greatest_count = refl

an_error : line_text (error_line (codes "error-drop", errors.Blackhole, 2)) ≡ codes "error error-drop blackhole 2\n"
unfolding digits
an_error = refl

a_later_generation : line_text (packet_line 0 (ended (at 0 0 ∷ at 1 1 ∷ []) (ends.Dropped (codes "error-drop") errors.Blackhole)))
    ≡ codes "packet 0 0:0,1:1 drop error-drop blackhole\n"
unfolding digits
a_later_generation = refl

four_legs : line_text (packet_line 0 (ended (at 0 0 ∷ at 1 0 ∷ at 0 0 ∷ at 1 0 ∷ []) (ends.Dropped (codes "h4") errors.HandoffLimit)))
    ≡ codes "packet 0 0:0,1:0,0:0,1:0 drop h4 handoff-limit\n"
unfolding digits
four_legs = refl

the_widest_numbers : line_text (packet_line 65535 (record { legs = at 7 999 ∷ []; congested = Some 4611686018427387903; end = ends.Dropped (codes "hand") errors.Congestion }))
    ≡ codes "packet 65535 7:999 congested 4611686018427387903 drop hand congestion\n"
unfolding digits
the_widest_numbers = refl

a_trace : line_text (trace_line 2 (codes "pg-input" ∷ codes "hand" ∷ codes "handoff-dequeue" ∷ codes "ethernet-input" ∷ codes "ip4-input" ∷ codes "ip4-lookup"
    ∷ codes "ip4-rewrite" ∷ codes "interface-output" ∷ codes "interface-tx" ∷ []))
    ≡ codes "trace 2 pg-input hand handoff-dequeue ethernet-input ip4-input ip4-lookup ip4-rewrite interface-output interface-tx\n"
unfolding digits
a_trace = refl
