-- Worked examples of reading, computed from the definitions.
use Rattle.std.proofs.Common.{◌≡◌, ℕ, ◌-◌, ◌++◌, List, [], ◌∷◌, take, refl}
use Rattle.std.specs.Prelude.{codes, slice_set, Ok}
use Rattle.std.specs.Fmt.{digits}
use Rattle.vg_report.specs.declared.errors.ReportCause.{ReportCause}
use Rattle.vg_report.specs.declared.errors.ReportCause.TheVariants as causes
use Rattle.vg_report.specs.Examples.{two_of_three_sent, one_refused, every_kind_of_line}
use Rattle.vg_report.specs.Reading.{report_of, refused}
use Rattle.vg_report.specs.Text.{text}
use Rattle.vg_report.proofs.TextExamples.{of_lines}

-- whole reports

two_of_three_sent_is_read : report_of (text two_of_three_sent) ≡ Ok two_of_three_sent
unfolding digits
two_of_three_sent_is_read = refl

one_refused_is_read : report_of (text one_refused) ≡ Ok one_refused
unfolding digits
one_refused_is_read = refl

every_kind_of_line_is_read : report_of (text every_kind_of_line) ≡ Ok every_kind_of_line
unfolding digits
every_kind_of_line_is_read = refl

-- the lines of a report with every kind of line
abbrev whole : List (List ℕ)
whole =
    codes "vgd report 1" ∷ codes "workers 2" ∷ codes "buffers 768" ∷ codes "generations 2" ∷ codes "packets 3"
    ∷ codes "interface 0 pg0 tx 0" ∷ codes "interface 1 west tx 1" ∷ codes "node 0 pg-input 3" ∷ codes "node 1 error-drop 2" ∷ codes "node 2 hand 6"
    ∷ codes "error hand congestion 1" ∷ codes "error hand handoff-limit 1" ∷ codes "packet 0 0:0,1:1 tx west"
    ∷ codes "packet 1 1:0 congested 64 drop hand congestion" ∷ codes "packet 2 0:1,1:1,0:1,1:1 drop hand handoff-limit"
    ∷ codes "trace 0 pg-input hand" ∷ codes "trace 1 pg-input hand error-drop" ∷ codes "end" ∷ []

-- its text without its last line
abbrev text_without_end : List ℕ
text_without_end = of_lines (take 17 whole)

-- with another line in place of one, the report is refused there for this cause
IsFault : (line : ℕ) → List ℕ → ReportCause → Type 0
IsFault line text cause = report_of (of_lines (slice_set whole (line - 1) text)) ≡ refused line cause

-- the text is refused
IsRefused : List ℕ → (line : ℕ) → ReportCause → Type 0
IsRefused text line cause = report_of text ≡ refused line cause

-- a word is missing, is too many or isn't the fixed one

another_version : IsFault 1 (codes "vgd report 2") causes.Form
unfolding IsFault
another_version = refl

a_missing_word : IsFault 2 (codes "workers") causes.Form
unfolding IsFault
a_missing_word = refl

a_word_too_many : IsFault 2 (codes "workers 2 3") causes.Form
unfolding IsFault
a_word_too_many = refl

another_word : IsFault 2 (codes "worker 2") causes.Form
unfolding IsFault
another_word = refl

two_spaces : IsFault 2 (codes "workers  2") causes.Form
unfolding IsFault
two_spaces = refl

a_space_at_the_end : IsFault 2 (codes "workers 2 ") causes.Form
unfolding IsFault
a_space_at_the_end = refl

a_tab : IsFault 2 (codes "workers\t2") causes.Form
unfolding IsFault
a_tab = refl

an_empty_line : IsFault 2 (codes "") causes.Form
unfolding IsFault
an_empty_line = refl

no_name : IsFault 6 (codes "interface 0") causes.Form
unfolding IsFault
no_name = refl

no_tx : IsFault 6 (codes "interface 0 pg0 0") causes.Form
unfolding IsFault
no_tx = refl

end_with_a_word : IsFault 18 (codes "end 1") causes.Form
unfolding IsFault
end_with_a_word = refl

a_trace_of_no_node : IsFault 17 (codes "trace 1") causes.Form
unfolding IsFault
a_trace_of_no_node = refl

another_end_of_a_packet : IsFault 13 (codes "packet 0 0:0,1:1 sent west") causes.Form
unfolding IsFault
another_end_of_a_packet = refl

-- a line of a kind that can't follow

a_node_before_interfaces : IsFault 6 (codes "node 0 pg0 0") causes.Form
unfolding IsFault
a_node_before_interfaces = refl

an_interface_behind_nodes : IsFault 9 (codes "interface 2 east tx 0") causes.Form
unfolding IsFault
an_interface_behind_nodes = refl

a_node_behind_errors : IsFault 12 (codes "node 3 hand2 0") causes.Form
unfolding IsFault
a_node_behind_errors = refl

an_error_behind_packets : IsFault 14 (codes "error hand blackhole 1") causes.Form
unfolding IsFault
an_error_behind_packets = refl

a_trace_before_all_packets : IsFault 15 (codes "trace 0 pg-input") causes.Form
unfolding IsFault
a_trace_before_all_packets = refl

a_packet_too_many : IsFault 16 (codes "packet 3 0:0 tx pg0") causes.Form
unfolding IsFault
a_packet_too_many = refl

an_end_before_all_packets : IsFault 15 (codes "end") causes.Form
unfolding IsFault
an_end_before_all_packets = refl

another_line : IsFault 13 (codes "packets 3") causes.Form
unfolding IsFault
another_line = refl

a_seventeenth_interface : IsRefused (of_lines (codes "vgd report 1" ∷ codes "workers 1" ∷ codes "buffers 0" ∷ codes "generations 1" ∷ codes "packets 0"
    ∷ codes "interface 0 i0 tx 0"
    ∷ codes "interface 1 i1 tx 0"
    ∷ codes "interface 2 i2 tx 0"
    ∷ codes "interface 3 i3 tx 0"
    ∷ codes "interface 4 i4 tx 0"
    ∷ codes "interface 5 i5 tx 0"
    ∷ codes "interface 6 i6 tx 0"
    ∷ codes "interface 7 i7 tx 0"
    ∷ codes "interface 8 i8 tx 0"
    ∷ codes "interface 9 i9 tx 0"
    ∷ codes "interface 10 i10 tx 0"
    ∷ codes "interface 11 i11 tx 0"
    ∷ codes "interface 12 i12 tx 0"
    ∷ codes "interface 13 i13 tx 0"
    ∷ codes "interface 14 i14 tx 0"
    ∷ codes "interface 15 i15 tx 0"
    ∷ codes "interface 16 i16 tx 0" ∷ [])) 22 causes.Form
unfolding IsRefused
a_seventeenth_interface = refl

a_trace_without_a_packet : IsRefused (of_lines (codes "vgd report 1" ∷ codes "workers 1" ∷ codes "buffers 0" ∷ codes "generations 1" ∷ codes "packets 0"
    ∷ codes "interface 0 pg0 tx 0" ∷ codes "node 0 pg-input 0" ∷ codes "trace 0 pg-input" ∷ [])) 8 causes.Form
unfolding IsRefused
a_trace_without_a_packet = refl

-- the text ends too early or too late

no_text : IsRefused ([]) 1 causes.Form
unfolding IsRefused
no_text = refl

one_line : IsRefused (codes "vgd report 1\n") 2 causes.Form
unfolding IsRefused
one_line = refl

the_last_line_feed_is_missing : IsRefused (codes "vgd report 1\nworkers 2") 2 causes.Form
unfolding IsRefused
the_last_line_feed_is_missing = refl

a_fault_before_the_missing_line_feed : IsRefused (codes "vgd report 1\nworkers 02") 2 causes.Number
unfolding IsRefused
a_fault_before_the_missing_line_feed = refl

a_line_behind_the_end : IsRefused (of_lines whole ++ codes "\n") 19 causes.Form
unfolding IsRefused
a_line_behind_the_end = refl

bytes_behind_the_end : IsRefused (of_lines whole ++ codes "x") 19 causes.Form
unfolding IsRefused
bytes_behind_the_end = refl

the_end_without_a_line_feed : IsRefused (text_without_end ++ codes "end") 18 causes.Form
unfolding IsRefused
the_end_without_a_line_feed = refl

no_end : IsRefused text_without_end 18 causes.Form
unfolding IsRefused
no_end = refl

-- `congested` and `congestion` stand together

congested_and_transmitted : IsFault 13 (codes "packet 0 0:0 congested 1 tx west") causes.Form
unfolding IsFault
congested_and_transmitted = refl

congestion_without_congested : IsFault 14 (codes "packet 1 1:0 drop hand congestion") causes.Form
unfolding IsFault
congestion_without_congested = refl

congested_with_another_error : IsFault 14 (codes "packet 1 1:0 congested 64 drop hand short") causes.Form
unfolding IsFault
congested_with_another_error = refl

-- a number isn't in its spelling or range

no_worker : IsFault 2 (codes "workers 0") causes.Number
unfolding IsFault
no_worker = refl

nine_workers : IsFault 2 (codes "workers 9") causes.Number
unfolding IsFault
nine_workers = refl

a_zero_in_front : IsFault 2 (codes "workers 02") causes.Number
unfolding IsFault
a_zero_in_front = refl

a_letter : IsFault 2 (codes "workers two") causes.Number
unfolding IsFault
a_letter = refl

buffers_too_many : IsFault 3 (codes "buffers 16385") causes.Number
unfolding IsFault
buffers_too_many = refl

generations_too_many : IsFault 4 (codes "generations 1001") causes.Number
unfolding IsFault
generations_too_many = refl

packets_too_many : IsFault 5 (codes "packets 65537") causes.Number
unfolding IsFault
packets_too_many = refl

two_zeros : IsFault 6 (codes "interface 00 pg0 tx 0") causes.Number
unfolding IsFault
two_zeros = refl

a_count_too_great : IsFault 6 (codes "interface 0 pg0 tx 9223372036854775808") causes.Number
unfolding IsFault
a_count_too_great = refl

an_error_that_never_came : IsFault 11 (codes "error hand congestion 0") causes.Number
unfolding IsFault
an_error_that_never_came = refl

a_third_worker : IsFault 13 (codes "packet 0 2:0 tx west") causes.Number
unfolding IsFault
a_third_worker = refl

a_third_generation : IsFault 13 (codes "packet 0 0:2 tx west") causes.Number
unfolding IsFault
a_third_generation = refl

five_legs : IsFault 13 (codes "packet 0 0:0,1:0,0:0,1:0,0:0 tx west") causes.Number
unfolding IsFault
five_legs = refl

a_comma_too_many : IsFault 13 (codes "packet 0 0:0, tx west") causes.Number
unfolding IsFault
a_comma_too_many = refl

no_generation : IsFault 13 (codes "packet 0 0 tx west") causes.Number
unfolding IsFault
no_generation = refl

a_colon_too_many : IsFault 13 (codes "packet 0 0:0:0 tx west") causes.Number
unfolding IsFault
a_colon_too_many = refl

too_many_frames_accepted : IsFault 14 (codes "packet 1 1:0 congested 4611686018427387904 drop hand congestion") causes.Number
unfolding IsFault
too_many_frames_accepted = refl

-- a name isn't one, repeats or isn't declared, or there is no such error

no_such_name : IsFault 6 (codes "interface 0 p/g tx 0") causes.Unknown
unfolding IsFault
no_such_name = refl

an_interface_twice : IsFault 7 (codes "interface 1 pg0 tx 1") causes.Unknown
unfolding IsFault
an_interface_twice = refl

a_node_twice : IsFault 10 (codes "node 2 pg-input 6") causes.Unknown
unfolding IsFault
a_node_twice = refl

an_undeclared_interface : IsFault 13 (codes "packet 0 0:0,1:1 tx east") causes.Unknown
unfolding IsFault
an_undeclared_interface = refl

an_undeclared_node : IsFault 14 (codes "packet 1 1:0 drop west short") causes.Unknown
unfolding IsFault
an_undeclared_node = refl

an_error_at_an_undeclared_node : IsFault 11 (codes "error pg0 congestion 1") causes.Unknown
unfolding IsFault
an_error_at_an_undeclared_node = refl

no_such_error : IsFault 11 (codes "error hand busy 1") causes.Unknown
unfolding IsFault
no_such_error = refl

a_trace_of_an_unknown_node : IsFault 16 (codes "trace 0 pg-input pg0") causes.Unknown
unfolding IsFault
a_trace_of_an_unknown_node = refl

-- a running number or an error isn't the next

an_interface_left_out : IsFault 7 (codes "interface 2 west tx 1") causes.Order
unfolding IsFault
an_interface_left_out = refl

a_number_beyond_its_table : IsFault 6 (codes "interface 99 pg0 tx 0") causes.Order
unfolding IsFault
a_number_beyond_its_table = refl

a_number_beyond_all_bounds : IsFault 6 (codes "interface 18446744073709551616 pg0 tx 0") causes.Order
unfolding IsFault
a_number_beyond_all_bounds = refl

a_packet_twice : IsFault 14 (codes "packet 0 1:0 tx pg0") causes.Order
unfolding IsFault
a_packet_twice = refl

a_trace_left_out : IsFault 16 (codes "trace 1 pg-input hand") causes.Order
unfolding IsFault
a_trace_left_out = refl

an_error_twice : IsFault 12 (codes "error hand congestion 1") causes.Order
unfolding IsFault
an_error_twice = refl

an_earlier_error : IsFault 12 (codes "error hand short 1") causes.Order
unfolding IsFault
an_earlier_error = refl

an_error_of_an_earlier_node : IsFault 12 (codes "error error-drop handoff-limit 1") causes.Order
unfolding IsFault
an_error_of_an_earlier_node = refl

-- the first fault from left to right

an_earlier_node_and_no_such_error : IsFault 12 (codes "error error-drop busy 1") causes.Order
unfolding IsFault
an_earlier_node_and_no_such_error = refl

no_such_error_at_the_same_node : IsFault 12 (codes "error hand busy 1") causes.Unknown
unfolding IsFault
no_such_error_at_the_same_node = refl

a_number_and_a_name : IsFault 6 (codes "interface x p/g tx 0") causes.Number
unfolding IsFault
a_number_and_a_name = refl

an_order_and_a_name : IsFault 6 (codes "interface 1 p/g tx 0") causes.Order
unfolding IsFault
an_order_and_a_name = refl

a_name_and_a_word : IsFault 6 (codes "interface 0 p/g rx 0") causes.Unknown
unfolding IsFault
a_name_and_a_word = refl

legs_and_an_interface : IsFault 13 (codes "packet 0 0:9 tx east") causes.Number
unfolding IsFault
legs_and_an_interface = refl
