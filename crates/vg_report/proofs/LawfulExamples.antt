-- Worked examples of lawful and unlawful reports.
use Rattle.std.proofs.Common.{◌≡◌, ◌≤◌, ◌<◌, ◌^◌, [], ◌∷◌, true, false, refl, rules, arith}
use Rattle.std.specs.Prelude.{codes, Some}
use Rattle.std.specs.List.{IsDistinct}
use Rattle.std.proofs.lemmas.List.Sums.{AllPass-from_list_all}
use Rattle.vg_model.specs.declared.kinds.DropError.TheVariants as errors
use Rattle.vg_report.specs.declared.reports.Report.{Report}
use Rattle.vg_report.specs.declared.reports.PacketLine.{PacketLine}
use Rattle.vg_report.specs.declared.reports.PacketEnd.TheVariants as ends
use Rattle.vg_report.specs.Lawful.{IsLawful}
use Rattle.vg_report.specs.Examples.{at, ended, sent, two_of_three_sent, one_refused, every_kind_of_line}

-- the example reports are lawful

pub two_of_three_sent_lawful : IsLawful two_of_three_sent
unfolding IsDistinct
two_of_three_sent_lawful = record {
  workers = search rules;
  buffers = search rules;
  generations = search rules;
  interfaces = record { some = search rules; few = search rules; are_names = search (rules, AllPass-from_list_all); differ = search rules; small = search rules };
  nodes = record { some = search rules; few = search rules; are_names = search (rules, AllPass-from_list_all); differ = search rules; small = search rules };
  errors = search rules;
  few_packets = search rules;
  packets = search rules;
  few_traces = search rules;
  traces = search rules;
}

one_refused_lawful : IsLawful one_refused
unfolding IsDistinct
one_refused_lawful = record {
  workers = search rules;
  buffers = search rules;
  generations = search rules;
  interfaces = record { some = search rules; few = search rules; are_names = search (rules, AllPass-from_list_all); differ = search rules; small = search rules };
  nodes = record { some = search rules; few = search rules; are_names = search (rules, AllPass-from_list_all); differ = search rules; small = search rules };
  errors = search rules;
  few_packets = search rules;
  packets = search rules;
  few_traces = search rules;
  traces = search rules;
}

pub every_kind_of_line_lawful : IsLawful every_kind_of_line
unfolding IsDistinct
every_kind_of_line_lawful = record {
  workers = search rules;
  buffers = search rules;
  generations = search rules;
  interfaces = record { some = search rules; few = search rules; are_names = search (rules, AllPass-from_list_all); differ = search rules; small = search rules };
  nodes = record { some = search rules; few = search rules; are_names = search (rules, AllPass-from_list_all); differ = search rules; small = search rules };
  errors = search rules;
  few_packets = search rules;
  packets = search rules;
  few_traces = search rules;
  traces = search rules;
}

-- a count of 2^63
too_great_a_count : ¬ (IsLawful (record one_refused { interfaces = (codes "pg0", 9223372036854775808) ∷ [] }))
too_great_a_count l = let small : 9223372036854775808 < 2 ^ 63 = l.interfaces.small.0 in absurd (omega arith)

-- two errors of a node in the wrong order
errors_out_of_order : ¬ (IsLawful (record one_refused { errors = (codes "hand", errors.HandoffLimit, 1) ∷ (codes "hand", errors.Congestion, 1) ∷ [] }))
errors_out_of_order l = let placed : 189 ≤ 187 = l.errors.4.3 in absurd (omega arith)

-- the errors of two nodes in the wrong order
nodes_out_of_order : ¬ (IsLawful (record one_refused { errors = (codes "hand", errors.Short, 1) ∷ (codes "ethernet-input", errors.WrongMac, 1) ∷ [] }))
nodes_out_of_order l = let placed : 172 ≤ 41 = l.errors.4.3 in absurd (omega arith)

-- an error that stands twice
an_error_twice : ¬ (IsLawful (record one_refused { errors = (codes "hand", errors.Congestion, 1) ∷ (codes "hand", errors.Congestion, 1) ∷ [] }))
an_error_twice l = let placed : 188 ≤ 187 = l.errors.4.3 in absurd (omega arith)

-- an error that never came
an_error_count_of_zero : ¬ (IsLawful (record one_refused { errors = (codes "hand", errors.Congestion, 0) ∷ [] }))
an_error_count_of_zero l = let above : 0 < 0 = l.errors.1 in absurd (omega arith)

-- the report with this packet alone
abbrev pub with_packet : PacketLine → Report
with_packet p = record one_refused { packets = p ∷ []; traces = [] }

-- congestion without its count
congestion_without_count : ¬ (IsLawful (with_packet (ended (at 0 0 ∷ []) (ends.Dropped (codes "hand") errors.Congestion))))
congestion_without_count l = let h : false ≡ true = l.packets.0.end.1.1 refl in cc

-- a count without congestion
count_without_congestion : ¬ (IsLawful (with_packet (record { legs = at 0 0 ∷ []; congested = Some 1; end = ends.Dropped (codes "hand") errors.Short })))
count_without_congestion l = let e : errors.Short ≡ errors.Congestion = l.packets.0.end.1.0 refl in cc

-- a count with a packet that was transmitted
count_of_a_sent_packet : ¬ (IsLawful (with_packet (record { legs = at 0 0 ∷ []; congested = Some 1; end = sent })))
count_of_a_sent_packet l = cc (l.packets.0.end.1)

-- a fifth leg
a_fifth_leg : ¬ (IsLawful (with_packet (ended (at 0 0 ∷ at 1 0 ∷ at 0 0 ∷ at 1 0 ∷ at 0 0 ∷ []) sent)))
a_fifth_leg l = let few : 5 ≤ 4 = l.packets.0.few in absurd (omega arith)

-- no leg
no_leg : ¬ (IsLawful (with_packet (ended [] sent)))
no_leg l = let some : 1 ≤ 0 = l.packets.0.some in absurd (omega arith)

-- a worker that isn't there
a_third_worker : ¬ (IsLawful (with_packet (ended (at 2 0 ∷ []) sent)))
a_third_worker l = let small : 2 < 2 = l.packets.0.workers.0 in absurd (omega arith)

-- a generation that isn't there
a_second_generation : ¬ (IsLawful (with_packet (ended (at 0 1 ∷ []) sent)))
a_second_generation l = let small : 1 < 1 = l.packets.0.generations.0 in absurd (omega arith)

-- an interface, a node and a node of an error that aren't declared
an_unknown_interface : ¬ (IsLawful (with_packet (ended (at 0 0 ∷ []) (ends.Tx (codes "hand")))))
an_unknown_interface l = let h : false ≡ true = l.packets.0.end.0 in cc

an_unknown_node : ¬ (IsLawful (with_packet (ended (at 0 0 ∷ []) (ends.Dropped (codes "pg0") errors.Short))))
an_unknown_node l = let h : false ≡ true = l.packets.0.end.0 in cc

an_error_at_an_unknown_node : ¬ (IsLawful (record one_refused { errors = (codes "pg0", errors.Short, 1) ∷ [] }))
an_error_at_an_unknown_node l = let h : false ≡ true = l.errors.0 in cc

-- a node that stands twice
a_node_twice : ¬ (IsLawful (record one_refused { nodes = (codes "hand", 1) ∷ (codes "hand", 1) ∷ [] }))
unfolding IsDistinct
a_node_twice l = let h : true ≡ false = l.nodes.differ.0.0 in cc

-- a trace of a packet that isn't there
a_trace_of_no_packet : ¬ (IsLawful (record one_refused { packets = []; traces = (codes "pg-input" ∷ []) ∷ [] }))
a_trace_of_no_packet l = let few : 1 ≤ 0 = l.few_traces.1 in absurd (omega arith)

-- a trace of no node, and one through a node that isn't declared
an_empty_trace : ¬ (IsLawful (record one_refused { traces = [] ∷ [] }))
an_empty_trace l = let some : 1 ≤ 0 = l.traces.0.some in absurd (omega arith)

a_trace_through_an_unknown_node : ¬ (IsLawful (record one_refused { traces = (codes "pg0" ∷ []) ∷ [] }))
a_trace_through_an_unknown_node l = let h : false ≡ true = l.traces.0.declared.0 in cc
