-- For `put_lines_by`: the lines of the fates so far stand behind what stood before, the last of them in the window.
use Rattle.std.proofs.Common.{◌≡◌, ◌+◌, ◌≤◌, ◌++◌, take, flat_map}
use Rattle.std.specs.Prelude.{IfSome}
use Rattle.vg_report.specs.Named.{lines_of}
use Rattle.vg_report.specs.Ready.{IsReady}
use Rattle.vg_report.specs.Text.{line_text, numbered, packet_line}
use Rattle.vg_report.proofs.writing.put_lines_by.Given as goal

abbrev pub invariant-loop-number : goal.invariant-loop-number
invariant-loop-number l = record {
  text : l.out.items ++ take l.at l.window ≡ l.fn.out.items ++ flat_map line_text (numbered packet_line 0 (take l.number (lines_of l.names.interfaces.now l.names.nodes.now l.names.fates.now)));
  room : l.at + 88 ≤ 2048;
  front : l.front ≡ l.number;
  ready : IfSome l.dropped (IsReady l.names.interfaces.now l.names.nodes.now);
}
