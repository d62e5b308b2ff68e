-- Worked examples of blocks and of the events that they make, computed from the definitions.
use Rattle.std.proofs.Common.{◌≡◌, ℕ, List, [], ◌∷◌, ◌++◌, refl, map, length}
use Rattle.std.specs.Fmt.{digits}
use Rattle.std.specs.Prelude.{codes, Ok, Err, Option, Some, None}
use Rattle.vg_model.specs.declared.edits.Edit.{Edit}
use Rattle.vg_model.specs.declared.edits.Edit.TheVariants as edits
use Rattle.vg_model.specs.declared.routes.RouteWord.TheVariants as targets
use Rattle.vg_script.specs.declared.scripts.Block.TheVariants as blocks
use Rattle.vg_script.specs.declared.scripts.Script.{Script}
use Rattle.vg_script.specs.Classes.{prefix}
use Rattle.vg_script.specs.Events.{events, generation_at}
use Rattle.vg_script.specs.Generations.{generations_of}
use Rattle.vg_script.specs.Plain.{plain}
use Rattle.vg_script.specs.Reading.{script_of}
use Rattle.vg_script.specs.RoundTrip.{renumbered}
use Rattle.vg_script.specs.Statements.{row_of}
use Rattle.vg_script.proofs.Examples.{text_of, from_line, mac, refusal, AreRefused}

-- a process of two groups, and a block at the time of its first run
abbrev pub process_and_block : List ℕ
process_and_block = text_of (
    codes "adjacency east interface pg0 dst 02:00:00:00:00:09"
    ∷ codes "route 10.0.0.0/8 via east"
    ∷ codes "process p every 100 count 3"
    ∷ codes "route 10.0.0.0/8 drop"
    ∷ codes "then"
    ∷ codes "route 10.0.0.0/8 via east"
    ∷ codes "end"
    ∷ codes "at 100"
    ∷ codes "route 10.0.0.0/8 local"
    ∷ codes "end"
    ∷ [])

-- where the route leads
abbrev to_drop : List Edit
to_drop = edits.Route (prefix 0x0a000000 8 tt tt) targets.Drop ∷ []

abbrev to_east : List Edit
to_east = edits.Route (prefix 0x0a000000 8 tt tt) (targets.Via (codes "east" ∷ [])) ∷ []

abbrev to_us : List Edit
to_us = edits.Route (prefix 0x0a000000 8 tt tt) targets.Local ∷ []

abbrev pub process_and_block_script : Script
process_and_block_script = record {
  start = from_line 1 (edits.Adjacency (codes "east") (codes "pg0") (mac 9) ∷ to_east);
  blocks =
      blocks.Process 3 (codes "p") 100 3 (from_line 4 to_drop ∷ from_line 6 to_east ∷ [])
      ∷ blocks.At 8 100 (from_line 9 to_us)
      ∷ [];
}

process_and_block_are_read : script_of process_and_block ≡ Ok process_and_block_script
unfolding row_of
process_and_block_are_read = refl

process_and_block_are_printed : plain process_and_block_script ≡ process_and_block
unfolding digits
process_and_block_are_printed = refl

-- they are on the lines of their plain text
process_and_block_keep_their_lines : renumbered process_and_block_script ≡ process_and_block_script
process_and_block_keep_their_lines = refl

-- the process's run comes before the block of a later line at the same time, and its groups in turn
process_and_block_events : events process_and_block_script
    ≡ record { time = 100; line = 3; occurrence = 1; edits = from_line 4 to_drop }
    ∷ record { time = 100; line = 8; occurrence = 1; edits = from_line 9 to_us }
    ∷ record { time = 200; line = 3; occurrence = 2; edits = from_line 6 to_east }
    ∷ record { time = 300; line = 3; occurrence = 3; edits = from_line 4 to_drop }
    ∷ []
process_and_block_events = refl

process_and_block_generations : map (generation_at (events process_and_block_script)) (0 ∷ 99 ∷ 100 ∷ 199 ∷ 200 ∷ 300 ∷ [])
    ≡ 0 ∷ 0 ∷ 2 ∷ 2 ∷ 3 ∷ 4 ∷ []
process_and_block_generations = refl

-- how many generations a script makes; None where an edit is refused
abbrev generation_count : Script → Option ℕ
generation_count script = elim (generations_of script) [ Ok graphs ↦ Some (length graphs) | Err refusal ↦ None ]

process_and_block_make_five_generations : generation_count process_and_block_script ≡ Some 5
process_and_block_make_five_generations = refl

-- a block after all edits
one_block_is_read : script_of (text_of (
    codes "adjacency east interface pg0 dst 02:00:00:00:00:09"
    ∷ codes "route 0.0.0.0/0 via east"
    ∷ codes "at 1000"
    ∷ codes "route 0.0.0.0/0 drop"
    ∷ codes "end"
    ∷ []))
    ≡ Ok (record {
      start =
          from_line 1 (edits.Adjacency (codes "east") (codes "pg0") (mac 9) ∷ edits.Route (prefix 0 0 tt tt) (targets.Via (codes "east" ∷ [])) ∷ []);
      blocks = blocks.At 3 1000 (from_line 4 (edits.Route (prefix 0 0 tt tt) targets.Drop ∷ [])) ∷ [];
    })
unfolding row_of
one_block_is_read = refl

-- edits outside blocks may stand behind a block, groups may be empty, and two processes may have one name
abbrev pub other_blocks : List ℕ
other_blocks =
    codes " at 0 # now" ++ 10 ∷ codes "end" ++ 13 ∷ 10 ∷ codes "unroute 10.0.0.0/8" ++ 10
    ∷ codes "process p every 1000000000000 count 997" ++ 10 ∷ codes "then" ++ 10 ∷ 10 ∷ codes "then#" ++ 10 ∷ codes "end" ++ 10
    ∷ codes "route 10.0.0.0/8 drop" ++ 10 ∷ codes "process p every 1 count 1" ++ 10 ∷ codes "route 10.0.0.0/8 local" ++ 10 ∷ codes "end"

other_blocks_are_read : script_of other_blocks ≡ Ok (record {
  start = record { line = 3; edit = edits.Unroute (prefix 0x0a000000 8 tt tt) } ∷ from_line 9 to_drop;
  blocks =
      blocks.At 1 0 []
      ∷ blocks.Process 4 (codes "p") 1000000000000 997 ([] ∷ [] ∷ [] ∷ [])
      ∷ blocks.Process 10 (codes "p") 1 1 (from_line 11 to_us ∷ [])
      ∷ [];
})
unfolding row_of
other_blocks_are_read = refl

-- refusals of blocks
the_first_fault_of_a_block : AreRefused (
    (codes "then", 1, codes "block")
    ∷ (codes "end of", 1, codes "block")
    ∷ (codes "at 01", 1, codes "number")
    ∷ (codes "at 1000000000001", 1, codes "number")
    ∷ (codes "at 5 6", 1, codes "word")
    ∷ (codes "process p every 0 count 1", 1, codes "number")
    ∷ (codes "process p every 1 count 0", 1, codes "number")
    ∷ (codes "process p every 1 count 1000", 1, codes "number")
    ∷ (codes "at 5", 1, codes "block")
    ∷ (codes "process p every 1 count 999", 1, codes "block")
    ∷ (text_of (codes "at 5" ∷ codes "node a kind pass" ∷ codes "# still begun" ∷ [] ∷ []), 4, codes "block")
    ∷ (text_of (codes "at 5" ∷ codes "at 01" ∷ []), 2, codes "block")
    ∷ (text_of (codes "at 5" ∷ codes "then" ∷ []), 2, codes "block")
    ∷ (text_of (codes "process p every 1 count 1" ∷ codes "then" ∷ codes "then now" ∷ []), 3, codes "word")
    ∷ (text_of (codes "process p every 1 count 1" ∷ codes "process q every" ∷ []), 2, codes "block")
    ∷ (text_of (codes "at 5" ∷ codes "end" ∷ codes "end" ∷ []), 3, codes "block")
    ∷ (text_of (codes "process p every 1 count 999" ∷ codes "end" ∷ codes "at 1" ∷ []), 3, codes "too-many-generations")
    ∷ (text_of (codes "process p every 1 count 998" ∷ codes "end" ∷ codes "process p every 1 count 2" ∷ codes "ends" ∷ []), 3, codes "too-many-generations")
    ∷ (text_of (codes "process p every 1 count 999" ∷ codes "then" ∷ codes "end" ∷ codes "at 1 2" ∷ []), 4, codes "word")
    ∷ [])
unfolding row_of
the_first_fault_of_a_block = refl

-- the edit of the third block makes a walk that never ends
an_edit_of_a_block_is_refused : refusal (text_of (
    codes "node a kind pass"
    ∷ codes "arc a out ethernet-input"
    ∷ codes "at 10"
    ∷ codes "end"
    ∷ codes "at 20"
    ∷ codes "arc pg-input out a"
    ∷ codes "end"
    ∷ codes "at 30"
    ∷ codes "arc ethernet-input ip4 a"
    ∷ codes "end"
    ∷ []))
    ≡ Some (9, codes "cycle")
unfolding row_of
an_edit_of_a_block_is_refused = refl
