-- Worked examples of words and of scripts, computed from the definitions.
use Rattle.std.proofs.Common.{◌≡◌, ℕ, suc, zero, true, false, List, [], ◌∷◌, ◌++◌, refl, map, replicate}
use Rattle.std.specs.Fmt.{digits}
use Rattle.std.specs.Prelude.{codes, decimal, flat_map, Option, Some, None, Ok, Err}
use Rattle.vg_model.specs.declared.edits.Edit.{Edit}
use Rattle.vg_model.specs.declared.edits.Edit.TheVariants as edits
use Rattle.vg_model.specs.declared.edits.EditLine.{EditLine}
use Rattle.vg_model.specs.declared.kinds.HashKind.TheVariants.{Dst}
use Rattle.vg_model.specs.declared.kinds.Kind.TheVariants as kinds
use Rattle.vg_model.specs.declared.names.Mac.{Mac}
use Rattle.vg_model.specs.declared.routes.RouteWord.TheVariants as targets
use Rattle.vg_model.specs.KindWord.{vlan}
use Rattle.vg_script.specs.declared.scripts.Script.{Script}
use Rattle.vg_script.specs.Causes.{cause_of, cause_word}
use Rattle.vg_script.specs.Classes.{names_of, prefix, prefix6, prefix6_of, kind_of}
use Rattle.vg_script.specs.Generations.{generations_of}
use Rattle.vg_script.specs.Plain.{plain}
use Rattle.vg_script.specs.Reading.{script_of}
use Rattle.vg_script.specs.Statements.{row_of}

-- a text with a line feed behind each line
abbrev pub text_of : List (List ℕ) → List ℕ
text_of lines = flat_map (λ line. line ++ 10 ∷ []) lines

-- edits on lines from a number on
abbrev pub from_line : ℕ → List Edit → List EditLine
from_line n [] = []
from_line n (e ∷ es) = record { line = n; edit = e } ∷ from_line (suc n) es

-- a script of these edits on lines 1, 2 and so on
abbrev pub edits_alone : List Edit → Script
edits_alone es = record { start = from_line 1 es; blocks = [] }

-- the line and the printed cause of the refusal of a text, by its form or by an edit; None where it is accepted
abbrev pub refusal : List ℕ → Option (ℕ × List ℕ)
refusal text = elim (script_of text) [
  | Ok script ↦ elim (generations_of script) [ Ok graphs ↦ None | Err r ↦ Some (r.0, cause_word (cause_of r.1)) ]
  | Err error ↦ Some (error.line, cause_word error.cause)
]

-- a link-layer address by its last byte
abbrev pub mac : ℕ → Mac
mac last = record { 0 = 2 ∷ 0 ∷ 0 ∷ 0 ∷ 0 ∷ last ∷ [] }

-- words that are lists of names: one, several of which one stands twice, and sixteen
abbrev pub sixteen_names : List ℕ
sixteen_names = codes "a,b,c,d,e,f,g,h,i,j,k,l,m,n,o,p"

names_are_read : map names_of (codes "next" ∷ codes "e1,e1,e0" ∷ sixteen_names ∷ [])
    ≡ Some (codes "next" ∷ [])
    ∷ Some (codes "e1" ∷ codes "e1" ∷ codes "e0" ∷ [])
    ∷ Some (map (λ byte. byte ∷ []) (codes "abcdefghijklmnop"))
    ∷ []
names_are_read = refl

-- seventeen names, an empty part, and a part that is no name
no_names_are_read : map names_of ((sixteen_names ++ codes ",q") ∷ [] ∷ codes "," ∷ codes ",a" ∷ codes "a," ∷ codes "a,,b" ∷ codes "a,b:c" ∷ [])
    ≡ replicate 7 None
no_names_are_read = refl

-- words that are IPv6 prefixes: a gap at the end, a gap alone, one in front and one within, and no gap
prefixes6_are_read : map prefix6_of (
    codes "2001:db8::/32" ∷ codes "::/0" ∷ codes "::1/128" ∷ codes "1:2:3::5:6:7:8/128" ∷ codes "FE80:0:0:0:0:0:0:0/9" ∷ [])
    ≡ Some (prefix6 0x20010db8_00000000_00000000_00000000 32 tt tt)
    ∷ Some (prefix6 0 0 tt tt)
    ∷ Some (prefix6 1 128 tt tt)
    ∷ Some (prefix6 0x00010002_00030000_00050006_00070008 128 tt tt)
    ∷ Some (prefix6 0xfe800000_00000000_00000000_00000000 9 tt tt)
    ∷ []
prefixes6_are_read = refl

-- a second gap, a gap for no group, seven groups, five digits, a host bit, a length above 128, and no length
no_prefixes6_are_read : map prefix6_of (
    codes "2001:db8::1::/128" ∷ codes "1:2:3:4:5:6:7:8::/128" ∷ codes "1:2:3:4:5:6:7/128" ∷ codes "02001:db8::/32" ∷ codes "fe80::/8"
    ∷ codes "::/129" ∷ codes "2001:db8::" ∷ [])
    ≡ replicate 7 None
no_prefixes6_are_read = refl

-- kinds with the least and the greatest number, and words with a number that is out of its range or has a zero in front
numbered_kinds_are_read : map kind_of (
    codes "dot1q-match-1" ∷ codes "dot1q-push-4094" ∷ codes "dot1q-rewrite-10" ∷ codes "xconnect-0" ∷ codes "xconnect-15" ∷ [])
    ≡ Some (kinds.Dot1qMatch (vlan 1 tt tt))
    ∷ Some (kinds.Dot1qPush (vlan 4094 tt tt))
    ∷ Some (kinds.Dot1qRewrite (vlan 10 tt tt))
    ∷ Some (kinds.CrossConnect 0)
    ∷ Some (kinds.CrossConnect 15)
    ∷ []
numbered_kinds_are_read = refl

no_kinds_are_read : map kind_of (
    codes "dot1q-match-0" ∷ codes "dot1q-push-4095" ∷ codes "dot1q-rewrite-010" ∷ codes "xconnect-16" ∷ codes "xconnect-" ∷ [])
    ≡ replicate 5 None
no_kinds_are_read = refl

-- three adjacencies, and a route over each
abbrev pub three_routes : List ℕ
three_routes = text_of (
    codes "adjacency a0 interface pg0 dst 02:00:00:00:00:00"
    ∷ codes "adjacency a8 interface pg0 dst 02:00:00:00:00:08"
    ∷ codes "adjacency a16 interface pg0 dst 02:00:00:00:00:16"
    ∷ codes "route 0.0.0.0/0 via a0"
    ∷ codes "route 10.0.0.0/8 via a8"
    ∷ codes "route 10.1.0.0/16 via a16"
    ∷ [])

abbrev pub three_routes_script : Script
three_routes_script = edits_alone (
    edits.Adjacency (codes "a0") (codes "pg0") (mac 0)
    ∷ edits.Adjacency (codes "a8") (codes "pg0") (mac 8)
    ∷ edits.Adjacency (codes "a16") (codes "pg0") (mac 0x16)
    ∷ edits.Route (prefix 0 0 tt tt) (targets.Via (codes "a0" ∷ []))
    ∷ edits.Route (prefix 0x0a000000 8 tt tt) (targets.Via (codes "a8" ∷ []))
    ∷ edits.Route (prefix 0x0a010000 16 tt tt) (targets.Via (codes "a16" ∷ []))
    ∷ [])

three_routes_are_read : script_of three_routes ≡ Ok three_routes_script
unfolding row_of
three_routes_are_read = refl

three_routes_are_printed : plain three_routes_script ≡ three_routes
unfolding digits
three_routes_are_printed = refl

-- an interface that filters, and one that is down
abbrev pub two_interfaces : List ℕ
two_interfaces = text_of (
    codes "interface pg0 mac 02:fe:00:00:00:00 mtu 100 up filter"
    ∷ codes "interface lan mac 02:fe:00:00:00:01 mtu 100 down"
    ∷ codes "adjacency p interface pg0 dst 02:00:00:00:00:05"
    ∷ codes "adjacency l interface lan dst 02:00:00:00:00:06"
    ∷ codes "route 10.1.0.0/16 via p"
    ∷ codes "route 10.2.0.0/16 via l"
    ∷ [])

abbrev pub two_interfaces_script : Script
two_interfaces_script = edits_alone (
    edits.Interface (codes "pg0") (record { 0 = 2 ∷ 254 ∷ 0 ∷ 0 ∷ 0 ∷ 0 ∷ [] }) 100 true true
    ∷ edits.Interface (codes "lan") (record { 0 = 2 ∷ 254 ∷ 0 ∷ 0 ∷ 0 ∷ 1 ∷ [] }) 100 false false
    ∷ edits.Adjacency (codes "p") (codes "pg0") (mac 5)
    ∷ edits.Adjacency (codes "l") (codes "lan") (mac 6)
    ∷ edits.Route (prefix 0x0a010000 16 tt tt) (targets.Via (codes "p" ∷ []))
    ∷ edits.Route (prefix 0x0a020000 16 tt tt) (targets.Via (codes "l" ∷ []))
    ∷ [])

two_interfaces_are_read : script_of two_interfaces ≡ Ok two_interfaces_script
unfolding row_of
two_interfaces_are_read = refl

two_interfaces_are_printed : plain two_interfaces_script ≡ two_interfaces
unfolding digits
two_interfaces_are_printed = refl

-- the other statements, with comments, empty lines, several blanks, capital digits and no line feed at the end
abbrev pub other_statements : List ℕ
other_statements =
    codes "# nodes" ++ 0xff ∷ 10 ∷ 10 ∷ codes "node hand kind handoff-dst" ++ 13 ∷ 10
    ∷ 9 ∷ codes " arc   hand resume" ++ 9 ∷ codes "ethernet-input # a comment" ++ 10
    ∷ codes "route 10.0.0.0/8 local#" ++ 10 ∷ codes "route 10.0.0.1/32 drop" ++ 10
    ∷ codes "interface a_b.c-D mac 0A:ff:Ff:00:00:01 mtu 65535 up" ++ 10 ∷ codes "unroute 10.0.0.0/8"

other_statements_are_read : script_of other_statements ≡ Ok (record {
  start =
      record { line = 3; edit = edits.Node (codes "hand") (kinds.WorkerHandoff Dst) }
      ∷ record { line = 4; edit = edits.Arc (codes "hand") (codes "resume") (codes "ethernet-input") }
      ∷ record { line = 5; edit = edits.Route (prefix 0x0a000000 8 tt tt) targets.Local }
      ∷ record { line = 6; edit = edits.Route (prefix 0x0a000001 32 tt tt) targets.Drop }
      ∷ record { line = 7; edit = edits.Interface (codes "a_b.c-D") (record { 0 = 10 ∷ 255 ∷ 255 ∷ 0 ∷ 0 ∷ 1 ∷ [] }) 65535 true false }
      ∷ record { line = 8; edit = edits.Unroute (prefix 0x0a000000 8 tt tt) }
      ∷ [];
  blocks = [];
})
unfolding row_of
other_statements_are_read = refl

-- no line, an empty line, and the wire without and with its line feed
nothing_is_read : script_of [] ≡ Ok (edits_alone [])
unfolding row_of
nothing_is_read = refl

an_empty_line_is_read : script_of (10 ∷ []) ≡ Ok (edits_alone [])
unfolding row_of
an_empty_line_is_read = refl

abbrev pub wire_script : Script
wire_script = edits_alone (edits.Arc (codes "ethernet-input") (codes "ip4") (codes "interface-tx") ∷ [])

the_wire_is_read : script_of (codes "arc ethernet-input ip4 interface-tx") ≡ Ok wire_script
unfolding row_of
the_wire_is_read = refl

the_wire_is_read_with_its_line_feed : script_of (codes "arc ethernet-input ip4 interface-tx" ++ 10 ∷ []) ≡ Ok wire_script
unfolding row_of
the_wire_is_read_with_its_line_feed = refl

-- a text, and its refusal
abbrev pub Refused : Type 0
Refused = List ℕ × ℕ × List ℕ

-- each text is refused so
abbrev pub AreRefused : List Refused → Type 0
AreRefused table = map (λ r. refusal r.0) table ≡ map (λ r. Some (r.1, r.2)) table

-- refusals by the form of a line
the_first_fault_decides : AreRefused (
    (codes "arcs a b c", 1, codes "word")
    ∷ (codes "arc hub", 1, codes "word")
    ∷ (codes "node a kinds pass", 1, codes "word")
    ∷ (codes "unroute 10.0.0.0/8 now", 1, codes "word")
    ∷ (codes "route 10.0.0.0/8 over a", 1, codes "word")
    ∷ (codes "interface a mac 02:00:00:00:00:01 mtu 68 up filters", 1, codes "word")
    ∷ (codes "interface a mac 02:00:00:00:00:01 mtu 68 up filter filter", 1, codes "word")
    ∷ (codes "interface a mac 02:00:00:00:00:01 mtu 68", 1, codes "word")
    ∷ (codes "node " ++ replicate 33 97 ++ codes " kind pass", 1, codes "name")
    ∷ (codes "node a:b kind pass", 1, codes "name")
    ∷ (codes "node a kind pg-input", 1, codes "kind")
    ∷ (codes "adjacency a interface pg0 dst 02:00:00:00:00", 1, codes "mac")
    ∷ (codes "adjacency a interface pg0 dst 02:00:00:00:00:00:00", 1, codes "mac")
    ∷ (codes "adjacency a interface pg0 dst 02:00:00:00:00:0", 1, codes "mac")
    ∷ (codes "adjacency a interface pg0 dst 02:00:00:00:00:0g", 1, codes "mac")
    ∷ (codes "interface a mac 02 mtu 1 up", 1, codes "mac")
    ∷ (codes "interface a mac 02:00:00:00:00:01 mtu 67 up", 1, codes "number")
    ∷ (codes "interface a mac 02:00:00:00:00:01 mtu 65536 up", 1, codes "number")
    ∷ (codes "interface a mac 02:00:00:00:00:01 mtu 068 up", 1, codes "number")
    ∷ (codes "interface a mac 02:00:00:00:00:01 mtu +68 up", 1, codes "number")
    ∷ (codes "route 10.0.0.1/8 drop", 1, codes "prefix")
    ∷ (codes "route 10.0.0.0/33 drop", 1, codes "prefix")
    ∷ (codes "route 10.0.0.0/08 drop", 1, codes "prefix")
    ∷ (codes "route 10.0.0.0/ drop", 1, codes "prefix")
    ∷ (codes "route 10.0.0.0 drop", 1, codes "prefix")
    ∷ (codes "route 10.0.0.0/8/8 drop", 1, codes "prefix")
    ∷ (codes "route 10.0.0/8 drop", 1, codes "prefix")
    ∷ (codes "route 10.0.0.0.0/8 drop", 1, codes "prefix")
    ∷ (codes "route 10.0.256.0/24 drop", 1, codes "prefix")
    ∷ (codes "route 10.00.0.0/8 drop", 1, codes "prefix")
    ∷ (codes "node a kind pass" ++ 0 ∷ [], 1, codes "bytes")
    ∷ (codes "nodes" ++ 0x7f ∷ codes "# a", 1, codes "bytes")
    ∷ (text_of (codes "node a kind pass" ∷ codes "# b" ∷ codes "node b" ∷ codes "arcs" ∷ []), 3, codes "word")
    ∷ [])
unfolding row_of
the_first_fault_decides = refl

-- a text of more than 262,144 bytes, and any byte in a comment
too_large : refusal (replicate 262145 35) ≡ Some (0, codes "too-large")
too_large = refl

any_byte_in_a_comment : refusal (codes "# " ++ 0xff ∷ []) ≡ None
any_byte_in_a_comment = refl

-- refusals by an edit
the_first_edit_that_cannot_be_made : AreRefused (
    (codes "arc nobody out error-drop", 1, codes "unknown-node")
    ∷ (codes "arc pg-input in error-drop", 1, codes "unknown-slot")
    ∷ (codes "arc pg-input out handoff-dequeue", 1, codes "bad-target")
    ∷ (codes "route 10.0.0.0/8 via nobody", 1, codes "unknown-adjacency")
    ∷ (codes "adjacency a interface nobody dst 02:00:00:00:00:01", 1, codes "unknown-interface")
    ∷ (codes "unroute 10.0.0.0/8", 1, codes "no-route")
    ∷ (text_of (codes "node a kind pass" ∷ codes "node a kind pass" ∷ []), 2, codes "double-name")
    ∷ (
      text_of (
          codes "node a kind pass" ∷ codes "arc a out ethernet-input" ∷ codes "arc pg-input out a" ∷ codes "arc ethernet-input ip4 a" ∷ []),
      4,
      codes "cycle",
    )
    ∷ [])
unfolding row_of
the_first_edit_that_cannot_be_made = refl

-- a line for each number up to this one
abbrev pub lines_for : (ℕ → List ℕ) → ℕ → List (List ℕ)
lines_for line zero = []
lines_for line (suc n) = lines_for line n ++ line (suc n) ∷ []

too_many_interfaces : refusal (text_of (lines_for (λ n. codes "interface i" ++ decimal n ++ codes " mac 02:fe:00:00:00:01 mtu 68 up") 17))
    ≡ Some (16, codes "too-many")
unfolding digits row_of
too_many_interfaces = refl

too_many_nodes : refusal (text_of (lines_for (λ n. codes "node n" ++ decimal n ++ codes " kind pass") 57)) ≡ Some (56, codes "too-many")
unfolding digits row_of
too_many_nodes = refl
