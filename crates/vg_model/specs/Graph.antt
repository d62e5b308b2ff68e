-- The graph of packet-processing nodes, with its interfaces, adjacencies and routes (VLIB: nodes and their next arcs).
use Rattle.std.specs.Prelude.{ℕ, Bool, true, false, List, [], ◌∷◌, ◌++◌, codes, decimal, slice_get, Option, Some, None, option_map, option_and_then, unwrap_or}
use Rattle.vg_model.specs.declared.kinds.HashKind.{HashKind}
use Rattle.vg_model.specs.declared.kinds.HashKind.TheVariants.{Flow, Src, Dst}
use Rattle.vg_model.specs.declared.kinds.Kind.{Kind}
use Rattle.vg_model.specs.declared.kinds.Kind.TheVariants as kinds
use Rattle.vg_model.specs.declared.kinds.Interface.{Interface}
use Rattle.vg_model.specs.declared.kinds.Adjacency.{Adjacency}
use Rattle.vg_model.specs.declared.routes.Prefix.{Prefix}
use Rattle.vg_model.specs.declared.routes.Prefix6.{Prefix6}
use Rattle.vg_model.specs.declared.routes.RouteTo.{RouteTo}
use Rattle.vg_model.specs.KindWord.{NumberedWords, numbered_word, match_words, push_words, rewrite_words, connect_words}

-- a node: its name, its kind, and the node that each of its slots leads to, by slot number
pub record Node : Type 0 where
  pub name : List ℕ
  pub kind : Kind
  pub arcs : List ℕ

-- nodes, interfaces and adjacencies are named by their places, counted from 0
pub record Graph : Type 0 where
  pub nodes : List Node
  pub interfaces : List Interface
  pub adjacencies : List Adjacency
  pub routes : List (Prefix × RouteTo)
  -- IPv6 routes, which are a table of their own
  pub routes6 : List (Prefix6 × RouteTo)

-- the nodes with numbers of their own: the packet source, the end of the handoff queues, and the node that drops
abbrev pub pg_input : ℕ
pg_input = 0

-- the end of the handoff queues
abbrev pub handoff_dequeue : ℕ
handoff_dequeue = 1

-- the node that drops
abbrev pub error_drop : ℕ
error_drop = 8

-- a kind of node: its name, the word for it in scripts, where scripts can make nodes of it, the names of its slots, by slot number,
-- and whether it is a source: packets come into its nodes by no arc
pub record KindEntry : Type 0 where
  pub name : List ℕ
  pub word : Option (List ℕ)
  pub slots : List (List ℕ)
  pub source : Bool

-- a kind that scripts make no nodes of, by its name
abbrev pub built_in : List ℕ → List (List ℕ) → KindEntry
built_in name slots = record { name = name; word = None; slots = slots; source = false }

-- a kind of the start graph alone, whose nodes packets come into by no arc
abbrev pub source : List ℕ → List (List ℕ) → KindEntry
source name slots = record { name = name; word = None; slots = slots; source = true }

-- a kind that scripts make nodes of, by this word
abbrev pub scripted : List ℕ → List (List ℕ) → KindEntry
scripted word slots = record { name = word; word = Some word; slots = slots; source = false }

-- a kind with a number, of which scripts make nodes where the number is in its range
abbrev pub numbered : NumberedWords → ℕ → List (List ℕ) → KindEntry
numbered words number slots = record {
  name = words.text ++ decimal number;
  word = numbered_word words.text words.least words.most number;
  slots = slots;
  source = false;
}

-- the word for a handoff node, by what it hashes
abbrev pub handoff_word : HashKind → List ℕ
handoff_word Flow = codes "handoff-flow"
handoff_word Src = codes "handoff-src"
handoff_word Dst = codes "handoff-dst"

-- the table of the kinds
abbrev pub kind_entry : Kind → KindEntry
kind_entry kinds.PgInput = source (codes "pg-input") (codes "out" ∷ [])
kind_entry kinds.HandoffDequeue = source (codes "handoff-dequeue") []
kind_entry (kinds.WorkerHandoff hash) = scripted (handoff_word hash) (codes "resume" ∷ [])
kind_entry kinds.EthernetInput = scripted (codes "ethernet-input") (codes "ip4" ∷ [])
kind_entry kinds.Ip4Input = scripted (codes "ip4-input") (codes "lookup" ∷ [])
kind_entry kinds.Ip4Lookup = scripted (codes "ip4-lookup") (codes "rewrite" ∷ [])
kind_entry kinds.Ip4Rewrite = scripted (codes "ip4-rewrite") (codes "output" ∷ [])
kind_entry kinds.InterfaceOutput = scripted (codes "interface-output") (codes "tx" ∷ [])
kind_entry kinds.InterfaceTx = scripted (codes "interface-tx") []
kind_entry kinds.ErrorDrop = built_in (codes "error-drop") []
kind_entry kinds.Pass = scripted (codes "pass") (codes "out" ∷ [])
kind_entry kinds.EthernetDual = scripted (codes "ethernet-dual") (codes "ip4" ∷ codes "ip6" ∷ [])
kind_entry kinds.Ip6Input = scripted (codes "ip6-input") (codes "lookup" ∷ [])
kind_entry kinds.Ip6Lookup = scripted (codes "ip6-lookup") (codes "rewrite" ∷ [])
kind_entry kinds.Ip6Rewrite = scripted (codes "ip6-rewrite") (codes "output" ∷ [])
kind_entry (kinds.Dot1qMatch id) = numbered match_words id.number (codes "match" ∷ codes "else" ∷ [])
kind_entry (kinds.Dot1qPush id) = numbered push_words id.number (codes "out" ∷ [])
kind_entry (kinds.Dot1qRewrite id) = numbered rewrite_words id.number (codes "out" ∷ [])
kind_entry (kinds.CrossConnect interface) = numbered connect_words interface (codes "out" ∷ [])

-- the names of a kind's slots, by slot number
abbrev pub slots : Kind → List (List ℕ)
slots kind = (kind_entry kind).slots

-- packets come into nodes of this kind by no arc
abbrev pub is_source : Kind → Bool
is_source kind = (kind_entry kind).source

-- the kinds without a number of which scripts make nodes, in the order in which texts list them
abbrev pub plain_kinds : List Kind
plain_kinds =
    kinds.WorkerHandoff Flow ∷ kinds.WorkerHandoff Src ∷ kinds.WorkerHandoff Dst ∷ kinds.EthernetInput ∷ kinds.Ip4Input
    ∷ kinds.Ip4Lookup ∷ kinds.Ip4Rewrite ∷ kinds.InterfaceOutput ∷ kinds.InterfaceTx ∷ kinds.Pass
    ∷ kinds.EthernetDual ∷ kinds.Ip6Input ∷ kinds.Ip6Lookup ∷ kinds.Ip6Rewrite ∷ []

-- the kind of a node, where there is one of this number
abbrev pub kind_at : Graph → ℕ → Option Kind
kind_at g n = option_map (λ node. node.kind) (slice_get g.nodes n)

-- the node that a slot of a node leads to
abbrev pub arc : Graph → ℕ → ℕ → Option ℕ
arc g n slot = option_and_then (λ node. slice_get node.arcs slot) (slice_get g.nodes n)

-- the graph with these routes in place of its own
abbrev pub with_routes : Graph → List (Prefix × RouteTo) → List (Prefix6 × RouteTo) → Graph
with_routes g routes routes6 = record g { routes = routes; routes6 = routes6 }

-- the nodes that a node's slots lead to
abbrev pub next_nodes : Graph → ℕ → List ℕ
next_nodes g n = unwrap_or (option_map (λ node. node.arcs) (slice_get g.nodes n)) []
