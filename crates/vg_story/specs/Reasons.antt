-- What a visit decided by: what is shown of it.
use Rattle.std.specs.Prelude.{ℕ, ◌+◌, ◌-◌, ◌/◌, ◌%◌, Bool, false, ◌==◌, nat_lt, List, [], ◌∷◌, ◌++◌, length, slice_get, Option, Some, None, if◌then◌else◌}
use Rattle.vg_model.specs.declared.kinds.DropError.{DropError}
use Rattle.vg_model.specs.declared.kinds.DropError.TheVariants as errors
use Rattle.vg_model.specs.declared.kinds.HashKind.TheVariants.{Flow}
use Rattle.vg_model.specs.declared.kinds.Kind.{Kind}
use Rattle.vg_model.specs.declared.kinds.Kind.TheVariants as kinds
use Rattle.vg_model.specs.declared.kinds.Step.{Step}
use Rattle.vg_model.specs.declared.kinds.Step.TheVariants as steps
use Rattle.vg_model.specs.declared.kinds.Adjacency.{Adjacency}
use Rattle.vg_model.specs.declared.kinds.Interface.{Interface}
use Rattle.vg_model.specs.declared.routes.Prefix.{Prefix}
use Rattle.vg_model.specs.declared.routes.Prefix6.{Prefix6}
use Rattle.vg_model.specs.declared.routes.RouteTo.{RouteTo}
use Rattle.vg_model.specs.declared.routes.RouteTo.TheVariants as routes
use Rattle.vg_model.specs.Errors.{error_number}
use Rattle.vg_model.specs.Graph.{Graph}
use Rattle.vg_model.specs.Hash.{flow_hash, target_worker}
use Rattle.vg_model.specs.nodes.Interfaces.{transmit_interface}
use Rattle.vg_model.specs.Packet.{Packet}
use Rattle.vg_model.specs.Route.{best_route, best_route6}
use Rattle.vg_story.specs.declared.pieces.Piece.{Piece}
use Rattle.vg_story.specs.declared.pieces.Piece.TheVariants as pieces
use Rattle.vg_story.specs.declared.pieces.Value.{Value}
use Rattle.vg_story.specs.declared.pieces.Value.TheVariants as values
use Rattle.vg_story.specs.declared.pieces.Word.{Word}
use Rattle.vg_story.specs.declared.pieces.Word.TheVariants as words
use Rattle.vg_story.specs.declared.stages.Stage.{Stage}
use Rattle.vg_story.specs.Fronts.{Front, number48}
use Rattle.vg_story.specs.Fields as fields
use Rattle.vg_story.specs.Matches.{matched_in, matched6_in}

-- a fact
abbrev pub fact : Word → Value → List Piece
fact word value = pieces.Because (record { word = word; value = value }) ∷ []

-- a fact that is a number
abbrev pub number : Word → ℕ → List Piece
number word n = fact word (values.Number n)

-- the step drops the packet with this error
abbrev pub drops : Step → DropError → Bool
drops (steps.Dropped error) other = error_number error == error_number other
drops (steps.Next slot) other = false
drops (steps.Tx interface) other = false
drops (steps.Hand hash) other = false

-- how many bytes stand behind the Ethernet header
abbrev pub behind : Front → ℕ
behind f = f.len - 14

-- of an Ethernet header: its length where it isn't whole, the address where it is foreign, and else the type
abbrev pub link : Front → Step → List Piece
link f step =
    if drops step errors.Short then number words.Bytes f.len
    else if drops step errors.WrongMac then fact words.Frame (values.Link (number48 f.bytes 0))
    else fact words.Type (values.Hex (fields.type_of f))

-- the length that an IPv4 header says of itself, and how many bytes are there
abbrev pub lengths : Front → List Piece
lengths f = number words.Header (fields.header_len f) ++ number words.Bytes (behind f)

-- of the check of an IPv4 header that failed: the value found
abbrev pub header4 : Front → Step → List Piece
header4 f step =
    if drops step errors.Short then number words.Bytes (behind f)
    else if drops step errors.BadVersion then number words.Version (fields.version f)
    else if drops step errors.BadHeaderLength then lengths f
    else if drops step errors.BadLength then number words.Length (fields.total_len f) ++ lengths f
    else if drops step errors.BadChecksum then fact words.Checksum (values.Hex (fields.checksum f))
    else if drops step errors.TtlZero then number words.Ttl (fields.time_to_live f)
    else []

-- of the check of an IPv6 header that failed: the value found
abbrev pub header6 : Front → Step → List Piece
header6 f step =
    if drops step errors.Short then number words.Bytes (behind f)
    else if drops step errors.BadVersion then number words.Version (fields.version f)
    else if drops step errors.BadLength then number words.Length (fields.payload_len f) ++ number words.Bytes (behind f)
    else if drops step errors.TtlZero then number words.Ttl (fields.hop_limit f)
    else []

-- the place that a hash picks among so many neighbors
abbrev pub place : (count hash : ℕ) → ℕ
place count hash = hash / 8 % count

-- of several neighbors: the hash, the place that it picks, and how many there are
abbrev pub several : (count hash : ℕ) → List Piece
several count hash =
    if nat_lt count 2 then [] else number words.Hash hash ++ (number words.Place (place count hash) ++ number words.Of count)

-- the neighbor that was chosen, where one was and the graph has it
abbrev pub via : Graph → Option ℕ → (count hash : ℕ) → List Piece
via g None count hash = []
via g (Some neighbor) count hash =
    if nat_lt neighbor (length g.adjacencies) then fact words.Via (values.Neighbor neighbor) ++ several count hash else []

-- the neighbor that was chosen of a route's
abbrev pub chosen : Graph → Option RouteTo → (hash : ℕ) → Option ℕ → List Piece
chosen g None hash neighbor = []
chosen g (Some (routes.Via members)) hash neighbor = via g neighbor (length members) hash
chosen g (Some routes.Local) hash neighbor = []
chosen g (Some routes.Drop) hash neighbor = []

-- the route that matched, with its line
abbrev pub matched : Option (Prefix × ℕ) → List Piece
matched None = []
matched (Some route) = fact words.Route (values.Prefix route.0) ++ number words.Line route.1

abbrev pub matched6 : Option (Prefix6 × ℕ) → List Piece
matched6 None = []
matched6 (Some route) = fact words.Route (values.Prefix6 route.0) ++ number words.Line route.1

-- of an IPv4 look-up: the destination, the longest prefix that covers it, and the neighbor that was chosen
abbrev pub lookup4 : Stage → Front → Step → Packet → List Piece
lookup4 stage f step after =
    let address = fields.destination f in
    if drops step errors.Unchecked then []
    else fact words.To (values.Address address)
    ++ (matched (matched_in stage.routes address)
    ++ chosen stage.fork.graph (best_route stage.fork.graph.routes address) (flow_hash Flow f.bytes) after.adjacency)

-- the same of an IPv6 look-up
abbrev pub lookup6 : Stage → Front → Step → Packet → List Piece
lookup6 stage f step after =
    let address = fields.destination6 f in
    if drops step errors.Unchecked then []
    else fact words.To (values.Address6 address)
    ++ (matched6 (matched6_in stage.routes6 address)
    ++ chosen stage.fork.graph (best_route6 stage.fork.graph.routes6 address) (fields.hash6 f) after.adjacency)

-- an interface, and what it takes, where the graph has it
abbrev pub takes : ℕ → Option Interface → List Piece
takes n None = []
takes n (Some interface) = fact words.On (values.Interface n) ++ number words.Mtu interface.mtu

-- a neighbor, and its interface
abbrev pub neighbor_at : Graph → ℕ → Option Adjacency → List Piece
neighbor_at g n None = []
neighbor_at g n (Some adjacency) =
    fact words.Via (values.Neighbor n) ++ takes adjacency.interface (slice_get g.interfaces adjacency.interface)

-- the neighbor that a frame is made ready for
abbrev pub neighbor : Graph → Option ℕ → List Piece
neighbor g None = []
neighbor g (Some n) = neighbor_at g n (slice_get g.adjacencies n)

-- the number that a rewrite looked at, where it dropped the packet for it
abbrev pub looked_at : (length ttl : ℕ) → Step → List Piece
looked_at length ttl step =
    if drops step errors.TtlExpired then number words.Ttl ttl else if drops step errors.MtuExceeded then number words.Length length else []

-- of a rewrite: the neighbor, its interface and what that takes, and the number that was looked at
abbrev pub rewrite : Stage → (length ttl : ℕ) → Step → Packet → List Piece
rewrite stage length ttl step after =
    if drops step errors.Unchecked then [] else neighbor stage.fork.graph after.adjacency ++ looked_at length ttl step

-- an interface, where the graph has it
abbrev pub on_interface : Graph → ℕ → List Piece
on_interface g n = if nat_lt n (length g.interfaces) then fact words.On (values.Interface n) else []

-- the interface that a packet leaves on
abbrev pub leaving : Graph → Packet → List Piece
leaving g p = on_interface g (transmit_interface g p)

-- of a handoff: the hash, and the worker that it chooses
abbrev pub handed : (workers : ℕ) → Step → List Piece
handed workers (steps.Hand hash) = number words.Hash hash ++ number words.Worker (target_worker workers hash)
handed workers (steps.Next slot) = []
handed workers (steps.Tx interface) = []
handed workers (steps.Dropped error) = []

-- of a tag: the length of a frame that is too short for one, and else the VLAN id of the tag that the frame came with, where it has one
abbrev pub tagged : Front → Step → List Piece
tagged f step =
    if drops step errors.Short then number words.Bytes f.len
    else if fields.is_tagged f then number words.Tag (fields.vlan f)
    else []

-- why the node dropped the packet, where it did
abbrev pub dropped : Step → List Piece
dropped (steps.Dropped error) = fact words.Drop (values.Error error)
dropped (steps.Next slot) = []
dropped (steps.Tx interface) = []
dropped (steps.Hand hash) = []

-- what a node of a kind decides by
abbrev pub by_kind : Stage → (workers : ℕ) → Kind → Front → Step → Packet → List Piece
by_kind stage workers kinds.PgInput f step after = []
by_kind stage workers kinds.HandoffDequeue f step after = []
by_kind stage workers (kinds.WorkerHandoff hash) f step after = handed workers step
by_kind stage workers kinds.EthernetInput f step after = link f step
by_kind stage workers kinds.Ip4Input f step after = header4 f step
by_kind stage workers kinds.Ip4Lookup f step after = lookup4 stage f step after
by_kind stage workers kinds.Ip4Rewrite f step after = rewrite stage (fields.total_len f) (fields.time_to_live f) step after
by_kind stage workers kinds.InterfaceOutput f step after = leaving stage.fork.graph after
by_kind stage workers kinds.InterfaceTx f step after = leaving stage.fork.graph after
by_kind stage workers kinds.ErrorDrop f step after = []
by_kind stage workers kinds.Pass f step after = []
by_kind stage workers kinds.EthernetDual f step after = link f step
by_kind stage workers kinds.Ip6Input f step after = header6 f step
by_kind stage workers kinds.Ip6Lookup f step after = lookup6 stage f step after
by_kind stage workers kinds.Ip6Rewrite f step after = rewrite stage (40 + fields.payload_len f) (fields.hop_limit f) step after
by_kind stage workers (kinds.Dot1qMatch id) f step after = tagged f step
by_kind stage workers (kinds.Dot1qPush id) f step after = tagged f step
by_kind stage workers (kinds.Dot1qRewrite id) f step after = tagged f step
by_kind stage workers (kinds.CrossConnect interface) f step after = on_interface stage.fork.graph interface

-- what a visit decided by
abbrev pub reasons : Stage → (workers : ℕ) → Kind → Front → Step → Packet → List Piece
reasons stage workers kind f step after = by_kind stage workers kind f step after ++ dropped step
