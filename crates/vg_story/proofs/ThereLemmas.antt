-- For `shown_values_have_texts`: what is shown of each kind of node, part by part.
use Rattle.std.proofs.Common.{◌≡◌, ℕ, Bool, true, false, List, [], ◌++◌, length, refl, ap, ◌∙◌}
use Rattle.std.specs.Prelude.{nat_lt, ◌&&◌, slice_get, Option, Some, None, if◌then◌else◌}
use Rattle.std.specs.List.{list_all}
use Rattle.std.proofs.lemmas.Bool.{lt-ltb}
use Rattle.std.proofs.lemmas.List.Folds.{list_all-append}
use Rattle.std.proofs.lemmas.Option.{slice_get_within}
use Rattle.vg_model.specs.declared.kinds.Adjacency.{Adjacency}
use Rattle.vg_model.specs.declared.kinds.DropError.TheVariants as errors
use Rattle.vg_model.specs.declared.kinds.HashKind.TheVariants.{Flow}
use Rattle.vg_model.specs.declared.kinds.Interface.{Interface}
use Rattle.vg_model.specs.declared.kinds.Kind.{Kind}
use Rattle.vg_model.specs.declared.kinds.Kind.TheVariants as kinds
use Rattle.vg_model.specs.declared.kinds.Step.{Step}
use Rattle.vg_model.specs.declared.kinds.Step.TheVariants as steps
use Rattle.vg_model.specs.declared.routes.Prefix.{Prefix}
use Rattle.vg_model.specs.declared.routes.Prefix6.{Prefix6}
use Rattle.vg_model.specs.declared.routes.RouteTo.{RouteTo}
use Rattle.vg_model.specs.declared.routes.RouteTo.TheVariants as routes
use Rattle.vg_model.specs.nodes.Interfaces.{transmit_interface}
use Rattle.vg_model.specs.Graph.{Graph}
use Rattle.vg_model.specs.Hash.{flow_hash}
use Rattle.vg_model.specs.Packet.{Packet}
use Rattle.vg_model.specs.Route.{best_route, best_route6}
use Rattle.vg_story.specs.declared.pieces.Piece.{Piece}
use Rattle.vg_story.specs.declared.pieces.Value.TheVariants as values
use Rattle.vg_story.specs.declared.pieces.Word.TheVariants as words
use Rattle.vg_story.specs.declared.stages.Stage.{Stage}
use Rattle.vg_story.specs.Fields as fields
use Rattle.vg_story.specs.Fronts.{Front, number48}
use Rattle.vg_story.specs.Laws.{has_text, ShownHaveTexts}
use Rattle.vg_story.specs.Matches.{matched_in, matched6_in}
use Rattle.vg_story.specs.Reasons.{fact, number, drops, behind, link, lengths, header4, header6, several, via, chosen, matched, matched6, lookup4, lookup6, takes, neighbor_at, neighbor, looked_at, rewrite, on_interface, handed, tagged, dropped, by_kind}

-- each value of these pieces has a text
abbrev AreThere : Graph → List Piece → Type 0
AreThere g ps = list_all (has_text g) ps ≡ true

both : (g : Graph) (xs ys : List Piece) → AreThere g xs → AreThere g ys → AreThere g (xs ++ ys)
both g xs ys x y = list_all-append (has_text g) xs ys ∙ ap (λ b. b && list_all (has_text g) ys) x ∙ y

either : (g : Graph) (b : Bool) (xs ys : List Piece) → AreThere g xs → AreThere g ys → AreThere g (if b then xs else ys)
either g true xs ys x y = x
either g false xs ys x y = y

-- what is shown only where a test holds
where_true : (g : Graph) (b : Bool) (xs : List Piece) → (b ≡ true → AreThere g xs) → AreThere g (if b then xs else [])
where_true g true xs x = x refl
where_true g false xs x = refl

link_there : (g : Graph) (f : Front) (step : Step) → AreThere g (link f step)
link_there g f step =
    either g (drops step errors.Short) (number words.Bytes f.len)
    (if drops step errors.WrongMac then fact words.Frame (values.Link (number48 f.bytes 0)) else fact words.Type (values.Hex (fields.type_of f)))
    refl
    (either g (drops step errors.WrongMac) (fact words.Frame (values.Link (number48 f.bytes 0))) (fact words.Type (values.Hex (fields.type_of f))) refl refl)

header4_there : (g : Graph) (f : Front) (step : Step) → AreThere g (header4 f step)
header4_there g f step =
    either g (drops step errors.Short) (number words.Bytes (behind f)) _ refl
    (either g (drops step errors.BadVersion) (number words.Version (fields.version f)) _ refl
    (either g (drops step errors.BadHeaderLength) (lengths f) _ refl
    (either g (drops step errors.BadLength) (number words.Length (fields.total_len f) ++ lengths f) _ refl
    (either g (drops step errors.BadChecksum) (fact words.Checksum (values.Hex (fields.checksum f))) _ refl
    (either g (drops step errors.TtlZero) (number words.Ttl (fields.time_to_live f)) [] refl refl)))))

header6_there : (g : Graph) (f : Front) (step : Step) → AreThere g (header6 f step)
header6_there g f step =
    either g (drops step errors.Short) (number words.Bytes (behind f)) _ refl
    (either g (drops step errors.BadVersion) (number words.Version (fields.version f)) _ refl
    (either g (drops step errors.BadLength) (number words.Length (fields.payload_len f) ++ number words.Bytes (behind f)) _ refl
    (either g (drops step errors.TtlZero) (number words.Ttl (fields.hop_limit f)) [] refl refl)))

via_there : (g : Graph) (n : Option ℕ) (count hash : ℕ) → AreThere g (via g n count hash)
via_there g None count hash = refl
via_there g (Some n) count hash =
    where_true g (nat_lt n (length g.adjacencies)) (fact words.Via (values.Neighbor n) ++ several count hash)
    (λ within. both g (fact words.Via (values.Neighbor n)) (several count hash) (ap (λ b. b && true) within)
    (either g (nat_lt count 2) [] _ refl refl))

chosen_there : (g : Graph) (target : Option RouteTo) (hash : ℕ) (n : Option ℕ) → AreThere g (chosen g target hash n)
chosen_there g None hash n = refl
chosen_there g (Some (routes.Via members)) hash n = via_there g n (length members) hash
chosen_there g (Some routes.Local) hash n = refl
chosen_there g (Some routes.Drop) hash n = refl

matched_there : (g : Graph) (route : Option (Prefix × ℕ)) → AreThere g (matched route)
matched_there g None = refl
matched_there g (Some route) = refl

matched6_there : (g : Graph) (route : Option (Prefix6 × ℕ)) → AreThere g (matched6 route)
matched6_there g None = refl
matched6_there g (Some route) = refl

lookup4_there : (stage : Stage) (f : Front) (step : Step) (after : Packet) → AreThere stage.fork.graph (lookup4 stage f step after)
lookup4_there stage f step after =
    let g = stage.fork.graph in
    let address = fields.destination f in
    let route = matched (matched_in stage.routes address) in
    let target = best_route g.routes address in
    let hash = flow_hash Flow f.bytes in
    either g (drops step errors.Unchecked) [] _ refl
    (both g route (chosen g target hash after.adjacency) (matched_there g (matched_in stage.routes address)) (chosen_there g target hash after.adjacency))

lookup6_there : (stage : Stage) (f : Front) (step : Step) (after : Packet) → AreThere stage.fork.graph (lookup6 stage f step after)
lookup6_there stage f step after =
    let g = stage.fork.graph in
    let address = fields.destination6 f in
    let route = matched6 (matched6_in stage.routes6 address) in
    let target = best_route6 g.routes6 address in
    let hash = fields.hash6 f in
    either g (drops step errors.Unchecked) [] _ refl
    (both g route (chosen g target hash after.adjacency) (matched6_there g (matched6_in stage.routes6 address)) (chosen_there g target hash after.adjacency))

takes_there : (g : Graph) (n : ℕ) (o : Option Interface) → slice_get g.interfaces n ≡ o → AreThere g (takes n o)
takes_there g n None is = refl
takes_there g n (Some interface) is = ap (λ b. b && true) (lt-ltb n (length g.interfaces) (slice_get_within g.interfaces n interface is))

neighbor_at_there : (g : Graph) (n : ℕ) (o : Option Adjacency) → slice_get g.adjacencies n ≡ o → AreThere g (neighbor_at g n o)
neighbor_at_there g n None is = refl
neighbor_at_there g n (Some adjacency) is =
    let i = adjacency.interface in
    both g (fact words.Via (values.Neighbor n)) (takes i (slice_get g.interfaces i))
    (ap (λ b. b && true) (lt-ltb n (length g.adjacencies) (slice_get_within g.adjacencies n adjacency is)))
    (takes_there g i (slice_get g.interfaces i) refl)

neighbor_there : (g : Graph) (n : Option ℕ) → AreThere g (neighbor g n)
neighbor_there g None = refl
neighbor_there g (Some n) = neighbor_at_there g n (slice_get g.adjacencies n) refl

rewrite_there : (stage : Stage) (len ttl : ℕ) (step : Step) (after : Packet) → AreThere stage.fork.graph (rewrite stage len ttl step after)
rewrite_there stage len ttl step after =
    let g = stage.fork.graph in
    either g (drops step errors.Unchecked) [] _ refl
    (both g (neighbor g after.adjacency) (looked_at len ttl step) (neighbor_there g after.adjacency)
    (either g (drops step errors.TtlExpired) (number words.Ttl ttl) _ refl
    (either g (drops step errors.MtuExceeded) (number words.Length len) [] refl refl)))

on_there : (g : Graph) (n : ℕ) → AreThere g (on_interface g n)
on_there g n = where_true g (nat_lt n (length g.interfaces)) (fact words.On (values.Interface n)) (λ within. ap (λ b. b && true) within)

handed_there : (g : Graph) (workers : ℕ) (step : Step) → AreThere g (handed workers step)
handed_there g workers (steps.Hand hash) = refl
handed_there g workers (steps.Next slot) = refl
handed_there g workers (steps.Tx interface) = refl
handed_there g workers (steps.Dropped error) = refl

tagged_there : (g : Graph) (f : Front) (step : Step) → AreThere g (tagged f step)
tagged_there g f step =
    either g (drops step errors.Short) (number words.Bytes f.len) _ refl
    (either g (fields.is_tagged f) (number words.Tag (fields.vlan f)) [] refl refl)

dropped_there : (g : Graph) (step : Step) → AreThere g (dropped step)
dropped_there g (steps.Dropped error) = refl
dropped_there g (steps.Next slot) = refl
dropped_there g (steps.Tx interface) = refl
dropped_there g (steps.Hand hash) = refl

by_kind_there : (stage : Stage) (workers : ℕ) (kind : Kind) (f : Front) (step : Step) (after : Packet)
    → AreThere stage.fork.graph (by_kind stage workers kind f step after)
by_kind_there stage workers kinds.PgInput f step after = refl
by_kind_there stage workers kinds.HandoffDequeue f step after = refl
by_kind_there stage workers (kinds.WorkerHandoff hash) f step after = handed_there stage.fork.graph workers step
by_kind_there stage workers kinds.EthernetInput f step after = link_there stage.fork.graph f step
by_kind_there stage workers kinds.Ip4Input f step after = header4_there stage.fork.graph f step
by_kind_there stage workers kinds.Ip4Lookup f step after = lookup4_there stage f step after
by_kind_there stage workers kinds.Ip4Rewrite f step after = rewrite_there stage _ _ step after
by_kind_there stage workers kinds.InterfaceOutput f step after = on_there stage.fork.graph (transmit_interface stage.fork.graph after)
by_kind_there stage workers kinds.InterfaceTx f step after = on_there stage.fork.graph (transmit_interface stage.fork.graph after)
by_kind_there stage workers kinds.ErrorDrop f step after = refl
by_kind_there stage workers kinds.Pass f step after = refl
by_kind_there stage workers kinds.EthernetDual f step after = link_there stage.fork.graph f step
by_kind_there stage workers kinds.Ip6Input f step after = header6_there stage.fork.graph f step
by_kind_there stage workers kinds.Ip6Lookup f step after = lookup6_there stage f step after
by_kind_there stage workers kinds.Ip6Rewrite f step after = rewrite_there stage _ _ step after
by_kind_there stage workers (kinds.Dot1qMatch id) f step after = tagged_there stage.fork.graph f step
by_kind_there stage workers (kinds.Dot1qPush id) f step after = tagged_there stage.fork.graph f step
by_kind_there stage workers (kinds.Dot1qRewrite id) f step after = tagged_there stage.fork.graph f step
by_kind_there stage workers (kinds.CrossConnect interface) f step after = on_there stage.fork.graph interface

pub shown_have_texts : ShownHaveTexts
shown_have_texts stage workers kind f step after =
    both stage.fork.graph (by_kind stage workers kind f step after) (dropped step) (by_kind_there stage workers kind f step after)
    (dropped_there stage.fork.graph step)
