-- For `the_node_that_drops_is_one`: the kinds of the nodes of a lawful script's generations.
use Rattle.std.proofs.Common.{◌≡◌, ℕ, zero, suc, List, [], ◌∷◌, ◌++◌, map, refl, sym, ap, subst, ◌∙◌, arith, slice_set, ◌≤◌, add-one, inl, inr, append-nil, append_assoc}
use Rattle.std.specs.Prelude.{Bool, true, false, nat_le, Option, Some, None, Result, Ok, Err, IsSome, slice_get, ok_or, is_some, replicate, remove, length, flat_map, unwrap_or, if◌then◌else◌}
use Rattle.std.specs.List.{AllByRecursion}
use Rattle.std.proofs.lemmas.Bool.{false≢true}
use Rattle.std.proofs.lemmas.Option.{slice_get-map, slice_get_within, slice_get_cases, same_Some}
use Rattle.std.proofs.lemmas.List.Elements.{All-from_recursion, recursion_from_All}
use Rattle.std.proofs.lemmas.List.Sorted.{All-permutation}
use Rattle.vg_model.specs.declared.edits.Edit.{Edit}
use Rattle.vg_model.specs.declared.edits.Edit.TheVariants as edits
use Rattle.vg_model.specs.declared.edits.EditLine.{EditLine}
use Rattle.vg_model.specs.declared.kinds.Adjacency.{Adjacency}
use Rattle.vg_model.specs.declared.kinds.Interface.{Interface}
use Rattle.vg_model.specs.declared.kinds.Kind.{Kind}
use Rattle.vg_model.specs.declared.kinds.Kind.TheVariants as kinds
use Rattle.vg_model.specs.declared.names.Mac.{Mac}
use Rattle.vg_model.specs.declared.routes.Prefix.{Prefix}
use Rattle.vg_model.specs.declared.routes.Prefix6.{Prefix6}
use Rattle.vg_model.specs.declared.routes.RouteTo.{RouteTo}
use Rattle.vg_model.specs.declared.routes.RouteWord.{RouteWord}
use Rattle.vg_model.specs.Graph.{Graph, Node, kind_entry, slots, error_drop, is_source}
use Rattle.vg_model.specs.Edit.{Cause, Edited, ◌>>=◌, TooMany, DoubleName, UnknownNode, UnknownSlot, UnknownInterface, NoRoute, most_nodes, most_interfaces, most_adjacencies, most_routes}
use Rattle.vg_model.specs.Edit.{node_named, interface_named, adjacency_named, place_of, route_place, route6_place, target_of, refused_if, leads, placed, with_interface, with_node, with_arc, with_adjacency, with_route, without_route, with_route6, without_route6, apply, apply_all}
use Rattle.vg_model.specs.Start.{start_graph}
use Rattle.vg_model.proofs.LegEnds.{all_at}
use Rattle.vg_graph.proofs.ListLemmas.{map_set, map_append}
use Rattle.vg_script.specs.declared.scripts.Block.{Block}
use Rattle.vg_script.specs.declared.scripts.Block.TheVariants as blocks
use Rattle.vg_script.specs.declared.scripts.Script.{Script}
use Rattle.vg_script.specs.Events.{Event, events, events_of, runs}
use Rattle.vg_script.specs.Lawful.{IsLawful, IsLawfulEdit, AreLawfulEdits, IsLawfulBlock}
use Rattle.vg_script.proofs.EventLemmas.{events_are_of_blocks}
use Rattle.vg_script.proofs.RoundTripLines.{each-append}
use Rattle.vg_plan.specs.Plan.{Planned, IsPlan, DropsAreOne}
use Rattle.vg_plan.proofs.GenerationLemmas.{first_graph, all_made, length_graphs}
use Rattle.vg_plan.proofs.GrowthLemmas.{IfMade, then_made, arc_checked, arc_to, arc_named, arc_at, arc_from}

-- the kinds of a graph's nodes
abbrev kinds_of : Graph → List Kind
kinds_of g = map (λ (x : Node). x.kind) g.nodes

-- the kind of the node that an edit adds
abbrev new_kinds : Edit → List Kind
new_kinds (edits.Node name kind) = kind ∷ []
new_kinds (edits.Interface name mac mtu up filter) = []
new_kinds (edits.Arc from slot to) = []
new_kinds (edits.Adjacency name interface mac) = []
new_kinds (edits.Route prefix to) = []
new_kinds (edits.Unroute prefix) = []
new_kinds (edits.Route6 prefix to) = []
new_kinds (edits.Unroute6 prefix) = []

module _ (g : Graph) where
  -- the nodes keep their kinds
  abbrev Same : Graph → Type 0
  Same after = kinds_of after ≡ kinds_of g

  checked_same : (n s m : ℕ) (node : Node) (bad cycle : Bool) → slice_get g.nodes n ≡ Some node → IfMade Same (arc_checked g n s m node bad cycle)
  checked_same n s m node true cycle at = tt
  checked_same n s m node false true at = tt
  checked_same n s m node false false at = map_set (λ (x : Node). x.kind) g.nodes n node (record node { arcs = slice_set node.arcs s m }) at refl

  found : {X : Type 0} (o : Option X) (cause : Cause) (x : X) → ok_or o cause ≡ Ok x → o ≡ Some x
  found (Some y) cause x e = ap Some cc
  found None cause x e = cc

  arc_same : (from slot to : List ℕ) → IfMade Same (with_arc g from slot to)
  arc_same from slot to =
      then_made Same (ok_or (node_named g from) UnknownNode) (λ n. arc_from g n slot to) (λ n a.
      then_made Same (ok_or (slice_get g.nodes n) UnknownNode) (λ node. arc_at g n node slot to) (λ node b.
      then_made Same (ok_or (place_of (λ slot. slot) slot (slots node.kind)) UnknownSlot) (λ s. arc_named g n s node to) (λ s c.
      then_made Same (ok_or (node_named g to) UnknownNode) (λ m. arc_to g n s m node) (λ m d.
      then_made Same (ok_or (slice_get g.nodes m) UnknownNode) (λ (target : Node). arc_checked g n s m node (is_source target.kind) (leads g (length g.nodes) m n)) (λ target e.
      checked_same n s m node (is_source target.kind) (leads g (length g.nodes) m n) (found (slice_get g.nodes n) UnknownNode node b))))))

  interface_same : (interface : Interface) → IfMade Same (with_interface g interface)
  interface_same interface =
      then_made Same (placed most_interfaces (interface_named g interface.name) interface g.interfaces) (λ list. Ok (record g { interfaces = list })) (λ list e. refl)

  adjacency_same : (name interface : List ℕ) (mac : Mac) → IfMade Same (with_adjacency g name interface mac)
  adjacency_same name interface mac =
      let new : ℕ → Adjacency = λ i. record { name = name; interface = i; mac = mac } in
      then_made Same (ok_or (interface_named g interface) UnknownInterface)
      (λ i. placed most_adjacencies (adjacency_named g name) (new i) g.adjacencies >>= (λ list. Ok (record g { adjacencies = list }))) (λ i d.
      then_made Same (placed most_adjacencies (adjacency_named g name) (new i) g.adjacencies) (λ list. Ok (record g { adjacencies = list })) (λ list e. refl))

  route_same : (prefix : Prefix) (word : RouteWord) → IfMade Same (with_route g prefix word)
  route_same prefix word =
      let route : RouteTo → Prefix × RouteTo = λ to. (prefix, to) in
      then_made Same (target_of g word) (λ to. placed most_routes (route_place prefix g.routes) (route to) g.routes >>= (λ list. Ok (record g { routes = list }))) (λ to d.
      then_made Same (placed most_routes (route_place prefix g.routes) (route to) g.routes) (λ list. Ok (record g { routes = list })) (λ list e. refl))

  unroute_same : (prefix : Prefix) → IfMade Same (without_route g prefix)
  unroute_same prefix =
      then_made Same (ok_or (route_place prefix g.routes) NoRoute) (λ place. Ok (record g { routes = remove g.routes place })) (λ place d. refl)

  route6_same : (prefix : Prefix6) (word : RouteWord) → IfMade Same (with_route6 g prefix word)
  route6_same prefix word =
      let route : RouteTo → Prefix6 × RouteTo = λ to. (prefix, to) in
      then_made Same (target_of g word) (λ to. placed most_routes (route6_place prefix g.routes6) (route to) g.routes6 >>= (λ list. Ok (record g { routes6 = list }))) (λ to d.
      then_made Same (placed most_routes (route6_place prefix g.routes6) (route to) g.routes6) (λ list. Ok (record g { routes6 = list })) (λ list e. refl))

  unroute6_same : (prefix : Prefix6) → IfMade Same (without_route6 g prefix)
  unroute6_same prefix =
      then_made Same (ok_or (route6_place prefix g.routes6) NoRoute) (λ place. Ok (record g { routes6 = remove g.routes6 place })) (λ place d. refl)

  -- the kinds behind an edit: those that were there, and that of a new node behind them
  abbrev Adds : Edit → Graph → Type 0
  Adds edit after = kinds_of after ≡ kinds_of g ++ new_kinds edit

  placed_last : {X : Type 0} (most : ℕ) (x : X) (xs ys : List X) → placed most None x xs ≡ Ok ys → ys ≡ xs ++ x ∷ []
  placed_last {X} most x xs ys e = here (nat_le most (length xs)) e
    where
      here : (full : Bool) → (if full then Err TooMany else Ok (xs ++ x ∷ [])) ≡ Ok ys → ys ≡ xs ++ x ∷ []
      here true e = cc
      here false e = cc

  node_adds : (name : List ℕ) (kind : Kind) → IfMade (Adds (edits.Node name kind)) (with_node g name kind)
  node_adds name kind =
      let new : Node = record { name = name; kind = kind; arcs = replicate (length (slots kind)) error_drop } in
      let Q = Adds (edits.Node name kind) in
      then_made Q (refused_if (is_some (node_named g name)) DoubleName) (λ _. placed most_nodes None new g.nodes >>= (λ list. Ok (record g { nodes = list }))) (λ unit d.
      then_made Q (placed most_nodes None new g.nodes) (λ list. Ok (record g { nodes = list }))
      (λ list e. ap (map (λ (x : Node). x.kind)) (placed_last most_nodes new g.nodes list e) ∙ map_append (λ (x : Node). x.kind) g.nodes new))

  none_added : (edited : Edited) → IfMade Same edited → IfMade (λ after. kinds_of after ≡ kinds_of g ++ []) edited
  none_added (Ok after) h = h ∙ sym (append-nil (kinds_of g))
  none_added (Err cause) h = tt

  edit_adds : (edit : Edit) → IfMade (Adds edit) (apply g edit)
  edit_adds (edits.Interface name mac mtu up filter) =
      let interface : Interface = record { name = name; mac = mac; mtu = mtu; up = up; filter = filter } in
      none_added (with_interface g interface) (interface_same interface)
  edit_adds (edits.Node name kind) = node_adds name kind
  edit_adds (edits.Arc from slot to) = none_added (with_arc g from slot to) (arc_same from slot to)
  edit_adds (edits.Adjacency name interface mac) = none_added (with_adjacency g name interface mac) (adjacency_same name interface mac)
  edit_adds (edits.Route prefix to) = none_added (with_route g prefix to) (route_same prefix to)
  edit_adds (edits.Unroute prefix) = none_added (without_route g prefix) (unroute_same prefix)
  edit_adds (edits.Route6 prefix to) = none_added (with_route6 g prefix to) (route6_same prefix to)
  edit_adds (edits.Unroute6 prefix) = none_added (without_route6 g prefix) (unroute6_same prefix)

-- a kind that scripts make nodes of
abbrev HasWord : Kind → Type 0
HasWord kind = IsSome (kind_entry kind).word

-- the nodes are those of the start graph, and behind them nodes that scripts make
abbrev IsGrown : Graph → Type 0
IsGrown g = (others : List Kind) × (kinds_of g ≡ kinds_of start_graph ++ others) × AllByRecursion HasWord others

new_have_words : (edit : Edit) → IsLawfulEdit edit → AllByRecursion HasWord (new_kinds edit)
new_have_words (edits.Node name kind) h = (h, tt)
new_have_words (edits.Interface name mac mtu up filter) h = tt
new_have_words (edits.Arc from slot to) h = tt
new_have_words (edits.Adjacency name interface mac) h = tt
new_have_words (edits.Route prefix to) h = tt
new_have_words (edits.Unroute prefix) h = tt
new_have_words (edits.Route6 prefix to) h = tt
new_have_words (edits.Unroute6 prefix) h = tt

all_joined : (ks ls : List Kind) → AllByRecursion HasWord ks → AllByRecursion HasWord ls → AllByRecursion HasWord (ks ++ ls)
all_joined [] ls h k = k
all_joined (x ∷ ks) ls h k = (h.0, all_joined ks ls h.1 k)

edit_grown : (g after : Graph) (edit : Edit) → IsLawfulEdit edit → IsGrown g → apply g edit ≡ Ok after → IsGrown after
edit_grown g after edit lawful grown e =
    let adds = subst (IfMade (Adds g edit)) e (edit_adds g edit) in (
      grown.0 ++ new_kinds edit,
      adds ∙ ap (λ ks. ks ++ new_kinds edit) grown.1 ∙ append_assoc (kinds_of start_graph) grown.0 (new_kinds edit),
      all_joined grown.0 (new_kinds edit) grown.2 (new_have_words edit lawful),
    )

-- where a list has nothing it is over
none_past : {X : Type 0} (xs : List X) (i : ℕ) → slice_get xs i ≡ None → length xs ≤ i
none_past xs i e = elim (slice_get_cases xs i).1 [ inl found ↦ cc | inr past ↦ past.0 ]

-- edits that a script can say
abbrev AreSaid : List EditLine → Type 0
AreSaid lines = AllByRecursion (λ (l : EditLine). IsLawfulEdit l.edit) lines

edits_grown : (g after : Graph) (lines : List EditLine) → AreSaid lines → IsGrown g → apply_all g lines ≡ Ok after → IsGrown after
edits_grown g after [] said grown e = let same : g ≡ after = cc in subst IsGrown same grown
edits_grown g after (l ∷ lines) said grown e = made (apply g l.edit) refl (λ next k f. edits_grown next after lines said.1 k f) e
  where
    made : (edited : Edited) → apply g l.edit ≡ edited → ((next : Graph) → IsGrown next → apply_all next lines ≡ Ok after → IsGrown after)
        → elim edited as (λ (r : Edited). Result Graph (ℕ × Cause)) [ Ok next ↦ apply_all next lines | Err cause ↦ Err (l.line, cause) ] ≡ Ok after → IsGrown after
    made (Ok next) is go e = go next (edit_grown g next l.edit said.0 grown is) e
    made (Err cause) is go e = cc

said_edits : (lines : List EditLine) → AreLawfulEdits lines → AreSaid lines
said_edits lines h = recursion_from_All (λ (l : EditLine). IsLawfulEdit l.edit) lines h

-- the edits of an event of a lawful script
abbrev IsSaid : Event → Type 0
IsSaid e = AreSaid e.edits

group_said : (groups : List (List EditLine)) (k : ℕ) → AllByRecursion AreLawfulEdits groups → AreSaid (unwrap_or (slice_get groups k) [])
group_said groups k h = one (slice_get groups k) refl
  where
    one : (o : Option (List EditLine)) → slice_get groups k ≡ o → AreSaid (unwrap_or o [])
    one None e = tt
    one (Some group) e = said_edits group (all_at AreLawfulEdits groups k group e h)

runs_said : (line every count : ℕ) (groups : List (List EditLine)) → AllByRecursion AreLawfulEdits groups → AllByRecursion IsSaid (runs line every count groups)
runs_said line every zero groups h = tt
runs_said line every (suc k) groups h = each-append IsSaid (runs line every k groups) (_ ∷ []) (runs_said line every k groups h) (group_said groups _ h, tt)

block_said : (b : Block) → IsLawfulBlock b → AllByRecursion IsSaid (events_of b)
block_said (blocks.At line time group) h = (said_edits group h.1, tt)
block_said (blocks.Process line name every count groups) h = runs_said line every count groups (recursion_from_All AreLawfulEdits groups h.5)

blocks_said : (bs : List Block) → AllByRecursion IsLawfulBlock bs → AllByRecursion IsSaid (flat_map events_of bs)
blocks_said [] h = tt
blocks_said (b ∷ bs) h = each-append IsSaid (events_of b) (flat_map events_of bs) (block_said b h.0) (blocks_said bs h.1)

events_said : (script : Script) → IsLawful script → AllByRecursion IsSaid (events script)
events_said script h =
    recursion_from_All IsSaid (events script) (All-permutation IsSaid (flat_map events_of script.blocks) (events script) (events_are_of_blocks script)
    (All-from_recursion IsSaid (flat_map events_of script.blocks) (blocks_said script.blocks (recursion_from_All IsLawfulBlock script.blocks h.blocks))))

-- every generation is the start graph with nodes that scripts make behind its own
generations_grown : (plan : Planned) → IsPlan plan → (i : ℕ) (g : Graph) → slice_get plan.graphs i ≡ Some g → IsGrown g
generations_grown plan is zero g at =
    let first = first_graph plan is in
    let same : first.0 ≡ g = same_Some first.0 g (sym first.2 ∙ at) in
    subst IsGrown same (edits_grown start_graph first.0 plan.script.start (said_edits plan.script.start is.lawful.start) ([], sym (append-nil (kinds_of start_graph)), tt) first.1)
generations_grown plan is (suc i) g at = one (slice_get (events plan.script) i) refl (λ before k. generations_grown plan is i before k)
  where
    one : (o : Option Event) → slice_get (events plan.script) i ≡ o → ((before : Graph) → slice_get plan.graphs i ≡ Some before → IsGrown before) → IsGrown g
    one (Some event) e go =
        let next = all_made plan is i event e in
        let same : next.1 ≡ g = same_Some next.1 g (sym next.3 ∙ subst (λ n. slice_get plan.graphs n ≡ Some g) (sym (add-one i)) at) in
        subst IsGrown same (edits_grown next.0 next.1 event.edits (all_at IsSaid (events plan.script) i event e (events_said plan.script is.lawful)) (go next.0 next.2) next.4)
    one None e go =
        let long = length_graphs plan is in
        let within = slice_get_within plan.graphs (suc i) g at in
        let short = none_past (events plan.script) i e in
        absurd (omega (arith, long, within, short))

-- of these nodes the one of the kind that drops is that of the start graph
grown_drop : (others : List Kind) (n : ℕ) → AllByRecursion HasWord others → slice_get (kinds_of start_graph ++ others) n ≡ Some kinds.ErrorDrop → n ≡ error_drop
grown_drop others zero h e = cc
grown_drop others (suc zero) h e = cc
grown_drop others (suc (suc zero)) h e = cc
grown_drop others (suc (suc (suc zero))) h e = cc
grown_drop others (suc (suc (suc (suc zero)))) h e = cc
grown_drop others (suc (suc (suc (suc (suc zero))))) h e = cc
grown_drop others (suc (suc (suc (suc (suc (suc zero)))))) h e = cc
grown_drop others (suc (suc (suc (suc (suc (suc (suc zero))))))) h e = cc
grown_drop others (suc (suc (suc (suc (suc (suc (suc (suc zero)))))))) h e = refl
grown_drop others (suc (suc (suc (suc (suc (suc (suc (suc (suc n))))))))) h e = absurd (false≢true (all_at HasWord others n kinds.ErrorDrop e h))

pub drops_are_one : (plan : Planned) → IsPlan plan → DropsAreOne plan
drops_are_one plan is i g n at kind =
    let grown = generations_grown plan is i g at in
    grown_drop grown.0 n grown.2 (ap (λ ks. slice_get ks n) (sym grown.1) ∙ slice_get-map (λ (x : Node). x.kind) g.nodes n ∙ kind)
