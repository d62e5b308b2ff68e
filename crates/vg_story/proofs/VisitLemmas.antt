-- For `put_visits`: what is shown of visits, and the packet after them, one visit more at a time.
use Rattle.std.proofs.Common.{◌≡◌, ℕ, ◌+◌, ◌<◌, List, [], ◌∷◌, ◌++◌, length, take, get_or, refl, sym, ap, ◌∙◌, append-nil, append_assoc}
use Rattle.std.proofs.lemmas.List.{take_more}
use Rattle.vg_model.specs.Graph.{Graph}
use Rattle.vg_model.specs.Packet.{Packet}
use Rattle.vg_model.specs.Visit.{Visit}
use Rattle.vg_story.specs.declared.pieces.Piece.{Piece}
use Rattle.vg_story.specs.declared.stages.Stage.{Stage}
use Rattle.vg_story.specs.Visits.{told_visit, told_visits, after_visit, after_visits}

-- the packet after one visit more
after_visits-push : (visit : Visit) (g : Graph) (nodes : List ℕ) (node : ℕ) (p : Packet)
    → after_visits visit g (nodes ++ node ∷ []) p ≡ after_visit visit g node (after_visits visit g nodes p)
after_visits-push visit g [] node p = refl
after_visits-push visit g (first ∷ nodes) node p = after_visits-push visit g nodes node (after_visit visit g first p)

-- what is shown of one visit more
told_visits-push : (visit : Visit) (stage : Stage) (workers : ℕ) (nodes : List ℕ) (node : ℕ) (p : Packet)
    → told_visits visit stage workers (nodes ++ node ∷ []) p
    ≡ told_visits visit stage workers nodes p ++ told_visit visit stage workers node (after_visits visit stage.fork.graph nodes p)
told_visits-push visit stage workers [] node p = append-nil (told_visit visit stage workers node p)
told_visits-push visit stage workers (first ∷ nodes) node p =
    let after = after_visit visit stage.fork.graph first p in
    ap (λ rest. told_visit visit stage workers first p ++ rest) (told_visits-push visit stage workers nodes node after)
    ∙ sym (append_assoc (told_visit visit stage workers first p) (told_visits visit stage workers nodes after)
    (told_visit visit stage workers node (after_visits visit stage.fork.graph nodes after)))

-- visits of these nodes are shown, from this packet on and behind these pieces
pub record Showing : Type 0 where
  pub visit : Visit
  pub stage : Stage
  pub workers : ℕ
  pub nodes : List ℕ
  pub packet : Packet
  pub pieces : List Piece

-- how far that is: the packet, and the pieces
pub record Standing : Type 0 where
  pub packet : Packet
  pub pieces : List Piece

-- the packet is through the first so many visits, and their pieces stand behind those from before
pub record IsThrough (t : Showing) (i : ℕ) (s : Standing) : Type 0 where
  pub pieces_are : s.pieces ≡ t.pieces ++ told_visits t.visit t.stage t.workers (take i t.nodes) t.packet
  pub packet_is : s.packet ≡ after_visits t.visit t.stage.fork.graph (take i t.nodes) t.packet

-- the next visit is made
pub record IsNext (t : Showing) (i : ℕ) (s after : Standing) : Type 0 where
  pub within : i < length t.nodes
  pub shown : after.pieces ≡ s.pieces ++ told_visit t.visit t.stage t.workers (get_or t.nodes i 0) s.packet
  pub visited : after.packet ≡ after_visit t.visit t.stage.fork.graph (get_or t.nodes i 0) s.packet

-- one visit more
pub one_visit_more : (t : Showing) (i : ℕ) (s after : Standing) → IsThrough t i s → IsNext t i s after → IsThrough t (i + 1) after
one_visit_more t i s after so_far next =
    let node = get_or t.nodes i 0 in
    let before = take i t.nodes in
    let one = take_more t.nodes i 0 next.within in
    let first = told_visits t.visit t.stage t.workers before t.packet in
    record {
      pieces_are =
          next.shown
          ∙ ap (λ ps. ps ++ told_visit t.visit t.stage t.workers node s.packet) so_far.pieces_are
          ∙ append_assoc t.pieces first (told_visit t.visit t.stage t.workers node s.packet)
          ∙ ap (λ q. t.pieces ++ (first ++ told_visit t.visit t.stage t.workers node q)) so_far.packet_is
          ∙ ap (λ ps. t.pieces ++ ps) (sym (told_visits-push t.visit t.stage t.workers before node t.packet))
          ∙ ap (λ ns. t.pieces ++ told_visits t.visit t.stage t.workers ns t.packet) (sym one);
      packet_is =
          next.visited
          ∙ ap (after_visit t.visit t.stage.fork.graph node) so_far.packet_is
          ∙ sym (after_visits-push t.visit t.stage.fork.graph before node t.packet)
          ∙ ap (λ ns. after_visits t.visit t.stage.fork.graph ns t.packet) (sym one);
    }
