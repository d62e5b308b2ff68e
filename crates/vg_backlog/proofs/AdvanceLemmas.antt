-- For the clause `advances` of `Backlog::advance`, and for the clauses of `tick` of a backlog as a handoff: what a tick keeps.
use Rattle.std.proofs.Common.{◌≡◌, ℕ, ◌≤◌, ◌⊎◌, ⊎_elim, inl, inr, List, [], ◌∷◌, ◌++◌, length, refl, sym, ap, ◌∙◌, subst, arith, append_assoc, length-append}
use Rattle.std.specs.Prelude.{Option, None, Some, option_to_list, MatchOption}
use Rattle.std.proofs.lemmas.List.Sums.{sum_by-cons}
use Rattle.vg_ring.specs.declared.ends.RingTx.{RingTx}
use Rattle.vg_steps.specs.Trails.{found}
use Rattle.vg_ring.specs.Ends.{put, head_seen, tx_trail, IsSameTx}
use Rattle.vg_ring.specs.WordPlaces.{head_word, tail_word}
use Rattle.vg_hands.specs.Filling.{GoesOn, EndsFull}
use Rattle.vg_journeys.specs.Accounts.{HandoffFrame}
use Rattle.vg_backlog.specs.Books.{packets_in, Accepts, Refuses, Advances}
use Rattle.vg_backlog.specs.Queues.{Store, IsHolding}

-- frames that were accepted stay so, in order
pub advances_accepted : (before : RingTx HandoffFrame) (held : List HandoffFrame) (after : RingTx HandoffFrame) (left : List HandoffFrame) → Advances before held after left
    → put after ++ left ≡ put before ++ held
advances_accepted before [] after left is = ap (λ tx. put tx ++ left) is.0 ∙ ap (λ fs. put before ++ fs) is.1
advances_accepted before (frame ∷ frames) after left (inl step) =
    advances_accepted step.0 frames after left step.2 ∙ ap (λ fs. fs ++ frames) step.1.put_is ∙ append_assoc (put before) (frame ∷ []) frames
advances_accepted before (frame ∷ frames) after left (inr stop) = ap (λ fs. fs ++ left) stop.0.put_is ∙ ap (λ fs. put before ++ fs) stop.1

-- no more packets are held
pub advances_fewer : (before : RingTx HandoffFrame) (held : List HandoffFrame) (after : RingTx HandoffFrame) (left : List HandoffFrame) → Advances before held after left
    → packets_in left ≤ packets_in held
advances_fewer before [] after left is = let none = ap packets_in is.1 in omega (arith, none)
advances_fewer before (frame ∷ frames) after left (inl step) =
    let rest = advances_fewer step.0 frames after left step.2 in
    omega (arith, rest, sum_by-cons (λ (frame : HandoffFrame). length frame.packets) frame frames)
advances_fewer before (frame ∷ frames) after left (inr stop) = let same = ap packets_in stop.1 in omega (arith, same)

-- and no more frames
pub advances_shorter : (before : RingTx HandoffFrame) (held : List HandoffFrame) (after : RingTx HandoffFrame) (left : List HandoffFrame) → Advances before held after left
    → length left ≤ length held
advances_shorter before [] after left is = let none = ap length is.1 in omega (arith, none)
advances_shorter before (frame ∷ frames) after left (inl step) = let rest = advances_shorter step.0 frames after left step.2 in omega (arith, rest)
advances_shorter before (frame ∷ frames) after left (inr stop) = let same = ap length stop.1 in omega (arith, same)

-- it is the same end, and has seen no smaller head
pub advances_same : (before : RingTx HandoffFrame) (held : List HandoffFrame) (after : RingTx HandoffFrame) (left : List HandoffFrame) → Advances before held after left
    → IsSameTx before after
advances_same before [] after left is = let same = is.0 in (cc, cc, cc)
advances_same before (frame ∷ frames) after left (inl step) =
    let one = step.1.same in
    let rest = advances_same step.0 frames after left step.2 in
    (rest.0 ∙ one.0, rest.1 ∙ one.1, rest.2 ∙ one.2)
advances_same before (frame ∷ frames) after left (inr stop) = stop.0.same

pub advances_rises : (before : RingTx HandoffFrame) (held : List HandoffFrame) (after : RingTx HandoffFrame) (left : List HandoffFrame) → Advances before held after left
    → head_seen before ≤ head_seen after
advances_rises before [] after left is = let same = ap head_seen is.0 in omega (arith, same)
advances_rises before (frame ∷ frames) after left (inl step) =
    let one = step.1.rises in
    let rest = advances_rises step.0 frames after left step.2 in
    omega (arith, one, rest)
advances_rises before (frame ∷ frames) after left (inr stop) = stop.0.rises

-- the steps of pushes
pub accepts_steps : (frame : HandoffFrame) (before after : RingTx HandoffFrame) → Accepts frame before after → GoesOn before after
accepts_steps frame before after is = (found tail_word (length (put after)) ∷ is.written.0 ∷ [], is.written.1)

pub refuses_steps : (before after : RingTx HandoffFrame) → Refuses before after → GoesOn before after
refuses_steps before after is = (found head_word (head_seen after) ∷ [], is.read)

steps_then : (a b c : RingTx HandoffFrame) → GoesOn a b → GoesOn b c → GoesOn a c
steps_then a b c one two = (two.0 ++ one.0, two.1 ∙ ap (λ ts. two.0 ++ ts) one.1 ∙ sym (append_assoc two.0 one.0 (tx_trail a)))

pub advances_steps : (before : RingTx HandoffFrame) (held : List HandoffFrame) (after : RingTx HandoffFrame) (left : List HandoffFrame) → Advances before held after left
    → GoesOn before after
advances_steps before [] after left is = ([], ap tx_trail is.0)
advances_steps before (frame ∷ frames) after left (inl step) =
    steps_then before step.0 after (accepts_steps frame before step.0 step.1) (advances_steps step.0 frames after left step.2)
advances_steps before (frame ∷ frames) after left (inr stop) = refuses_steps before after stop.0

-- either no frame is left, or the last step found the ring full
pub advances_full : (before : RingTx HandoffFrame) (held : List HandoffFrame) (after : RingTx HandoffFrame) (left : List HandoffFrame) → Advances before held after left
    → (length left ≡ 0) ⊎ EndsFull before after
advances_full before [] after left is = inl (ap length is.1)
advances_full before (frame ∷ frames) after left (inl step) =
    ⊎_elim (λ none. inl none) (λ (full : EndsFull step.0 after). inr (later full)) (advances_full step.0 frames after left step.2)
  where
    later : EndsFull step.0 after → EndsFull before after
    later full =
        let one = step.1.same in
        let rest = full.same in
        record {
          last = full.last;
          same = (rest.0 ∙ one.0, rest.1 ∙ one.1, rest.2 ∙ one.2);
          earlier = steps_then before step.0 full.last (accepts_steps frame before step.0 step.1) full.earlier;
          put_is = full.put_is;
          read = full.read;
          by_the_head = full.by_the_head;
          rule = full.rule;
        }
advances_full before (frame ∷ frames) after left (inr stop) = inr (record {
  last = before;
  same = (refl, refl, refl);
  earlier = ([], refl);
  put_is = stop.0.put_is;
  read = stop.0.read;
  by_the_head = (let full = stop.0.by_the_head in let slots = stop.0.same.1 in let same = ap length stop.0.put_is in omega (arith, full, slots, same));
  rule = stop.0.rule;
})

-- the frame behind the first comes to the front
pub popped : (result : Option HandoffFrame) (old new : Store) → MatchOption result ((old.frames ≡ []) × (new ≡ old)) (λ frame. old ≡ record new { frames = frame ∷ new.frames })
    → (option_to_list result ++ new.frames ≡ old.frames) × (new.room ≡ old.room) × (result ≡ None → new.frames ≡ [])
popped None old new is = (ap (λ (s : Store). s.frames) is.1, ap (λ (s : Store). s.room) is.1, λ none. ap (λ (s : Store). s.frames) is.1 ∙ is.0)
popped (Some frame) old new is = (sym (ap (λ (s : Store). s.frames) is), sym (ap (λ (s : Store). s.room) is), λ none. absurd (let e : Some frame ≡ None = none in cc))

-- once the first frame is put, what is kept still holds
pub holding_next : (ring after : RingTx HandoffFrame) (next later : Option HandoffFrame) (frame : HandoffFrame) (behind left : Store) (room : ℕ)
    → IsHolding ring next behind room → next ≡ Some frame → put after ≡ put ring ++ frame ∷ []
    → (option_to_list later ++ left.frames ≡ behind.frames) × (left.room ≡ behind.room) × (later ≡ None → left.frames ≡ [])
    → IsHolding after later left room
holding_next ring after next later frame behind left room holding is put_is come =
    let whole : option_to_list next ++ behind.frames ≡ frame ∷ behind.frames = ap (λ n. option_to_list n ++ behind.frames) is in
    let rest = come.0 in
    let packets = ap packets_in whole in
    let fewer = ap packets_in rest in
    let many = ap length whole in
    let less = ap length rest in
    let long = ap length put_is in
    let first = sum_by-cons (λ (frame : HandoffFrame). length frame.packets) frame behind.frames in
    let few = holding.few in
    let fits = holding.fits in
    let place = holding.place in
    let same = come.1 in
    record {
      first = come.2;
      place = omega (arith, place, same);
      fits = omega (arith, packets, fewer, first, fits);
      few = λ some. (let most = few (omega (arith, many)) in omega (arith, most, many, less, long, some, length-append (put ring) (frame ∷ [])));
    }

-- and a tick goes on with the frames behind it
pub goes_on_next : (ring after : RingTx HandoffFrame) (next later : Option HandoffFrame) (frame : HandoffFrame) (behind left : Store)
    → next ≡ Some frame → Accepts frame ring after → option_to_list later ++ left.frames ≡ behind.frames
    → (end : RingTx HandoffFrame) (held : List HandoffFrame) → Advances after (option_to_list later ++ left.frames) end held → Advances ring (option_to_list next ++ behind.frames) end held
goes_on_next ring after next later frame behind left is accepts rest end held advances =
    subst (λ n. Advances ring (option_to_list n ++ behind.frames) end held) (sym is)
    (inl (after, accepts, subst (λ fs. Advances after fs end held) rest advances))
