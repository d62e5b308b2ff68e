-- For the clauses of `push` of a backlog as a handoff, and for `gate` of its `tick`: what a push keeps.
use Rattle.std.proofs.Common.{◌≡◌, ℕ, ◌+◌, ◌≤◌, ◌⊎◌, inl, inr, Bool, true, false, List, [], ◌∷◌, ◌++◌, length, refl, sym, ap, ◌∙◌, arith, append-nil, append_assoc, length-append}
use Rattle.std.specs.Prelude.{◌≢◌, ◌||◌, nat_le, nat_lt}
use Rattle.std.proofs.lemmas.Bool.{le-leb, leb-true, lt-ltb, ltb-true}
use Rattle.std.proofs.lemmas.List.Sums.{sum_by_push}
use Rattle.vg_ring.specs.Ends.{put, head_seen, tx_trail, IsSameTx}
use Rattle.vg_hands.specs.Filling.{GoesOn}
use Rattle.vg_journeys.specs.Accounts.{HandoffFrame}
use Rattle.vg_backlog.specs.Books.{BacklogBook, accepted_by, packets_in, room_of, is_closed, Accepts, Refuses}
use Rattle.vg_backlog.proofs.AdvanceLemmas.{accepts_steps, refuses_steps}

-- where no fewer frames are held and there is no more room, a gate stays closed
pub closed_more : (old new : BacklogBook) (packets : ℕ) → new.slots ≡ old.slots → length old.held ≤ length new.held → room_of new ≤ room_of old → is_closed old packets ≡ true → is_closed new packets ≡ true
closed_more old new packets slots held room closed = by (nat_le old.slots (length old.held)) refl closed
  where
    or_true : (b : Bool) → (b || true) ≡ true
    or_true true = refl
    or_true false = refl

    by : (b : Bool) → nat_le old.slots (length old.held) ≡ b → (b || nat_lt (room_of old) packets) ≡ true → is_closed new packets ≡ true
    by true is _ =
        let long = leb-true old.slots (length old.held) is in
        ap (λ b. b || nat_lt (room_of new) packets) (le-leb new.slots (length new.held) (omega (arith, long, slots, held)))
    by false _ is =
        let short = ltb-true (room_of old) packets is in
        ap (λ b. nat_le new.slots (length new.held) || b) (lt-ltb (room_of new) packets (omega (arith, short, room))) ∙ or_true (nat_le new.slots (length new.held))

-- what a push tells beside what it does
pub record Tells (item : HandoffFrame) (old new : BacklogBook) : Type 0 where
  pub accepted : accepted_by new ≡ accepted_by old ++ item ∷ []
  pub room_after : room_of old ≤ room_of new + length item.packets
  pub room_most : room_of new ≤ room_of old
  pub held : length old.held ≤ length new.held
  pub one : length new.held ≤ length old.held + 1
  pub steps : GoesOn old.end new.end
  pub end : IsSameTx old.end new.end
  pub rises : head_seen old.end ≤ head_seen new.end

-- it is held behind others
tells_behind : (item : HandoffFrame) (old new : BacklogBook) → new.room ≡ old.room → new.held ≡ old.held ++ item ∷ [] → new.end ≡ old.end → Tells item old new
tells_behind item old new room held end =
    let more = ap packets_in held in
    let push = sum_by_push (λ (frame : HandoffFrame). length frame.packets) old.held item in
    let long = ap length held in
    record {
      accepted = ap (λ tx. put tx ++ new.held) end ∙ ap (λ fs. put old.end ++ fs) held ∙ sym (append_assoc (put old.end) old.held (item ∷ []));
      room_after = omega (arith, more, push, room);
      room_most = omega (arith, more, push, room);
      held = omega (arith, long, length-append old.held (item ∷ []));
      one = omega (arith, long, length-append old.held (item ∷ []));
      steps = ([], ap tx_trail end);
      end = (cc, cc, cc);
      rises = (let same = ap head_seen end in omega (arith, same));
    }

-- it goes into the ring, or is held alone
tells_first : (item : HandoffFrame) (old new : BacklogBook) → new.room ≡ old.room → old.held ≡ []
    → (Accepts item old.end new.end × (new.held ≡ [])) ⊎ (Refuses old.end new.end × (new.held ≡ item ∷ [])) → Tells item old new
tells_first item old new room none (inl goes) =
    let before = ap packets_in none in
    let after = ap packets_in goes.1 in
    record {
      accepted = ap (λ fs. put new.end ++ fs) goes.1 ∙ append-nil (put new.end) ∙ goes.0.put_is ∙ ap (λ fs. fs ++ item ∷ []) (sym (append-nil (put old.end)) ∙ ap (λ fs. put old.end ++ fs) (sym none));
      room_after = omega (arith, before, after, room);
      room_most = omega (arith, before, after, room);
      held = (let e = ap length none in omega (arith, e));
      one = (let e = ap length goes.1 in omega (arith, e));
      steps = accepts_steps item old.end new.end goes.0;
      end = goes.0.same;
      rises = goes.0.rises;
    }
tells_first item old new room none (inr waits) =
    let before = ap packets_in none in
    let after = ap packets_in waits.1 in
    let push = sum_by_push (λ (frame : HandoffFrame). length frame.packets) [] item in
    record {
      accepted = ap (λ fs. put new.end ++ fs) waits.1 ∙ ap (λ fs. fs ++ item ∷ []) (waits.0.put_is ∙ sym (append-nil (put old.end)) ∙ ap (λ fs. put old.end ++ fs) (sym none));
      room_after = omega (arith, before, after, push, room);
      room_most = omega (arith, before, after, push, room);
      held = (let e = ap length none in omega (arith, e));
      one = (let e = ap length waits.1 in omega (arith, e));
      steps = refuses_steps old.end new.end waits.0;
      end = waits.0.same;
      rises = waits.0.rises;
    }

pub tells : (item : HandoffFrame) (old new : BacklogBook) → new.room ≡ old.room
    → (old.held ≢ [] → (new.held ≡ old.held ++ item ∷ []) × (new.end ≡ old.end))
    → (old.held ≡ [] → (Accepts item old.end new.end × (new.held ≡ [])) ⊎ (Refuses old.end new.end × (new.held ≡ item ∷ []))) → Tells item old new
tells item old new room behind first = by old.held refl
  where
    by : (held : List HandoffFrame) → old.held ≡ held → Tells item old new
    by [] is = tells_first item old new room is (first is)
    by (frame ∷ frames) is = let found = behind (λ none. let e : [] ≡ frame ∷ frames = sym none ∙ is in cc) in tells_behind item old new room found.0 found.1
