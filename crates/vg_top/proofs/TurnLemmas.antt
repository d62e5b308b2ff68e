-- For `run`: of a turns file its first bytes decide, and what is accepted says turns.
use Rattle.std.proofs.Common.{◌≡◌, ◌⊎◌, ℕ, zero, suc, ◌+◌, ◌-◌, ◌<◌, ◌≤◌, Bool, true, false, List, [], ◌∷◌, length, take, refl, sym, ap, ◌∙◌, inl, inr, arith}
use Rattle.std.specs.Prelude.{Option, Some, None, Ok, ◌==◌, ◌&&◌, ◌||◌, nat_lt, nat_le, if◌then◌else◌}
use Rattle.std.specs.List.{AllByRecursion}
use Rattle.std.proofs.lemmas.Bool.{cases_lt, ltb-true, leb-true, eqb-true, false≢true}
use Rattle.std.proofs.lemmas.List.{take_all}
use Rattle.std.proofs.lemmas.List.Elements.{All-from_recursion}
use Rattle.std.proofs.lemmas.Option.{none-some}
use Rattle.vg_turns.specs.declared.steps.Step.{Step}
use Rattle.vg_turns.specs.Turns.{turns, fault_from, steps_said, read_as, may_stand, is_main, is_worker, is_white, most_bytes}
use Rattle.vg_engine.specs.Orders.{IsTurnByte, AreTurns}

-- ---- the first bytes decide

at_place : (stands : Bool) (place : ℕ) (one other : Option ℕ) (b : Bool) → (b ≡ true → one ≡ other)
    → (if b && stands then one else Some place) ≡ (if b && stands then other else Some place)
at_place stands place one other false same = refl
at_place stands place one other true same = ap (λ rest. if stands then rest else Some place) (same refl)

front_fault : (workers place n : ℕ) (bytes : List ℕ) → place + n ≡ most_bytes + 1 → 1 ≤ n → fault_from workers place (take n bytes) ≡ fault_from workers place bytes
front_fault workers place zero bytes e some = absurd (omega (arith, some))
front_fault workers place (suc n) [] e some = refl
front_fault workers place (suc n) (byte ∷ bytes) e some =
    at_place (may_stand workers byte) place (fault_from workers (place + 1) (take n bytes)) (fault_from workers (place + 1) bytes) (nat_lt place most_bytes)
    (λ t. let below : place < most_bytes = ltb-true place most_bytes t in
    front_fault workers (place + 1) n bytes (omega (arith, e)) (omega (arith, e, below)))

and_both : (a b : Bool) → (a && b) ≡ true → (a ≡ true) × (b ≡ true)
and_both true b e = (refl, e)
and_both false b e = absurd (false≢true e)

-- of more bytes than there may be one is faulty
some_fault : (place : ℕ) (rest : Option ℕ) (b : Bool) → (b ≡ true → (fault : ℕ) × (rest ≡ Some fault)) → (fault : ℕ) × ((if b then rest else Some place) ≡ Some fault)
some_fault place rest false later = (place, refl)
some_fault place rest true later = later refl

fault_past : (workers place : ℕ) (bytes : List ℕ) → most_bytes < place + length bytes → place ≤ most_bytes → (fault : ℕ) × (fault_from workers place bytes ≡ Some fault)
fault_past workers place [] past within = absurd (omega (arith, past, within))
fault_past workers place (byte ∷ bytes) past within =
    some_fault place (fault_from workers (place + 1) bytes) (nat_lt place most_bytes && may_stand workers byte)
    (λ t. let below : place < most_bytes = ltb-true place most_bytes (and_both (nat_lt place most_bytes) (may_stand workers byte) t).0 in
    fault_past workers (place + 1) bytes (omega (arith, past)) (omega (arith, below)))

-- the first bytes of a turns file decide
pub same_turns : (workers : ℕ) (all bytes : List ℕ) → (all ≡ bytes) ⊎ (bytes ≡ take (most_bytes + 1) all) → turns workers bytes ≡ turns workers all
same_turns workers all bytes (inl e) = ap (turns workers) (sym e)
same_turns workers all bytes (inr e) = ap (turns workers) e ∙ elim (cases_lt (length all) (most_bytes + 1)) [
  | inl short ↦ ap (turns workers) (take_all (most_bytes + 1) all (omega (arith, short)))
  | inr long ↦
      let past = fault_past workers 0 all (omega (arith, long)) (omega arith) in
      let front : fault_from workers 0 (take (most_bytes + 1) all) ≡ Some past.0 = front_fault workers 0 (most_bytes + 1) all (omega arith) (omega arith) ∙ past.1 in
      ap (λ o. read_as o (steps_said workers (take (most_bytes + 1) all))) front ∙ sym (ap (λ o. read_as o (steps_said workers all)) past.1)
]

-- ---- what is accepted says turns

either : (a b : Bool) → (a || b) ≡ true → (a ≡ true) ⊎ (b ≡ true)
either true b e = inl refl
either false b e = inr e

worker_turn : (workers byte : ℕ) → is_worker workers byte ≡ true → IsTurnByte workers byte
worker_turn workers byte e =
    let one = and_both (nat_le 48 byte) (nat_le byte 57 && nat_lt (byte - 48) workers) e in
    let two = and_both (nat_le byte 57) (nat_lt (byte - 48) workers) one.1 in
    let least : 48 ≤ byte = leb-true 48 byte one.0 in
    let few : byte - 48 < workers = ltb-true (byte - 48) workers two.1 in
    inr (inl (least, omega (arith, least, few)))

white_turn : (workers byte : ℕ) → is_white byte ≡ true → IsTurnByte workers byte
white_turn workers byte e = inr (inr (elim (either (byte == 32) (byte == 9 || (byte == 13 || byte == 10)) e) [
  | inl a ↦ inl (eqb-true byte 32 a)
  | inr b ↦ inr (elim (either (byte == 9) (byte == 13 || byte == 10) b) [
    | inl c ↦ inl (eqb-true byte 9 c)
    | inr d ↦ inr (elim (either (byte == 13) (byte == 10) d) [ inl f ↦ inl (eqb-true byte 13 f) | inr h ↦ inr (eqb-true byte 10 h) ])
  ])
]))

stands_turn : (workers byte : ℕ) → may_stand workers byte ≡ true → IsTurnByte workers byte
stands_turn workers byte e = elim (either (is_main byte) (is_worker workers byte || is_white byte) e) [
  | inl main ↦ inl (eqb-true byte 109 main)
  | inr other ↦ elim (either (is_worker workers byte) (is_white byte) other) [ inl worker ↦ worker_turn workers byte worker | inr white ↦ white_turn workers byte white ]
]

none_here : (place : ℕ) (rest : Option ℕ) (b : Bool) → (if b then rest else Some place) ≡ None → (b ≡ true) × (rest ≡ None)
none_here place rest false e = absurd (none-some place (sym e))
none_here place rest true e = (refl, e)

no_fault : (workers place : ℕ) (bytes : List ℕ) → fault_from workers place bytes ≡ None → AllByRecursion (IsTurnByte workers) bytes
no_fault workers place [] e = tt
no_fault workers place (byte ∷ bytes) e =
    let here = none_here place (fault_from workers (place + 1) bytes) (nat_lt place most_bytes && may_stand workers byte) e in
    (stands_turn workers byte (and_both (nat_lt place most_bytes) (may_stand workers byte) here.0).1, no_fault workers (place + 1) bytes here.1)

pub are_turns : (workers : ℕ) (bytes : List ℕ) (steps : List Step) → turns workers bytes ≡ Ok steps → AreTurns workers bytes
are_turns workers bytes steps e = All-from_recursion (IsTurnByte workers) bytes (no_fault workers 0 bytes (none (fault_from workers 0 bytes) e))
  where
    none : (o : Option ℕ) → read_as o (steps_said workers bytes) ≡ Ok steps → o ≡ None
    none None e = refl
    none (Some place) e = cc
