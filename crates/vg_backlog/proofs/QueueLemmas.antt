-- For the clauses of `Waiting::{push, packets, len}`: frames in two queues.
use Rattle.std.proofs.Common.{◌≡◌, ℕ, ◌≤◌, List, [], ◌∷◌, ◌++◌, length, take, drop, refl, sym, ap, subst, ◌∙◌, arith}
use Rattle.std.proofs.lemmas.List.{take_all, take-append-le, drop-append-le, length-take-le, length-drop, length-append}
use Rattle.std.proofs.lemmas.List.Sums.{sum_by-cons}
use Rattle.vg_pool.specs.Contents.{Contents}
use Rattle.vg_journeys.specs.Accounts.{HandoffFrame}
use Rattle.vg_hands.specs.Handed.{IsHandFrame}
use Rattle.vg_backlog.specs.declared.waiting.Head.{Head}
use Rattle.vg_backlog.specs.Books.{packets_in}
use Rattle.vg_backlog.specs.Queues.{frame_at, frames_of, AreOf}

-- the frame of a head with just these packets
abbrev pub frame_with : Head → List Contents → HandoffFrame
frame_with head packets = record { node = head.node; generation = head.generation; packets = packets }

-- one more frame behind the others
pub frames_push : (heads : List Head) (packets : List Contents) (head : Head) (more : List Contents) → AreOf heads packets → head.count ≡ length more
    → frames_of (heads ++ head ∷ []) (packets ++ more) ≡ frames_of heads packets ++ frame_with head more ∷ []
frames_push [] packets head more are count =
    ap (λ ps. frame_with head (take head.count (ps ++ more)) ∷ []) are ∙ ap (λ ps. frame_with head ps ∷ []) (take_all head.count more (omega (arith, count)))
frames_push (first ∷ heads) packets head more are count =
    ap (λ ps. frame_with first ps ∷ frames_of (heads ++ head ∷ []) (drop first.count (packets ++ more))) (take-append-le first.count packets more are.0)
    ∙ ap (λ ps. frame_at first packets ∷ frames_of (heads ++ head ∷ []) ps) (drop-append-le first.count packets more are.0)
    ∙ ap (λ fs. frame_at first packets ∷ fs) (frames_push heads (drop first.count packets) head more are.2 count)

pub are_push : (heads : List Head) (packets : List Contents) (head : Head) (more : List Contents) → AreOf heads packets → head.count ≡ length more → IsHandFrame (frame_with head more)
    → AreOf (heads ++ head ∷ []) (packets ++ more)
are_push [] packets head more are count frame =
    subst (λ ps. AreOf (head ∷ []) (ps ++ more)) (sym are)
    (omega (arith, count), subst (λ ps. IsHandFrame (frame_with head ps)) (sym (take_all head.count more (omega (arith, count)))) frame, drop_all)
  where
    none : (xs : List Contents) → length xs ≡ 0 → xs ≡ []
    none [] e = refl
    none (x ∷ xs) e = absurd (omega (arith, e))

    drop_all : drop head.count more ≡ []
    drop_all = none (drop head.count more) (omega (arith, count, length-drop head.count more))
are_push (first ∷ heads) packets head more are count frame = (
  (let fits = are.0 in omega (arith, fits, length-append packets more)),
  subst (λ ps. IsHandFrame (frame_with first ps)) (sym (take-append-le first.count packets more are.0)) are.1,
  subst (AreOf (heads ++ head ∷ [])) (sym (drop-append-le first.count packets more are.0)) (are_push heads (drop first.count packets) head more are.2 count frame),
)

-- the same, of a frame
pub frame_pushed : (heads : List Head) (packets : List Contents) (head : Head) (frame : HandoffFrame) → AreOf heads packets
    → head.node ≡ frame.node → head.generation ≡ frame.generation → head.count ≡ length frame.packets → IsHandFrame frame
    → AreOf (heads ++ head ∷ []) (packets ++ frame.packets) × (frames_of (heads ++ head ∷ []) (packets ++ frame.packets) ≡ frames_of heads packets ++ frame ∷ [])
frame_pushed heads packets head frame are node generation count is =
    let with_node : ℕ → HandoffFrame = λ n. record { node = n; generation = head.generation; packets = frame.packets } in
    let with_generation : ℕ → HandoffFrame = λ g. record { node = frame.node; generation = g; packets = frame.packets } in
    let same : frame_with head frame.packets ≡ frame = ap with_node node ∙ ap with_generation generation in (
      are_push heads packets head frame.packets are count (subst IsHandFrame (sym same) is),
      frames_push heads packets head frame.packets are count ∙ ap (λ (f : HandoffFrame). frames_of heads packets ++ f ∷ []) same,
    )

-- they have these packets, and each has one at least
pub packets_are : (heads : List Head) (packets : List Contents) → AreOf heads packets → packets_in (frames_of heads packets) ≡ length packets
packets_are [] packets are = sym (ap length are)
packets_are (head ∷ heads) packets are =
    let rest = packets_are heads (drop head.count packets) are.2 in
    let fits = are.0 in
    omega (
      arith,
      rest,
      fits,
      sum_by-cons (λ (frame : HandoffFrame). length frame.packets) (frame_at head packets) (frames_of heads (drop head.count packets)),
      length-take-le head.count packets are.0,
      length-drop head.count packets,
    )

pub frames_are : (heads : List Head) (packets : List Contents) → length (frames_of heads packets) ≡ length heads
frames_are [] packets = refl
frames_are (head ∷ heads) packets = let rest = frames_are heads (drop head.count packets) in omega (arith, rest)

pub heads_few : (heads : List Head) (packets : List Contents) → AreOf heads packets → length heads ≤ length packets
heads_few [] packets are = omega arith
heads_few (head ∷ heads) packets are =
    let rest = heads_few heads (drop head.count packets) are.2 in
    let fits = are.0 in
    let some = are.1.some in
    omega (arith, rest, fits, some, length-take-le head.count packets are.0, length-drop head.count packets)
