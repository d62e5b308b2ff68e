use Rattle.std.proofs.Common.{◌≡◌, ◌-◌, ◌+◌, ◌*◌, ◌%◌, ◌<◌, [], ◌∷◌, Some, length, drop, get_or, sym, ap, ◌∙◌, arith}
use Rattle.std.proofs.lemmas.List.{get_or_read}
use Rattle.std.proofs.lemmas.Nat.{mod_below}
use Rattle.std.proofs.lemmas.Option.{unwrap_or-slice_get}
use Rattle.vg_script.specs.Events.{group_of}
use Rattle.vg_process.specs.Left.{first_time}
use Rattle.vg_process.proofs.RunLemmas.{run_at}
use Rattle.vg_process.proofs.RestLemmas.{rest-next, is_within}
use Rattle.vg_process.proofs.states.State.next.Goals as goal

pub returns : goal.returns
returns c =
    let s = c.self.inside in
    let groups = s.groups.items in
    let within = is_within s (rw c.self.view_is c.requires) in
    let next : c.args.self.now ≡ run_at s.line s.every groups (s.done + 1) ∷ drop 1 c.args.self.now = rw (← c.self.view_is) (rest-next s within) in
    let time : Some ((s.done + 1) * s.every) ≡ Some c.time.result = sym (ap first_time next) ∙ c.time.ensures in
    let place : s.done + 1 - 1 ≡ s.done = omega arith in
    let few : s.done % length groups < length groups = mod_below s.done (length groups) (omega (arith, c.self.invariant.some, s.groups.ok)) in
    let len : c.len.result ≡ length groups = omega (arith, c.len.ensures, s.groups.ok) in
    let read : c.index.result.now ≡ get_or groups (s.done % length groups) c.index.result.now = rw (← len) c.index.ensures in
    let edits : c.in_ok-copy_edits.field-0 ≡ group_of groups (s.done + 1) =
    rw (place, unwrap_or-slice_get) (c.in_ok-copy_edits.ensures ∙ get_or_read groups (s.done % length groups) c.index.result.now few read []) in
    record { occurrence = s.done + 1; first = cc; reached = omega arith }
