-- For the clause of `turn_of`: its flow is that of the frame, and its hash that of the flow.
use Rattle.std.proofs.Common.{◌≡◌, ℕ, List, ap, ◌∙◌}
use Rattle.vg_match.specs.Hashes.{hash_of}
use Rattle.vg_diff.specs.Lines.{frame_at, file_of}
use Rattle.vg_diff.specs.Orders.{Coming, flow_of}
use Rattle.vg_diff.proofs.flows.turn_of.Goals as goal

-- a packet that came, with its flow and the hash of that
abbrev with_flow : (file got wanted : ℕ) → List ℕ → Coming
with_flow file got wanted flow = record { file = file; hash = hash_of flow; flow = flow; got = got; wanted = wanted }

pub returns : goal.returns
returns c =
    let wanted = c.args.pair.0 in
    let got = c.args.pair.1 in
    let file = c.file_of.result in
    let flow : List ℕ = c.in_ok-flow.flow in
    let made : List ℕ = c.into_vec.result.items in
    let hashed : c.hash_of.result ≡ hash_of flow = c.hash_of.ensures ∙ ap hash_of c.as_slice.ensures in
    let same : made ≡ flow = c.into_vec.ensures in
    let is : flow ≡ flow_of (frame_at c.args.frames.now wanted) = c.in_ok-flow.ensures ∙ ap flow_of c.frame_at.ensures in
    let stands : file ≡ file_of c.args.starts.now got = c.file_of.ensures in
    ap (λ hash. record { file = file; hash = hash; flow = made; got = got; wanted = wanted }) hashed
    ∙ ap (λ flow'. record { file = file; hash = hash_of flow; flow = flow'; got = got; wanted = wanted }) same
    ∙ ap (with_flow file got wanted) is
    ∙ ap (λ file'. with_flow file' got wanted (flow_of (frame_at c.args.frames.now wanted))) stands
