-- For the clause of `Processes::new`: the runs of a lawful script's blocks.
use Rattle.std.proofs.Common.{◌≡◌, ℕ, suc, zero, ◌*◌, ◌<◌, List, [], ◌∷◌, ◌++◌, length, get_or, map, refl, ap, arith}
use Rattle.std.proofs.Math.Nat.{mul-lt-mul_of_pos_right}
use Rattle.std.proofs.lemmas.List.{length-map}
use Rattle.std.proofs.lemmas.List.Elements.{recursion_from_All}
use Rattle.std.proofs.lemmas.List.Kept.{AllPairs-from_increasing}
use Rattle.std.specs.List.{AllByRecursion as Rec, flat_map}
use Rattle.vg_script.specs.declared.scripts.Block.{Block}
use Rattle.vg_script.specs.declared.scripts.Block.TheVariants.{At, Process}
use Rattle.vg_script.specs.declared.scripts.Script.{Script}
use Rattle.vg_script.specs.Events.{Event, events_of}
use Rattle.vg_script.specs.Lawful.{IsLawful, IsLawfulBlock, block_line}
use Rattle.vg_process.specs.Rest.{rest_at, IsRising, IsOrderly}
use Rattle.vg_process.proofs.OrderLemmas.{joined}
use Rattle.vg_process.proofs.RunLemmas.{get_or-runs, length-runs}

-- the runs of a block, one after the other
events_rising : (block : Block) → IsLawfulBlock block → IsRising (events_of block)
events_rising (At line time edits) lawful k m d less within = absurd (omega arith)
events_rising (Process line name every count groups) lawful k m d less within =
    let len = length-runs line every groups count in
    let faster : suc k * every < suc m * every = mul-lt-mul_of_pos_right (omega (arith, less)) (omega (arith, lawful.0)) in
    rw (get_or-runs line every groups count k d (omega (arith, less, within, len)), get_or-runs line every groups count m d (omega (arith, within, len)))
    faster

-- each stands under the line of the block
line-events : (block : Block) (k : ℕ) (d : Event) → k < length (events_of block) → (get_or (events_of block) k d).line ≡ block_line block
line-events (At line time edits) zero d within = refl
line-events (At line time edits) (suc k) d within = absurd (omega arith)
line-events (Process line name every count groups) k d within =
    ap (λ e. e.line) (get_or-runs line every groups count k d (omega (arith, within, length-runs line every groups count)))

-- a run stands in a block
within_blocks : (blocks : List Block) (place k : ℕ) → k < length (rest_at (map events_of blocks) place) → place < length blocks
within_blocks [] place k within = absurd (omega arith)
within_blocks (block ∷ blocks) zero k within = omega arith
within_blocks (block ∷ blocks) (suc place) k within = omega (arith, within_blocks blocks place k within)

line-rest : (blocks : List Block) (place k : ℕ) (d : Event) → k < length (rest_at (map events_of blocks) place)
    → (get_or (rest_at (map events_of blocks) place) k d).line ≡ get_or (map block_line blocks) place 0
line-rest [] place k d within = absurd (omega arith)
line-rest (block ∷ blocks) zero k d within = line-events block k d within
line-rest (block ∷ blocks) (suc place) k d within = line-rest blocks place k d within

rising_each : (blocks : List Block) → Rec IsLawfulBlock blocks → (place : ℕ) → IsRising (rest_at (map events_of blocks) place)
rising_each [] lawful place = λ k m d less within. absurd (omega arith)
rising_each (block ∷ blocks) lawful zero = events_rising block lawful.0
rising_each (block ∷ blocks) lawful (suc place) = rising_each blocks lawful.1 place

-- the blocks of a lawful script are in the order of their lines
pub orderly_script : (script : Script) → IsLawful script → IsOrderly (map events_of script.blocks)
orderly_script script lawful =
    let blocks = script.blocks in
    record {
      rising = rising_each blocks (recursion_from_All IsLawfulBlock blocks lawful.blocks);
      apart = λ place other less k m d within inside.
          let far = within_blocks blocks other m inside in
          let lines = AllPairs-from_increasing (map block_line blocks) lawful.rising place other 0 less (omega (arith, far, length-map blocks block_line)) in
          rw (line-rest blocks place k d within, line-rest blocks other m d inside) lines;
    }

-- all their runs are the events of the script
pub joined-map : (blocks : List Block) → joined (map events_of blocks) ≡ flat_map events_of blocks
joined-map [] = refl
joined-map (block ∷ blocks) = ap (λ es. events_of block ++ es) (joined-map blocks)
