-- The rule of a queue between one producer and one consumer. It holds between any two steps of the two threads.
--
-- Each pass is a right to call the queue, with what its owner knows: one pass puts items, and knows all that were put; one takes
-- items, and knows all that were taken. What was put is what was taken and then what the queue holds.
use Rattle.std.specs.Prelude.{◌≡◌, ℕ, true, false, List, [], ◌∷◌, ◌++◌}
use mathlib.Core.Option.{some}
use lib.ListN.{get_elem?}
use Rattle.vg_queue.specs.declared.logs.Log.{Log}

module _ {T : Type 0} where
  -- what the owner of a pass knows is true, at a moment at which these items were put and taken
  pub record Knows (put taken : List T) (producer consumer pass : ℕ) (log : Log T) : Type 0 where
    pub producer_knows : log.puts ≡ true → (pass ≡ producer) × (log.put ≡ put)
    pub consumer_knows : log.takes ≡ true → (pass ≡ consumer) × (log.taken ≡ taken)

  -- the items in the queue, oldest first, and what the passes know, keep the rule
  pub record IsLine (items : List T) (logs : List (Log T)) : Type 0 where
    -- the items put and the items taken since the queue was made, oldest first
    pub put : List T
    pub taken : List T
    -- the numbers of the two passes
    pub producer : ℕ
    pub consumer : ℕ
    pub whole : put ≡ taken ++ items
    pub passes : (pass : ℕ) (log : Log T) → get_elem? logs pass ≡ some log → Knows put taken producer consumer pass log

  -- what the first pass of a new queue knows: it puts and takes
  abbrev pub opening : Log T
  opening = record { puts = true; takes = true; put = []; taken = [] }

  -- the first pass is cut into these two
  abbrev pub producer_of : Log T → Log T
  producer_of log = record log { takes = false; taken = [] }

  abbrev pub consumer_of : Log T → Log T
  consumer_of log = record log { puts = false; put = [] }

  -- the consumer's pass once it took in the producer's, which is spent
  abbrev pub joined : Log T → Log T → Log T
  joined consumer producer = record consumer { puts = true; put = producer.put }

  abbrev pub spent : Log T
  spent = record { puts = false; takes = false; put = []; taken = [] }

  -- an item was put, and an item was taken
  abbrev pub with_put : Log T → T → Log T
  with_put log item = record log { put = log.put ++ item ∷ [] }

  abbrev pub with_taken : Log T → T → Log T
  with_taken log item = record log { taken = log.taken ++ item ∷ [] }

  -- the item that was taken is the first of those that were put and not taken, as a pass knows that puts too
  pub record TookOldest (log : Log T) (item : T) (after : Log T) : Type 0 where
    pub is : after ≡ with_taken log item
    pub oldest : log.puts ≡ true → (later : List T) × (log.put ≡ log.taken ++ item ∷ later)

  -- the queue holds the last of these items that were put
  abbrev pub HoldsLast : List T → List T → Type 0
  HoldsLast put items = (taken : List T) × (put ≡ taken ++ items)

  -- the queue holds what was put and not taken, as a pass knows that puts too
  abbrev pub HoldsRest : Log T → List T → Type 0
  HoldsRest log items = log.puts ≡ true → log.put ≡ log.taken ++ items
