-- What is counted by node, error and interface.
use Rattle.std.specs.Prelude.{◌≡◌, ℕ, ◌+◌, ◌<◌, ◌^◌, List, [], length, replicate, slice_index, slice_index_or, slice_set, sum_by, All}

-- how many errors there are
abbrev pub count_of_errors : ℕ
count_of_errors = 19

-- the counts of visits, drops and transmits
pub record Tally : Type 0 where
  -- by node: how often it was visited
  pub visits : List ℕ
  -- by node, and in it by the error's place in the order of errors: how many packets the node dropped with it
  pub drops : List (List ℕ)
  -- by interface: how many packets it transmitted
  pub sends : List ℕ

-- nothing is counted yet
abbrev pub nothing_counted : ℕ → ℕ → Tally
nothing_counted nodes interfaces = record {
  visits = replicate nodes 0;
  drops = replicate nodes (replicate count_of_errors 0);
  sends = replicate interfaces 0;
}

-- counts with so many more at a place
abbrev pub more_at : ℕ → ℕ → List ℕ → List ℕ
more_at place count counts = slice_set counts place (slice_index counts place + count)

-- how many packets a node dropped with the error at this place
abbrev pub drops_at : ℕ → ℕ → List (List ℕ) → ℕ
drops_at node error drops = slice_index (slice_index_or drops node []) error

-- drops with one more of a node with the error at this place
abbrev pub one_drop_more : ℕ → ℕ → List (List ℕ) → List (List ℕ)
one_drop_more node error drops = slice_set drops node (more_at error 1 (slice_index_or drops node []))

-- there is a row of drops for each node, and in it a count for each error
pub record IsWhole (tally : Tally) : Type 0 where
  pub rows : length tally.drops ≡ length tally.visits
  pub errors : All (λ row. length row ≡ count_of_errors) tally.drops

-- two are for as many nodes and as many interfaces
pub record IsSameSize (one other : Tally) : Type 0 where
  pub nodes : length other.visits ≡ length one.visits
  pub interfaces : length other.sends ≡ length one.sends

-- all are for as many nodes and as many interfaces as the first
abbrev pub AreOneSize : List Tally → Type 0
AreOneSize parts = (d : Tally) → All (IsSameSize (slice_index_or parts 0 d)) parts

-- no sum over the parts reaches 2 ^ 63, at any place
pub record HasRoom (parts : List Tally) : Type 0 where
  pub visits : (node : ℕ) → sum_by (λ part. slice_index part.visits node) parts < 2 ^ 63
  pub drops : (node error : ℕ) → sum_by (λ part. drops_at node error part.drops) parts < 2 ^ 63
  pub sends : (interface : ℕ) → sum_by (λ part. slice_index part.sends interface) parts < 2 ^ 63

-- each count is the sum of the parts' counts at its place
pub record IsTotal (parts : List Tally) (whole : Tally) : Type 0 where
  pub size : All (λ part. IsSameSize part whole) parts
  pub is_whole : IsWhole whole
  pub visits : (node : ℕ) → slice_index whole.visits node ≡ sum_by (λ part. slice_index part.visits node) parts
  pub drops : (node error : ℕ) → drops_at node error whole.drops ≡ sum_by (λ part. drops_at node error part.drops) parts
  pub sends : (interface : ℕ) → slice_index whole.sends interface ≡ sum_by (λ part. slice_index part.sends interface) parts

-- one may be added to the other, at any place
pub record HasRoomFor (whole part : Tally) : Type 0 where
  pub visits : (node : ℕ) → slice_index whole.visits node + slice_index part.visits node < 2 ^ 64
  pub drops : (node error : ℕ) → drops_at node error whole.drops + drops_at node error part.drops < 2 ^ 64
  pub sends : (interface : ℕ) → slice_index whole.sends interface + slice_index part.sends interface < 2 ^ 64

-- one with a part added, place by place
pub record IsSum (old part new : Tally) : Type 0 where
  pub size : IsSameSize old new
  pub is_whole : IsWhole new
  pub visits : (node : ℕ) → slice_index new.visits node ≡ slice_index old.visits node + slice_index part.visits node
  pub drops : (node error : ℕ) → drops_at node error new.drops ≡ drops_at node error old.drops + drops_at node error part.drops
  pub sends : (interface : ℕ) → slice_index new.sends interface ≡ slice_index old.sends interface + slice_index part.sends interface
