-- How it is kept how many entries count for each line.
use Rattle.std.specs.Prelude.{◌≡◌, ℕ, ◌+◌, Some, None, unwrap_or, if◌then◌else◌}
use Rattle.std.specs.declared.cmp.Ordering.{Ordering}
use Rattle.std.specs.BTreeMap as maps
use Rattle.std.specs.Ordering.{is_eq}
use Rattle.vg_model.specs.declared.fates.End.TheVariants as ends
use Rattle.vg_model.specs.Errors.{error_number}
use Rattle.vg_ways.specs.contracts.keys.KeyOrd.TheImpl.{ghosts}
use Rattle.vg_ways.specs.declared.entries.Entry.{Entry}
use Rattle.vg_ways.specs.declared.entries.Entry.TheVariants as entries
use Rattle.vg_ways.specs.declared.keys.Key.{Key}
use Rattle.vg_ways.specs.declared.keys.Key.TheVariants as keys
use Rattle.vg_ways.specs.declared.tallies.Tally.{Tally}
use Rattle.vg_ways.specs.Tallied.{Tallied}

-- the order of keys
abbrev pub key_cmp : Key → Key → Ordering
key_cmp = ghosts.cmp

-- what an entry counts for
abbrev pub key_of : Entry → Key
key_of entries.Began = keys.Began
key_of (entries.Matched prefix) = keys.Matched prefix.addr prefix.len
key_of (entries.Matched6 prefix) = keys.Matched6 prefix.addr prefix.len
key_of (entries.Left (Some neighbor)) = keys.Left neighbor
key_of (entries.Left None) = keys.Alone
key_of (entries.Ended (ends.Tx interface)) = keys.Sent interface
key_of (entries.Ended (ends.Dropped node error)) = keys.Dropped node (error_number error)

-- how many count for a key; 0 where it isn't kept
abbrev pub count_in : Tally → Key → ℕ
count_in tally key = unwrap_or (maps.get key_cmp tally.counts key) 0

-- one more counts for a key
abbrev pub AddsOne : Key → (old new : Tally) → Type 0
AddsOne key old new = (other : Key) → count_in new other ≡ (if is_eq (key_cmp key other) then count_in old key + 1 else count_in old other)

-- how many count for each line
abbrev pub tally_in : Tally → Tallied
tally_in tally = record {
  began = count_in tally keys.Began;
  matched = λ prefix. count_in tally (keys.Matched prefix.addr prefix.len);
  matched6 = λ prefix. count_in tally (keys.Matched6 prefix.addr prefix.len);
  left = λ neighbor. count_in tally (keys.Left neighbor);
  alone = count_in tally keys.Alone;
  sent = λ interface. count_in tally (keys.Sent interface);
  dropped = λ node error. count_in tally (keys.Dropped node (error_number error));
}
