-- How many entries count for each line of the table.
use Rattle.std.specs.Prelude.{ℕ, ◌+◌, Bool, List, count_by, Some, None, if◌then◌else◌}
use Rattle.vg_model.specs.declared.fates.End.TheVariants as ends
use Rattle.vg_model.specs.declared.kinds.DropError.{DropError}
use Rattle.vg_model.specs.declared.routes.Prefix.{Prefix}
use Rattle.vg_model.specs.declared.routes.Prefix6.{Prefix6}
use Rattle.vg_ways.specs.declared.entries.Entry.{Entry}
use Rattle.vg_ways.specs.declared.entries.Entry.TheVariants as entries
use Rattle.vg_ways.specs.Entries.{is_began, is_matched, is_matched6, is_left, is_left_alone, is_tx, is_dropped}

-- so many packets began; so often the route of each prefix matched; so many packets were transmitted to each neighbor, to none, and on each interface;
-- and so many each node dropped with each error
pub record Tallied : Type 0 where
  pub began : ℕ
  pub matched : Prefix → ℕ
  pub matched6 : Prefix6 → ℕ
  pub left : (neighbor : ℕ) → ℕ
  pub alone : ℕ
  pub sent : (interface : ℕ) → ℕ
  pub dropped : (node : ℕ) → DropError → ℕ

-- of these entries
abbrev pub tallied : List Entry → Tallied
tallied es = record {
  began = count_by is_began es;
  matched = λ prefix. count_by (is_matched prefix) es;
  matched6 = λ prefix. count_by (is_matched6 prefix) es;
  left = λ neighbor. count_by (is_left neighbor) es;
  alone = count_by is_left_alone es;
  sent = λ interface. count_by (is_tx interface) es;
  dropped = λ node error. count_by (is_dropped node error) es;
}

-- one, where the entry is one of those that are counted
abbrev pub one_if : (Entry → Bool) → Entry → ℕ
one_if p entry = if p entry then 1 else 0

-- of one entry more
abbrev pub with_entry : Tallied → Entry → Tallied
with_entry t entry = record {
  began = t.began + one_if is_began entry;
  matched = λ prefix. t.matched prefix + one_if (is_matched prefix) entry;
  matched6 = λ prefix. t.matched6 prefix + one_if (is_matched6 prefix) entry;
  left = λ neighbor. t.left neighbor + one_if (is_left neighbor) entry;
  alone = t.alone + one_if is_left_alone entry;
  sent = λ interface. t.sent interface + one_if (is_tx interface) entry;
  dropped = λ node error. t.dropped node error + one_if (is_dropped node error) entry;
}

-- how many count for the same as an entry
abbrev pub counted_as : Entry → Tallied → ℕ
counted_as entries.Began t = t.began
counted_as (entries.Matched prefix) t = t.matched prefix
counted_as (entries.Matched6 prefix) t = t.matched6 prefix
counted_as (entries.Left (Some neighbor)) t = t.left neighbor
counted_as (entries.Left None) t = t.alone
counted_as (entries.Ended (ends.Tx interface)) t = t.sent interface
counted_as (entries.Ended (ends.Dropped node error)) t = t.dropped node error
