-- How the packets that came differ from those that had to come.
use Rattle.std.specs.Prelude.{◌≡◌, ◌≢◌, ◌↔◌, ℕ, ◌<◌, List, ◌++◌, length, map, All}
use Rattle.std.specs.List.Sorted.{IsPermutation}
use Rattle.vg_match.specs.declared.diffs.Diff.{Diff}
use Rattle.vg_match.specs.declared.diffs.Matched.{Matched}
use Rattle.vg_match.specs.declared.matching.Entry.{Entry}
use Rattle.vg_match.specs.declared.matching.Matching.{Matching}
use Rattle.vg_match.specs.declared.fields.Field.{Field}
use Rattle.vg_match.specs.declared.keys.Likeness.TheVariants.{Datagram, Payload}
use Rattle.vg_match.specs.declared.ranges.Range.{Range}
use Rattle.vg_match.specs.Keys.{compared, likeness_of}
use Rattle.vg_match.specs.Sides.{frame_at, number_of, meant_numbers}

-- the bytes of the packets that had to come, of those that came, and of those that had to be dropped; and the ranges to which the comparison
-- is limited, all addresses where there is none
pub record Packets : Type 0 where
  pub only : List Range
  pub wanted : List (List ℕ)
  pub got : List (List ℕ)
  pub dropped : List (List ℕ)

-- the first numbers of pairs, and the second
abbrev pub firsts : List (ℕ × ℕ) → List ℕ
firsts pairs = map (λ (pair : ℕ × ℕ). pair.0) pairs

abbrev pub seconds : List (ℕ × ℕ) → List ℕ
seconds pairs = map (λ (pair : ℕ × ℕ). pair.1) pairs

-- the numbers of a pair of entries
abbrev pub pair_numbers : Entry × Entry → ℕ × ℕ
pair_numbers pair = (pair.0.number, pair.1.number)

-- these are the numbers of a matching's entries
pub record AreNumbersOf (matching : Matching) (matched : Matched) : Type 0 where
  pub pairs : matched.pairs.items ≡ map pair_numbers matching.pairs.items
  pub first : matched.first.items ≡ map number_of matching.wanted.items
  pub second : matched.second.items ≡ map number_of matching.got.items

-- both packets of each pair have this in common
abbrev pub HaveInCommon : (List ℕ → List ℕ) → (first second : List (List ℕ)) → List (ℕ × ℕ) → Type 0
HaveInCommon key first second pairs = All (λ (pair : ℕ × ℕ). key (frame_at first pair.0) ≡ key (frame_at second pair.1)) pairs

-- no packet of the one list has this in common with one of the other
abbrev pub HaveNothingInCommon : (List ℕ → List ℕ) → (first second : List (List ℕ)) → (List ℕ) → (List ℕ) → Type 0
HaveNothingInCommon key first second numbers others =
    All (λ number. All (λ other. key (frame_at first number) ≢ key (frame_at second other)) others) numbers

-- each row is the key of the packet of the number beside it, and each packet is there
pub record AreRowsOf (key : List ℕ → List ℕ) (packets : List (List ℕ)) (numbers : List ℕ) (rows : List (List ℕ)) : Type 0 where
  pub rows_are : rows ≡ map (λ number. key (frame_at packets number)) numbers
  pub below : All (λ number. number < length packets) numbers

-- packets of two sides, by their numbers, are matched by what they have in common: each stands once, in one pair or among what is left of its
-- side; both of a pair have it in common; and no further pair of such is left
pub record IsMatched (key : List ℕ → List ℕ) (first second : List (List ℕ)) (numbers others : List ℕ) (matched : Matched) : Type 0 where
  pub first_once : IsPermutation numbers (firsts matched.pairs.items ++ matched.first.items)
  pub second_once : IsPermutation others (seconds matched.pairs.items ++ matched.second.items)
  pub alike : HaveInCommon key first second matched.pairs.items
  pub greatest : HaveNothingInCommon key first second matched.first.items matched.second.items

-- how the packets differ that are meant
pub record IsDiff (ignored : List Field) (packets : Packets) (diff : Diff) : Type 0 where
  -- each packet that had to come stands once: it is the same, changed or missing
  pub wanted_once : IsPermutation (meant_numbers packets.only 0 packets.wanted) (firsts diff.same.items ++ (firsts diff.changed.items ++ diff.missing.items))
  -- each packet that came stands once: it is the same, changed, there though it had to be dropped, or extra
  pub got_once : IsPermutation (meant_numbers packets.only 0 packets.got)
      (seconds diff.same.items ++ (seconds diff.changed.items ++ (seconds diff.there.items ++ diff.extra.items)))
  -- those that are the same are equal, but for what is ignored, and no further pair of equal ones is left
  pub same : HaveInCommon (compared ignored) packets.wanted packets.got diff.same.items
  pub same_greatest : HaveNothingInCommon (compared ignored) packets.wanted packets.got
      (firsts diff.changed.items ++ diff.missing.items) (seconds diff.changed.items ++ (seconds diff.there.items ++ diff.extra.items))
  -- those that changed have addresses, protocol, identification and payload in common, and no further pair of such is left
  pub changed : HaveInCommon (likeness_of Datagram ignored) packets.wanted packets.got diff.changed.items
  pub changed_greatest : HaveNothingInCommon (likeness_of Datagram ignored) packets.wanted packets.got
      diff.missing.items (seconds diff.there.items ++ diff.extra.items)
  -- those that had to be dropped, each at most once, have addresses and payload in common with one that came, and no further pair of such
  -- is left
  pub there : HaveInCommon (likeness_of Payload ignored) packets.dropped packets.got diff.there.items
  pub others : List ℕ
  pub dropped_once : IsPermutation (meant_numbers packets.only 0 packets.dropped) (firsts diff.there.items ++ others)
  pub there_greatest : HaveNothingInCommon (likeness_of Payload ignored) packets.dropped packets.got others diff.extra.items

-- all packets match
pub record AllMatch (diff : Diff) : Type 0 where
  pub changed : length diff.changed.items ≡ 0
  pub missing : length diff.missing.items ≡ 0
  pub there : length diff.there.items ≡ 0
  pub extra : length diff.extra.items ≡ 0

-- what the packets of a side are compared by that are meant
abbrev pub meant_keys : List Field → List Range → List (List ℕ) → List (List ℕ)
meant_keys ignored only packets = map (λ number. compared ignored (frame_at packets number)) (meant_numbers only 0 packets)

-- all packets match exactly where both sides have the same that are meant, as often each, up to what is ignored
abbrev pub MatchIsExact : Type 0
MatchIsExact = (ignored : List Field) (packets : Packets) (diff : Diff) → IsDiff ignored packets diff
    → AllMatch diff ↔ IsPermutation (meant_keys ignored packets.only packets.wanted) (meant_keys ignored packets.only packets.got)
