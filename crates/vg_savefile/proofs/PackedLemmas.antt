-- For `fill_list`, `spread` and `in_place`: packets whose bytes stand one behind the other, and their records.
use Rattle.std.proofs.Common.{◌≡◌, ℕ, ◌+◌, ◌-◌, ◌<◌, ◌≤◌, ◌^◌, List, [], ◌∷◌, ◌++◌, length, take, drop, get_or, sym, ap, subst, ◌∙◌, arith, append_assoc}
use Rattle.std.specs.Prelude.{All, slice_range, flat_map}
use Rattle.std.proofs.lemmas.List.{take-take, take_all, drop_at, take-append-le, take-append-drop, length-append, length-take-le, append-nil}
use Rattle.std.proofs.lemmas.List.Elements.{All-tail}
use Rattle.vg_capture.specs.declared.captures.Captured.{Captured}
use Rattle.vg_capture.specs.Savefile.{sent_in}
use Rattle.vg_underway.specs.declared.sent.SentEntry.{SentEntry}
use Rattle.vg_underway.specs.SentEntries.{entry_of, sent_by}
use Rattle.vg_underway.proofs.SentLemmas.{part_kept}
use Rattle.vg_savefile.specs.Packed.{total_len, records_len, ArePacked, IsNumbered}

-- one more packet
pub total_push : (es : List SentEntry) (e : SentEntry) → total_len (es ++ e ∷ []) ≡ total_len es + e.len
total_push [] e = omega arith
total_push (x ∷ xs) e = let rest = total_push xs e in omega (arith, rest)

pub packed_push : (start : ℕ) (es : List SentEntry) (e : SentEntry) → ArePacked start es → e.part ≡ 0 → e.start ≡ start + total_len es → ArePacked start (es ++ e ∷ [])
packed_push start [] e packed part at = (part, omega (arith, at), tt)
packed_push start (x ∷ xs) e packed part at = (packed.0, packed.1, packed_push (start + x.len) xs e packed.2 part (omega (arith, at)))

-- the packets in front of others, and the one behind them
pub packed_front : (start : ℕ) (xs ys : List SentEntry) → ArePacked start (xs ++ ys) → ArePacked start xs
packed_front start [] ys packed = tt
packed_front start (x ∷ xs) ys packed = (packed.0, packed.1, packed_front (start + x.len) xs ys packed.2)

pub packed_last : (start : ℕ) (xs ys : List SentEntry) (e : SentEntry) → ArePacked start ((xs ++ e ∷ []) ++ ys) → (e.part ≡ 0) × (e.start ≡ start + total_len xs)
packed_last start [] ys e packed = (packed.0, omega (arith, packed.1))
packed_last start (x ∷ xs) ys e packed = let rest = packed_last (start + x.len) xs ys e packed.2 in let at = rest.1 in (rest.0, omega (arith, at))

pub numbered_last : (most : ℕ) (xs ys : List SentEntry) (e : SentEntry) → IsNumbered most ((xs ++ e ∷ []) ++ ys) → e.number < most
numbered_last most [] ys e below = below.0
numbered_last most (x ∷ xs) ys e below = numbered_last most xs ys e below.1

-- the numbers of packets are those of their places
pub numbered_of : (most : ℕ) (entries : List SentEntry) (bytes : List ℕ) → All (λ (packet : ℕ × List ℕ). (packet.0 < most) × (length packet.1 < 2 ^ 32)) (sent_by entries bytes) → IsNumbered most entries
numbered_of most [] bytes all = tt
numbered_of most (e ∷ es) bytes all =
    let first : (e.number < most) × (length (entry_of (bytes ∷ []) e).1 < 2 ^ 32) = all 0 (entry_of (bytes ∷ []) e) (omega arith) in
    (first.0, numbered_of most es bytes (All-tail (λ (packet : ℕ × List ℕ). (packet.0 < most) × (length packet.1 < 2 ^ 32)) (entry_of (bytes ∷ []) e) (sent_by es bytes) all))

-- the records of the packets behind these are made, and those of these are to be made: they end at this place
pub record IsSpread (packets : List Captured) (all entries : List SentEntry) (old list : List ℕ) (end : ℕ) : Type 0 where
  pub done : List SentEntry
  pub split : all ≡ entries ++ done
  pub ends : end + records_len all ≡ length old + records_len entries
  pub made : list ≡ take end old ++ flat_map (sent_in packets) (sent_by done old)

-- no record is made yet
pub nothing_spread : (packets : List Captured) (all : List SentEntry) (old : List ℕ) (end : ℕ) → end ≡ length old → IsSpread packets all all old old end
nothing_spread packets all old end is = record {
  done = [];
  split = sym (append-nil all);
  ends = omega (arith, is);
  made = sym (append-nil (take end old) ∙ take_all end old (omega (arith, is)));
}

-- where the next record goes
pub record IsNextPlace (e : SentEntry) (most end room : ℕ) : Type 0 where
  pub number : e.number < most
  pub back : e.start + e.len + 16 ≤ end
  pub within : end ≤ room

lens_of : (xs : List SentEntry) (e : SentEntry) → records_len (xs ++ e ∷ []) ≡ records_len xs + 16 + e.len
lens_of xs e = let count = length-append xs (e ∷ []) in let total = total_push xs e in omega (arith, count, total)

total_split : (xs ys : List SentEntry) → records_len (xs ++ ys) ≡ records_len xs + records_len ys
total_split [] ys = omega arith
total_split (x ∷ xs) ys = let rest = total_split xs ys in omega (arith, rest)

pub next_place : (most : ℕ) (packets : List Captured) (all entries rest : List SentEntry) (e : SentEntry) (old list : List ℕ) (end : ℕ) → IsSpread packets all entries old list end
    → entries ≡ rest ++ e ∷ [] → ArePacked 0 all → IsNumbered most all → records_len all ≤ length old → IsNextPlace e most end (length old)
next_place most packets all entries rest e old list end so_far is packed numbers room =
    let split : all ≡ (rest ++ e ∷ []) ++ so_far.done = so_far.split ∙ ap (λ es. es ++ so_far.done) is in
    let last = packed_last 0 rest so_far.done e (subst (ArePacked 0) split packed) in
    let at = last.1 in
    let lens : records_len entries ≡ records_len rest + 16 + e.len = ap records_len is ∙ lens_of rest e in
    let parts : records_len all ≡ records_len entries + records_len so_far.done = ap records_len so_far.split ∙ total_split entries so_far.done in
    let ends = so_far.ends in
    record {
      number = numbered_last most rest so_far.done e (subst (IsNumbered most) split numbers);
      back = omega (arith, at, lens, ends, room);
      within = omega (arith, ends, parts);
    }

-- bytes in front of a place are those of a list with the same front
range_kept : (old more : List ℕ) (start len end : ℕ) → start + len ≤ end → end ≤ length old → slice_range (take end old ++ more) start (start + len) ≡ slice_range old start (start + len)
range_kept old more start len end h within =
    let size : length (take end old) ≡ end = length-take-le end old within in
    part_kept (take end old) more start len (omega (arith, h, size))
    ∙ sym (part_kept (take end old) (drop end old) start len (omega (arith, h, size)))
    ∙ ap (λ xs. slice_range xs start (start + len)) (take-append-drop end old)

-- one more record is made
pub more_spread : (packets : List Captured) (all entries rest : List SentEntry) (e : SentEntry) (old list new : List ℕ) (end end' : ℕ) → IsSpread packets all entries old list end
    → entries ≡ rest ++ e ∷ [] → ArePacked 0 all → records_len all ≤ length old → end' ≡ end - (e.len + 16)
    → new ≡ take end' list ++ (sent_in packets (e.number, slice_range list e.start (e.start + e.len)) ++ drop end list) → IsSpread packets all rest old new end'
more_spread packets all entries rest e old list new end end' so_far is packed room less made =
    let split : all ≡ (rest ++ e ∷ []) ++ so_far.done = so_far.split ∙ ap (λ es. es ++ so_far.done) is in
    let last = packed_last 0 rest so_far.done e (subst (ArePacked 0) split packed) in
    let at = last.1 in
    let lens : records_len entries ≡ records_len rest + 16 + e.len = ap records_len is ∙ lens_of rest e in
    let parts : records_len all ≡ records_len entries + records_len so_far.done = ap records_len so_far.split ∙ total_split entries so_far.done in
    let ends = so_far.ends in
    let back : e.start + e.len + 16 ≤ end = omega (arith, at, lens, ends, room) in
    let within : end ≤ length old = omega (arith, ends, parts) in
    let behind : List ℕ = flat_map (sent_in packets) (sent_by so_far.done old) in
    let size : length (take end old) ≡ end = length-take-le end old within in
    let front : take end' (take end old ++ behind) ≡ take end' old =
    take-append-le end' (take end old) behind (omega (arith, size, less)) ∙ take-take end' end old (omega (arith, less)) in
    let bytes : slice_range (take end old ++ behind) e.start (e.start + e.len) ≡ (entry_of (old ∷ []) e).1 =
    range_kept old behind e.start e.len end (omega (arith, back)) within ∙ ap (λ part. slice_range part e.start (e.start + e.len)) (sym (first_part old e.part last.0)) in
    record {
      done = e ∷ so_far.done;
      split = split ∙ append_assoc rest (e ∷ []) so_far.done;
      ends = omega (arith, ends, lens, less, back);
      made = made
          ∙ ap (λ z. take end' z ++ (sent_in packets (e.number, slice_range z e.start (e.start + e.len)) ++ drop end z)) so_far.made
          ∙ ap (λ z. z ++ (sent_in packets (e.number, slice_range (take end old ++ behind) e.start (e.start + e.len)) ++ drop end (take end old ++ behind))) front
          ∙ ap (λ z. take end' old ++ (sent_in packets (e.number, z) ++ drop end (take end old ++ behind))) bytes
          ∙ ap (λ z. take end' old ++ (sent_in packets (entry_of (old ∷ []) e) ++ z)) (drop_at (take end old) behind end size);
    }
  where
    first_part : (old : List ℕ) (part : ℕ) → part ≡ 0 → get_or (old ∷ []) part [] ≡ old
    first_part old part is = ap (λ k. get_or (old ∷ []) k []) is

-- all records are made
pub all_spread : (packets : List Captured) (all entries : List SentEntry) (old list : List ℕ) (end : ℕ) → IsSpread packets all entries old list end → entries ≡ [] → records_len all ≤ length old
    → list ≡ take (length old - records_len all) old ++ flat_map (sent_in packets) (sent_by all old)
all_spread packets all entries old list end so_far none room =
    let split : all ≡ so_far.done = so_far.split ∙ ap (λ es. es ++ so_far.done) none in
    let len : records_len entries ≡ 0 = ap records_len none in
    let ends = so_far.ends in
    so_far.made ∙ ap (λ es. take end old ++ flat_map (sent_in packets) (sent_by es old)) (sym split)
    ∙ ap (λ k. take k old ++ flat_map (sent_in packets) (sent_by all old)) (let same : end ≡ length old - records_len all = omega (arith, ends, len, room) in same)

-- a header over the bytes in front of records
pub front_written : (header copied list old records : List ℕ) (k : ℕ) → copied ≡ header → list ≡ take k old ++ records → k ≡ length header → k ≤ length old
    → copied ++ drop (length header) list ≡ header ++ records
front_written header copied list old records k copied_is list_is size enough =
    ap (λ z. z ++ drop (length header) list) copied_is ∙ ap (λ z. header ++ drop (length header) z) list_is
    ∙ ap (λ z. header ++ z) (drop_at (take k old) records (length header) (length-take-le k old enough ∙ size))

-- what a slice of a whole list writes back
pub written : (n : ℕ) (now old : List ℕ) → length now ≡ n → take n (now ++ drop (length now) old) ≡ now
written n now old len = take-append-le n now (drop (length now) old) (omega (arith, len)) ∙ take_all n now (omega (arith, len))
