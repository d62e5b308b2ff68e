-- For `packets`: what one packet more adds, and what is said of it.
use Rattle.std.proofs.Common.{◌≡◌, ℕ, ◌+◌, Bool, true, false, List, ◌++◌, take, ap, ◌∙◌, refl, add-one}
use Rattle.std.specs.Prelude.{Option, Some, None, count_by, is_some, option_map, slice_get, option_to_list, if◌then◌else◌}
use Rattle.std.proofs.lemmas.List.Sums.{count_by_more_yes, count_by_more_no}
use Rattle.std.proofs.lemmas.Option.{slice_get_within, get_or_from_slice_get}
use Rattle.vg_model.specs.declared.routes.Prefix.{Prefix}
use Rattle.vg_capture.specs.declared.captures.Captured.{Captured}
use Rattle.vg_report.specs.declared.reports.PacketLine.{PacketLine}
use Rattle.vg_remarks.specs.declared.addresses.Class.{Class}
use Rattle.vg_remarks.specs.declared.packets.Unforwarded.{Unforwarded}
use Rattle.vg_remarks.specs.Addresses.{class_of, destination}
use Rattle.vg_remarks.specs.Packets.{is_sent, said_of, told_below, told_of}

-- an element of which something is known
at_some : {X Y : Type 0} (f : X → Y) (o : Option X) (y : Y) → option_map f o ≡ Some y → (x : X) × (o ≡ Some x) × (f x ≡ y)
at_some f None y e = let no : ⊥ = cc in absurd no
at_some f (Some x) y e = let same : f x ≡ y = cc in (x, refl, same)

-- one element more is counted, or isn't
pub counted : {X : Type 0} (p : X → Bool) (xs : List X) (i : ℕ) → option_map p (slice_get xs i) ≡ Some true → count_by p (take (i + 1) xs) ≡ count_by p (take i xs) + 1
counted p xs i is =
    let found = at_some p (slice_get xs i) true is in
    let x = found.0 in
    count_by_more_yes p xs i x (slice_get_within xs i x found.1) (ap p (get_or_from_slice_get xs i x x found.1) ∙ found.2)

pub not_counted : {X : Type 0} (p : X → Bool) (xs : List X) (i : ℕ) → option_map p (slice_get xs i) ≡ Some false → count_by p (take (i + 1) xs) ≡ count_by p (take i xs)
not_counted p xs i is =
    let found = at_some p (slice_get xs i) false is in
    let x = found.0 in
    count_by_more_no p xs i x (slice_get_within xs i x found.1) (ap p (get_or_from_slice_get xs i x x found.1) ∙ found.2)

-- nothing is there where it isn't said that something is
pub none_of : {X : Type 0} (o : Option X) → is_some o ≡ false → o ≡ None
none_of None is = refl
none_of (Some x) is = let no : ⊥ = cc in absurd no

-- what is said of a destination, where it has a class
pub said_where : (led : List Prefix) (number address : ℕ) → is_some (said_of led number (Some address)) ≡ is_some (class_of led address)
said_where led number address = mapped (class_of led address)
  where
    mapped : (o : Option Class) → is_some (option_map (λ (class : Class). let one : Unforwarded = record { number = number; address = address; class = class } in one) o) ≡ is_some o
    mapped None = refl
    mapped (Some class) = refl

-- what is said of one packet more
pub told_more : (led : List Prefix) (packets : List Captured) (lines : List PacketLine) (n : ℕ)
    → told_below led packets lines (n + 1) ≡ told_below led packets lines n ++ option_to_list (told_of led n (slice_get packets n) (slice_get lines n))
told_more led packets lines n = ap (told_below led packets lines) (add-one n)

-- nothing is said of a packet where nothing is said of its destination
nothing_if : (sent : Bool) (one : Option Unforwarded) → one ≡ None → (if sent then one else None) ≡ None
nothing_if true one is = is
nothing_if false one is = refl

pub nothing_told : (led : List Prefix) (number : ℕ) (packet : Option Captured) (line : Option PacketLine) (bytes : List ℕ)
    → option_map (λ (p : Captured). p.bytes) packet ≡ Some bytes → said_of led number (destination bytes) ≡ None → told_of led number packet line ≡ None
nothing_told led number None line bytes at is = refl
nothing_told led number (Some packet) None bytes at is = refl
nothing_told led number (Some packet) (Some line) bytes at is =
    let same : packet.bytes ≡ bytes = cc in
    nothing_if (is_sent line.end) (said_of led number (destination packet.bytes)) (ap (λ bs. said_of led number (destination bs)) same ∙ is)

-- what is said of a packet that was transmitted is what is said of its destination, and of another one nothing
pub told_by : (led : List Prefix) (number : ℕ) (packet : Option Captured) (line : PacketLine) (bytes : List ℕ)
    → option_map (λ (p : Captured). p.bytes) packet ≡ Some bytes → told_of led number packet (Some line) ≡ (if is_sent line.end then said_of led number (destination bytes) else None)
told_by led number None line bytes at = cc
told_by led number (Some packet) line bytes at =
    let same : packet.bytes ≡ bytes = cc in
    ap (λ bs. if is_sent line.end then said_of led number (destination bs) else None) same
