use Rattle.std.proofs.Common.{◌≡◌, ℕ, ◌+◌, ◌-◌, ◌*◌, ◌≤◌, List, ◌++◌, length, take, drop, replicate, ap, ◌∙◌, arith, length-append}
use Rattle.std.specs.Prelude.{flat_map}
use Rattle.std.proofs.lemmas.List.{take_all, length-replicate}
use Rattle.vg_capture.specs.declared.captures.Captured.{Captured}
use Rattle.vg_capture.specs.Savefile.{sent_in}
use Rattle.vg_underway.specs.declared.sent.SentEntry.{SentEntry}
use Rattle.vg_underway.specs.SentEntries.{sent_by}
use Rattle.vg_underway.proofs.SentLemmas.{entries_kept}
use Rattle.vg_savefile.specs.Packed.{total_len}
use Rattle.vg_savefile.proofs.PackedLemmas.{written}
use Rattle.vg_savefile.proofs.saving.in_place.Goals as goal

-- the list that is lengthened
lengthened : (bytes now list : List ℕ) (room : ℕ) → length bytes ≤ room → now ≡ take room bytes ++ replicate (room - length bytes) 0 → list ≡ now → list ≡ bytes ++ replicate (room - length bytes) 0
lengthened bytes now list room within now_is list_is = list_is ∙ now_is ∙ ap (λ xs. xs ++ replicate (room - length bytes) 0) (take_all room bytes within)

longer : (bytes list : List ℕ) (room : ℕ) → length bytes ≤ room → list ≡ bytes ++ replicate (room - length bytes) 0 → length list ≡ room
longer bytes list room within is =
    ap length is ∙ length-append bytes (replicate (room - length bytes) 0)
    ∙ (let more = length-replicate {A = ℕ} (room - length bytes) 0 in let e : length bytes + length (replicate (room - length bytes) 0) ≡ room = omega (arith, more, within) in e)

pub make_file-requires-clause-packed : goal.make_file-requires-clause-packed
make_file-requires-clause-packed c = c.requires.fill.packed

pub make_file-requires-clause-room : goal.make_file-requires-clause-room
make_file-requires-clause-room c =
    let header : List ℕ = c.as_slice-header.result.now in
    let bytes : List ℕ = c.args.bytes.items in
    let room : ℕ = length header + c.len.result * 16 + c.len-2.result in
    let size : c.args.bytes.len ≡ length bytes = c.args.bytes.ok.0 in
    let count : c.args.entries.len ≡ length c.args.entries.items = c.args.entries.ok.0 in
    let count_is : c.len.result ≡ c.args.entries.len = c.len.ensures in
    let size_is : c.len-2.result ≡ c.args.bytes.len = c.len-2.ensures in
    let total : total_len c.args.entries.items ≡ c.args.bytes.len = c.requires.fill.all in
    let resized : c.resize.new.self.items ≡ take room bytes ++ replicate (room - c.args.bytes.len) 0 = c.in_ok-resize.ensures.items in
    let within : length bytes ≤ room = omega (arith, size, size_is) in
    let list_is = lengthened bytes c.resize.new.self.items c.as_mut_slice.result.now room within (resized ∙ ap (λ n. take room bytes ++ replicate (room - n) 0) size) c.as_mut_slice.ensures.value in
    let len = longer bytes c.as_mut_slice.result.now room within list_is in
    omega (arith, len, size, count, count_is, size_is, total)

pub returns : goal.returns
returns c =
    let packets : List Captured = c.args.capture.now.packets in
    let entries : List SentEntry = c.args.entries.items in
    let bytes : List ℕ = c.args.bytes.items in
    let header : List ℕ = c.as_slice-header.result.now in
    let list : List ℕ = c.as_mut_slice.result.now in
    let room : ℕ = length header + c.len.result * 16 + c.len-2.result in
    let zeros : List ℕ = replicate (room - length bytes) 0 in
    let size : c.args.bytes.len ≡ length bytes = c.args.bytes.ok.0 in
    let size_is : c.len-2.result ≡ c.args.bytes.len = c.len-2.ensures in
    let resized : c.resize.new.self.items ≡ take room bytes ++ replicate (room - c.args.bytes.len) 0 = c.in_ok-resize.ensures.items in
    let within : length bytes ≤ room = omega (arith, size, size_is) in
    let list_is : list ≡ bytes ++ zeros = lengthened bytes c.resize.new.self.items list room within (resized ∙ ap (λ n. take room bytes ++ replicate (room - n) 0) size) c.as_mut_slice.ensures.value in
    let made : c.make_file.new.list ≡ header ++ flat_map (sent_in packets) (sent_by entries list) = c.make_file.ensures in
    let made_len : length c.make_file.new.list ≡ c.resize.new.self.len = c.make_file.auto.list ∙ c.as_mut_slice.ensures.len in
    let kept : c.from_vec.result ≡ take c.resize.new.self.len (c.make_file.new.list ++ drop (length c.make_file.new.list) c.resize.new.self.items) = c.from_vec.ensures in
    kept ∙ written c.resize.new.self.len c.make_file.new.list c.resize.new.self.items made_len ∙ made
    ∙ ap (λ l. header ++ flat_map (sent_in packets) (sent_by entries l)) list_is
    ∙ ap (λ ps. header ++ flat_map (sent_in packets) ps) (entries_kept bytes zeros entries c.requires.within)
    ∙ ap (λ h. h ++ flat_map (sent_in packets) (sent_by entries bytes)) (c.as_slice-header.ensures ∙ c.end-header.ensures ∙ c.in_ok-begin.ensures)
