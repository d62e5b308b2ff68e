-- For the clauses of the sides: each step of their loops.
use Rattle.std.proofs.Common.{◌≡◌, ℕ, suc, ◌+◌, ◌<◌, Bool, true, false, cond, List, [], ◌∷◌, ◌++◌, length, map, get_or, take, drop, refl, sym, ap, ◌∙◌, arith, add-one, append_assoc, Bor}
use Rattle.std.proofs.lemmas.List.{map-append, take_more, get_or-map, length-map}
use Rattle.std.proofs.Math.Seq.{drop-cons}
use Rattle.vg_match.specs.declared.fields.Field.{Field}
use Rattle.vg_match.specs.declared.frames.Layout.{Layout}
use Rattle.vg_match.specs.declared.matching.Hashed.{Hashed}
use Rattle.vg_match.specs.declared.ranges.Range.{Range}
use Rattle.vg_match.specs.declared.sides.Side.{Side}
use Rattle.vg_match.specs.Frames.{front, layout_of}
use Rattle.vg_match.specs.Keys.{compared, masked}
use Rattle.vg_match.specs.Matching.{entry_of}
use Rattle.vg_match.specs.Sides.{IsSide, seen, frame_at, is_meant, meant_number, meant_numbers, left_out}

-- a function of one more
pub map_more : {X Y : Type 0} (f : X → Y) (xs : List X) (i : ℕ) (d : X) → i < length xs → map f (take (i + 1) xs) ≡ map f (take i xs) ++ f (get_or xs i d) ∷ []
map_more f xs i d below = ap (map f) (take_more xs i d below) ∙ map-append f (take i xs) (get_or xs i d ∷ [])

-- nothing is masked where nothing is ignored
masked-none : (layout : Layout) (place : ℕ) (bytes : List ℕ) → masked [] layout place bytes ≡ bytes
masked-none layout place [] = refl
masked-none layout place (byte ∷ bytes) = ap (λ rest. byte ∷ rest) (masked-none layout (suc place) bytes)

pub compared_none : (frame : List ℕ) → compared [] frame ≡ front frame
compared_none frame = masked-none (layout_of frame) 0 (front frame)

-- the frame of a number is what stands there
pub seen_at : (frames : List (Bor (List ℕ))) (i : ℕ) (d : Bor (List ℕ)) → i < length frames → frame_at (seen frames) i ≡ (get_or frames i d).now
seen_at frames i d below = get_or-map (λ (frame : Bor (List ℕ)). frame.now) frames i d [] below

-- one entry more
pub entries_more : (before after : List Hashed) (one : Hashed) → after ≡ before ++ one ∷ [] → map entry_of after ≡ map entry_of before ++ entry_of one ∷ []
entries_more before after one are = ap (map entry_of) are ∙ map-append entry_of before (one ∷ [])

-- from a number on, the frame of that number is left out or named
pub meant_more : (only : List Range) (frames : List (List ℕ)) (before after : List ℕ) (i : ℕ) → i < length frames → after ≡ before ++ meant_number only i (frame_at frames i)
    → after ++ meant_numbers only (i + 1) (drop (i + 1) frames) ≡ before ++ meant_numbers only i (drop i frames)
meant_more only frames before after i below are =
    ap (λ front. front ++ meant_numbers only (i + 1) (drop (i + 1) frames)) are
    ∙ append_assoc before (meant_number only i (frame_at frames i)) (meant_numbers only (i + 1) (drop (i + 1) frames))
    ∙ ap (λ rest. before ++ rest) (rw (add-one, drop-cons frames i []) refl)

-- the key that stands beside a frame is what that is compared by
pub key_beside : (ignored : List Field) (side : Side) → IsSide ignored side → (i : ℕ) (d : Bor (List ℕ)) → i < length side.frames.now
    → (get_or side.keys.now i d).now ≡ compared ignored (frame_at (seen side.frames.now) i)
key_beside ignored side is i d below =
    let within : i < length side.keys.now = omega (arith, is.count) in
    let all : i < length (seen side.frames.now) = simp length-map below in
    sym (seen_at side.keys.now i d within)
    ∙ ap (λ keys. frame_at keys i) is.keys_are
    ∙ get_or-map (compared ignored) (seen side.frames.now) i [] [] all

-- one frame more, which is meant or left out
one_more : (meant : Bool) (number out : ℕ) (numbers : List ℕ) (count : ℕ) → out + length numbers ≡ count
    → (cond meant 0 1 + out) + length (cond meant (number ∷ []) [] ++ numbers) ≡ suc count
one_more true number out numbers count h = omega (arith, h)
one_more false number out numbers count h = omega (arith, h)

-- each frame is left out or named
pub out_or_named : (only : List Range) (number : ℕ) (frames : List (List ℕ)) → left_out only frames + length (meant_numbers only number frames) ≡ length frames
out_or_named only number [] = refl
out_or_named only number (frame ∷ frames) =
    one_more (is_meant only frame) number (left_out only frames) (meant_numbers only (suc number) frames) (length frames) (out_or_named only (suc number) frames)
