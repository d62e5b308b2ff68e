-- For `Frame::push_each` and `Queue::{is_empty, room, push, push_within, push_each, pop}`: what full frames, with the newest indexes behind them, make
-- of the list of indexes.
use Rattle.std.proofs.Common.{◌≡◌, ℕ, suc, ◌+◌, ◌*◌, ◌<◌, ◌≤◌, List, [], ◌∷◌, ◌++◌, length, get_or, take, drop, remove, refl, sym, ap, ◌∙◌, arith, append_assoc, length-append}
use Rattle.std.specs.List.{All, flat_map}
use Rattle.std.proofs.Math.Seq.{take-append_seam, drop-append_seam}
use Rattle.std.proofs.lemmas.List.{append-nil, take_all, drop_all}
use Rattle.std.proofs.lemmas.List.Elements.{All-push}
use Rattle.std.proofs.lemmas.List.Concat.{flat_map-cons}
use Rattle.vg_frame.specs.Pending.{frame_size}

module _ {X : Type 0} (f : X → List ℕ) where
  -- each frame is full
  abbrev pub AllFull : List X → Type 0
  AllFull xs = All (λ x. length (f x) ≡ frame_size) xs

  pub AllFull-tail : (x : X) (xs : List X) → AllFull (x ∷ xs) → AllFull xs
  AllFull-tail x xs full = λ k d h. full (suc k) d (omega arith)

  pub AllFull-push : (xs : List X) (x : X) → AllFull xs → length (f x) ≡ frame_size → AllFull (xs ++ x ∷ [])
  AllFull-push xs x full is_full = All-push (λ y. length (f y) ≡ frame_size) xs x full is_full

  pub length-flat_map-full : (xs : List X) → AllFull xs → length (flat_map f xs) ≡ frame_size * length xs
  length-flat_map-full [] full = refl
  length-flat_map-full (x ∷ xs) full =
      let head : length (f x) ≡ frame_size = full 0 x (omega arith) in
      let tail = length-flat_map-full xs (AllFull-tail x xs full) in
      rw (flat_map-cons f x xs, length-append) (omega arith)

  pub waiting_len : (xs : List X) (newest : List ℕ) → AllFull xs → length (flat_map f xs ++ newest) ≡ frame_size * length xs + length newest
  waiting_len xs newest full = let e = length-flat_map-full xs full in rw length-append (omega arith)

  pub is_cut : (xs : List X) (newest : List ℕ) → AllFull xs → frame_size * length xs ≤ length (flat_map f xs ++ newest)
  is_cut xs newest full = let e = length-flat_map-full xs full in rw length-append (omega arith)

  -- the oldest frame is the first of the full ones, where there is any
  pub cons_split : (x : X) (xs : List X) (newest : List ℕ) → flat_map f (x ∷ xs) ++ newest ≡ f x ++ (flat_map f xs ++ newest)
  cons_split x xs newest = rw (flat_map-cons f x xs) (append_assoc (f x) (flat_map f xs) newest)

  pub take_oldest : (xs : List X) (newest : List ℕ) (x : X) → AllFull xs → 0 < length xs → x ≡ get_or xs 0 x → f x ≡ take frame_size (flat_map f xs ++ newest)
  take_oldest [] newest x full some is = absurd (omega arith)
  take_oldest (y ∷ ys) newest x full some is =
      let head : length (f y) ≡ frame_size = full 0 y (omega arith) in
      ap f is ∙ sym (rw (cons_split y ys newest, ← head) (take-append_seam (f y) (flat_map f ys ++ newest)))

  pub drop_oldest : (xs : List X) (newest : List ℕ) → AllFull xs → 0 < length xs → flat_map f (remove xs 0) ++ newest ≡ drop frame_size (flat_map f xs ++ newest)
  drop_oldest [] newest full some = absurd (omega arith)
  drop_oldest (y ∷ ys) newest full some =
      let head : length (f y) ≡ frame_size = full 0 y (omega arith) in
      sym (rw (cons_split y ys newest, ← head) (drop-append_seam (f y) (flat_map f ys ++ newest)))

  -- else all the indexes are the newest
  pub take_newest : (xs : List X) (newest : List ℕ) → length xs ≡ 0 → length newest < frame_size → newest ≡ take frame_size (flat_map f xs ++ newest)
  take_newest [] newest none few = sym (take_all frame_size newest (omega arith))
  take_newest (y ∷ ys) newest none few = absurd (omega arith)

  pub drop_newest : (xs : List X) (newest : List ℕ) → length xs ≡ 0 → length newest < frame_size → flat_map f xs ++ [] ≡ drop frame_size (flat_map f xs ++ newest)
  drop_newest [] newest none few = sym (drop_all frame_size newest (omega arith))
  drop_newest (y ∷ ys) newest none few = absurd (omega arith)

  pub not_empty : (xs : List X) (newest : List ℕ) → AllFull xs → 0 < length xs → flat_map f xs ++ newest ≡ [] → ⊥
  not_empty xs newest full some e =
      let cut = is_cut xs newest full in
      let none : length (flat_map f xs ++ newest) ≡ 0 = ap length e in
      omega arith

  pub AllFull-rest : (xs : List X) → AllFull xs → AllFull (remove xs 0)
  AllFull-rest [] full = full
  AllFull-rest (x ∷ xs) full = AllFull-tail x xs full

-- how many indexes are left, where they make with what waits what they all make with what waited
pub left_len : (old now indexes left : List ℕ) → now ++ left ≡ old ++ indexes → length now + length left ≡ length old + length indexes
left_len old now indexes left is =
    let here = length-append now left in
    let there = length-append old indexes in
    let same = ap length is in
    omega (arith, here, there, same)

-- the first of them wait too
pub left_pushed : (now new left front behind : List ℕ) → left ≡ front ++ behind → new ≡ now ++ front → new ++ behind ≡ now ++ left
left_pushed now new left front behind parts pushed = ap (λ xs. xs ++ behind) pushed ∙ (append_assoc now front behind ∙ ap (λ xs. now ++ xs) (sym parts))

-- none is left
pub left_none : (now all left : List ℕ) → length left ≡ 0 → now ++ left ≡ all → now ≡ all
left_none now all [] none is = sym (append-nil now) ∙ is
left_none now all (index ∷ left) none is = absurd (omega (arith, none))
