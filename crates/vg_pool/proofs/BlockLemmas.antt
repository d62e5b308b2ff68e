-- For the calls of `Buffer`: what blocks carry, and what holds of them after a change.
use Rattle.std.proofs.Common.{◌≡◌, ℕ, zero, suc, ◌+◌, ◌-◌, ◌*◌, ◌/◌, ◌<◌, ◌≤◌, inl, inr, true, false, List, [], ◌∷◌, ◌++◌, length, get_or, take, drop, sym, ap, subst, ◌∙◌, arith, length-append, length-drop, length-take-le}
use Rattle.std.specs.Prelude.{None, min, nat_lt, ◌||◌, if◌then◌else◌}
use Rattle.std.proofs.lemmas.Bool.{cases_lt, cases_eq, eq-eqb, ne_eqb, lt-ltb, le-ltb, false≢true}
use Rattle.std.proofs.lemmas.List.{take-append-drop, take_rest}
use Rattle.vg_model.specs.Bytes.{overwritten}
use Rattle.vg_model.specs.PoolBook.{pieces_of}
use Rattle.vg_model.specs.Valid.{AreBytes}
use Rattle.vg_model.specs.Visit.{header_fault}
use Rattle.vg_pool.specs.Areas.{Held}
use Rattle.vg_pool.specs.Blocks.{contents, IsBlock, IsAlone}
use Rattle.vg_pool.specs.Contents.{Contents, head_of, part, kept_of, laid, Passes, written, nothing}
use Rattle.vg_pool.specs.Parts.{joined, spread}
use Rattle.vg_pool.specs.declared.buffers.Block.{Block}
use Rattle.vg_pool.proofs.ChainLemmas.{no_bytes, length-spread, joined-spread, get_or-spread, take_first, drop_first, overwritten-append}

-- the first part has no more than is left of the first buffer
first_fits : (b : Block) → IsBlock b → length b.area.bytes ≤ 2112 - b.area.room
first_fits b is = let within = is.within in omega (arith, within)

-- behind one with less there is nothing
first_packed : (b : Block) → IsBlock b → length b.area.bytes < 2112 - b.area.room → length (joined b.rest) ≡ 0
first_packed b is less =
    let none : b.behind ≡ 0 = is.packed (omega (arith, less)) in
    let behind = is.behind in
    omega (arith, none, behind)

-- the part in the first buffer
pub head_is : (b : Block) → IsBlock b → head_of (contents b).packet ≡ b.area.bytes
head_is b is = take_first b.area.bytes (joined b.rest) (2112 - b.area.room) (first_fits b is) (first_packed b is)

pub first_part : (b : Block) → IsBlock b → part (contents b).packet 0 ≡ b.area.bytes
first_part b is =
    ap (λ k. take k (b.area.bytes ++ joined b.rest)) (let whole : 2112 - b.area.room - 0 ≡ 2112 - b.area.room = omega arith in whole)
    ∙ head_is b is

-- and those in the buffers behind it
pub further_part : (b : Block) → IsBlock b → (k : ℕ) → k < length b.rest → part (contents b).packet (suc k) ≡ get_or b.rest k []
further_part b is k below =
    let room = is.room in
    let f : List ℕ = b.area.bytes ++ joined b.rest in
    let start : 64 + 2048 * suc k - b.area.room ≡ 2112 - b.area.room + 2048 * k = omega (arith, room) in
    let size : 64 + 2048 * suc (suc k) - b.area.room - (64 + 2048 * suc k - b.area.room) ≡ 2048 = omega (arith, room) in
    ap (λ n. take n (drop (64 + 2048 * suc k - b.area.room) f)) size
    ∙ ap (λ n. take 2048 (drop n f)) start
    ∙ ap (take 2048) (drop_first b.area.bytes (joined b.rest) (2112 - b.area.room) (first_fits b is) (first_packed b is) (2048 * k))
    ∙ sym (get_or-spread (length b.rest) (joined b.rest) k below)
    ∙ ap (λ (parts : List (List ℕ)). get_or parts k []) (sym is.rest)

-- other bytes, as many, in the first buffer
pub with_area : (b : Block) (a : Held) → IsAlone b → a.room ≡ b.area.room → length a.bytes ≡ length b.area.bytes
    → (b.checked ≡ true → Passes (contents (record b { area = a })).packet) → IsAlone (record b { area = a })
with_area b a is room len sound =
    let block = is.block in
    let within = block.within in
    let small = block.room in
    let extent = block.len in
    record {
      block = record {
        within = omega (arith, within, room, len);
        room = omega (arith, small, room);
        behind = block.behind;
        packed = λ less. block.packed (omega (arith, less, room, len));
        rest = block.rest;
        fits = block.fits;
        few = block.few;
        len = omega (arith, extent, room, len);
        bytes = block.bytes;
        sound = sound;
        few_legs = block.few_legs;
      };
      alone = is.alone;
    }

-- bytes written in the head are written in the packet
pub written_head : (b : Block) (at : ℕ) (w : List ℕ) → at + length w ≤ length b.area.bytes
    → Passes (written (contents b).packet at w) → Passes (contents (record b { area = record b.area { bytes = overwritten b.area.bytes at w } })).packet
written_head b at w fits passes =
    ap (λ f. header_fault (drop 14 f)) (sym (overwritten-append b.area.bytes (joined b.rest) w at fits)) ∙ passes

-- one more buffer behind the first, where no buffer has bytes
pub with_one_more : (b : Block) → IsAlone b → contents b ≡ nothing (suc (length b.rest)) → suc (length b.rest) < 5 → IsAlone (record b { rest = [] ∷ b.rest })
with_one_more b is none few =
    let block = is.block in
    let size : length b.area.bytes + length (joined b.rest) ≡ 0 = sym (length-append b.area.bytes (joined b.rest)) ∙ ap (λ c. length c.packet.bytes) none in
    let empty : joined b.rest ≡ [] = no_bytes (joined b.rest) (omega (arith, size)) in
    let fits = block.fits in
    record {
      block = record {
        within = block.within;
        room = block.room;
        behind = block.behind;
        packed = block.packed;
        rest = ap (λ parts. [] ∷ parts) (block.rest ∙ ap (spread (length b.rest)) empty) ∙ ap (spread (suc (length b.rest))) (sym empty);
        fits = omega (arith, fits);
        few = omega (arith, few);
        len = block.len;
        bytes = block.bytes;
        sound = block.sound;
        few_legs = block.few_legs;
      };
      alone = is.alone;
    }

-- as many buffers as a packet takes have its bytes
pub pieces_enough : (n len : ℕ) → pieces_of len ≤ n → len ≤ 9216 → len ≤ 2048 * n
pieces_enough n len enough short =
    elim (cases_eq len 0) [
      | inl none ↦ omega (arith, none)
      | inr some ↦
          let many : pieces_of len ≡ (len + 2047) / 2048 =
          ap (λ b. if b || nat_lt 9216 len then 1 else (len + 2047) / 2048) (ne_eqb len 0 some)
          ∙ ap (λ b. if b then 1 else (len + 2047) / 2048) (le-ltb 9216 len short) in
          omega (arith, enough, many)
    ]

-- and the bytes that are kept of any packet
pub kept_enough : (n : ℕ) (xs : List ℕ) → (length xs ≤ 9216 → pieces_of (length xs) ≤ n) → length (kept_of xs) ≤ 2048 * n
kept_enough n xs enough =
    elim (cases_lt 9216 (length xs)) [
      | inl long ↦ let none : kept_of xs ≡ [] = ap (λ b. if b then [] else xs) (lt-ltb 9216 (length xs) long) in let zero_len : length (kept_of xs) ≡ 0 = ap length none in omega (arith, zero_len)
      | inr short ↦ let all : length (kept_of xs) ≡ length xs = ap (λ b. length (if b then [] else xs)) (le-ltb 9216 (length xs) short) in let fits = pieces_enough n (length xs) (enough short) short in omega (arith, all, fits)
    ]

pub kept_short : (xs : List ℕ) → length (kept_of xs) ≤ 9216
kept_short xs =
    elim (cases_lt 9216 (length xs)) [
      | inl long ↦ let none : length (kept_of xs) ≡ 0 = ap (λ b. length (if b then [] else xs)) (lt-ltb 9216 (length xs) long) in omega (arith, none)
      | inr short ↦ let all : length (kept_of xs) ≡ length xs = ap (λ b. length (if b then [] else xs)) (le-ltb 9216 (length xs) short) in omega (arith, all, short)
    ]

-- no packet takes more than five, and one that isn't too long is kept whole
pub pieces_few : (len : ℕ) → len ≤ 9216 → pieces_of len ≤ 5
pieces_few len short =
    elim (cases_eq len 0) [
      | inl none ↦ let one : pieces_of len ≡ 1 = ap (λ b. if b || nat_lt 9216 len then 1 else (len + 2047) / 2048) (eq-eqb len 0 none) in omega (arith, one)
      | inr some ↦
          let many : pieces_of len ≡ (len + 2047) / 2048 =
          ap (λ b. if b || nat_lt 9216 len then 1 else (len + 2047) / 2048) (ne_eqb len 0 some)
          ∙ ap (λ b. if b then 1 else (len + 2047) / 2048) (le-ltb 9216 len short) in
          omega (arith, many, short)
    ]

pub pieces_long : (len : ℕ) → 9216 < len → pieces_of len ≡ 1
pieces_long len long =
    ap (λ b. if b || nat_lt 9216 len then 1 else (len + 2047) / 2048) (ne_eqb len 0 (λ none. omega (arith, none, long)))
    ∙ ap (λ b. if b then 1 else (len + 2047) / 2048) (lt-ltb 9216 len long)

pub pieces_bound : (len : ℕ) → pieces_of len ≤ 5
pieces_bound len =
    elim (cases_lt 9216 len) [
      | inl long ↦ let one = pieces_long len long in omega (arith, one)
      | inr short ↦ pieces_few len short
    ]

pub pieces_some : (len : ℕ) → 1 ≤ pieces_of len
pieces_some len =
    elim (cases_lt 9216 len) [
      | inl long ↦ let one = pieces_long len long in omega (arith, one)
      | inr short ↦
          elim (cases_eq len 0) [
            | inl none ↦ let one : pieces_of len ≡ 1 = ap (λ b. if b || nat_lt 9216 len then 1 else (len + 2047) / 2048) (eq-eqb len 0 none) in omega (arith, one)
            | inr some ↦ let enough = pieces_enough (pieces_of len) len (omega arith) short in omega (arith, enough, some)
          ]
    ]

pub kept_whole : (xs : List ℕ) → length xs ≤ 9216 → kept_of xs ≡ xs
kept_whole xs short = ap (λ b. if b then [] else xs) (le-ltb 9216 (length xs) short)

-- bytes of a list are bytes behind its first ones
bytes_behind : (k : ℕ) (xs : List ℕ) → AreBytes xs → AreBytes (drop k xs)
bytes_behind zero xs are = are
bytes_behind (suc k) [] are = tt
bytes_behind (suc k) (x ∷ xs) are = bytes_behind k xs are.1

-- a packet that is laid into a chain: its first bytes, so many, and the parts behind them
pub record Laying : Type 0 where
  pub number : ℕ
  pub room : ℕ
  pub bytes : List ℕ
  pub first : ℕ
  pub parts : List (List ℕ)

-- the first buffer has as many bytes as fit, the rest of the chain has the others, and there is room for all
pub record IsLaying (b : Block) (l : Laying) : Type 0 where
  pub small : l.room ≤ 128
  pub least : l.first ≡ min (length l.bytes) (2112 - l.room)
  pub over : l.parts ≡ spread (length b.rest) (take (length l.bytes - l.first) (drop l.first l.bytes))
  pub enough : length l.bytes + l.room ≤ 64 + 2048 * suc (length b.rest)

-- a block with the bytes of a packet in it and in the rest of its chain
module _ (b : Block) (l : Laying) (is : IsLaying b l) where
  abbrev pub filled_block : Block
  filled_block = record b {
    rest = l.parts;
    number = l.number;
    checked = false;
    adjacency = None;
    interface = None;
    legs = [];
    behind = length l.bytes - l.first;
    area = record { room = l.room; bytes = take l.first l.bytes };
  }

  others_are : take (length l.bytes - l.first) (drop l.first l.bytes) ≡ drop l.first l.bytes
  others_are = take_rest l.bytes l.first

  joined_are : joined l.parts ≡ drop l.first l.bytes
  joined_are =
      let size : length (drop l.first l.bytes) ≡ length l.bytes - l.first = length-drop l.first l.bytes in
      let few : length (drop l.first l.bytes) ≤ 2048 * length b.rest = omega (arith, size, is.least, is.enough, is.small) in
      ap joined (is.over ∙ ap (spread (length b.rest)) others_are) ∙ joined-spread (length b.rest) (drop l.first l.bytes) few

  as_many : length l.parts ≡ length b.rest
  as_many = ap length is.over ∙ length-spread (length b.rest) (take (length l.bytes - l.first) (drop l.first l.bytes))

  pub filled_view : contents filled_block ≡ laid (suc (length b.rest)) l.number l.room l.bytes
  filled_view =
      let with_bytes : List ℕ → Contents = λ xs. laid (suc (length l.parts)) l.number l.room xs in
      let with_pieces : ℕ → Contents = λ n. laid (suc n) l.number l.room l.bytes in
      ap with_bytes (ap (λ z. take l.first l.bytes ++ z) joined_are ∙ take-append-drop l.first l.bytes) ∙ ap with_pieces as_many

  pub filled_is : IsAlone b → length l.bytes + l.room ≤ 9280 → AreBytes l.bytes → IsAlone filled_block
  filled_is alone short are =
      let small = is.small in
      let least = is.least in
      let enough = is.enough in
      let some : length (take l.first l.bytes) ≡ l.first = length-take-le l.first l.bytes (omega (arith, least)) in
      let size : length (drop l.first l.bytes) ≡ length l.bytes - l.first = length-drop l.first l.bytes in
      let all : length (joined l.parts) ≡ length l.bytes - l.first = ap length joined_are ∙ size in
      let few = alone.block.few in
      record {
        block = record {
          within = omega (arith, some, least, small);
          room = small;
          behind = sym all;
          packed = λ less. omega (arith, less, some, least, small);
          rest = is.over ∙ ap (spread (length b.rest)) (others_are ∙ sym joined_are) ∙ ap (λ n. spread n (joined l.parts)) (sym as_many);
          fits = omega (arith, as_many, least, enough, small);
          few = omega (arith, as_many, few);
          len = omega (arith, some, least, short);
          bytes = subst AreBytes (sym joined_are) (bytes_behind l.first l.bytes are);
          sound = λ checked. absurd (false≢true checked);
          few_legs = omega arith;
        };
        alone = alone.alone;
      }
