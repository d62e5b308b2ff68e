-- For `HandPackets::push`, the invariant: one packet behind the others.
use Rattle.std.proofs.Common.{◌≡◌, ℕ, ◌+◌, ◌<◌, List, [], ◌∷◌, ◌++◌, length, reverse, sym, ap, subst, ◌∙◌, arith, append_assoc, length-append}
use Rattle.std.specs.List.{AllByRecursion, sum_by}
use Rattle.std.proofs.lemmas.List.{reverse-append}
use Rattle.std.proofs.lemmas.List.Sums.{sum_by-cons, sum_by-append}
use Rattle.vg_model.specs.Valid.{extent}
use Rattle.vg_pool.specs.Contents.{Contents, AreContents}
use Rattle.vg_hands.specs.Handed.{most_handed, in_line, IsChained, IsCounted}

all_behind : (P : Contents → Type 0) (cs : List Contents) (c : Contents) → AllByRecursion P cs → P c → AllByRecursion P (cs ++ c ∷ [])
all_behind P [] c all one = (one, tt)
all_behind P (x ∷ xs) c all one = (all.0, all_behind P xs c all.1 one)

pub counted_behind : {count bytes len room : ℕ} (front back : List Contents) (c : Contents) → IsCounted (in_line front back) count bytes → AreContents c → count < most_handed
    → len ≡ length c.packet.bytes → room ≡ c.packet.room → IsCounted (in_line front (c ∷ back)) (count + 1) (bytes + (len + room))
counted_behind {count} {bytes} {len} {room} front back c counted are less same_len same_room = subst (λ cs. IsCounted cs (count + 1) (bytes + (len + room))) (sym next) (record {
  few = (let n = counted.count_is in omega (arith, size, n, less));
  count_is = (let n = counted.count_is in omega (arith, size, n));
  bytes_are = (let b = counted.bytes_are in omega (arith, both, one, b, same_len, same_room));
  fits = (let f = counted.fits in let most = are.len in omega (arith, f, most, same_len, same_room));
  chains = all_behind IsChained cs c counted.chains are.few;
})
  where
    cs : List Contents
    cs = in_line front back

    next : in_line front (c ∷ back) ≡ cs ++ c ∷ []
    next = ap (λ (r : List Contents). front ++ r) (reverse-append (c ∷ []) back) ∙ sym (append_assoc front (reverse back) (c ∷ []))

    size : length (cs ++ c ∷ []) ≡ length cs + 1
    size = length-append cs (c ∷ [])

    both : sum_by (λ (x : Contents). extent x.packet) (cs ++ c ∷ []) ≡ sum_by (λ (x : Contents). extent x.packet) cs + sum_by (λ (x : Contents). extent x.packet) (c ∷ [])
    both = sum_by-append (λ (x : Contents). extent x.packet) cs (c ∷ [])

    one : sum_by (λ (x : Contents). extent x.packet) (c ∷ []) ≡ extent c.packet + sum_by (λ (x : Contents). extent x.packet) []
    one = sum_by-cons (λ (x : Contents). extent x.packet) c []
