use Rattle.std.proofs.Common.{◌+◌, ◌++◌, ℕ, Vec, Global, ap, ◌∙◌, arith}
use Rattle.vg_underway.proofs.SentLemmas.{joined_sent, joined_inside, below_last}
use Rattle.vg_underway.proofs.sent.SentList.with.Goals as goal

pub followed_by-requires : goal.followed_by-requires
followed_by-requires c =
    below_last (λ (part : Vec ℕ Global). part.items) c.other.inside.bytes.items c.other.inside.more.items c.other.inside.entries.items (c.len-parts.result + 1) 65536 c.other.invariant
    (let few = c.if-parts-gt-LAST_PART.false in let rest = c.if-len-parts.false in let len = c.len.ensures in let ok = c.other.inside.more.ok.0 in omega (arith, few, rest, len, ok))

pub invariant_of-result : goal.invariant_of-result
invariant_of-result c =
    joined_inside (λ (part : Vec ℕ Global). part.items) c.self.inside.bytes.items c.self.inside.more.items c.other.inside.more.items c.append.new.self.items c.other.inside.bytes (c.len-parts.result + 1)
    c.self.inside.entries.items c.other.inside.entries.items _ (let len = c.len-parts.ensures in let ok = c.self.inside.more.ok.0 in omega (arith, len, ok))
    (c.in_ok-append.ensures.items ∙ ap (λ xs. xs ++ c.other.inside.more.items) c.in_ok-push.ensures.items) c.in_ok-entries.ensures c.self.invariant c.other.invariant

pub returns : goal.returns
returns c =
    joined_sent (λ (part : Vec ℕ Global). part.items) c.self.inside.bytes.items c.self.inside.more.items c.other.inside.more.items c.append.new.self.items c.other.inside.bytes (c.len-parts.result + 1)
    c.self.inside.entries.items c.other.inside.entries.items _ _ _ (let len = c.len-parts.ensures in let ok = c.self.inside.more.ok.0 in omega (arith, len, ok))
    (c.in_ok-append.ensures.items ∙ ap (λ xs. xs ++ c.other.inside.more.items) c.in_ok-push.ensures.items) c.in_ok-entries.ensures c.self.invariant c.self.view_is c.other.view_is
