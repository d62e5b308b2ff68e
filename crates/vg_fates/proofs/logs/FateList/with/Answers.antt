-- For `FateList::with`: the entries of another list stand behind its own, and their others behind its others.
use Rattle.std.proofs.Common.{◌++◌, ◌∙◌, ap, arith}
use Rattle.vg_fates.proofs.LogLemmas.{followed_fates, followed_logged}
use Rattle.vg_fates.proofs.logs.FateList.with.Goals as goal

pub invariant_of-result : goal.invariant_of-result
invariant_of-result c =
    followed_logged c.self.inside.others.items c.other.inside.others.items c.append.new.self.items c.in-Ok.places c.self.inside.entries.items c.other.inside.entries.items _
    (let is = c.in-Ok.ensures in let len = c.len.ensures in let ok = c.self.inside.others.ok.0 in omega (arith, is, len, ok)) c.in_ok-append.ensures.items
    (c.in_ok-append-2.ensures.items ∙ ap (λ es. c.self.inside.entries.items ++ es) c.all_moved-more.ensures) c.self.invariant c.other.invariant

pub returns : goal.returns
returns c =
    followed_fates c.self.inside.others.items c.other.inside.others.items c.append.new.self.items c.in-Ok.places c.self.inside.entries.items c.other.inside.entries.items _ _ _
    (let is = c.in-Ok.ensures in let len = c.len.ensures in let ok = c.self.inside.others.ok.0 in omega (arith, is, len, ok)) c.in_ok-append.ensures.items
    (c.in_ok-append-2.ensures.items ∙ ap (λ es. c.self.inside.entries.items ++ es) c.all_moved-more.ensures) c.self.invariant c.self.view_is c.other.view_is
