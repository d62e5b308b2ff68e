use Rattle.std.proofs.Common.{ℕ, List, [], ◌∷◌, ◌++◌, length, refl, ap, ◌∙◌}
use Rattle.vg_underway.specs.declared.sent.SentEntry.{SentEntry}
use Rattle.vg_underway.proofs.SentLemmas.{sent_by_more, within_more}
use Rattle.vg_underway.proofs.underway.Work.keep.Goals as goal

pub returns-clause-sent : goal.returns-clause-sent
returns-clause-sent c =
    let bytes : List ℕ = c.args.packet.now.packet.bytes in
    let entry : ℕ → ℕ → SentEntry = λ number len. record { number = number; part = 0; len = len; start = c.len-start.result } in
    let entries : List SentEntry = c.args.self.now.entries.items in
    sent_by_more entries _ c.args.self.now.bytes.items _ bytes c.args.packet.now.packet.number c.len-start.result (length bytes) c.requires.within (c.len-start.ensures ∙ c.args.self.now.bytes.ok.0) refl
    c.copy_into.ensures.bytes (c.push_reserved.ensures.items ∙ ap (λ n. entries ++ entry n c.len.result ∷ []) c.number.ensures ∙ ap (λ n. entries ++ entry c.args.packet.now.packet.number n ∷ []) c.len.ensures)

pub returns-clause-within : goal.returns-clause-within
returns-clause-within c =
    let bytes : List ℕ = c.args.packet.now.packet.bytes in
    let entry : ℕ → ℕ → SentEntry = λ number len. record { number = number; part = 0; len = len; start = c.len-start.result } in
    let entries : List SentEntry = c.args.self.now.entries.items in
    within_more entries _ c.args.self.now.bytes.items _ bytes c.args.packet.now.packet.number c.len-start.result (length bytes) c.requires.within (c.len-start.ensures ∙ c.args.self.now.bytes.ok.0) refl
    c.copy_into.ensures.bytes (c.push_reserved.ensures.items ∙ ap (λ n. entries ++ entry n c.len.result ∷ []) c.number.ensures ∙ ap (λ n. entries ++ entry c.args.packet.now.packet.number n ∷ []) c.len.ensures)
