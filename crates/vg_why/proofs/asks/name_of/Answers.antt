-- For `name_of`: a name, by the test.
use Rattle.std.proofs.Common.{◌≡◌, Bool, true, false, List, ℕ, refl, sym, ap, subst}
use Rattle.std.specs.Prelude.{Some, None, if◌then◌else◌}
use Rattle.std.proofs.lemmas.Bool.{false≢true}
use Rattle.vg_model.specs.Name.{IsName, is_name}
use Rattle.vg_script.proofs.ClassLemmas.{name_by_test, named}
use Rattle.vg_why.proofs.asks.name_of.Goals as goal

no_name : (word : List ℕ) → (IsName word → ⊥) → None ≡ (if is_name word then Some word else None)
no_name word isnt = by_test (is_name word) refl
  where
    by_test : (b : Bool) → is_name word ≡ b → None ≡ (if b then Some word else None)
    by_test true e = absurd (isnt (name_by_test word e))
    by_test false e = refl

pub returns-in-Some : goal.returns-in-Some
returns-in-Some c =
    let name : IsName c.args.word.now = subst IsName c.as_bytes.ensures.value (c.in-Some.ensures.some.0 refl) in
    ap (λ b. if b then Some c.args.word.now else None) (sym (named c.args.word.now name))

pub returns-in-None : goal.returns-in-None
returns-in-None c = no_name c.args.word.now (λ name. false≢true (c.in-None.ensures.some.1 (subst IsName (sym c.as_bytes.ensures.value) name)))
